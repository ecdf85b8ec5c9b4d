-- The rows of some numbers, one after another.
use mathlib.Core.Path.{◌≡◌}
use mathlib.Core.List.{List, [], ◌++◌, flat_map, append-nil}
use Prim.Native.Nat.{ℕ, ◌+◌, ◌≤◌, ◌<◌}
use lib.Dec.{ltb}
use lib.ListN.{get_or}
use borrow.Author.Tests.{lt-ltb, le-ltb}
use Rattle.record.specs.Line.{tally_line}
use Rattle.record.specs.Tally.{passing, tally_lines}
use Rattle.record.specs.Counters.{strikes_at, candidates_at, row_shown, shown_from}
use Rattle.record.proofs.Tallies.{rows_none, rows_append}

module _ (m c : List ℕ) where
  -- a number that is marked has its row, and another none
  pub shown_one : (n : ℕ) → 0 < get_or m n 0 → tally_lines (shown_from m c n 1) ≡ tally_line n (get_or c (strikes_at n) 0) (get_or c (candidates_at n) 0)
  unfolding shown_from passing tally_lines flat_map
  shown_one n h = rw (lt-ltb 0 (get_or m n 0) h, append-nil)

  pub shown_none : (n : ℕ) → get_or m n 0 ≤ 0 → tally_lines (shown_from m c n 1) ≡ []
  unfolding shown_from passing tally_lines flat_map
  shown_none n h = rw (le-ltb 0 (get_or m n 0) h)

  -- no numbers, and some after others
  pub shown_zero : (n : ℕ) → tally_lines (shown_from m c n 0) ≡ []
  unfolding shown_from
  shown_zero n = rows_none (row_shown c) (λ k. ltb 0 (get_or m k 0)) n

  pub shown_append : (n a b : ℕ) → tally_lines (shown_from m c n (a + b)) ≡ tally_lines (shown_from m c n a) ++ tally_lines (shown_from m c (n + a) b)
  unfolding shown_from
  shown_append n a b = rows_append (row_shown c) (λ k. ltb 0 (get_or m k 0)) n a b
