-- The claims of specs/Laws.
use mathlib.Core.Path.{◌≡◌, sym}
use mathlib.Core.Logic.{◌↔◌}
use mathlib.Core.List.Memᴰ
use mathlib.Core.List.{List, map, Memᴰ}
use Prim.Native.Nat.{ℕ}
use native.Mathlib.Omega.{arith}
use Rattle.clause.specs.Word.{Words}
use Rattle.clause.specs.Clause.{Accepted, Subsumes}
use Rattle.tree.specs.Entries.{Pair}
use Rattle.readback.specs.Saved.{IsTreeOf}
use Rattle.readback.proofs.Saved.{right_size, laid, of_clauses_lem}
use Rattle.backward.specs.Listing.{rising}
use Rattle.backward.specs.Calls.{list_into, backward}
use Rattle.backward.specs.Laws.{as_read, Picks, ListsKept, BackwardLaws}
use Rattle.backward.proofs.ReadPairs.{rising_read, read_accepted, read_many, read_few, read_rises, read_subsumed}
use Rattle.backward.proofs.Picking.{picks_pair, pair_picks, picks_few, picks_rise, picks, tries_enough}
use Rattle.backward.proofs.Outcomes.{Outcomes, outcomes, listed_enough, enough_listed, listed_over, spent_at, full_at, one_kind}

-- a slice where the pairs K are kept
module _ (T : List ℕ) (K : List Pair) (I : IsTreeOf T K) (c : List ℕ) (C : Accepted c) (w : Words c) (b : ℕ) (L : List ℕ) where
  -- the pairs that are gone over
  abbrev R : List Pair
  R = rising (map as_read K)

  -- the numbers that are to be listed
  numbers : (ns : List ℕ) × Picks c R ns
  numbers = picks c C w R (read_accepted T K I)

  -- no test refuses the slice
  is_listing : backward T c b L ≡ list_into c b L (map as_read K)
  unfolding backward list_into
  is_listing = rw (right_size T K I, C.1, laid T K I, of_clauses_lem T K I, rising_read T K I)

  -- so these are the outcomes
  outcome : Outcomes c b L R numbers.0 (backward T c b L)
  unfolding list_into
  outcome = outcomes c C w b L R (read_accepted T K I) numbers.0 numbers.1 (backward T c b L) is_listing

  -- the numbers are those of the kept clauses that c subsumes
  exactly : (n : ℕ) → Memᴰ n numbers.0 ↔ ((p : Pair) × Memᴰ p K × (p.number ≡ n) × Subsumes c p.clause)
  exactly n = (
    λ m. (read_subsumed T K I c n).0 (picks_pair numbers.1 m),
    λ v. let (q, m, e, u) = (read_subsumed T K I c n).1 v in Memᴰ.cast (sym e) (pair_picks q numbers.1 m u),
  )

  lists_kept : ListsKept T K c b L
  lists_kept =
      record {
        listing = is_listing;
        numbers = numbers.0;
        exactly = exactly;
        rise = picks_rise numbers.1 (read_rises T K I);
        few = omega (arith, picks_few numbers.1, read_many T K I);
        answered = λ n k. (listed_enough outcome n k, enough_listed outcome n k);
        list = listed_over outcome;
        spent = (spent_at outcome, outcome.spent);
        full = (full_at outcome, outcome.full);
        kinds = one_kind outcome;
        enough = tries_enough c C w (read_accepted T K I) (read_few T K I);
      }

-- BackwardLaws
pub backward_laws : BackwardLaws
backward_laws = lists_kept
