-- The counters: two words for each number that a record can have, the strikes of its clause and their candidates.
use Rattle.std.specs.Prelude.{List, ◌++◌, map, ℕ, ◌+◌, ◌*◌, min, ltb, get_or, set}
use Rattle.record.specs.Line.{records_line}
use Rattle.record.specs.Marks.{number_count}
use Rattle.record.specs.Tally.{TallyRow, passing, tally_lines}
use Rattle.record.specs.declared.Outcome.{Outcome}
use Rattle.record.specs.declared.Outcome.TheVariants.{Kept, Struck, Refused}

-- the words of all counters
abbrev pub counter_words : ℕ
counter_words = number_count * 2

-- the most that 64 bits count, 2^64 − 1: a counter stops there
abbrev pub most_counted : ℕ
most_counted = 18_446_744_073_709_551_615

-- where the strikes of a number stand, and where their candidates
abbrev pub strikes_at : (number : ℕ) → ℕ
strikes_at n = n * 2

abbrev pub candidates_at : (number : ℕ) → ℕ
candidates_at n = n * 2 + 1

-- one counter raised
unfoldable pub raised : (counters : List ℕ) (at more : ℕ) → List ℕ
raised c i k = set c i (min (get_or c i 0 + k) most_counted)

-- the counters after an outcome: a strike raises those of the covering number
abbrev pub counters_after : Outcome → (counters : List ℕ) → List ℕ
counters_after (Kept used) c = c
counters_after (Struck n k) c = raised (raised c (strikes_at n) 1) (candidates_at n) k
counters_after (Refused r) c = c

-- the row of a number, by its counters
abbrev pub row_shown : (counters : List ℕ) (number : ℕ) → TallyRow
row_shown c n = record { number = n; strikes = get_or c (strikes_at n) 0; candidates = get_or c (candidates_at n) 0 }

-- the rows that marks and counters show of so many numbers from one on: one for each that is marked
unfoldable pub shown_from : (marks counters : List ℕ) (from count : ℕ) → List TallyRow
shown_from m c n k = map (row_shown c) (passing (λ i. ltb 0 (get_or m i 0)) n k)

-- the tally sheet that marks and counters show, of so many records
unfoldable pub shown_sheet : (marks counters : List ℕ) (records : ℕ) → List ℕ
shown_sheet m c k = tally_lines (shown_from m c 0 number_count) ++ records_line k
