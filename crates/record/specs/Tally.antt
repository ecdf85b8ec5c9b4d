-- The tally sheet: for each number that was ever kept, what its clause struck; then how many records were read.
use Rattle.std.specs.Prelude.{Bool, true, false, cond, ◌&&◌, ◌||◌, ℕ, zero, suc, ◌+◌, eqb, length}
use mathlib.Core.List.{List, [], ◌∷◌, ◌++◌, map, flat_map}
use Rattle.record.specs.Line.{tally_line, records_line}
use Rattle.record.specs.Marks.{number_count}
use Rattle.record.specs.Output.{records_of, Row, rows_of, listing_of}
use Rattle.record.specs.declared.Setting.{Setting}
use Rattle.record.specs.declared.Outcome.{Outcome}
use Rattle.record.specs.declared.Outcome.TheVariants.{Kept, Struck, Refused}

-- ---- what a number has to show for some records, each with what became of it

-- whether a record was kept
abbrev pub was_kept : Outcome → Bool
was_kept (Kept used) = true
was_kept (Struck m k) = false
was_kept (Refused r) = false

-- whether the clause of a number struck it
abbrev pub was_struck_by : (number : ℕ) → Outcome → Bool
was_struck_by n (Kept used) = false
was_struck_by n (Struck m k) = eqb m n
was_struck_by n (Refused r) = false

-- the candidates of a strike
abbrev pub spent_on : Outcome → ℕ
spent_on (Kept used) = 0
spent_on (Struck m k) = k
spent_on (Refused r) = 0

-- whether a number was ever kept
abbrev pub ever_kept : (number : ℕ) → List Row → Bool
ever_kept n [] = false
ever_kept n (r ∷ rs) = (was_kept r.outcome && eqb r.of.number n) || ever_kept n rs

-- the records that the clause of a number struck
abbrev pub struck_by : (number : ℕ) → List Row → List Row
struck_by n [] = []
struck_by n (r ∷ rs) = cond (was_struck_by n r.outcome) (r ∷ struck_by n rs) (struck_by n rs)

-- the sum of some numbers
abbrev pub total : List ℕ → ℕ
total [] = 0
total (x ∷ xs) = x + total xs

-- the candidates of some strikes
abbrev pub spent : List Row → ℕ
spent rs = total (map (λ r. spent_on r.outcome) rs)

-- ---- the rows of the tally sheet

-- a row of the tally: a number, how many records its clause struck, and the candidates of the queries that ended so
pub record TallyRow : Type 0 where
  pub number : ℕ
  pub strikes : ℕ
  pub candidates : ℕ

-- the row of a number
abbrev pub tally_row : List Row → (number : ℕ) → TallyRow
tally_row rs n = record { number = n; strikes = length (struck_by n rs); candidates = spent (struck_by n rs) }

-- those of so many numbers, from one on, that pass a test, rising
unfoldable pub passing : (test : ℕ → Bool) (from count : ℕ) → List ℕ
passing p n zero = []
passing p n (suc c) = cond (p n) (n ∷ passing p (n + 1) c) (passing p (n + 1) c)

-- the rows of so many numbers from one on: one for each that was ever kept
unfoldable pub tally_from : List Row → (from count : ℕ) → List TallyRow
tally_from rs n c = map (tally_row rs) (passing (λ k. ever_kept k rs) n c)

-- the tally: the rows of all numbers that a record can have
unfoldable pub tally_of : List Row → List TallyRow
tally_of rs = tally_from rs 0 number_count

-- ---- what is printed

-- the lines of some rows of a tally
unfoldable pub tally_lines : List TallyRow → List ℕ
tally_lines ts = flat_map (λ t. tally_line t.number t.strikes t.candidates) ts

-- the tally sheet of an input: the rows of its tally, and how many complete records it has
unfoldable pub tally_sheet_of : Setting → (input : List ℕ) → List ℕ
tally_sheet_of s bs = tally_lines (tally_of (rows_of s bs)) ++ records_line (length (records_of bs))

-- the whole output: the listing, and after it the tally sheet
unfoldable pub output_of : Setting → (input : List ℕ) → List ℕ
output_of s bs = listing_of s bs ++ tally_sheet_of s bs
