-- What becomes of the records of an input, and the lines that are printed of them. The tally sheet after these is in `Tally`.
use Rattle.std.specs.Prelude.{List, [], ◌∷◌, ◌++◌, Bool, true, false, ℕ, zero, suc, ◌+◌, ◌*◌, ◌-◌, leb, length, take, drop, replicate}
use Rattle.book.specs.Book.{Call}
use Rattle.record.specs.Line.{lines_for, totals_line}
use Rattle.record.specs.Answer.{tree_words, Record, answer_to, calls_for}
use Rattle.record.specs.declared.Setting.{Setting}
use Rattle.record.specs.declared.Outcome.{Outcome}
use Rattle.record.specs.declared.Outcome.TheVariants.{Kept, Struck, Refused}
use Rattle.record.specs.declared.Totals.{Totals}

-- ---- the records of an input

-- the field of two bytes, the most significant first
abbrev pub field_of : (high low : ℕ) → ℕ
field_of a b = a * 256 + b

-- the 16-bit fields of some bytes, a last single byte is none
abbrev pub fields : List ℕ → List ℕ
fields [] = []
fields (a ∷ []) = []
fields (a ∷ b ∷ bs) = field_of a b ∷ fields bs

-- the words of a record are all there
abbrev pub all_there : (count : ℕ) (words : List ℕ) → Bool
all_there count ws = leb count (length ws)

-- the records of some fields: number, word count, words; a cut record is none. The fuel is at least the number of fields, and does not matter then
unfoldable pub records_for : (fuel : ℕ) → List ℕ → List Record
records_for zero fs = []
records_for (suc f) [] = []
records_for (suc f) (n ∷ []) = []
records_for (suc f) (n ∷ count ∷ ws) =
    elim (all_there count ws) [ true ↦ record { number = n; words = take count ws } ∷ records_for f (drop count ws) | false ↦ [] ]

-- the records of an input, whatever their word counts
unfoldable pub records_of : (input : List ℕ) → List Record
records_of bs = records_for (length (fields bs)) (fields bs)

-- ---- one record after another

-- a row: a record, what becomes of it, the numbers that it takes out, rising, and the calls that this makes
pub record Row : Type 0 where
  pub of : Record
  pub outcome : Outcome
  pub removed : List ℕ
  pub calls : List Call

-- the row of a record that is asked on a slice
unfoldable pub row_on : Setting → (slice : List ℕ) → Record → Row
row_on s T x = record { of = x; outcome = (answer_to s T x).outcome; removed = (answer_to s T x).removed; calls = calls_for s T x }

-- the rows of some records, the first asked on a slice, and each other one on the slice as the one before it left it
unfoldable pub rows_from : Setting → (slice : List ℕ) → List Record → List Row
rows_from s T [] = []
rows_from s T (x ∷ xs) = row_on s T x ∷ rows_from s (answer_to s T x).slice xs

-- the slice before the first record: fresh, all zeros
abbrev pub fresh_slice : List ℕ
fresh_slice = replicate tree_words 0

-- the rows of an input
unfoldable pub rows_of : Setting → (input : List ℕ) → List Row
rows_of s bs = rows_from s fresh_slice (records_of bs)

-- the calls of some rows
abbrev pub row_calls : List Row → List Call
row_calls [] = []
row_calls (r ∷ rs) = r.calls ++ row_calls rs

-- ---- what is printed

-- the lines of some rows
abbrev pub lines_of : List Row → List ℕ
lines_of [] = []
lines_of (r ∷ rs) = lines_for r.of.number r.removed r.outcome ++ lines_of rs

-- the totals with one more record, by its outcome and how many it takes out: these pass from kept to removed
abbrev pub counted : Outcome → (removed : ℕ) → Totals → Totals
counted (Kept used) m t =
    record { records = t.records + 1; kept = t.kept + 1 - m; struck = t.struck; refused = t.refused; removed = t.removed + m }
counted (Struck n c) m t =
    record { records = t.records + 1; kept = t.kept; struck = t.struck + 1; refused = t.refused; removed = t.removed }
counted (Refused r) m t =
    record { records = t.records + 1; kept = t.kept; struck = t.struck; refused = t.refused + 1; removed = t.removed }

-- the totals with the outcomes of some rows
abbrev pub totals_with : Totals → List Row → Totals
totals_with t [] = t
totals_with t (r ∷ rs) = totals_with (counted r.outcome (length r.removed) t) rs

-- no records yet
abbrev pub none : Totals
none = record { records = 0; kept = 0; struck = 0; refused = 0; removed = 0 }

-- the listing: the lines of the rows, and the totals
unfoldable pub listing_of : Setting → (input : List ℕ) → List ℕ
listing_of s bs = lines_of (rows_of s bs) ++ totals_line s (totals_with none (rows_of s bs))
