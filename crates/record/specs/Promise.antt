-- What the printed lines promise: in terms of the records of the input, the lines, and subsumption. No tree, walk, call or clause book is named.
use Rattle.std.specs.Prelude.{◌≡◌, ◌⊎◌, ℕ, length}
use mathlib.Core.List.{List, [], ◌∷◌, ◌++◌, map, Memᴰ}
use Rattle.clause.specs.Clause.{Accepted, Subsumes}
use Rattle.record.specs.Line.{lines_for, totals_line}
use Rattle.record.specs.Answer.{Record}
use Rattle.record.specs.Output.{records_of, counted, none, listing_of}
use Rattle.record.specs.Ruled.{IsKept, IsStruck}
use Rattle.record.specs.Sheet.{Bytes}
use Rattle.record.specs.declared.Setting.{Setting}
use Rattle.record.specs.declared.Setting.TheVariants.{Plain, Back}
use Rattle.record.specs.declared.Outcome.{Outcome}
use Rattle.record.specs.declared.Outcome.TheVariants.{Struck}
use Rattle.record.specs.declared.Totals.{Totals}

-- a record, what became of it, and the numbers that it took off the sheet
pub record Ruling : Type 0 where
  pub of : Record
  pub outcome : Outcome
  pub removed : List ℕ

-- the lines of some rulings, and their totals
abbrev pub lines_printed : List Ruling → List ℕ
lines_printed [] = []
lines_printed (r ∷ rs) = lines_for r.of.number r.removed r.outcome ++ lines_printed rs

abbrev pub totals_printed : Totals → List Ruling → Totals
totals_printed t [] = t
totals_printed t (r ∷ rs) = totals_printed (counted r.outcome (length r.removed) t) rs

-- the numbers with a `removed` line
abbrev pub all_removed : List Ruling → List ℕ
all_removed [] = []
all_removed (r ∷ rs) = r.removed ++ all_removed rs

-- x is on the sheet: it has a `kept` line, and no later `removed` line has its number
pub data OnSheet (x : Record) : List Ruling → Type 0 where
  here : {r : Ruling} {rs : List Ruling} → r.of ≡ x → IsKept r.outcome → (Memᴰ x.number (all_removed rs) → ⊥) → OnSheet x (r ∷ rs)
  later : {r : Ruling} {rs : List Ruling} → OnSheet x rs → OnSheet x (r ∷ rs)

-- what the text printed of an input promises
pub record Promised (s : Setting) (input text : List ℕ) : Type 0 where
  -- a ruling for each complete record, in order; the text is their lines and totals
  pub rulings : List Ruling
  pub reads : map (λ r. r.of) rulings ≡ records_of input
  pub prints : text ≡ lines_printed rulings ++ totals_line s (totals_printed none rulings)
  -- no strike is wrong: what was kept or struck is subsumed by a record on the sheet
  pub covered : (r : Ruling) → Memᴰ r rulings → IsKept r.outcome ⊎ IsStruck r.outcome
      → (x : Record) × OnSheet x rulings × Subsumes x.words r.of.words
  -- a `struck` line names a `kept` line whose record subsumes the struck one
  pub struck : (r : Ruling) → Memᴰ r rulings → (n k : ℕ) → r.outcome ≡ Struck n k
      → (q : Ruling) × Memᴰ q rulings × IsKept q.outcome × (q.of.number ≡ n) × Subsumes q.of.words r.of.words
  -- every record on the sheet is accepted by the clause rules, and no two have one number
  pub accepted : (x : Record) → OnSheet x rulings → Accepted x.words
  pub numbers : (x y : Record) → OnSheet x rulings → OnSheet y rulings → x.number ≡ y.number → x ≡ y
  -- without backward striking nothing is taken off the sheet, with it none of those on it subsumes another
  pub plain : s ≡ Plain → all_removed rulings ≡ []
  pub apart : s ≡ Back → (x y : Record) → OnSheet x rulings → OnSheet y rulings → Subsumes x.words y.words → x ≡ y

-- the claim
abbrev pub Promise : Type 0
Promise = (s : Setting) (input : List ℕ) → Bytes input → Promised s input (listing_of s input)
