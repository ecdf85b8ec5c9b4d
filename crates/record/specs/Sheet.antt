-- What is claimed of every input: what becomes of its records, by the clauses that are kept before each of them.
use Rattle.std.specs.Prelude.{◌≡◌, ◌≢◌, ◌⊎◌, ℕ, ◌+◌, ◌<◌, length}
use mathlib.Core.List.{List, [], ◌∷◌, ◌++◌, map, Memᴰ}
use Rattle.clause.specs.Lists.{All, Each}
use Rattle.clause.specs.Clause.{Subsumes}
use Rattle.machine.specs.Compile.{Variants}
use Rattle.tree.specs.Entries.{Pair}
use Rattle.tree.specs.Refusal.{code_of}
use Rattle.walk.specs.Covering.{Units, Subsumed}
use Rattle.book.specs.Book.{slice_of, book_of}
use Rattle.book.specs.Claims.{Run}
use Rattle.record.specs.Answer.{tree_words, Record}
use Rattle.record.specs.Output.{fields, records_of, Row, row_on, fresh_slice, rows_of, row_calls, totals_with, none}
use Rattle.record.specs.Antichain.{Antichain}
use Rattle.record.specs.Ruled.{pair_of, IsKept, IsStruck, without_all, Ruled, RuledByUnits}
use Rattle.tree.specs.declared.Refusal.{Refusal}
use Rattle.record.specs.declared.Setting.{Setting}
use Rattle.record.specs.declared.Setting.TheVariants.{Plain, Back}
use Rattle.record.specs.declared.Outcome.{Outcome}
use Rattle.record.specs.declared.Outcome.TheVariants.{Kept, Struck, Refused}

-- an input is bytes
abbrev pub Bytes : List ℕ → Type 0
Bytes = All (λ b. b < 256)

-- ---- some rows

-- the clause book that their calls leave
unfoldable pub book_after : List Row → List Pair
book_after rs = book_of tree_words (row_calls rs)

-- the pair of a record, if it is kept
abbrev pub kept_on : Outcome → Record → List Pair
kept_on (Kept used) x = pair_of x ∷ []
kept_on (Struck n k) x = []
kept_on (Refused r) x = []

-- the numbers with a `removed` line among them
abbrev pub taken_out : List Row → List ℕ
taken_out [] = []
taken_out (r ∷ rs) = r.removed ++ taken_out rs

-- the pairs of those with a `kept` line that no later `removed` line takes out, the last one first
abbrev pub kept_pairs : List Row → List Pair
kept_pairs [] = []
kept_pairs (r ∷ rs) = kept_pairs rs ++ without_all (taken_out rs) (kept_on r.outcome r.of)

-- their calls are a list of which `Reach`, `Demand2`, `Demand3` and `ExactCount` speak; in the book they leave, numbers differ and no two clauses are variants
pub record BookStands (rs : List Row) : Type 0 where
  pub calls : Run fresh_slice (row_calls rs)
  pub numbers : Each (λ p q. p.number ≢ q.number) (book_after rs)
  pub clauses : Each (λ p q. Variants p.clause q.clause → ⊥) (book_after rs)

-- a number has a `kept` line among them
abbrev pub KeptLine : List Row → (number : ℕ) → Type 0
KeptLine rs n = (r : Row) × Memᴰ r rs × IsKept r.outcome × (r.of.number ≡ n)

-- a `kept` line of a number covers a record: its clause subsumes the record's
abbrev pub KeptCovers : List Row → (number : ℕ) → Record → Type 0
KeptCovers rs n x = (r : Row) × Memᴰ r rs × IsKept r.outcome × (r.of.number ≡ n) × Subsumes r.of.words x.words

-- ---- one row

-- one row of some, with those before it and those after it
pub record RowAt (rs : List Row) : Type 0 where
  pub before : List Row
  pub this : Row
  pub after : List Row
  pub whole : rs ≡ before ++ (this ∷ after)

-- what is claimed of it
pub record RowClaims (s : Setting) {rs : List Row} (a : RowAt rs) : Type 0 where
  -- it is the row of its record, asked on the slice that the calls of the rows before it leave
  pub asked : a.this ≡ row_on s (slice_of fresh_slice (row_calls a.before)) a.this.of
  pub stands : BookStands a.before
  -- the book before it rules it
  pub ruled : Ruled s (book_after a.before) a.this.of a.this.outcome a.this.removed (book_after (a.before ++ (a.this ∷ [])))
  -- where it is struck, an earlier row says that the number was kept, and the clause of that row subsumes this one's
  pub earlier : (n k : ℕ) → a.this.outcome ≡ Struck n k → KeptCovers a.before n a.this.of
  -- the codes with which it can be refused; 12 is none of them, since the budget is enough for every query and listing that can come; nor are the
  -- listing's 1, 2, 14 and 16
  pub codes : (r : Refusal) → a.this.outcome ≡ Refused r → Memᴰ (code_of r) (3 ∷ 4 ∷ 5 ∷ 7 ∷ 10 ∷ 11 ∷ [])
  -- where the book before it has units only: how many candidates its query takes
  pub units : Units (book_after a.before) → RuledByUnits (book_after a.before) a.this.of a.this.outcome

-- ---- the whole input

-- the fields of a record
abbrev pub fields_of : Record → List ℕ
fields_of x = x.number ∷ length x.words ∷ x.words

-- those of some records one after another
abbrev pub all_fields : List Record → List ℕ
all_fields [] = []
all_fields (x ∷ xs) = fields_of x ++ all_fields xs

-- the records are all that are complete: after them come fields that begin with none
pub record Complete (xs : List Record) (fs : List ℕ) : Type 0 where
  pub rest : List ℕ
  pub whole : fs ≡ all_fields xs ++ rest
  pub cut : (x : Record) (ys : List ℕ) → rest ≡ fields_of x ++ ys → ⊥

-- the clause of a pair subsumes that of another
abbrev pub Over : Pair → Pair → Type 0
Over p q = Subsumes p.clause q.clause

-- the last book covers what was kept or struck, and it is what the `kept` and `removed` lines say
pub record Covers (s : Setting) (input : List ℕ) : Type 0 where
  -- every record that was kept, also if it was removed later, or struck is subsumed by a clause of the last book
  pub covered : (r : Row) → Memᴰ r (rows_of s input) → IsKept r.outcome ⊎ IsStruck r.outcome
      → Subsumed (book_after (rows_of s input)) r.of.words
  -- without backward striking one that was struck is so by the clause with the number that its line says
  pub named : s ≡ Plain → (r : Row) → Memᴰ r (rows_of s input) → (n k : ℕ) → r.outcome ≡ Struck n k
      → (p : Pair) × Memᴰ p (book_after (rows_of s input)) × (p.number ≡ n) × Subsumes p.clause r.of.words
  -- with it no clause of the last book subsumes another one of it
  pub apart : s ≡ Back → Antichain Over (book_after (rows_of s input))
  -- the pairs of the last book are exactly the records with a `kept` line that no later `removed` line takes out, as many as the totals say
  pub pairs : book_after (rows_of s input) ≡ kept_pairs (rows_of s input)
  pub many : (totals_with none (rows_of s input)).kept ≡ length (book_after (rows_of s input))
  -- and as many `removed` lines
  pub removed : (totals_with none (rows_of s input)).removed ≡ length (taken_out (rows_of s input))

-- what is claimed of an input; `listing_of` is the lines of its rows, and their totals
pub record Sheet (s : Setting) (input : List ℕ) : Type 0 where
  -- a row for each complete record, in order; the totals count each of them once
  pub reads : Complete (records_of input) (fields input)
  pub rows : map (λ r. r.of) (rows_of s input) ≡ records_of input
  pub counts : let t = totals_with none (rows_of s input) in t.kept + t.struck + t.refused + t.removed ≡ length (records_of input)
  -- without backward striking none is removed: kept, struck and refused add up to the complete records
  pub plain : s ≡ Plain → let t = totals_with none (rows_of s input) in (t.removed ≡ 0) × (t.kept + t.struck + t.refused ≡ length (records_of input))
  -- each row in its place, and the last book
  pub placed : (a : RowAt (rows_of s input)) → RowClaims s a
  pub stands : BookStands (rows_of s input)
  pub covers : Covers s input

-- the claim, with each setting
abbrev pub Sheets : Type 0
Sheets = (s : Setting) (input : List ℕ) → Bytes input → Sheet s input

-- and its last part by itself: every record that was kept or struck is subsumed by a clause of the last book, whose pairs are the `kept` lines
-- without those that a later `removed` line takes out
abbrev pub NoStrikeIsWrong : Type 0
NoStrikeIsWrong = (s : Setting) (input : List ℕ) → Bytes input → Covers s input
