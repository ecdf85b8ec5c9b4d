-- What is claimed of the tally sheet of every input.
use Rattle.std.specs.Prelude.{◌≡◌, ◌↔◌, ℕ, ◌<◌, length}
use mathlib.Core.List.{List, map, Memᴰ}
use Rattle.clause.specs.Lists.{Each}
use Rattle.clause.specs.Clause.{Subsumes}
use Rattle.tree.specs.Entries.{Pair}
use Rattle.record.specs.Output.{records_of, Row, rows_of, totals_with, none}
use Rattle.record.specs.Ruled.{Numbered}
use Rattle.record.specs.Sheet.{Bytes, book_after, KeptLine, KeptCovers}
use Rattle.record.specs.Tally.{struck_by, total, spent, TallyRow, tally_of}
use Rattle.record.specs.declared.Setting.{Setting}
use Rattle.record.specs.declared.Setting.TheVariants.{Plain}
use Rattle.record.specs.declared.Outcome.TheVariants.{Struck}

-- the tally sheet is for inputs of fewer bytes than this: no counter reaches its end then
abbrev pub most_bytes : ℕ
most_bytes = 4_000_000_000

-- the numbers of a tally
abbrev pub numbers_of : List TallyRow → List ℕ
numbers_of ts = map (λ t. t.number) ts

-- what a row says: its strikes are the records that its clause struck, its candidates those of their queries
pub record RowStands (rs : List Row) (t : TallyRow) : Type 0 where
  pub strikes : t.strikes ≡ length (struck_by t.number rs)
  pub candidates : t.candidates ≡ spent (struck_by t.number rs)
  -- and a `kept` line of the row's number has a clause that subsumes each of them; it is an earlier one by `earlier` of `RowClaims`
  pub struck : (r : Row) → Memᴰ r (struck_by t.number rs) → KeptCovers rs t.number r.of

-- what is claimed of an input's tally; that kept, struck, refused and removed add up to its complete records is `counts` of `Sheet`, and that the
-- first three do without backward striking is `plain` there
pub record Tallied (s : Setting) (input : List ℕ) : Type 0 where
  -- the strikes of all rows add up to `struck`, and their candidates to those of all strikes
  pub strikes : total (map (λ t. t.strikes) (tally_of (rows_of s input))) ≡ (totals_with none (rows_of s input)).struck
  pub candidates : total (map (λ t. t.candidates) (tally_of (rows_of s input))) ≡ spent (rows_of s input)
  -- as many records are counted as the input has complete ones
  pub records : (totals_with none (rows_of s input)).records ≡ length (records_of input)
  -- the numbers of the rows are exactly those with a `kept` line; they rise, so that each stands once
  pub numbers : (n : ℕ) → Memᴰ n (numbers_of (tally_of (rows_of s input))) ↔ KeptLine (rows_of s input) n
  pub rising : Each ◌<◌ (numbers_of (tally_of (rows_of s input)))
  -- each row, and which records a number struck: those whose line says so
  pub rows : (t : TallyRow) → Memᴰ t (tally_of (rows_of s input)) → RowStands (rows_of s input) t
  pub exactly : (n : ℕ) (r : Row) → Memᴰ r (struck_by n (rows_of s input)) ↔ (Memᴰ r (rows_of s input) × ((k : ℕ) × (r.outcome ≡ Struck n k)))
  -- without backward striking no clause leaves the tree: the numbers are those of the last book, and its clause of a number subsumes all that it struck
  pub book : s ≡ Plain → (n : ℕ) → Memᴰ n (numbers_of (tally_of (rows_of s input))) ↔ Numbered (book_after (rows_of s input)) n
  pub clauses : s ≡ Plain → (p : Pair) → Memᴰ p (book_after (rows_of s input)) → (r : Row) → Memᴰ r (struck_by p.number (rows_of s input))
      → Subsumes p.clause r.of.words

-- the claim
abbrev pub Tallies : Type 0
Tallies = (s : Setting) (input : List ℕ) → Bytes input → Tallied s input
