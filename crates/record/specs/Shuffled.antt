-- Pages shuffled: what two inputs with the same records in two orders keep, with backward striking.
use Rattle.std.specs.Prelude.{◌≡◌, ◌≢◌, ℕ, length}
use mathlib.Core.List.{List, Memᴰ, Permᴰ}
use Rattle.clause.specs.Lists.{Each}
use Rattle.tree.specs.Entries.{Pair}
use Rattle.walk.specs.Covering.{Subsumed}
use Rattle.book.specs.Claims.{Under}
use Rattle.record.specs.Answer.{Record}
use Rattle.record.specs.Output.{records_of, rows_of, totals_with, none}
use Rattle.record.specs.Antichain.{Antichain}
use Rattle.record.specs.Sheet.{Bytes, book_after, Over}
use Rattle.record.specs.declared.Setting.{Setting}
use Rattle.record.specs.declared.Setting.TheVariants.{Back}

-- what a run keeps: its last book, which is the `kept` lines without those that a later `removed` line takes out (`pairs` of `Covers`)
abbrev pub kept_by : Setting → (input : List ℕ) → List Pair
kept_by s input = book_after (rows_of s input)

-- a run refuses no record: its `refused` total is 0
abbrev pub NoneRefused : Setting → (input : List ℕ) → Type 0
NoneRefused s input = (totals_with none (rows_of s input)).refused ≡ 0

-- ---- one input

-- the claim, with each setting: if none is refused, every record read is subsumed by a kept clause
abbrev pub AllCovered : Type 0
AllCovered = (s : Setting) (input : List ℕ) → Bytes input → NoneRefused s input
    → (x : Record) → Memᴰ x (records_of input) → Subsumed (kept_by s input) x.words

-- ---- two inputs, with backward striking

-- two clauses subsume each other
abbrev pub Mutual : Pair → Pair → Type 0
Mutual p q = Over p q × Over q p

-- each clause of K and some clause of L subsume each other
abbrev pub Alike : (K L : List Pair) → Type 0
Alike K L = (p : Pair) → Memᴰ p K → (q : Pair) × Memᴰ q L × Mutual p q

-- what the two runs keep
pub record KeepAlike (a b : List ℕ) : Type 0 where
  -- no kept clause of either run subsumes another kept clause of that run
  pub apart : Antichain Over (kept_by Back a) × Antichain Over (kept_by Back b)
  -- each clause kept by one is subsumed by one kept by the other
  pub under : Under (kept_by Back a) (kept_by Back b) × Under (kept_by Back b) (kept_by Back a)
  -- both keep equally many, and their `kept` totals say so
  pub many : length (kept_by Back a) ≡ length (kept_by Back b)
  pub totals : (totals_with none (rows_of Back a)).kept ≡ (totals_with none (rows_of Back b)).kept
  -- so the kept clauses are the same but for clauses that subsume each other
  pub alike : Alike (kept_by Back a) (kept_by Back b) × Alike (kept_by Back b) (kept_by Back a)

-- all numbers of some records differ
abbrev pub NumbersDiffer : List Record → Type 0
NumbersDiffer xs = Each (λ x y. x.number ≢ y.number) xs

-- the claim: the complete records of two inputs are the same in two orders, all numbers differ, and neither run refuses a record
abbrev pub PagesShuffled : Type 0
PagesShuffled = (a b : List ℕ) → Bytes a → Bytes b → Permᴰ (records_of a) (records_of b)
    → NumbersDiffer (records_of a) → NoneRefused Back a → NoneRefused Back b → KeepAlike a b

-- the clause of each record of xs is that of some record of ys
abbrev pub ClausesAmong : (xs ys : List Record) → Type 0
ClausesAmong xs ys = (x : Record) → Memᴰ x xs → (y : Record) × Memᴰ y ys × (y.words ≡ x.words)

-- and more: two inputs have the same clauses, in whatever order, however often and under whatever numbers, and neither run refuses a record
abbrev pub SameClausesKept : Type 0
SameClausesKept = (a b : List ℕ) → Bytes a → Bytes b → ClausesAmong (records_of a) (records_of b) → ClausesAmong (records_of b) (records_of a)
    → NoneRefused Back a → NoneRefused Back b → KeepAlike a b
