-- What one record asks, and what becomes of it.
use Rattle.std.proofs.Math.Option.{Option, none, some}
use Rattle.std.specs.Prelude.{List, [], ◌∷◌, ◌++◌, map, ℕ, get_or, take, replicate, Err, Ok, Result}
use Rattle.tree.specs.Forest.{find}
use Rattle.tree.specs.Laid.{max_kept, used_of, decode}
use Rattle.tree.specs.Calls.{insertion}
use Rattle.walk.specs.Query.{witness_words, query}
use Rattle.backward.specs.Calls.{backward}
use Rattle.book.specs.Book.{Call, insert, remove, after}
use Rattle.tree.specs.declared.Refusal.TheVariants.{NumberTaken}
use Rattle.tree.specs.declared.Done.{Done}
use Rattle.tree.specs.declared.Done.TheVariants as call
use Rattle.walk.specs.declared.Verdict.{Verdict}
use Rattle.walk.specs.declared.Verdict.TheVariants.{Covered, NotCovered}
use Rattle.backward.specs.declared.Listed.{Listed}
use Rattle.record.specs.declared.Setting.{Setting}
use Rattle.record.specs.declared.Setting.TheVariants.{Plain, Back}
use Rattle.record.specs.declared.Outcome.{Outcome}
use Rattle.record.specs.declared.Outcome.TheVariants.{Kept, Struck, Refused}
use Rattle.tree.specs.declared.Refusal.{Refusal}

-- the budget of every query, and of every listing
abbrev pub budget : ℕ
budget = 1_000_000_000

-- the words of the tree's slice
abbrev pub tree_words : ℕ
tree_words = 8_192

-- the words of a listing's list: a number for each clause that can be kept, 1,024
abbrev pub list_words : ℕ
list_words = max_kept

-- a record of the input: its number and its clause words
pub record Record : Type 0 where
  pub number : ℕ
  pub words : List ℕ

-- what becomes of a record, the numbers that it takes out, and the slice afterwards
pub record Answered : Type 0 where
  pub outcome : Outcome
  pub removed : List ℕ
  pub slice : List ℕ

-- a record that does not go in: nothing is removed, and the slice stays
abbrev pub left : Outcome → (slice : List ℕ) → Answered
left o T = record { outcome = o; removed = []; slice = T }

-- ---- it goes in

-- the removals of some numbers, one after another
abbrev pub removals : (numbers : List ℕ) → List Call
removals ns = map remove ns

-- what an insertion's answer makes of a record, after the removal of some numbers: the used words of the new slice; where it is refused, why, and
-- nothing is removed
abbrev pub entered_as : Result Done Refusal → (numbers new slice : List ℕ) → Answered
entered_as (Err r) ns S T = left (Refused r) T
entered_as (Ok call.Ready) ns S T = record { outcome = Kept (used_of (get_or S 0 0)); removed = ns; slice = S }
entered_as (Ok call.Kept) ns S T = record { outcome = Kept (used_of (get_or S 0 0)); removed = ns; slice = S }
entered_as (Ok call.Removed) ns S T = record { outcome = Kept (used_of (get_or S 0 0)); removed = ns; slice = S }

-- a record inserted after the removal of some numbers: list and room are judged after it
unfoldable pub entered : (numbers slice : List ℕ) → Record → Answered
entered ns T x =
    let r = insertion (after T (removals ns)) x.words x.number in
    entered_as r.answer ns r.slice T

-- its number is judged before: a Success of the slice has it
abbrev pub unless_taken : Option (List ℕ) → (slice : List ℕ) → Answered → Answered
unless_taken (some keys) T a = left (Refused NumberTaken) T
unless_taken none T a = a

-- what a listing's answer, and the list afterwards, make of a record: it is inserted after the removal of the numbers listed
abbrev pub replaced_as : Result Listed Refusal → (list slice : List ℕ) → Record → Answered
replaced_as (Err r) L T x = left (Refused r) T
replaced_as (Ok l) L T x = unless_taken (find x.number (decode T)) T (entered (take l.count L) T x)

-- backward striking: the kept clauses that the record subsumes are listed, and it takes their place
unfoldable pub replaced : (slice : List ℕ) → Record → Answered
replaced T x =
    let b = backward T x.words budget (replicate list_words 0) in
    replaced_as b.answer b.list T x

-- a record that is not covered, by the setting
abbrev pub goes_in : Setting → (slice : List ℕ) → Record → Answered
goes_in Plain T x = entered [] T x
goes_in Back T x = replaced T x

-- ---- the answer

-- what a query's answer makes of a record: it goes in only on "not covered"
abbrev pub answer_as : Setting → Result Verdict Refusal → (slice : List ℕ) → Record → Answered
answer_as s (Err r) T x = left (Refused r) T
answer_as s (Ok (Covered n c)) T x = left (Struck n c) T
answer_as s (Ok (NotCovered c)) T x = goes_in s T x

-- a record queried, and taken in where it is not covered; the answer to a query does not depend on the words of its witness
unfoldable pub answer_to : Setting → (slice : List ℕ) → Record → Answered
answer_to s T x = answer_as s (query T x.words budget (replicate witness_words 0)).answer T x

-- the calls that change the slice: where the record is kept, its removals and its insertion
abbrev pub calls_on : Outcome → (removed : List ℕ) → Record → List Call
calls_on (Kept used) ns x = removals ns ++ (insert x.words x.number ∷ [])
calls_on (Struck n c) ns x = []
calls_on (Refused r) ns x = []

-- those for a record on a slice
unfoldable pub calls_for : Setting → (slice : List ℕ) → Record → List Call
calls_for s T x =
    let a = answer_to s T x in
    calls_on a.outcome a.removed x
