-- Fresh, insertion and removal on a slice.
use Rattle.std.specs.Prelude.{cond, List, ℕ, length, replicate, Err, Ok, Result}
use Rattle.clause.specs.Clause.{shape}
use Rattle.tree.specs.Forest.{layout}
use Rattle.tree.specs.Laid.{sized, well_laid, decode}
use Rattle.tree.specs.Changes.{Change, refuse, change, insert_into, remove_from}
use Rattle.tree.specs.Entries.{entry}
use Rattle.tree.specs.declared.Done.{Done}
use Rattle.tree.specs.declared.Done.TheVariants.{Ready, Kept, Removed}
use Rattle.tree.specs.declared.Refusal.{Refusal}
use Rattle.tree.specs.declared.Refusal.TheVariants.{BadSlice, Broken, BadClause}
use Rattle.clause.specs.declared.Fault.{Fault}

-- the answer, and the slice's words afterwards
pub record Called : Type 0 where
  pub answer : Result Done Refusal
  pub slice : List ℕ

-- a refused call leaves every word
abbrev pub refused : Refusal → List ℕ → Called
refused r T = record { answer = Err r; slice = T }

-- a slice with its tree left, or changed and this answered
abbrev pub changed : List ℕ → Result Done Refusal → Change → Called
changed T a (refuse r) = refused r T
changed T a (change F) = record { answer = a; slice = layout (length T) F }

-- fresh
unfoldable pub fresh : List ℕ → Called
fresh T = cond (sized T) (record { answer = Ok Ready; slice = replicate (length T) 0 }) (refused BadSlice T)

-- the insertion of a clause of a given shape
abbrev pub insert_as : Result ℕ Fault → (slice clause : List ℕ) (number : ℕ) → Called
insert_as (Err f) T c n = refused (BadClause f) T
insert_as (Ok q) T c n =
    cond (well_laid T) (changed T (Ok Kept) (insert_into (length T) (decode T) (entry (record { number = n; clause = c })))) (refused Broken T)

-- the insertion of a clause under a number
unfoldable pub insertion : (slice clause : List ℕ) (number : ℕ) → Called
insertion T c n = cond (sized T) (insert_as (shape c) T c n) (refused BadSlice T)

-- the removal of a number
unfoldable pub removal : (slice : List ℕ) (number : ℕ) → Called
removal T n = cond (sized T) (cond (well_laid T) (changed T (Ok Removed) (remove_from (decode T) n)) (refused Broken T)) (refused BadSlice T)
