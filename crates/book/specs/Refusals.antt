-- The table of refusals: each call's rows in the order in which they are asked for, by their codes (docs/REFERENCE.md, "Calls"); the first that applies is the answer.
use Rattle.std.specs.Prelude.{Bool, true, false, not, ◌&&◌, List, [], ◌∷◌, ℕ, ◌-◌, leb, ltb, length, get_or, Err, Ok, Result}
use Rattle.std.proofs.Math.Option.{Option, none, some}
use Rattle.clause.specs.Clause.{shape, max_words, max_literals}
use Rattle.machine.specs.Machine.{State}
use Rattle.tree.specs.Forest.{size, leaves, ins, find, holder}
use Rattle.tree.specs.Laid.{max_kept, sized, used_of, well_laid, decode}
use Rattle.walk.specs.Walk.{Answer, covered, not_covered, spent, broken}
use Rattle.walk.specs.Query.{witness_words, shown, with_shown}
use Rattle.readback.specs.Saved.{of_clauses}
use Rattle.readback.specs.Calls.{over}
use Rattle.backward.specs.Listing as listing
use Rattle.book.specs.Table.{Title, Said, is_covered, is_not_covered, read, listed, code, Returned}
use Rattle.clause.specs.declared.Fault.TheVariants.{BadLength, Bad, Ninth}
use Rattle.machine.specs.Compile.{keys}
use Rattle.clause.specs.declared.Fault.{Fault}

-- a row that applies
abbrev pub refusal : (code : ℕ) (values : List ℕ) → Option Said
refusal n values = some (record { title = code n; values = values })

-- a row without values, where a test passes
abbrev pub when : Bool → (code : ℕ) → Option Said
when true n = refusal n []
when false n = none

-- the first that applies
abbrev pub first_of : List (Option Said) → Option Said
first_of [] = none
first_of (some r ∷ rs) = some r
first_of (none ∷ rs) = first_of rs

-- ---- rows with values, or by cases

-- 3, and 4 and 5 with the position
abbrev pub clause_row : Result ℕ Fault → Option Said
clause_row (Err BadLength) = refusal 3 []
clause_row (Err (Bad at)) = refusal 4 (at ∷ [])
clause_row (Err (Ninth at)) = refusal 5 (at ∷ [])
clause_row (Ok q) = none

-- 7: a Success has the number
abbrev pub taken_row : Option (List ℕ) → Option Said
taken_row (some cs) = refusal 7 []
taken_row none = none

-- 8, with its number: the clause's sequence is a path to a Success
abbrev pub held_row : Option ℕ → Option Said
held_row (some m) = refusal 8 (m ∷ [])
held_row none = none

-- 9: no Success has the number
abbrev pub missing_row : Option (List ℕ) → Option Said
missing_row (some cs) = none
missing_row none = refusal 9 []

-- ---- the rows of each call

-- fresh 1
abbrev pub fresh_rows : (slice : List ℕ) → List (Option Said)
fresh_rows T = when (not (sized T)) 1 ∷ []

-- ceiling 13
abbrev pub ceiling_rows : (kept q m : ℕ) → List (Option Said)
ceiling_rows k q m = when (not (leb k max_kept && leb 1 q && leb q max_literals && leb 1 m && leb m max_literals)) 13 ∷ []

-- insert 1, 3 to 5, 2, 7, 8, 10, 11
abbrev pub insert_rows : (slice clause : List ℕ) (number : ℕ) → List (Option Said)
insert_rows T c n =
    when (not (sized T)) 1 ∷ clause_row (shape c) ∷ when (not (well_laid T)) 2 ∷ taken_row (find n (decode T)) ∷ held_row (holder (keys c) (decode T))
    ∷ when (leb max_kept (leaves (decode T))) 10 ∷ when (ltb (length T - 1) (size (ins (keys c) n (decode T)))) 11 ∷ []

-- remove 1, 2, 9
abbrev pub remove_rows : (slice : List ℕ) (number : ℕ) → List (Option Said)
remove_rows T n = when (not (sized T)) 1 ∷ when (not (well_laid T)) 2 ∷ missing_row (find n (decode T)) ∷ []

-- query 1, 3 to 6, header 2; then the walk
abbrev pub query_rows : (slice clause witness : List ℕ) → List (Option Said)
query_rows T d W =
    when (not (sized T)) 1 ∷ clause_row (shape d) ∷ when (ltb (length W) witness_words) 6 ∷ when (ltb (length T - 1) (used_of (get_or T 0 0))) 2 ∷ []

-- check 1, 2, 14
abbrev pub check_rows : (slice : List ℕ) → List (Option Said)
check_rows T = when (not (sized T)) 1 ∷ when (not (well_laid T)) 2 ∷ when (not (of_clauses (decode T))) 14 ∷ []

-- read back 1, 15, 2, 14, 9
abbrev pub read_rows : (slice : List ℕ) (number : ℕ) (output : List ℕ) → List (Option Said)
read_rows T n W =
    when (not (sized T)) 1 ∷ when (ltb (length W) max_words) 15 ∷ when (not (well_laid T)) 2 ∷ when (not (of_clauses (decode T))) 14
    ∷ missing_row (find n (decode T)) ∷ []

-- backward 1, 3 to 5, 2, 14; then the listing
abbrev pub back_rows : (slice clause : List ℕ) → List (Option Said)
back_rows T c = when (not (sized T)) 1 ∷ clause_row (shape c) ∷ when (not (well_laid T)) 2 ∷ when (not (of_clauses (decode T))) 14 ∷ []

-- ---- what a call comes to

-- a call done: what it answers, without values, and the words afterwards
abbrev pub finished : Title → (words : List ℕ) → Returned
finished t W = record { said = record { title = t; values = [] }; words = W }

-- the first refusal that applies with the words left, or else what is done
abbrev pub unless_refused : Option Said → (words : List ℕ) → Returned → Returned
unless_refused (some r) W a = record { said = r; words = W }
unless_refused none W a = a

-- the answer, where none applies and nothing is lent
abbrev pub unless_said : Option Said → Said → Said
unless_said (some r) a = r
unless_said none a = a

-- what the walk meets: "covered" with the clause's number and the count, and the witness written; "not covered" with the count; 12 with the budget
-- as the count; or 2
abbrev pub walk_result : (budget : ℕ) (witness : List ℕ) → Answer State → Returned
walk_result b W (covered n s c) = record { said = record { title = is_covered; values = n ∷ c ∷ [] }; words = with_shown (shown s) W }
walk_result b W (not_covered c) = record { said = record { title = is_not_covered; values = c ∷ [] }; words = W }
walk_result b W spent = record { said = record { title = code 12; values = b ∷ [] }; words = W }
walk_result b W broken = record { said = record { title = code 2; values = [] }; words = W }

-- a clause read back: its length, and its words over the first of the output
abbrev pub read_result : (clause output : List ℕ) → Returned
read_result c W = record { said = record { title = read; values = length c ∷ [] }; words = over c W }

-- what the listing meets: how many numbers and the candidates in all, and the numbers over the first words of the list; 16; 12 with the budget as the
-- count; or 2
abbrev pub list_result : (budget : ℕ) (list : List ℕ) → listing.Listing → Returned
list_result b L (listing.listed ns k) = record { said = record { title = listed; values = length ns ∷ k ∷ [] }; words = over ns L }
list_result b L listing.overfull = record { said = record { title = code 16; values = [] }; words = L }
list_result b L listing.spent = record { said = record { title = code 12; values = b ∷ [] }; words = L }
list_result b L listing.broken = record { said = record { title = code 2; values = [] }; words = L }
