-- Checking a slice, and reading a clause back out of it.
use Rattle.std.specs.Prelude.{cond, List, ◌++◌, ℕ, leb, length, drop, Err, Ok, Result, ⊤}
use Rattle.std.proofs.Math.Option.{Option, none, some}
use Rattle.clause.specs.Clause.{max_words}
use Rattle.tree.specs.Forest.{find}
use Rattle.tree.specs.Laid.{sized, well_laid, decode}
use Rattle.tree.specs.declared.Refusal.{Refusal}
use Rattle.tree.specs.declared.Refusal.TheVariants.{BadSlice, Broken, NoSuchNumber, NoSuchTree, ShortOutput}
use Rattle.readback.specs.Readback.{clause_of}
use Rattle.readback.specs.Saved.{of_clauses}

-- checking a slice: 1, 2, 14
unfoldable pub check : (slice : List ℕ) → Result ⊤ Refusal
check T = cond (sized T) (cond (well_laid T) (cond (of_clauses (decode T)) (Ok tt) (Err NoSuchTree)) (Err Broken)) (Err BadSlice)

-- the answer, and the output's words afterwards
pub record Given : Type 0 where
  pub answer : Result ℕ Refusal
  pub output : List ℕ

-- a refusal leaves every word
abbrev pub unread : Refusal → List ℕ → Given
unread r W = record { answer = Err r; output = W }

-- words at the beginning of others, the rest left
abbrev pub over : (new words : List ℕ) → List ℕ
over c W = c ++ drop (length c) W

-- the clause of a path written over the output, or 9 where there is none
unfoldable pub written_out : (path : Option (List ℕ)) (output : List ℕ) → Given
written_out none W = unread NoSuchNumber W
written_out (some p) W = record { answer = Ok (length (clause_of p)); output = over (clause_of p) W }

-- reading the clause with a number back: 1, 15, 2, 14, 9
unfoldable pub read_back : (slice : List ℕ) (number : ℕ) (output : List ℕ) → Given
read_back T n W =
    cond (sized T)
    (cond (leb max_words (length W))
    (cond (well_laid T) (cond (of_clauses (decode T)) (written_out (find n (decode T)) W) (unread NoSuchTree W)) (unread Broken W)) (unread ShortOutput W))
    (unread BadSlice W)
