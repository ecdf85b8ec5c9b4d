-- Every answer as the table has it (docs/REFERENCE.md, "Calls"): what it is called, or its code, and its values.
use Rattle.std.specs.Prelude.{List, [], ◌∷◌, ℕ, Err, Ok, Result, ⊤}
use Rattle.tree.specs.Refusal.{code_of, values_of}
use Rattle.walk.specs.Query.{Asked}
use Rattle.tree.specs.Calls.{Called}
use Rattle.readback.specs.Calls.{Given}
use Rattle.backward.specs.Calls.{Backed}
use Rattle.tree.specs.declared.Refusal.{Refusal}
use Rattle.walk.specs.declared.Verdict.{Verdict}
use Rattle.walk.specs.declared.Verdict.TheVariants.{Covered, NotCovered}
use Rattle.tree.specs.declared.Done.{Done}
use Rattle.tree.specs.declared.Done.TheVariants.{Ready, Kept, Removed}
use Rattle.backward.specs.declared.Listed.{Listed}

-- what an answer is called, or its code
pub data Title : Type 0 where
  ready kept removed is_covered is_not_covered returned passed read listed : Title
  code : ℕ → Title

-- an answer: what it is, and its values
pub record Said : Type 0 where
  pub title : Title
  pub values : List ℕ

-- a refusal: its code, with the position for 4 and 5, the number for 8, the count for 12
abbrev pub said_refusal : Refusal → Said
said_refusal r = record { title = code (code_of r); values = values_of r }

-- the answers of fresh, insertion and removal
abbrev pub said_call : Result Done Refusal → Said
said_call (Err r) = said_refusal r
said_call (Ok Ready) = record { title = ready; values = [] }
said_call (Ok Kept) = record { title = kept; values = [] }
said_call (Ok Removed) = record { title = removed; values = [] }

-- those of a query: "covered" with the clause's number and the count, "not covered" with the count
abbrev pub said_query : Result Verdict Refusal → Said
said_query (Err r) = said_refusal r
said_query (Ok (Covered number count)) = record { title = is_covered; values = number ∷ count ∷ [] }
said_query (Ok (NotCovered count)) = record { title = is_not_covered; values = count ∷ [] }

-- those of the ceiling call, which returns a number
abbrev pub said_ceiling : Result ℕ Refusal → Said
said_ceiling (Err r) = said_refusal r
said_ceiling (Ok n) = record { title = returned; values = n ∷ [] }

-- those of checking a slice
abbrev pub said_check : Result ⊤ Refusal → Said
said_check (Err r) = said_refusal r
said_check (Ok tt) = record { title = passed; values = [] }

-- those of reading a clause back, with its length
abbrev pub said_read : Result ℕ Refusal → Said
said_read (Err r) = said_refusal r
said_read (Ok n) = record { title = read; values = n ∷ [] }

-- those of listing backward, with how many numbers and the candidates in all
abbrev pub said_back : Result Listed Refusal → Said
said_back (Err r) = said_refusal r
said_back (Ok l) = record { title = listed; values = l.count ∷ l.candidates ∷ [] }

-- how a call comes out: what it answers, and the lent words afterwards
pub record Returned : Type 0 where
  pub said : Said
  pub words : List ℕ

-- of fresh, insertion and removal, which are lent the slice
abbrev pub called : Called → Returned
called r = record { said = said_call r.answer; words = r.slice }

-- of a query, which is lent the witness
abbrev pub asked : Asked → Returned
asked r = record { said = said_query r.answer; words = r.witness }

-- of reading a clause back, which is lent the output
abbrev pub given_back : Given → Returned
given_back r = record { said = said_read r.answer; words = r.output }

-- of listing backward, which is lent the list
abbrev pub backed : Backed → Returned
backed r = record { said = said_back r.answer; words = r.list }
