-- What is returned on refusal: the code and the values of each case of the enum (docs/REFERENCE.md, "Calls").
use Rattle.std.specs.Prelude.{List, [], ◌∷◌, ℕ}
use Rattle.clause.specs.declared.Fault.TheVariants.{BadLength, Bad, Ninth}
use Rattle.tree.specs.declared.Refusal.{Refusal}
use Rattle.tree.specs.declared.Refusal.TheVariants.{BadSlice, Broken, BadClause, ShortWitness, NumberTaken, Held, NoSuchNumber, ListFull, NoRoom}
use Rattle.tree.specs.declared.Refusal.TheVariants.{Spent, BadSize, NoSuchTree, ShortOutput, ShortList}

-- its code
abbrev pub code_of : Refusal → ℕ
code_of BadSlice = 1
code_of Broken = 2
code_of (BadClause BadLength) = 3
code_of (BadClause (Bad at)) = 4
code_of (BadClause (Ninth at)) = 5
code_of ShortWitness = 6
code_of NumberTaken = 7
code_of (Held number) = 8
code_of NoSuchNumber = 9
code_of ListFull = 10
code_of NoRoom = 11
code_of (Spent count) = 12
code_of BadSize = 13
code_of NoSuchTree = 14
code_of ShortOutput = 15
code_of ShortList = 16

-- the values that go with it: the position for 4 and 5, the number for 8, the count for 12
abbrev pub values_of : Refusal → List ℕ
values_of BadSlice = []
values_of Broken = []
values_of (BadClause BadLength) = []
values_of (BadClause (Bad at)) = at ∷ []
values_of (BadClause (Ninth at)) = at ∷ []
values_of ShortWitness = []
values_of NumberTaken = []
values_of (Held number) = number ∷ []
values_of NoSuchNumber = []
values_of ListFull = []
values_of NoRoom = []
values_of (Spent count) = count ∷ []
values_of BadSize = []
values_of NoSuchTree = []
values_of ShortOutput = []
values_of ShortList = []
