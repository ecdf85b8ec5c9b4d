-- The sequences that a tree keeps: each a number and the keys of its instructions.
use Rattle.std.specs.Prelude.{◌≡◌, List, [], ◌∷◌, ◌↔◌, ◌⊎◌, ℕ, ◌<◌}
use Rattle.clause.specs.Word.{Words}
use Rattle.clause.specs.Clause.{Accepted}
use Rattle.machine.specs.Compile.{keys}
use Rattle.tree.specs.Keys.{first_key}
use Rattle.tree.specs.Forest.{Forest, empty, ins, Has, WellFormed}

-- a number and the keys of its sequence
pub record Entry : Type 0 where
  pub number : ℕ
  pub keys : List ℕ

-- a number and a clause
pub record Pair : Type 0 where
  pub number : ℕ
  pub clause : List ℕ

-- an accepted clause under a number of 32 bits
pub record Sound (p : Pair) : Type 0 where
  pub accepted : Accepted p.clause
  pub words : Words p.clause
  pub number : p.number < first_key

-- a pair as the tree holds it
abbrev pub entry : Pair → Entry
entry p = record { number = p.number; keys = keys p.clause }

-- the book has the sequence cs under the number n
abbrev pub Listed : List Entry → List ℕ → ℕ → Type 0
Listed [] cs n = ⊥
Listed (e ∷ K) cs n = ((cs ≡ e.keys) × (n ≡ e.number)) ⊎ Listed K cs n

-- the sequences merged one after another
abbrev pub build : List Entry → Forest
build [] = empty
build (e ∷ K) = ins e.keys e.number (build K)

-- the forest keeps exactly what the book has
pub record Mirrors (F : Forest) (K : List Entry) : Type 0 where
  pub formed : WellFormed F
  pub paths : (cs : List ℕ) (n : ℕ) → Has F cs n ↔ Listed K cs n
