-- Books of sequences as the proofs go over them.
use Rattle.std.specs.Prelude.{◌≡◌, true, false, List, [], ◌∷◌, ℕ, ◌<◌, eqb}
use Rattle.tree.specs.Keys.{first_key}
use Rattle.tree.specs.Forest.{Body}
use Rattle.tree.specs.Entries.{Entry, Listed}

-- the book without a number
unfoldable pub without_entry : ℕ → List Entry → List Entry
without_entry n [] = []
without_entry n (e ∷ K) = elim (eqb e.number n) [ true ↦ without_entry n K | false ↦ e ∷ without_entry n K ]

-- sequences that a tree can hold, no two of them variants
abbrev pub Apart : List Entry → Type 0
Apart [] = Unit {0}
Apart (e ∷ K) = record { body : Body e.keys; number : e.number < first_key; new : (m : ℕ) → Listed K e.keys m → ⊥; rest : Apart K }

-- no number stands for two sequences
abbrev pub Single : List Entry → Type 0
Single K = (cs ds : List ℕ) (n : ℕ) → Listed K cs n → Listed K ds n → cs ≡ ds
