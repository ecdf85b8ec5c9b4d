-- What is claimed of the tree's definitions, so that they can be believed: well-laid slices are those of well-formed forests, a well-formed forest
-- is known by its paths, and search, insertion and removal do to the paths what they should.
use Rattle.std.specs.Prelude.{◌≡◌, ◌↔◌, ◌⊎◌, true, cond, List, [], ◌∷◌, ◌++◌, map, ℕ, ◌≤◌, ◌<◌, eqb, length}
use Rattle.std.proofs.Math.Option.{Option, none, some}
use Rattle.machine.specs.Instr.{instr, key, Success}
use Rattle.tree.specs.Keys.{first_key}
use Rattle.tree.specs.Forest.{Forest, empty, node, size, leaves, extent_limit, layout, WellFormed, Has, ins, find, del, Body, Free, holder}
use Rattle.tree.specs.Laid.{max_kept, well_laid, decode}
use Rattle.tree.specs.Entries.{Entry, Mirrors}
use Rattle.tree.specs.Beginnings.{beginnings, different}

-- the slice s is that of the well-formed forest F
pub record Stands (s : List ℕ) (F : Forest) : Type 0 where
  pub formed : WellFormed F
  pub room : size F < length s
  pub small : leaves F ≤ max_kept
  pub words : s ≡ layout (length s) F

-- a slice is well laid exactly if it is that of a well-formed forest, which is the one that `decode` gives
pub record Slices (s : List ℕ) : Type 0 where
  pub laid : (well_laid s ≡ true) ↔ ((F : Forest) × Stands s F)
  pub decoded : (F : Forest) → Stands s F → decode s ≡ F

-- an entry below the key c
abbrev pub under : ℕ → Entry → Entry
under c e = record { number = e.number; keys = c ∷ e.keys }

-- the paths to a Success, in the order in which the Success words stand
abbrev pub paths_of : Forest → List Entry
paths_of empty = []
paths_of (node i empty R) = record { number = i; keys = [] } ∷ paths_of R
paths_of (node i (node j C S) R) = map (under i) (paths_of (node j C S)) ++ paths_of R

-- the keys of the first with a number
abbrev pub first_with : ℕ → List Entry → Option (List ℕ)
first_with n [] = none
first_with n (e ∷ es) = cond (eqb e.number n) (some e.keys) (first_with n es)

-- what is done with the paths of a forest
pub record Paths (F : Forest) : Type 0 where
  -- a sequence is held under the number to which it is a path, and is free if it is a path to none
  pub held : (cs : List ℕ) (m : ℕ) → (holder cs F ≡ some m) ↔ Has F cs m
  pub free : (cs : List ℕ) → (holder cs F ≡ none) ↔ Free cs F
  -- a number is taken when a Success has it; where it stands twice, the first is found
  pub taken : (n : ℕ) (cs : List ℕ) → n < first_key → find n F ≡ some cs → Has F cs n
  pub missing : (n : ℕ) → n < first_key → (find n F ≡ none) ↔ ((cs : List ℕ) → Has F cs n → ⊥)
  pub first : (n : ℕ) → n < first_key → find n F ≡ first_with n (paths_of F)
  -- insertion adds a path
  pub inserted : (cs : List ℕ) (n : ℕ) → Body cs → n < first_key → Free cs F
      → WellFormed (ins cs n F) × ((ds : List ℕ) (m : ℕ) → Has (ins cs n F) ds m ↔ (((ds ≡ cs) × (m ≡ n)) ⊎ Has F ds m))
  -- removal takes out the path that is found
  pub removed : (n : ℕ) (cs : List ℕ) → n < first_key → find n F ≡ some cs
      → WellFormed (del n F) × ((ds : List ℕ) (m : ℕ) → Has (del n F) ds m ↔ (Has F ds m × (((ds ≡ cs) × (m ≡ n)) → ⊥)))
  -- no other well-formed forest has the same paths
  pub only : (G : Forest) → WellFormed G → ((cs : List ℕ) (n : ℕ) → Has F cs n ↔ Has G cs n) → F ≡ G
  -- its words are as many as the different beginnings of the sequences that it keeps
  pub counted : (K : List Entry) → Mirrors F K → size F ≡ different (beginnings K)

-- the claim
pub record TreeLaws : Type 0 where
  -- the key of Success n is n itself
  pub success : (n : ℕ) → key (Success n) ≡ n
  -- keys are in order by operation, then by operand
  pub order : (o a p b : ℕ) → a < first_key → b < first_key → (instr o a < instr p b) ↔ ((o < p) ⊎ ((o ≡ p) × (a < b)))
  pub slices : (s : List ℕ) → length s ≤ extent_limit → Slices s
  pub paths : (F : Forest) → WellFormed F → Paths F
