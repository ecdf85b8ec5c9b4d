-- Insertion on the words themselves, as one descent by keys: the definition that the loops are proved against.
use Rattle.std.specs.Prelude.{List, [], ◌∷◌, ◌++◌, length, take, drop}
use Prim.Native.Nat.{Ordering}
use Prim.Native.Nat.{ℕ, zero, suc, ◌+◌, ◌-◌, compare}
use Rattle.std.proofs.Math.Option.{Option, none}
use Rattle.tree.specs.Forest.{chain, encode, success}
use Rattle.tree.specs.Laid.{key_of, extent_of}

-- what a descent comes to: the place of the new words, the keys that have no word yet, the number of the Success at the place if all have one,
-- and the words with the extents on the way raised by r
pub record Descent : Type 0 where
  pub place : ℕ
  pub left : List ℕ
  pub holder : Option ℕ
  pub raised : (r : ℕ) → List ℕ

-- it ends before the words ws
abbrev pub stop : (ws cs : List ℕ) → Option ℕ → Descent
stop ws cs o = record { place = 0; left = cs; holder = o; raised = λ r. ws }

-- it goes on behind k words, which are xs r when they are raised
abbrev pub behind : (k : ℕ) (xs : ℕ → List ℕ) → Descent → Descent
behind k xs d = record { place = k + d.place; left = d.left; holder = d.holder; raised = λ r. xs r ++ d.raised r }

-- it goes past the word w, or below it
abbrev pub past : ℕ → Descent → Descent
past w d = behind 1 (λ r. w ∷ []) d

abbrev pub below : ℕ → Descent → Descent
below w d = behind 1 (λ r. (w + r) ∷ []) d

-- skip words, then look for the keys cs among the siblings in the next e words
abbrev pub descend : List ℕ → (skip e : ℕ) (cs : List ℕ) → Descent
descend [] skip e cs = stop [] cs none
descend (w ∷ ws) (suc skip) e cs = past w (descend ws skip e cs)
descend (w ∷ ws) zero zero cs = stop (w ∷ ws) cs none
descend (w ∷ ws) zero (suc e) [] = stop (w ∷ ws) [] (success (key_of w))
descend (w ∷ ws) zero (suc e) (c ∷ cs) =
    elim (compare c (key_of w)) [
      | Ordering.lt ↦ stop (w ∷ ws) (c ∷ cs) none
      | Ordering.eq ↦ below w (descend ws zero (extent_of w - 1) cs)
      | Ordering.gt ↦ past w (descend ws (extent_of w - 1) (suc e - extent_of w) (c ∷ cs))
    ]

-- the descent from the topmost row
abbrev pub from_top : (words cs : List ℕ) → Descent
from_top ws cs = descend ws 0 (length ws) cs

-- the words of the keys cs one below the other, then Success n
abbrev pub new_words : List ℕ → ℕ → List ℕ
new_words cs n = encode (chain cs n)

-- new words put in at a place, the words from there on moved up
abbrev pub splice : (words : List ℕ) (place : ℕ) (new : List ℕ) → List ℕ
splice ws p N = take p ws ++ (N ++ drop p ws)
