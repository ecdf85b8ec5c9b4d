-- Lists.
use Rattle.std.specs.Prelude.{◌≡◌, Bool, List, [], ◌∷◌, ◌++◌, ℕ, zero, suc, ◌<◌, eqb}
use Rattle.std.specs.Cmp.Lexicographic.{pointwise}

-- P holds of every element
pub data All {ℓ κ} {A : Type ℓ} (P : A → Type κ) : List A → Type (ℓ ⊔ κ) where
  none : All P []
  also : {x : A} {xs : List A} → P x → All P xs → All P (x ∷ xs)

-- R holds of every element and each one after it
pub data Each {ℓ κ} {A : Type ℓ} (R : A → A → Type κ) : List A → Type (ℓ ⊔ κ) where
  nobody : Each R []
  besides : {x : A} {xs : List A} → All (R x) xs → Each R xs → Each R (x ∷ xs)

-- below n a function takes no value twice
abbrev pub Injective : {A : Type 0} → ℕ → (ℕ → A) → Type 0
Injective n f = (i j : ℕ) → i < n → j < n → f i ≡ f j → i ≡ j

-- all of some statements hold
abbrev pub Hold : List (Type 0) → Type 0
Hold [] = Unit {0}
Hold (A ∷ As) = A × Hold As

-- two lists of numbers are the same
abbrev pub alike : List ℕ → List ℕ → Bool
alike = pointwise eqb

-- the numbers below n, rising
unfoldable pub numbers_below : ℕ → List ℕ
numbers_below zero = []
numbers_below (suc n) = numbers_below n ++ (n ∷ [])
