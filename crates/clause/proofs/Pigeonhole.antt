-- Different numbers below a number are no more than it.
use mathlib.Core.Path.{◌≡◌, sym, ◌∙◌}
use mathlib.Core.Bool.{cond}
use Prim.Native.Nat.{ℕ, zero, suc, ◌≤◌, ◌<◌}
use native.Mathlib.Decide.{ℕ_discrete}
use native.Mathlib.Omega.{arith}
use lib.Dec.{eqb}
use borrow.Author.Tests.{eq-eqb, ne_eqb}
use Rattle.clause.specs.Lists.{Injective}

-- n + 1 different numbers below m + 1: n of them can be moved below m
module _ (n m : ℕ) (f : ℕ → ℕ) (low : (i : ℕ) → i < suc n → f i < suc m) (apart : Injective (suc n) f) where
  -- the last of them takes the place of m
  moved : ℕ → ℕ
  moved i = cond (eqb (f i) m) (f n) (f i)

  moved_top : (i : ℕ) → f i ≡ m → moved i ≡ f n
  unfolding moved
  moved_top i e = rw (eq-eqb (f i) m e)

  moved_other : (i : ℕ) → (f i ≡ m → ⊥) → moved i ≡ f i
  unfolding moved
  moved_other i e = rw (ne_eqb (f i) m e)

  not_last : (i : ℕ) → i < n → f i ≡ f n → ⊥
  not_last i h e = omega (arith, apart i n (omega arith) (omega arith) e)

  moved_low : (i : ℕ) → i < n → moved i < m
  moved_low i h = go (ℕ_discrete (f i) m)
    where
      go : Dec (f i ≡ m) → moved i < m
      go (yes e) = let ne : f n ≡ m → ⊥ = λ z. not_last i h (e ∙ sym z) in rw (moved_top i e) (omega (arith, low n (omega arith)))
      go (no ne) = rw (moved_other i ne) (omega (arith, low i (omega arith)))

  moved_apart : Injective n moved
  moved_apart i j h g e = go (ℕ_discrete (f i) m) (ℕ_discrete (f j) m)
    where
      go : Dec (f i ≡ m) → Dec (f j ≡ m) → i ≡ j
      go (yes x) (yes y) = apart i j (omega arith) (omega arith) (x ∙ sym y)
      go (yes x) (no y) = absurd (not_last j g (sym (moved_other j y) ∙ sym e ∙ moved_top i x))
      go (no x) (yes y) = absurd (not_last i h (sym (moved_other i x) ∙ e ∙ moved_top j y))
      go (no x) (no y) = apart i j (omega arith) (omega arith) (sym (moved_other i x) ∙ e ∙ moved_other j y)

-- n different numbers below m are no more than m
pub few_places : (n m : ℕ) (f : ℕ → ℕ) → ((i : ℕ) → i < n → f i < m) → Injective n f → n ≤ m
few_places zero m f low apart = omega arith
few_places (suc n) zero f low apart = absurd (omega (arith, low 0 (omega arith)))
few_places (suc n) (suc m) f low apart =
    omega (arith, few_places n m (moved n m f low apart) (moved_low n m f low apart) (moved_apart n m f low apart))
