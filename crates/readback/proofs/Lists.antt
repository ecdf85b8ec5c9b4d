-- Lists, and first puts.
use mathlib.Core.Path.{◌≡◌, refl, ap}
use mathlib.Core.Bool.{Bool, true, false, cond}
use mathlib.Core.List.{List, [], ◌∷◌, map, flat_map, Memᴰ}
use Prim.Native.Nat.{ℕ, zero, suc, ◌+◌, ◌-◌, ◌≤◌, ◌<◌}
use native.Mathlib.Nat.{add-zero, add-suc}
use native.Mathlib.Omega.{arith}
use lib.ListN.{length, get_or}
use lib.Dec.{eqb}
use borrow.Author.Tests.{eq-eqb, ne_eqb, eqb-true}
use Rattle.clause.specs.Lists.{All, none, also, numbers_below}
use Rattle.clause.proofs.Lists.{all-weaken}
use Rattle.machine.specs.Compile.{first}
use Rattle.machine.proofs.Length.{flat_map_numbers_below}
use Rattle.readback.specs.Readback.{new_below}

-- every element is an element
pub all_elements : {A : Type 0} (l : List A) → All (λ a. Memᴰ a l) l
all_elements [] = none
all_elements (x ∷ l) = also (Memᴰ.head refl) (all-weaken (λ a m. Memᴰ.tail m) (all_elements l))

-- the same for each number below n
pub flat_map_below : {A : Type 0} (f g : ℕ → List A) (n : ℕ) → ((k : ℕ) → k < n → f k ≡ g k) → flat_map f (numbers_below n) ≡ flat_map g (numbers_below n)
unfolding numbers_below flat_map
flat_map_below f g zero h = refl
flat_map_below f g (suc n) h =
    rw (flat_map_numbers_below f n, flat_map_numbers_below g n, h n (omega arith), flat_map_below f g n (λ k i. h k (omega arith)))

-- ---- the first put of a variable

pub first_top : (v : ℕ) (us : List ℕ) → first v us ≤ length us
unfolding first
first_top v [] = omega arith
first_top v (u ∷ us) = go (eqb u v) (first_top v us)
  where
    go : (b : Bool) → first v us ≤ length us → cond b zero (suc (first v us)) ≤ suc (length us)
    go true h = omega arith
    go false h = omega arith

-- one that is there is at its first put
pub first_found : (v : ℕ) (us : List ℕ) → first v us < length us → get_or us (first v us) 0 ≡ v
unfolding first
first_found v [] h = absurd (omega arith)
first_found v (u ∷ us) h = go (eqb u v) refl h (first_found v us)
  where
    go : (b : Bool) → eqb u v ≡ b → cond b zero (suc (first v us)) < suc (length us) → (first v us < length us → get_or us (first v us) 0 ≡ v)
        → get_or (u ∷ us) (cond b zero (suc (first v us))) 0 ≡ v
    go true e h ih = eqb-true u v e
    go false e h ih = ih (omega arith)

-- each element has its first put
pub first_known : (us : List ℕ) → All (λ v. first v us < length us) us
unfolding first
first_known [] = none
first_known (u ∷ us) = also (here u) (all-weaken later (first_known us))
  where
    here : (u : ℕ) → cond (eqb u u) zero (suc (first u us)) < suc (length us)
    here u = rw (eq-eqb u u refl) (omega arith)

    later : (v : ℕ) → first v us < length us → cond (eqb u v) zero (suc (first v us)) < suc (length us)
    later v h = go (eqb u v)
      where
        go : (b : Bool) → cond b zero (suc (first v us)) < suc (length us)
        go true = omega arith
        go false = omega arith

-- a renaming that keeps variables apart keeps the first puts
pub first_map : (f : ℕ → ℕ) (P : ℕ → Type 0) → ((u v : ℕ) → P u → P v → f u ≡ f v → u ≡ v) → (v : ℕ) → P v → {us : List ℕ} → All P us
    → first (f v) (map f us) ≡ first v us
unfolding first
first_map f P inj v h none = refl
first_map f P inj v h (also {x = u} {xs = us} g p) = go (eqb u v) refl (eqb (f u) (f v)) refl (first_map f P inj v h p)
  where
    go : (b : Bool) → eqb u v ≡ b → (c : Bool) → eqb (f u) (f v) ≡ c → first (f v) (map f us) ≡ first v us
        → cond (eqb (f u) (f v)) zero (suc (first (f v) (map f us))) ≡ cond (eqb u v) zero (suc (first v us))
    go true e true e' ih = rw (e, e')
    go true e false e' ih = let z : eqb (f u) (f v) ≡ true = eq-eqb (f u) (f v) (ap f (eqb-true u v e)) in rw (z, e)
    go false e true e' ih = let z : eqb u v ≡ true = eq-eqb u v (inj u v g h (eqb-true (f u) (f v) e')) in rw (z, e')
    go false e false e' ih = rw (e, e', ih)

-- ---- how many are new

module _ (o : ℕ → ℕ) where
  pub new_below_le : (m : ℕ) → new_below o m ≤ m
  unfolding new_below
  new_below_le zero = omega arith
  new_below_le (suc m) = go (eqb (o m) m) (new_below_le m)
    where
      go : (b : Bool) → new_below o m ≤ m → new_below o m + cond b 1 0 ≤ suc m
      go true h = omega arith
      go false h = omega arith

  pub new_below_new : (m : ℕ) → o m ≡ m → new_below o (suc m) ≡ suc (new_below o m)
  unfolding new_below
  new_below_new m e = rw (eq-eqb (o m) m e) (omega arith)

  pub new_below_old : (m : ℕ) → (o m ≡ m → ⊥) → new_below o (suc m) ≡ new_below o m
  unfolding new_below
  new_below_old m e = rw (ne_eqb (o m) m e) (omega arith)

  -- it grows
  pub new_below_up : (m k : ℕ) → new_below o m ≤ new_below o (m + k)
  unfolding new_below
  new_below_up m zero = rw add-zero (omega arith)
  new_below_up m (suc k) = rw add-suc (go (eqb (o (m + k)) (m + k)) (new_below_up m k))
    where
      go : (b : Bool) → new_below o m ≤ new_below o (m + k) → new_below o m ≤ new_below o (m + k) + cond b 1 0
      go true h = omega arith
      go false h = omega arith

  pub new_below_grows : (m n : ℕ) → m < n → o m ≡ m → new_below o m < new_below o n
  new_below_grows m n h e =
      let k : ℕ = n - suc m in
      let f : suc m + k ≡ n = omega arith in
      let g : new_below o (suc m) ≤ new_below o n = rw f at (new_below_up (suc m) k) in
      omega (arith, new_below_new m e)

-- it looks at the puts before m only
pub new_below_same : (o p : ℕ → ℕ) (m : ℕ) → ((k : ℕ) → k < m → o k ≡ p k) → new_below o m ≡ new_below p m
unfolding new_below
new_below_same o p zero h = refl
new_below_same o p (suc m) h = rw (h m (omega arith), new_below_same o p m (λ k i. h k (omega arith)))
