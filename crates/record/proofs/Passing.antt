-- The numbers that pass a test: in order, in pieces, and what they add up to.
use mathlib.Core.Path.{◌≡◌, refl, sym, ap, ap₂, ◌∙◌}
use mathlib.Core.Bool.{Bool, true, false, cond, false≢true}
use mathlib.Core.List.{List, ◌∷◌, ◌++◌, map, Memᴰ}
use Prim.Native.Nat.{ℕ, zero, suc, ◌+◌, ◌≤◌, ◌<◌}
use native.Mathlib.Omega.{arith}
use native.Mathlib.Decide.{ℕ_discrete}
use native.Mathlib.Nat.{suc-add}
use Rattle.clause.specs.Lists.{All, none, also, Each, nobody, besides}
use Rattle.clause.proofs.Lists.{all_mem, all-weaken}
use Rattle.record.specs.Tally.{total, passing}

-- ---- which they are

-- one that passes is among them
pub passing_has : (p : ℕ → Bool) (c n k : ℕ) → n ≤ k → k < n + c → p k ≡ true → Memᴰ k (passing p n c)
unfolding passing
passing_has p zero n k h l e = absurd (omega arith)
passing_has p (suc c) n k h l e = go (p n) refl (λ i. passing_has p c (n + 1) k i (omega arith) e)
  where
    go : (b : Bool) → p n ≡ b → (n + 1 ≤ k → Memᴰ k (passing p (n + 1) c)) → Memᴰ k (cond b (n ∷ passing p (n + 1) c) (passing p (n + 1) c))
    go true q ih = first (ℕ_discrete k n)
      where
        first : Dec (k ≡ n) → Memᴰ k (n ∷ passing p (n + 1) c)
        first (yes i) = Memᴰ.head i
        first (no i) = Memᴰ.tail (ih (omega arith))
    go false q ih = ih (other (ℕ_discrete k n))
      where
        other : Dec (k ≡ n) → n + 1 ≤ k
        other (yes i) = absurd (false≢true (sym q ∙ ap p (sym i) ∙ e))
        other (no i) = omega arith

-- one of them is not below the first, and passes
pub record Passes (p : ℕ → Bool) (n k : ℕ) : Type 0 where
  pub from : n ≤ k
  pub test : p k ≡ true

-- each of them does
pub passing_all : (p : ℕ → Bool) (c n : ℕ) → All (Passes p n) (passing p n c)
unfolding passing
passing_all p zero n = none
passing_all p (suc c) n = go (p n) refl (all-weaken (λ k h. record { from = omega (arith, h.from); test = h.test }) (passing_all p c (n + 1)))
  where
    go : (b : Bool) → p n ≡ b → All (Passes p n) (passing p (n + 1) c) → All (Passes p n) (cond b (n ∷ passing p (n + 1) c) (passing p (n + 1) c))
    go true q ih = also {x = n} (record { from = omega arith; test = q }) ih
    go false q ih = ih

-- they rise
pub passing_rises : (p : ℕ → Bool) (c n : ℕ) → Each ◌<◌ (passing p n c)
unfolding passing
passing_rises p zero n = nobody
passing_rises p (suc c) n = go (p n) (all-weaken (λ k h. omega (arith, h.from)) (passing_all p c (n + 1))) (passing_rises p c (n + 1))
  where
    go : (b : Bool) → All (λ k. n < k) (passing p (n + 1) c) → Each ◌<◌ (passing p (n + 1) c) → Each ◌<◌ (cond b (n ∷ passing p (n + 1) c) (passing p (n + 1) c))
    go true a ih = besides a ih
    go false a ih = ih

-- ---- in pieces

-- some and then others
pub passing_append : (p : ℕ → Bool) (a b n : ℕ) → passing p n (a + b) ≡ passing p n a ++ passing p (n + a) b
unfolding passing
passing_append p zero b n = let e : 0 + b ≡ b = omega arith in let f : n + 0 ≡ n = omega arith in rw (e, f)
passing_append p (suc a) b n = ap (passing p n) (suc-add a b) ∙ go (p n) (passing_append p a b (n + 1))
  where
    f : n + suc a ≡ n + 1 + a
    f = omega arith

    go : (t : Bool) → passing p (n + 1) (a + b) ≡ passing p (n + 1) a ++ passing p (n + 1 + a) b
        → cond t (n ∷ passing p (n + 1) (a + b)) (passing p (n + 1) (a + b))
        ≡ cond t (n ∷ passing p (n + 1) a) (passing p (n + 1) a) ++ passing p (n + suc a) b
    go true ih = rw f (ap (λ (l : List ℕ). n ∷ l) ih)
    go false ih = rw f ih

-- the same test, and the same of each number
pub passing_same : {A : Type 0} (p q : ℕ → Bool) (f g : ℕ → A) (c n : ℕ) → ((k : ℕ) → n ≤ k → k < n + c → (p k ≡ q k) × (p k ≡ true → f k ≡ g k))
    → map f (passing p n c) ≡ map g (passing q n c)
unfolding passing
passing_same p q f g zero n h = refl
passing_same {A} p q f g (suc c) n h =
    go (p n) refl (q n) (h n (omega arith) (omega arith)).0 (h n (omega arith) (omega arith)).1 (passing_same p q f g c (n + 1) (λ k i j. h k (omega arith) (omega arith)))
  where
    go : (a : Bool) → p n ≡ a → (b : Bool) → p n ≡ b → (p n ≡ true → f n ≡ g n) → map f (passing p (n + 1) c) ≡ map g (passing q (n + 1) c)
        → map f (cond a (n ∷ passing p (n + 1) c) (passing p (n + 1) c)) ≡ map g (cond b (n ∷ passing q (n + 1) c) (passing q (n + 1) c))
    go true i true j e ih = ap₂ (λ (x : A) (l : List A). x ∷ l) (e i) ih
    go true i false j e ih = absurd (false≢true (sym j ∙ i))
    go false i true j e ih = absurd (false≢true (sym i ∙ j))
    go false i false j e ih = ih

-- ---- sums over rising numbers

module _ (m a : ℕ) (f g : ℕ → ℕ) (others : (n : ℕ) → (n ≡ m → ⊥) → g n ≡ f n) where
  without : {l : List ℕ} → All (λ n. n ≡ m → ⊥) l → total (map g l) ≡ total (map f l)
  without none = refl
  without (also {x = x} h r) = omega (arith, others x h, without r)

  after_all : {x : ℕ} {l : List ℕ} → m ≡ x → All (λ k. x < k) l → All (λ n. n ≡ m → ⊥) l
  after_all e = all-weaken (λ k h i. omega arith)

  -- one of them is more by a
  pub one_more : {l : List ℕ} → Each ◌<◌ l → Memᴰ m l → g m ≡ a + f m → total (map g l) ≡ a + total (map f l)
  one_more nobody n e = elim n [ ]
  one_more (besides {x = x} h r) (Memᴰ.head i) e =
      let k : g x ≡ a + f x = rw (sym i) e in
      omega (arith, k, without (after_all i h))
  one_more (besides {x = x} h r) (Memᴰ.tail i) e = omega (arith, others x (λ j. omega (arith, all_mem h i)), one_more r i e)
