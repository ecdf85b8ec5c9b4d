-- Two antichains that cover each other are the same but for elements that are related both ways, and equally long.
use mathlib.Core.Path.{◌≡◌, refl, sym, ◌∙◌}
use mathlib.Core.Logic.{◌⊎◌, inl, inr}
use mathlib.Core.List.{List, ◌∷◌, Memᴰ}
use Prim.Native.Nat.{suc, ◌≤◌}
use native.Mathlib.Omega.{arith}
use lib.ListN.{length}
use Rattle.clause.specs.Lists.{All, none, also, Each, nobody, besides}
use Rattle.clause.proofs.Lists.{all_mem, all-weaken}
use Rattle.record.specs.Antichain.{Antichain}
use Rattle.readback.proofs.Lists.{all_elements}

-- a list without one place: all other elements are left
record Without {A : Type 0} (y : A) (ys : List A) : Type 0 where
  left : List A
  shorter : length ys ≡ suc (length left)
  kept : (b : A) → Memᴰ b ys → (b ≡ y) ⊎ Memᴰ b left

without : {A : Type 0} {y : A} {ys : List A} → Memᴰ y ys → Without y ys
without {A} {y} (Memᴰ.head {x = z} {xs = ys} e) = record { left = ys; shorter = refl; kept = go }
  where
    go : (b : A) → Memᴰ b (z ∷ ys) → (b ≡ y) ⊎ Memᴰ b ys
    go b (Memᴰ.head f) = inl (f ∙ sym e)
    go b (Memᴰ.tail m) = inr m
without {A} {y} (Memᴰ.tail {x = z} {xs = ys} m) =
    let w = without m in
    record { left = z ∷ w.left; shorter = omega (arith, w.shorter); kept = go w }
  where
    on : {b : A} {l : List A} → (b ≡ y) ⊎ Memᴰ b l → (b ≡ y) ⊎ Memᴰ b (z ∷ l)
    on (inl f) = inl f
    on (inr n) = inr (Memᴰ.tail n)

    go : (w : Without y ys) (b : A) → Memᴰ b (z ∷ ys) → (b ≡ y) ⊎ Memᴰ b (z ∷ w.left)
    go w b (Memᴰ.head f) = inr (Memᴰ.head f)
    go w b (Memᴰ.tail n) = on (w.kept b n)

-- ---- elements that have partners, no two the same one, are no more than these

module _ {A : Type 0} (E : A → A → Type 0) (join : (a b y : A) → E a y → E b y → E a b) where
  abbrev Partners : List A → List A → Type 0
  Partners ys xs = All (λ x. (y : A) × Memᴰ y ys × E x y) xs

  -- the partner of one is no other's
  spare : (x y : A) (ys : List A) (w : Without y ys) → E x y → {xs : List A} → All (λ b. E x b → ⊥) xs → Partners ys xs → Partners w.left xs
  spare x y ys w e none none = none
  spare x y ys w e (also {x = b} u us) (also (z, m, f) p) = also (go (w.kept z m)) (spare x y ys w e us p)
    where
      go : (z ≡ y) ⊎ Memᴰ z w.left → (y : A) × Memᴰ y w.left × E b y
      go (inl g) = absurd (u (join x b y e (rw g at f)))
      go (inr n) = (z, n, f)

  no_more : {xs : List A} → Each (λ a b. E a b → ⊥) xs → (ys : List A) → Partners ys xs → length xs ≤ length ys
  no_more nobody ys none = omega arith
  no_more (besides {x = x} {xs = xs} u us) ys (also (y, m, e) p) =
      let w = without m in
      omega (arith, w.shorter, no_more us w.left (spare x y ys w e u p))

-- ---- a transitive relation

module _ {A : Type 0} (R : A → A → Type 0) (trans : (a b c : A) → R a b → R b c → R a c) where
  -- each element of the first list has one of the second that is related to it
  abbrev pub Covered : List A → List A → Type 0
  Covered xs ys = (x : A) → Memᴰ x xs → (y : A) × Memᴰ y ys × R y x

  -- two are related both ways
  abbrev Both : A → A → Type 0
  Both a b = R a b × R b a

  join : (a b y : A) → Both a y → Both b y → Both a b
  join a b y e f = (trans a y b e.0 f.1, trans b y a f.0 e.1)

  -- related elements of an antichain are the same
  same : {xs : List A} → Antichain R xs → (a b : A) → Memᴰ a xs → Memᴰ b xs → R a b → a ≡ b
  same nobody a b m n r = elim m [ ]
  same (besides u us) a b (Memᴰ.head e) (Memᴰ.head f) r = e ∙ sym f
  same (besides u us) a b (Memᴰ.head e) (Memᴰ.tail m) r = absurd ((all_mem u m).0 (rw e at r))
  same (besides u us) a b (Memᴰ.tail n) (Memᴰ.head f) r = absurd ((all_mem u n).1 (rw f at r))
  same (besides u us) a b (Memᴰ.tail n) (Memᴰ.tail m) r = same us a b n m r

  -- each element of an antichain is related both ways to the one that covers it, if that one is covered too
  pub both_ways : (xs ys : List A) → Antichain R xs → Covered xs ys → Covered ys xs → (x : A) → Memᴰ x xs → (y : A) × Memᴰ y ys × Both x y
  both_ways xs ys a c d x i =
      let (y, m, r) = c x i in
      let (z, n, s) = d y m in
      let e : z ≡ x = same a z x n i (trans z y x s r) in
      (y, m, (rw e at s, r))

  apart : {xs : List A} → Antichain R xs → Each (λ a b. Both a b → ⊥) xs
  apart nobody = nobody
  apart (besides u us) = besides (all-weaken (λ b h e. h.0 e.0) u) (apart us)

  no_longer : (xs ys : List A) → Antichain R xs → Covered xs ys → Covered ys xs → length xs ≤ length ys
  no_longer xs ys a c d = no_more Both join (apart a) ys (all-weaken (both_ways xs ys a c d) (all_elements xs))

  -- two antichains that cover each other are equally long
  pub equally_long : (xs ys : List A) → Antichain R xs → Antichain R ys → Covered xs ys → Covered ys xs → length xs ≡ length ys
  equally_long xs ys a b c d = omega (arith, no_longer xs ys a c d, no_longer ys xs b d c)
