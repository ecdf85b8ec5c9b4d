-- Where the siblings of a row stand, and what stands below them.
use mathlib.Core.Path.{◌≡◌, refl, sym, ap, ◌∙◌}
use mathlib.Core.Logic.{◌≢◌}
use mathlib.Core.List.{List, ◌∷◌, ◌++◌}
use Prim.Native.Nat.{ℕ, suc, ◌+◌, ◌-◌, ◌≤◌, ◌<◌}
use native.Mathlib.Omega.{arith}
use native.Mathlib.Decide.{ℕ_discrete}
use lib.ListN.{length, get_or, take, drop, length-drop}
use lib.Seq.{take_at, drop_at, drop-drop, drop-cons}
use borrow.Author.Tests.{eq-eqb, ne_eqb}
use Rattle.tree.specs.Keys.{next_key}
use Rattle.tree.specs.Forest.{Forest, empty, node, size, encode, extent_limit, Formed}
use Rattle.tree.specs.Laid.{key_of, extent_of}
use Rattle.tree.proofs.Words.{key_word, extent_word, length_encode}
use Rattle.index.specs.Inner.Heads.{place_of, below_key}

-- ---- at a node

module _ (k p i : ℕ) (B R : Forest) (o : ℕ) where
  pub place_here : i ≡ k → place_of k p (node i B R) o ≡ p
  unfolding place_of
  place_here e = rw (eq-eqb i k e)

  pub place_later : i ≢ k → place_of k p (node i B R) o ≡ place_of k (p + suc (size B)) R o
  unfolding place_of
  place_later e = rw (ne_eqb i k e)

module _ (k i : ℕ) (B R : Forest) where
  pub below_here : i ≡ k → below_key k (node i B R) ≡ B
  unfolding below_key
  below_here e = rw (eq-eqb i k e)

  pub below_later : i ≢ k → below_key k (node i B R) ≡ below_key k R
  unfolding below_key
  below_later e = rw (ne_eqb i k e)

-- ---- along a row

-- a key below all of its keys is not in it
pub place_absent : (b k p : ℕ) (F : Forest) (o : ℕ) → Formed b F → k < b → place_of k p F o ≡ o
unfolding place_of
place_absent b k p empty o f l = refl
place_absent b k p (node i B R) o f l =
    let n : i ≢ k = λ e. omega (arith, f.from) in
    place_later k p i B R o n ∙ place_absent (next_key i) k (p + suc (size B)) R o f.rest (omega (arith, f.from))

pub below_absent : (b k : ℕ) (F : Forest) → Formed b F → k < b → below_key k F ≡ empty
unfolding below_key
below_absent b k empty f l = refl
below_absent b k (node i B R) f l = below_later k i B R (λ e. omega (arith, f.from)) ∙ below_absent (next_key i) k R f.rest (omega (arith, f.from))

-- what stands for no place matters only where there is none
pub place_other : (k p : ℕ) (F : Forest) (o : ℕ) → 1 ≤ p → (place_of k p F 0 ≡ 0 → o ≡ 0) → place_of k p F o ≡ place_of k p F 0
unfolding place_of
place_other k p empty o l h = h refl
place_other k p (node i B R) o l h = go (ℕ_discrete i k) (place_other k (p + suc (size B)) R o (omega arith))
  where
    go : Dec (i ≡ k) → ((place_of k (p + suc (size B)) R 0 ≡ 0 → o ≡ 0) → place_of k (p + suc (size B)) R o ≡ place_of k (p + suc (size B)) R 0)
        → place_of k p (node i B R) o ≡ place_of k p (node i B R) 0
    go (yes e) ih = place_here k p i B R o e ∙ sym (place_here k p i B R 0 e)
    go (no n) ih = place_later k p i B R o n ∙ ih (λ z. h (place_later k p i B R 0 n ∙ z)) ∙ sym (place_later k p i B R 0 n)

-- where there is no place, nothing stands below
pub none_below : (k p : ℕ) (F : Forest) → 1 ≤ p → place_of k p F 0 ≡ 0 → below_key k F ≡ empty
unfolding place_of below_key
none_below k p empty l z = refl
none_below k p (node i B R) l z = go (ℕ_discrete i k) (none_below k (p + suc (size B)) R (omega arith))
  where
    go : Dec (i ≡ k) → (place_of k (p + suc (size B)) R 0 ≡ 0 → below_key k R ≡ empty) → below_key k (node i B R) ≡ empty
    go (yes e) ih = absurd (omega (arith, place_here k p i B R 0 e))
    go (no n) ih = below_later k i B R n ∙ ih (sym (place_later k p i B R 0 n) ∙ z)

-- ---- in the words

-- the words from p on are those of a node and of its further siblings
module _ (W : List ℕ) (p i : ℕ) (B R : Forest) (small : length W < extent_limit) (w : drop p W ≡ encode (node i B R)) where
  pub node_room : p + size (node i B R) ≡ length W
  node_room = let e : length W - p ≡ size (node i B R) = sym (length-drop p W) ∙ ap length w ∙ length_encode (node i B R) in omega arith

  first : get_or W p 0 ∷ drop (suc p) W ≡ encode (node i B R)
  first = sym (drop-cons W p 0 (omega (arith, node_room))) ∙ w

  head_of : {x y : ℕ} {xs ys : List ℕ} → x ∷ xs ≡ y ∷ ys → x ≡ y
  head_of e = ap (λ (l : List ℕ). get_or l 0 0) e

  tail_of : {x y : ℕ} {xs ys : List ℕ} → x ∷ xs ≡ y ∷ ys → xs ≡ ys
  tail_of e = ap (drop 1) e

  pub node_key : key_of (get_or W p 0) ≡ i
  node_key = ap key_of (head_of first) ∙ key_word i (suc (size B)) (omega (arith, node_room))

  pub node_extent : extent_of (get_or W p 0) ≡ suc (size B)
  node_extent = ap extent_of (head_of first) ∙ extent_word i (suc (size B)) (omega (arith, node_room))

  after : drop (suc p) W ≡ encode B ++ encode R
  after = tail_of first

  pub node_below : take (size B) (drop (suc p) W) ≡ encode B
  node_below = ap (take (size B)) after ∙ take_at (encode B) (encode R) (size B) (length_encode B)

  pub node_rest : drop (p + suc (size B)) W ≡ encode R
  node_rest =
      let e : suc p + size B ≡ p + suc (size B) = omega arith in
      ap (λ (n : ℕ). drop n W) (sym e) ∙ sym (drop-drop (size B) (suc p) W) ∙ ap (drop (size B)) after ∙ drop_at (encode B) (encode R) (size B) (length_encode B)

-- a place found: a word whose extent counts it and what stands below it
pub record Found (W : List ℕ) (a : ℕ) (B : Forest) : Type 0 where
  pub extent : extent_of (get_or W a 0) ≡ suc (size B)
  pub inside : a + suc (size B) ≤ length W
  pub words : take (size B) (drop (suc a) W) ≡ encode B
  pub formed : Formed 0 B

pub found_at : (b : ℕ) (W : List ℕ) (k p : ℕ) (F : Forest) → length W < extent_limit → drop p W ≡ encode F → Formed b F → place_of k p F 0 ≢ 0
    → Found W (place_of k p F 0) (below_key k F)
unfolding place_of
found_at b W k p empty s w f n = absurd (n refl)
found_at b W k p (node i B R) s w f n = go (ℕ_discrete i k) (found_at (next_key i) W k (p + suc (size B)) R s (node_rest W p i B R s w) f.rest)
  where
    go : Dec (i ≡ k) → (place_of k (p + suc (size B)) R 0 ≢ 0 → Found W (place_of k (p + suc (size B)) R 0) (below_key k R))
        → Found W (place_of k p (node i B R) 0) (below_key k (node i B R))
    go (yes e) ih =
        rw (place_here k p i B R 0 e, below_here k i B R e)
        (record {
          extent = node_extent W p i B R s w;
          inside = omega (arith, node_room W p i B R s w);
          words = node_below W p i B R s w;
          formed = f.below;
        })
    go (no m) ih = rw (place_later k p i B R 0 m, below_later k i B R m) (ih (λ z. n (place_later k p i B R 0 m ∙ z)))
