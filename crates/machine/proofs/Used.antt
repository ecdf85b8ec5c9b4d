-- Literals that are used on a path, lists of numbers that all differ, and what a First does with them.
use mathlib.Core.Path.{◌≡◌, refl, sym, ap, ◌∙◌}
use mathlib.Core.Bool.{Bool, true, false, not, ◌||◌, or-false, or-true, or_assoc}
use mathlib.Core.List.{List, [], ◌∷◌, ◌++◌}
use Prim.Native.Nat.{ℕ, zero, suc, ◌+◌, ◌<◌}
use native.Mathlib.Decide.{dec_lt}
use native.Mathlib.Omega.{arith}
use lib.Dec.{eqb, ltb}
use lib.ListN.{length, get_or, length-append, get_or-append}
use lib.Seq.{get_or-append_seam}
use borrow.Author.Tests.{eq-eqb, ne_eqb, eqb-true, eqb-false, lt-ltb}
use Rattle.clause.specs.Lists.{Injective}
use Rattle.clause.specs.Clause.{max_literals}
use Rattle.clause.proofs.Lists.{length-snoc}
use Rattle.machine.specs.Machine.{State, next, fails, stuck, require, starting, used, enter}
use Rattle.machine.proofs.Effects.{fails≢next, stuck≢next}

-- a number that is not used has no place
unused_place : (j : ℕ) (l : List ℕ) → used j l ≡ false → (i : ℕ) → i < length l → get_or l i 0 ≡ j → ⊥
unfolding used
unused_place j [] e i h g = omega arith
unused_place j (x ∷ l) e i h g = go (eqb x j) refl e i h g (unused_place j l)
  where
    go : (b : Bool) → eqb x j ≡ b → (b || used j l) ≡ false → (i : ℕ) → i < length (x ∷ l) → get_or (x ∷ l) i 0 ≡ j
        → (used j l ≡ false → (i : ℕ) → i < length l → get_or l i 0 ≡ j → ⊥) → ⊥
    go true f e i h g ih = cc
    go false f e zero h g ih = eqb-false x j f g
    go false f e (suc i) h g ih = ih e i (omega arith) g

-- one that is used has one
used_place : (j : ℕ) (l : List ℕ) → used j l ≡ true → (i : ℕ) × (i < length l) × (get_or l i 0 ≡ j)
unfolding used
used_place j [] e = cc
used_place j (x ∷ l) e = go (eqb x j) refl e (used_place j l)
  where
    go : (b : Bool) → eqb x j ≡ b → (b || used j l) ≡ true → (used j l ≡ true → (i : ℕ) × (i < length l) × (get_or l i 0 ≡ j))
        → (i : ℕ) × (i < length (x ∷ l)) × (get_or (x ∷ l) i 0 ≡ j)
    go true f e ih = (0, omega arith, eqb-true x j f)
    go false f e ih = let (i, h, g) = ih e in (suc i, omega arith, g)

-- a literal is used after it is taken, any other as before
used_snoc : (i : ℕ) (js : List ℕ) (j : ℕ) → used i (js ++ (j ∷ [])) ≡ (used i js || eqb j i)
unfolding used
used_snoc i [] j = or-false (eqb j i)
used_snoc i (k ∷ js) j = rw (used_snoc i js j) (sym (or_assoc (eqb k i) (used i js) (eqb j i)))

pub used_other : (i : ℕ) (js : List ℕ) (j : ℕ) → (j ≡ i → ⊥) → used i (js ++ (j ∷ [])) ≡ used i js
used_other i js j n = used_snoc i js j ∙ rw (ne_eqb j i n) (or-false (used i js))

pub used_same : (js : List ℕ) (j : ℕ) → used j (js ++ (j ∷ [])) ≡ true
used_same js j = used_snoc j js j ∙ rw (eq-eqb j j refl) (or-true (used j js))

-- no number stands at two places
abbrev pub Differ : List ℕ → Type 0
Differ l = Injective (length l) (λ i. get_or l i 0)

-- no numbers differ
pub differ_none : Differ []
differ_none i j h g e = absurd (omega arith)

-- one more that is not used
pub differ_more : (l : List ℕ) (j : ℕ) → Differ l → used j l ≡ false → Differ (l ++ (j ∷ []))
differ_more l j D u a b h g e = go (dec_lt a (length l)) (dec_lt b (length l))
  where
    low : (i : ℕ) → i < length l → get_or (l ++ (j ∷ [])) i 0 ≡ get_or l i 0
    low i k = get_or-append l (j ∷ []) 0 i k

    high : (i : ℕ) → i < length (l ++ (j ∷ [])) → (i < length l → ⊥) → i ≡ length l
    high i k n = omega (arith, rw length-snoc at k)

    last : (i : ℕ) → i ≡ length l → get_or (l ++ (j ∷ [])) i 0 ≡ j
    last i k = rw k (get_or-append_seam l j [] 0)

    go : Dec (a < length l) → Dec (b < length l) → a ≡ b
    go (yes x) (yes y) = D a b x y (sym (low a x) ∙ e ∙ low b y)
    go (yes x) (no y) = absurd (unused_place j l u a x (sym (low a x) ∙ e ∙ last b (high b g y)))
    go (no x) (yes y) = absurd (unused_place j l u b y (sym (low b y) ∙ sym e ∙ last a (high a h x)))
    go (no x) (no y) = high a h x ∙ sym (high b g y)

-- a used one does not differ from all
pub differ_used : (l : List ℕ) (j : ℕ) (js : List ℕ) → used j l ≡ true → Differ (l ++ j ∷ js) → ⊥
differ_used l j js u D =
    let (i, h, e) = used_place j l u in
    let long : length (l ++ j ∷ js) ≡ length l + suc (length js) = length-append l (j ∷ js) in
    let same : i ≡ length l =
    D i (length l) (omega arith) (omega arith) (get_or-append l (j ∷ js) 0 i h ∙ e ∙ sym (get_or-append_seam l j js 0)) in
    omega arith

-- ---- the next candidate

-- where there is room, a literal that is not used is taken, and one that is used is passed over
module _ (d : List ℕ) (j : ℕ) (s : State) (few : length s.chosen < max_literals) where
  pub enter_new : used j s.chosen ≡ false → enter d j s ≡ next (starting d s j)
  unfolding enter require
  enter_new u = rw (lt-ltb (length s.chosen) max_literals few, u)

  pub enter_used : used j s.chosen ≡ true → enter d j s ≡ fails
  unfolding enter require
  enter_used u = rw (lt-ltb (length s.chosen) max_literals few, u)

-- one that is taken was not used, and is then the latest
pub entered_new : (d : List ℕ) (j : ℕ) (s : State) {t : State} → enter d j s ≡ next t
    → (used j s.chosen ≡ false) × (t.chosen ≡ s.chosen ++ (j ∷ []))
unfolding enter require
entered_new d j s {t} e = go (ltb (length s.chosen) max_literals) (used j s.chosen) refl e
  where
    go : (b u : Bool) → used j s.chosen ≡ u → require stuck b (require fails (not u) (next (starting d s j))) ≡ next t
        → (used j s.chosen ≡ false) × (t.chosen ≡ s.chosen ++ (j ∷ []))
    go false u f e = absurd (stuck≢next e)
    go true true f e = absurd (fails≢next e)
    go true false f e = let g : starting d s j ≡ t = cc in (f, ap (λ (t : State). t.chosen) (sym g))
