-- The table of put positions.
use mathlib.Core.Path.{◌≡◌, refl, ◌∙◌}
use mathlib.Core.Option.{Option, none, some}
use mathlib.Core.List.{List, [], ◌∷◌, ◌++◌, map, map-append}
use Prim.Native.Nat.{ℕ, zero, suc, ◌+◌, ◌-◌, ◌≤◌, ◌<◌}
use native.Mathlib.Nat.{zero-add, add-zero, add-suc, suc-add}
use lib.ListN.{length, get_or, drop, set, replicate, length-map, get_or-append}
use lib.Seq.{sets, sets-eq, get_or-append-add, get_or-drop}
use native.Mathlib.Omega.{arith}
use Rattle.machine.specs.Machine.{slots, unfilled}
use Rattle.clause.proofs.Lists.{get_or-map-lt}

-- the table that holds some positions
unfoldable pub filled : List ℕ → List (Option ℕ)
filled ps = sets unfilled 0 (map some ps)

pub length_unfilled : length unfilled ≡ slots
unfolding unfilled
length_unfilled = refl

sets_append : {A : Type 0} (l : List A) (i : ℕ) (xs ys : List A) → sets l i (xs ++ ys) ≡ sets (sets l i xs) (i + length xs) ys
sets_append l i [] ys = rw add-zero
sets_append l i (x ∷ xs) ys = sets_append (set l i x) (suc i) xs ys ∙ simp (add-suc, suc-add)

pub filled_more : (ps qs : List ℕ) → sets (filled ps) (length ps) (map some qs) ≡ filled (ps ++ qs)
unfolding filled
filled_more ps qs = simp (map-append, sets_append, zero-add, length-map)

-- what a filled table is
filled_is : (ps : List ℕ) → length ps ≤ slots → filled ps ≡ map some ps ++ drop (length ps) unfilled
unfolding filled
filled_is ps h = sets-eq (map some ps) unfilled 0 (simp (zero-add, length-map, length_unfilled) h) ∙ simp (zero-add, length-map)

pub filled_get : (ps : List ℕ) (i : ℕ) → length ps ≤ slots → i < length ps → get_or (filled ps) i none ≡ some (get_or ps i 0)
filled_get ps i h g = rw (filled_is ps h) (get_or-append (map some ps) _ none i (rw length-map g) ∙ get_or-map-lt some ps i 0 none g)

blank : {A : Type 0} (n k : ℕ) → ◌≡◌ {A = Option A} (get_or (replicate n none) k none) none
blank zero k = refl
blank (suc n) zero = refl
blank (suc n) (suc k) = blank n k

pub unfilled_get : (k : ℕ) → get_or unfilled k none ≡ none
unfolding unfilled
unfilled_get k = blank slots k

-- nothing stands behind the positions
pub filled_none : (ps : List ℕ) (k : ℕ) → length ps ≤ slots → length ps ≤ k → get_or (filled ps) k none ≡ none
filled_none ps k h g =
    let n : ℕ = k - length ps in
    let e : length (map {B = Option ℕ} some ps) + n ≡ k = rw length-map (omega arith) in
    let f : length ps + n ≡ k = omega arith in
    rw (filled_is ps h, ← e)
    (get_or-append-add (map some ps) (drop (length ps) unfilled) n none ∙ get_or-drop (length ps) unfilled n none ∙ rw f (unfilled_get k))
