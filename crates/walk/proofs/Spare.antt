-- The literals of a query that are not used on a path: one less with each candidate.
use mathlib.Core.Path.{◌≡◌, refl, ap}
use mathlib.Core.Bool.{Bool, true, false, cond}
use mathlib.Core.List.{List, [], ◌∷◌, ◌++◌}
use Prim.Native.Nat.{ℕ, zero, suc, ◌+◌, ◌≤◌, ◌<◌}
use native.Mathlib.Decide.{ℕ_discrete}
use native.Mathlib.Omega.{arith}
use lib.ListN.{length}
use Rattle.clause.specs.Clause.{literals}
use Rattle.machine.specs.Machine.{used}
use Rattle.machine.proofs.Used.{used_other, used_same, entered_new}
use Rattle.machine.proofs.Safe.{step_leaves}
use Rattle.walk.specs.Query.{machine}
use Rattle.walk.proofs.Bound.{Spares}

-- how many of n literals from j on are not used
free : (n j : ℕ) → List ℕ → ℕ
free zero j js = zero
free (suc n) j js = cond (used j js) 0 1 + free n (suc j) js

-- taking a literal before them leaves them, taking one of them leaves one less
free_out : (n j : ℕ) (js : List ℕ) (k : ℕ) → k < j → free n j (js ++ (k ∷ [])) ≡ free n j js
unfolding free
free_out zero j js k h = refl
free_out (suc n) j js k h = rw (used_other j js k (λ e. omega arith), free_out n (suc j) js k (omega arith))

free_less : (n j : ℕ) (js : List ℕ) (k : ℕ) → j ≤ k → k < j + n → used k js ≡ false → suc (free n j (js ++ (k ∷ []))) ≡ free n j js
unfolding free
free_less zero j js k h g u = absurd (omega arith)
free_less (suc n) j js k h g u = go (ℕ_discrete k j) (free_less n (suc j) js k)
  where
    go : Dec (k ≡ j) → (suc j ≤ k → k < suc j + n → used k js ≡ false → suc (free n (suc j) (js ++ (k ∷ []))) ≡ free n (suc j) js)
        → suc (free (suc n) j (js ++ (k ∷ []))) ≡ free (suc n) j js
    go (yes e) ih = let f = free_out n (suc j) js k (omega arith) in rw (e, used_same js j, rw e at u) (omega (arith, rw e at f))
    go (no e) ih = let f = ih (omega arith) (omega arith) u in rw (used_other j js k e) (omega (arith, f))

free_le : (n j : ℕ) (js : List ℕ) → free n j js ≤ n
unfolding free
free_le zero j js = omega arith
free_le (suc n) j js = go (used j js) (free_le n (suc j) js)
  where
    go : (b : Bool) → free n (suc j) js ≤ n → cond b 0 1 + free n (suc j) js ≤ suc n
    go true h = omega arith
    go false h = omega arith

-- one more of them to look at
free_over : (n j : ℕ) (js : List ℕ) → free n (suc j) js ≤ free (suc n) j js
unfolding free
free_over n j js = omega arith

free_taken : (n j : ℕ) (js : List ℕ) → used j js ≡ false → free n (suc j) js < free (suc n) j js
unfolding free
free_taken n j js u = rw u (omega arith)

pub spares : (d : List ℕ) → Spares (machine d)
spares d =
    record {
      spare = λ n j s. free n j s.chosen;
      over = λ n j s. free_over n j s.chosen;
      taken = λ n j s t e. free_taken n j s.chosen (entered_new d j s e).0;
      less = λ j s t h e. let f = entered_new d j s e in rw f.1 (omega (arith, free_less (length (literals d)) 0 s.chosen j (omega arith) (omega arith) f.0));
      few = λ s. free_le (length (literals d)) 0 s.chosen;
      steady = λ x s t e. ap (free (length (literals d)) 0) (step_leaves d s x e).candidates;
    }
