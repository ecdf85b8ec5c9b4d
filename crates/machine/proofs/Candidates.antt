-- A run looks at as many candidates as its sequence has Firsts.
use mathlib.Core.Path.{◌≡◌, refl, fun_ext}
use mathlib.Core.List.{List, [], ◌∷◌, ◌++◌}
use Prim.Native.Nat.{ℕ, ◌≤◌}
use native.Mathlib.Omega.{arith}
use lib.ListN.{length, take}
use Rattle.machine.specs.Instr.{Instr, First, Do, Success}
use Rattle.machine.specs.Machine.{State, initial, next, stuck, require, step, starting, used, start, enter, run}
use Rattle.machine.proofs.Effects.{fails≢next, fails≢stuck, bind_next, stuck_again}
use Rattle.machine.proofs.Codes.{firsts}

module _ (d : List ℕ) where
  -- the first candidate is always taken
  pub enter_initial : (j : ℕ) → enter d j initial ≡ next (starting d initial j)
  unfolding enter require used
  enter_initial j = refl

  -- a run that ends has had enough of them
  pub run_enough : (sequence : List Instr) (js : List ℕ) (s t : State) → run d sequence js s ≡ next t → firsts sequence ≤ length js
  unfolding run firsts start
  run_enough [] js s t e = omega arith
  run_enough (First ∷ sequence) [] s t e = absurd (fails≢next e)
  run_enough (First ∷ sequence) (j ∷ js) s t e =
      let (s₁, f, g) = bind_next (enter d j s) (run d sequence js) e in
      omega (arith, run_enough sequence js s₁ t g)
  run_enough (Do x ∷ sequence) js s t e =
      let (s₁, f, g) = bind_next (step d x s) (run d sequence js) e in
      run_enough sequence js s₁ t g
  run_enough (Success n ∷ sequence) js s t e = omega arith

  -- any more of them are not looked at
  pub run_take : (sequence : List Instr) (js : List ℕ) (s : State) → firsts sequence ≤ length js
      → run d sequence (take (firsts sequence) js) s ≡ run d sequence js s
  unfolding run firsts start
  run_take [] js s h = refl
  run_take (First ∷ sequence) [] s h = absurd (omega arith)
  run_take (First ∷ sequence) (j ∷ js) s h = rw (fun_ext (λ t. run_take sequence js t (omega arith)))
  run_take (Do x ∷ sequence) js s h = rw (fun_ext (λ t. run_take sequence js t h))
  run_take (Success n ∷ sequence) js s h = refl

  -- a run that is stuck stays so with more of them
  pub run_stuck : (sequence : List Instr) (js ks : List ℕ) (s : State) → run d sequence js s ≡ stuck → run d sequence (js ++ ks) s ≡ stuck
  unfolding run start
  run_stuck [] js ks s e = e
  run_stuck (First ∷ sequence) [] ks s e = absurd (fails≢stuck e)
  run_stuck (First ∷ sequence) (j ∷ js) ks s e = stuck_again (enter d j s) (run d sequence js) (run d sequence (js ++ ks)) (λ t. run_stuck sequence js ks t) e
  run_stuck (Do x ∷ sequence) js ks s e = stuck_again (step d x s) (run d sequence js) (run d sequence (js ++ ks)) (λ t. run_stuck sequence js ks t) e
  run_stuck (Success n ∷ sequence) js ks s e = e
