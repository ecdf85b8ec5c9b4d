-- The answer of the walk without a budget, in terms of runs along the forest's paths.
use Prim.Native.Nat.{ℕ}
use native.Mathlib.Omega.{arith}
use mathlib.Core.Path.{◌≡◌, refl, sym, ap, ◌∙◌}
use mathlib.Core.Logic.{inl, inr}
use mathlib.Core.Option.{Option, none, some}
use mathlib.Core.List.{List, [], ◌∷◌}
use Rattle.clause.specs.Lists.{none as All-none, also}
use Rattle.machine.specs.Instr.{Instr, First, Do, Success, instr_of}
use Rattle.machine.specs.Machine.{next}
use Rattle.tree.specs.Forest.{Forest, empty, node}
use Rattle.walk.specs.Walk.{Machine, always, walk}
use Rattle.machine.proofs.Effects.{fails≢next, bind_next}
use Rattle.walk.proofs.Paths.{LeadsAt, Leads, run, Candidates, Finds}
use Rattle.walk.proofs.Search.{Decides, decides_map, SolvesAt, Solves, Smooth, decides_walk}

module _ (M : Machine) where
  module _ (i : ℕ) (B : Forest) (n : ℕ) (t : M.State) where
    -- a node by which something is found has a path that runs
    solves→finds-at :
        ((s : M.State) → Solves M B s n t → Finds M B s n t)
        → (o : Option Instr) → instr_of i ≡ o → (s : M.State) → SolvesAt M o (Solves M B) s n t
        → (p : List ℕ) × (js : List ℕ) × LeadsAt o i (Leads B) p n × Candidates M js × (run M p js s ≡ next t)
    solves→finds-at ih none e s g = absurd g
    solves→finds-at ih (some (Success m)) e s (s₁, ends, g) = ([], [], (refl, g.0), All-none, ends ∙ ap next (sym g.1))
    solves→finds-at ih (some First) e s (j, l, u, (s₁, enters, g)) =
        let (p, js, path, cs, r) = ih s₁ g in
        (i ∷ p, j ∷ js, (p, refl, path), also {x = j} (omega arith) cs, rw (e, enters) r)
    solves→finds-at ih (some (Do x)) e s (s₁, steps, g) =
        let (p, js, path, cs, r) = ih s₁ g in
        (i ∷ p, js, (p, refl, path), cs, rw (e, steps) r)

    -- a path by a node that runs is found by it
    finds→solves-at :
        ((s : M.State) → Finds M B s n t → Solves M B s n t)
        → (o : Option Instr) → instr_of i ≡ o → (s : M.State) (p : List ℕ) (js : List ℕ) → LeadsAt o i (Leads B) p n → Candidates M js
        → run M p js s ≡ next t
        → SolvesAt M o (Solves M B) s n t
    finds→solves-at ih none e s p js path cs r = absurd path
    finds→solves-at ih (some (Success m)) e s p js (is, at) cs r = (t, rw is at r, (at, refl))
    finds→solves-at ih (some First) e s p [] (p', is, path) cs r = absurd (fails≢next (rw (is, e) at r))
    finds→solves-at ih (some First) e s p (j ∷ js) (p', is, path) (also u cs) r =
        let (s₁, enters, r') = bind_next (M.enter j s) (run M p' js) (rw (is, e) at r) in
        (j, omega arith, omega arith, (s₁, enters, ih s₁ (p', js, path, cs, r')))
    finds→solves-at ih (some (Do x)) e s p js (p', is, path) cs r =
        let (s₁, steps, r') = bind_next (M.step x s) (run M p' js) (rw (is, e) at r) in
        (s₁, steps, ih s₁ (p', js, path, cs, r'))

  -- what is found has a path that runs
  solves→finds : (F : Forest) (n : ℕ) (t s : M.State) → Solves M F s n t → Finds M F s n t
  solves→finds empty n t s g = elim g [ ]
  solves→finds (node i B R) n t s (inl g) =
      let (p, js, path, cs, e) = solves→finds-at i B n t (solves→finds B n t) (instr_of i) refl s g in
      (p, js, inl path, cs, e)
  solves→finds (node i B R) n t s (inr g) =
      let (p, js, path, cs, e) = solves→finds R n t s g in
      (p, js, inr path, cs, e)

  -- a path that runs is found
  finds→solves : (F : Forest) (n : ℕ) (t s : M.State) → Finds M F s n t → Solves M F s n t
  finds→solves empty n t s (p, js, path, cs, r) = path
  finds→solves (node i B R) n t s (p, js, inl path, cs, e) =
      inl (finds→solves-at i B n t (λ s₁ f. finds→solves B n t s₁ (f.0, f.1, f.2, f.3, f.4)) (instr_of i) refl s p js path cs e)
  finds→solves (node i B R) n t s (p, js, inr path, cs, e) = inr (finds→solves R n t s (p, js, path, cs, e))

  -- without a budget, and where no step is stuck
  pub decides : (F : Forest) (s : M.State) (c : ℕ) → Smooth M F s → Decides (Finds M F s) (walk M always F s c)
  decides F s c h = decides_map (λ n t. solves→finds F n t s) (λ n t. finds→solves F n t s) (decides_walk M F s c h)
