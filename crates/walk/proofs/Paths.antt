-- The paths of a forest, and a run along one of them with given candidates.
use mathlib.Core.Path.{◌≡◌}
use mathlib.Core.Logic.{◌⊎◌, ◌≢◌}
use mathlib.Core.Option.{Option, none, some}
use mathlib.Core.List.{List, [], ◌∷◌}
use Prim.Native.Nat.{ℕ, zero, suc, ◌<◌}
use Rattle.clause.specs.Lists.{All}
use Rattle.machine.specs.Instr.{Instr, First, Do, Success, instr_of}
use Rattle.machine.specs.Machine.{Effect, next, fails, stuck, bind}
use Rattle.tree.specs.Forest.{Forest, empty, node}
use Rattle.walk.specs.Walk.{Machine}

-- the keys p lead to Success n by this node or below it
abbrev pub LeadsAt : Option Instr → ℕ → (List ℕ → ℕ → Type 0) → List ℕ → ℕ → Type 0
LeadsAt none k below p n = ⊥
LeadsAt (some (Success m)) k below p n = (p ≡ []) × (n ≡ m)
LeadsAt (some First) k below p n = (p' : List ℕ) × (p ≡ k ∷ p') × below p' n
LeadsAt (some (Do x)) k below p n = (p' : List ℕ) × (p ≡ k ∷ p') × below p' n

-- the keys p are a path of the forest that ends in Success n
abbrev pub Leads : Forest → List ℕ → ℕ → Type 0
Leads empty p n = ⊥
Leads (node k B R) p n = LeadsAt (instr_of k) k (Leads B) p n ⊎ Leads R p n

-- every node but a Success has something below it
abbrev pub FullAt : Option Instr → Forest → Type 0 → Type 0
FullAt none B below = ⊥
FullAt (some (Success m)) B below = Unit {0}
FullAt (some First) B below = (B ≢ empty) × below
FullAt (some (Do x)) B below = (B ≢ empty) × below

-- every node of the forest but a Success has something below it
abbrev pub Full : Forest → Type 0
Full empty = Unit {0}
Full (node k B R) = FullAt (instr_of k) B (Full B) × Full R

-- the Firsts of a path
abbrev pub firsts_at : Option Instr → ℕ → ℕ
firsts_at none n = n
firsts_at (some (Success m)) n = n
firsts_at (some First) n = suc n
firsts_at (some (Do x)) n = n

abbrev pub firsts : List ℕ → ℕ
firsts [] = zero
firsts (k ∷ p) = firsts_at (instr_of k) (firsts p)

module _ (M : Machine) where
  -- one instruction, then the rest; First takes the next of the given candidates
  abbrev pub run_at : Option Instr → (List ℕ → M.State → Effect M.State) → List ℕ → M.State → Effect M.State
  run_at none rest js s = stuck
  run_at (some (Success m)) rest js s = M.finish s
  run_at (some First) rest [] s = fails
  run_at (some First) rest (j ∷ js) s = bind (M.enter j s) (rest js)
  run_at (some (Do x)) rest js s = bind (M.step x s) (rest js)

  -- the run along a path, and then Success
  abbrev pub run : List ℕ → List ℕ → M.State → Effect M.State
  run [] js s = M.finish s
  run (k ∷ p) js s = run_at (instr_of k) (run p) js s

  -- each candidate is one of the query's literals
  abbrev pub Candidates : List ℕ → Type 0
  Candidates = All (λ j. j < M.query_literals)

  -- from s some path to Success n runs to the state t
  abbrev pub Finds : Forest → M.State → ℕ → M.State → Type 0
  Finds F s n t = (p : List ℕ) × (js : List ℕ) × Leads F p n × Candidates js × (run p js s ≡ next t)

  -- from s no path gets stuck, whatever the candidates
  abbrev pub NeverStuck : Forest → M.State → Type 0
  NeverStuck F s = (p : List ℕ) (n : ℕ) (js : List ℕ) → Leads F p n → Candidates js → run p js s ≢ stuck
