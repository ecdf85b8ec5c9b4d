-- Where no path of a full forest gets stuck, no step of the walk is stuck.
use Prim.Native.Nat.{ℕ}
use mathlib.Core.Path.{◌≡◌, refl}
use mathlib.Core.Logic.{inl, inr, ◌≢◌}
use mathlib.Core.Option.{Option, none, some}
use mathlib.Core.List.{List, [], ◌∷◌}
use Rattle.clause.specs.Lists.{none as All-none, also}
use Rattle.machine.specs.Instr.{Instr, First, Do, Success, instr_of}
use Rattle.machine.specs.Machine.{Effect, next, fails, stuck}
use Rattle.tree.specs.Forest.{Forest, empty, node}
use Rattle.walk.specs.Walk.{Machine}
use Rattle.walk.proofs.Paths.{LeadsAt, Leads, FullAt, Full, run, Candidates, NeverStuck}
use Rattle.walk.proofs.Search.{Goes, SmoothAt, Smooth}

-- an effect that is not stuck can be taken
goes_of : {S : Type 0} {P : S → Type 0} (o : Effect S) → o ≢ stuck → ((s : S) → o ≡ next s → P s) → Goes P o
goes_of (next s) h k = k s refl
goes_of fails h k = tt
goes_of stuck h k = h refl

-- a full forest with a node has a path
some_path_at :
    (o : Option Instr) (i : ℕ) (B : Forest) {P : Type 0} → (B ≢ empty → P → (p : List ℕ) × (n : ℕ) × Leads B p n) → FullAt o B P
    → (p : List ℕ) × (n : ℕ) × LeadsAt o i (Leads B) p n
some_path_at none i B below h = absurd h
some_path_at (some (Success m)) i B below h = ([], m, (refl, refl))
some_path_at (some First) i B below h = let (p, n, l) = below h.0 h.1 in (i ∷ p, n, (p, refl, l))
some_path_at (some (Do x)) i B below h = let (p, n, l) = below h.0 h.1 in (i ∷ p, n, (p, refl, l))

pub some_path : (F : Forest) → F ≢ empty → Full F → (p : List ℕ) × (n : ℕ) × Leads F p n
some_path empty h f = absurd (h refl)
some_path (node i B R) h f = let (p, n, l) = some_path_at (instr_of i) i B (some_path B) f.0 in (p, n, inl l)

module _ (M : Machine) where
  -- no run by this node gets stuck
  abbrev NeverStuckAt : Option Instr → ℕ → Forest → M.State → Type 0
  NeverStuckAt o i B s = (p : List ℕ) (n : ℕ) (js : List ℕ) → LeadsAt o i (Leads B) p n → Candidates M js → run M p js s ≢ stuck

  -- no step at a node is stuck where none of its paths gets stuck
  smooth_at :
      (o : Option Instr) (i : ℕ) (B : Forest) → instr_of i ≡ o → ((s : M.State) → Full B → NeverStuck M B s → Smooth M B s)
      → (s : M.State) → FullAt o B (Full B) → NeverStuckAt o i B s → SmoothAt M o (Smooth M B) s
  smooth_at none i B e ih s f h = f
  smooth_at (some (Success m)) i B e ih s f h = goes_of (M.finish s) (h [] m [] (refl, refl) All-none) (λ t u. tt)
  smooth_at (some First) i B e ih s (some_below, full) h = λ j u.
      let (p, n, l) = some_path B some_below full in
      goes_of (M.enter j s)
      (λ t. h (i ∷ p) n (j ∷ []) (p, refl, l) (also u All-none) (rw (e, t)))
      (λ s₁ t. ih s₁ full (λ p' n' js l' cs r. h (i ∷ p') n' (j ∷ js) (p', refl, l') (also u cs) (rw (e, t) r)))
  smooth_at (some (Do x)) i B e ih s (some_below, full) h =
      let (p, n, l) = some_path B some_below full in
      goes_of (M.step x s) (λ t. h (i ∷ p) n [] (p, refl, l) All-none (rw (e, t))) (λ s₁ t. ih s₁ full (λ p' n' js l' cs r. h (i ∷ p') n' js (p', refl, l') cs (rw (e, t) r)))

  -- where no path gets stuck, no step of the walk is stuck
  pub smooth : (F : Forest) (s : M.State) → Full F → NeverStuck M F s → Smooth M F s
  smooth empty s f h = tt
  smooth (node i B R) s f h =
      (smooth_at (instr_of i) i B refl (smooth B) s f.0 (λ p n js l. h p n js (inl l)), smooth R s f.1 (λ p n js l. h p n js (inr l)))
