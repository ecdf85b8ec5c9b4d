-- Without a budget the walk finds a run if there is one: its answer decides what can be found.
use Prim.Native.Nat.{ℕ, zero, suc, ◌+◌, ◌≤◌, ◌<◌}
use native.Mathlib.Omega.{arith}
use native.Mathlib.Decide.{dec_le}
use mathlib.Core.Path.{◌≡◌, refl, sym, subst}
use mathlib.Core.Logic.{◌⊎◌, inl, inr}
use mathlib.Core.Option.{Option, none, some}
use Rattle.machine.specs.Instr.{Instr, First, Do, Success, instr_of}
use Rattle.machine.specs.Machine.{Effect, next, fails, stuck}
use Rattle.tree.specs.Forest.{Forest, empty, node}
use Rattle.walk.specs.Walk.{Machine, Answer, covered, not_covered, Part, and_then, follow, attempt, always, tries, visit_at, walk}
use Rattle.machine.proofs.Effects.{fails≢next}

-- what can be found: a number and a final state
abbrev pub Goal : Type 0 → Type 1
Goal S = ℕ → S → Type 0

-- an answer without a budget is right for a goal
pub data Decides {S : Type 0} (G : Goal S) : Answer S → Type 0 where
  found : {n : ℕ} {s : S} {c : ℕ} → G n s → Decides G (covered n s c)
  nothing : {c : ℕ} → ((n : ℕ) (s : S) → G n s → ⊥) → Decides G (not_covered c)

-- an effect can be taken, and P holds of its state
abbrev pub Goes : {S : Type 0} → (S → Type 0) → Effect S → Type 0
Goes P (next s) = P s
Goes P fails = Unit {0}
Goes P stuck = ⊥

-- a next state is known by its effect
next_inj : {S : Type 0} {s t : S} → next s ≡ next t → s ≡ t
next_inj e = cc

module _ {S : Type 0} where
  -- P may be weakened
  goes_map : {P Q : S → Type 0} → ((s : S) → P s → Q s) → (o : Effect S) → Goes P o → Goes Q o
  goes_map f (next s) h = f s h
  goes_map f fails h = tt
  goes_map f stuck h = h

  -- the goal may be stated another way
  pub decides_map : {G H : Goal S} {a : Answer S} → ((n : ℕ) (s : S) → G n s → H n s) → ((n : ℕ) (s : S) → H n s → G n s) → Decides G a → Decides H a
  decides_map f g (found {n = n} {s = s} d) = found (f n s d)
  decides_map f g (nothing d) = nothing (λ n s h. d n s (g n s h))

  -- the goal is found here or further on
  decides_or : {G H : Goal S} {a : Answer S} {k : Part S} → Decides G a → ((c : ℕ) → Decides H (k c)) → Decides (λ n s. G n s ⊎ H n s) (and_then a k)
  decides_or (found d) e = found (inl d)
  decides_or {G} {H} {k} (nothing {c = c} d) e = decides_map (λ n s h. inr h) back (e c)
    where
      back : (n : ℕ) (s : S) → G n s ⊎ H n s → H n s
      back n s (inl g) = absurd (d n s g)
      back n s (inr h) = h

  -- a goal behind an effect
  abbrev pub Behind : Effect S → (S → Goal S) → Goal S
  Behind o G n t = (s : S) × (o ≡ next s) × G s n t

  -- a goal behind a step that is taken
  decides_here : {G : S → Goal S} {a : Answer S} (s : S) → Decides (G s) a → Decides (Behind (next s) G) a
  decides_here {G} s d = decides_map (λ n t g. (s, refl, g)) (λ n t g. subst (λ x. G x n t) (sym (next_inj g.1)) g.2) d

  -- a step decides the goal behind it
  decides_follow : (G : S → Goal S) (below : S → Part S) (o : Effect S) (c : ℕ) → Goes (λ s. (c : ℕ) → Decides (G s) (below s c)) o
      → Decides (Behind o G) (follow o below c)
  decides_follow G below (next s) c h = decides_here s (h c)
  decides_follow G below fails c h = nothing (λ n t g. fails≢next g.1)
  decides_follow G below stuck c h = absurd h

  -- a candidate decides the goal behind it
  decides_attempt : (G : S → Goal S) (below : S → Part S) (o : Effect S) (c : ℕ) → Goes (λ s. (c : ℕ) → Decides (G s) (below s c)) o
      → Decides (Behind o G) (attempt always o below c)
  decides_attempt G below (next s) c h = decides_here s (h (suc c))
  decides_attempt G below fails c h = nothing (λ n t g. fails≢next g.1)
  decides_attempt G below stuck c h = absurd h

module _ (M : Machine) where
  -- a goal behind one of n literals from j on
  abbrev pub Among : ℕ → ℕ → (M.State → Goal M.State) → M.State → Goal M.State
  Among n j G s m t = (k : ℕ) × (j ≤ k) × (k < j + n) × Behind (M.enter k s) G m t

  module _ (G : M.State → Goal M.State) (below : M.State → Part M.State) (s : M.State) where
    -- the literals decide the goal behind them
    decides_tries :
        (n j c : ℕ) → ((k : ℕ) → j ≤ k → k < j + n → Goes (λ t. (c : ℕ) → Decides (G t) (below t c)) (M.enter k s))
        → Decides (Among n j G s) (tries M always below s n j c)
    decides_tries zero j c h = nothing (λ m t g. omega arith)
    decides_tries (suc n) j c h =
        decides_map into back
        (decides_or
        (decides_attempt G below (M.enter j s) c (h j (omega arith) (omega arith)))
        (λ c'. decides_tries n (suc j) c' (λ k l u. h k (omega arith) (omega arith))))
      where
        into : (m : ℕ) (t : M.State) → Behind (M.enter j s) G m t ⊎ Among n (suc j) G s m t → Among (suc n) j G s m t
        into m t (inl g) = (j, omega arith, omega arith, g)
        into m t (inr g) = (g.0, omega arith, omega arith, g.3)

        split : (m : ℕ) (t : M.State) (g : Among (suc n) j G s m t) → Dec (suc j ≤ g.0) → Behind (M.enter j s) G m t ⊎ Among n (suc j) G s m t
        split m t g (yes l) = inr (g.0, l, omega arith, g.3)
        split m t g (no l) = inl (subst (λ k. Behind (M.enter k s) G m t) (omega arith) g.3)

        back : (m : ℕ) (t : M.State) → Among (suc n) j G s m t → Behind (M.enter j s) G m t ⊎ Among n (suc j) G s m t
        back m t g = split m t g (dec_le (suc j) g.0)

  -- what the walk of a forest can find, read off the forest
  abbrev pub SolvesAt : Option Instr → (M.State → Goal M.State) → M.State → Goal M.State
  SolvesAt none below s n t = ⊥
  SolvesAt (some (Success m)) below s n t = Behind (M.finish s) (λ s₁ n₁ t₁. (n₁ ≡ m) × (t₁ ≡ s₁)) n t
  SolvesAt (some First) below s n t = Among M.query_literals 0 below s n t
  SolvesAt (some (Do x)) below s n t = Behind (M.step x s) below n t

  -- from s the forest leads to Success n in state t
  abbrev pub Solves : Forest → M.State → Goal M.State
  Solves empty s n t = ⊥
  Solves (node i B R) s n t = SolvesAt (instr_of i) (Solves B) s n t ⊎ Solves R s n t

  -- no step at a node is stuck
  abbrev pub SmoothAt : Option Instr → (M.State → Type 0) → M.State → Type 0
  SmoothAt none below s = ⊥
  SmoothAt (some (Success m)) below s = Goes (λ t. Unit {0}) (M.finish s)
  SmoothAt (some First) below s = (j : ℕ) → j < M.query_literals → Goes below (M.enter j s)
  SmoothAt (some (Do x)) below s = Goes below (M.step x s)

  -- no step of the walk of a forest from s is stuck
  abbrev pub Smooth : Forest → M.State → Type 0
  Smooth empty s = Unit {0}
  Smooth (node i B R) s = SmoothAt (instr_of i) (Smooth B) s × Smooth R s

  -- a node decides what can be found by it
  decides_visit :
      (o : Option Instr) {P : M.State → Type 0} {G : M.State → Goal M.State} {below : M.State → Part M.State}
      → ((s : M.State) → P s → (c : ℕ) → Decides (G s) (below s c))
      → (s : M.State) (c : ℕ) → SmoothAt o P s → Decides (SolvesAt o G s) (visit_at M always o below s c)
  decides_visit none d s c h = absurd h
  decides_visit (some (Success m)) d s c h =
      decides_follow (λ s₁ n₁ t₁. (n₁ ≡ m) × (t₁ ≡ s₁)) (covered m) (M.finish s) c (goes_map (λ t u c'. found (refl, refl)) (M.finish s) h)
  decides_visit (some First) {G} {below} d s c h = decides_tries G below s M.query_literals 0 c (λ k l u. goes_map d (M.enter k s) (h k (omega arith)))
  decides_visit (some (Do x)) {G} {below} d s c h = decides_follow G below (M.step x s) c (goes_map d (M.step x s) h)

  -- the walk decides what can be found in the forest
  pub decides_walk : (F : Forest) (s : M.State) (c : ℕ) → Smooth F s → Decides (Solves F s) (walk M always F s c)
  decides_walk empty s c h = nothing (λ n t g. g)
  decides_walk (node i B R) s c h =
      decides_or (decides_visit (instr_of i) (λ t k c'. decides_walk B t c' k) s c h.0) (λ c'. decides_walk R s c' h.1)
