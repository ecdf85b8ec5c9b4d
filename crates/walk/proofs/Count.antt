-- What holds of an answer's count, and that the count never falls.
use Prim.Native.Nat.{ℕ, zero, suc, ◌≤◌}
use native.Mathlib.Nat.{le_refl}
use native.Mathlib.Omega.{arith}
use mathlib.Core.Path.{◌≡◌, refl}
use mathlib.Core.Bool.{Bool, true, false}
use mathlib.Core.Option.{Option, none, some}
use Rattle.machine.specs.Instr.{Instr, First, Do, Success, instr_of}
use Rattle.machine.specs.Machine.{Effect, next, fails, stuck}
use Rattle.tree.specs.Forest.{Forest, empty, node}
use Rattle.walk.specs.Walk.{Machine, Answer, covered, not_covered, spent, broken, Part, and_then, follow, count, attempt, tries, visit_at, walk}

-- P holds of the answer's count where something is found, Q where nothing is
pub data Ends {S : Type 0} (P Q : ℕ → Type 0) : Answer S → Type 0 where
  of_covered : {n : ℕ} {s : S} {c : ℕ} → P c → Ends P Q (covered n s c)
  of_not_covered : {c : ℕ} → Q c → Ends P Q (not_covered c)
  of_spent : Ends P Q spent
  of_broken : Ends P Q broken

-- P holds of it, if there is one
abbrev pub Counts : {S : Type 0} → (ℕ → Type 0) → Answer S → Type 0
Counts P a = Ends P P a

module _ {S : Type 0} {P Q P' Q' : ℕ → Type 0} where
  -- both may be weakened
  pub ends_map : {a : Answer S} → ((c : ℕ) → P c → P' c) → ((c : ℕ) → Q c → Q' c) → Ends P Q a → Ends P' Q' a
  ends_map f g (of_covered {c = c} h) = of_covered (f c h)
  ends_map f g (of_not_covered {c = c} h) = of_not_covered (g c h)
  ends_map f g of_spent = of_spent
  ends_map f g of_broken = of_broken

  -- one part, then the next
  pub ends_then : {a : Answer S} {k : Part S} → Ends P Q a → ((c : ℕ) → P c → P' c) → ((c : ℕ) → Q c → Ends P' Q' (k c)) → Ends P' Q' (and_then a k)
  ends_then (of_covered {c = c} h) f g = of_covered (f c h)
  ends_then (of_not_covered {c = c} h) f g = g c h
  ends_then of_spent f g = of_spent
  ends_then of_broken f g = of_broken

-- P may be weakened
pub counts_map : {S : Type 0} {P Q : ℕ → Type 0} {a : Answer S} → ((c : ℕ) → P c → Q c) → Counts P a → Counts Q a
counts_map f = ends_map f f

module _ {S : Type 0} {P Q : ℕ → Type 0} where
  -- one more, or spent
  ends_count : (b : Bool) (k : Part S) (c : ℕ) → Ends P Q (k (suc c)) → Ends P Q (count b k c)
  ends_count true k c h = h
  ends_count false k c h = of_spent

  -- below a step, or past it
  pub ends_follow : (below : S → Part S) (c : ℕ) (o : Effect S) → Q c → ((s : S) → o ≡ next s → Ends P Q (below s c)) → Ends P Q (follow o below c)
  ends_follow below c (next s) h k = k s refl
  ends_follow below c fails h k = of_not_covered h
  ends_follow below c stuck h k = of_broken

  -- below a candidate, or past it
  pub ends_attempt :
      (allow : ℕ → Bool) (below : S → Part S) (c : ℕ) (o : Effect S) → (o ≡ fails → Q c) → ((s : S) → o ≡ next s → Ends P Q (below s (suc c)))
      → Ends P Q (attempt allow o below c)
  ends_attempt allow below c (next s) h k = ends_count (allow (suc c)) (below s) c (k s refl)
  ends_attempt allow below c fails h k = of_not_covered (h refl)
  ends_attempt allow below c stuck h k = of_broken

-- a part of the walk from which the count does not fall
abbrev pub Rises : {S : Type 0} → Part S → Type 0
Rises k = (c : ℕ) → Counts (λ d. c ≤ d) (k c)

module _ (M : Machine) (allow : ℕ → Bool) where
  -- the count does not fall over candidates
  pub rises_tries : {below : M.State → Part M.State} → ((s : M.State) → Rises (below s)) → (s : M.State) (n j : ℕ)
      → Rises (tries M allow below s n j)
  rises_tries h s zero j c = of_not_covered (le_refl c)
  rises_tries {below} h s (suc n) j c =
      ends_then (ends_attempt allow below c (M.enter j s) (λ e. le_refl c) (λ t e. counts_map (λ d l. omega arith) (h t (suc c)))) (λ d l. l)
      (λ d l. counts_map (λ e l'. omega arith) (rises_tries h s n (suc j) d))

  -- the count does not fall over a node
  rises_visit : {below : M.State → Part M.State} → ((s : M.State) → Rises (below s)) → (o : Option Instr) (s : M.State)
      → Rises (visit_at M allow o below s)
  rises_visit h none s c = of_broken
  rises_visit h (some (Success m)) s c = ends_follow (covered m) c (M.finish s) (le_refl c) (λ t e. of_covered (le_refl c))
  rises_visit h (some First) s c = rises_tries h s M.query_literals 0 c
  rises_visit {below} h (some (Do x)) s c = ends_follow below c (M.step x s) (le_refl c) (λ t e. h t c)

  -- the count never falls
  pub rises : (F : Forest) (s : M.State) → Rises (walk M allow F s)
  rises empty s c = of_not_covered (le_refl c)
  rises (node i B R) s c = ends_then (rises_visit (rises B) (instr_of i) s c) (λ d l. l) (λ d l. counts_map (λ e l'. omega arith) (rises R s d))
