-- The passes over the words below a node: one from each candidate of a First, or one from the state itself.
use Prim.Native.Nat.{ℕ, zero, suc, ◌+◌, ◌-◌, ◌≤◌, ◌<◌}
use mathlib.Core.Path.{◌≡◌, refl, ◌∙◌}
use mathlib.Core.Bool.{true, false}
use mathlib.Core.List.{List}
use native.Mathlib.Omega.{arith}
use native.Mathlib.Numerals.{add-one}
use lib.ListN.{length}
use borrow.Author.Tests.{le-leb, lt-leb}
use Rattle.clause.specs.Clause.{max_literals, literals}
use Rattle.machine.specs.Machine.{State, used}
use Rattle.machine.proofs.Used.{enter_new, enter_used}
use Rattle.walk.specs.Walk.{Answer, covered, not_covered, spent, broken, Part, and_then, tries, up_to}
use Rattle.walk.specs.Query.{machine, shown}
use Rattle.cells.specs.Inner.Cells.{entered, passes_of, pass_state, state_of}
use Rattle.cells.specs.declared.Above.{Above}
use Rattle.cells.specs.declared.Above.TheVariants.{First, Step}
use Rattle.walking.specs.Inner.Findings.{missed, seen, out_by, Walked}
use Rattle.std.specs.Prelude.{Ok, Err}
use Rattle.walking.specs.declared.End.{End}
use Rattle.walking.specs.declared.End.TheVariants.{Found, Broken, Spent}

-- what comes last hands its answer on: the last word of a row, the last candidate
pub then_none : {S : Type 0} (a : Answer S) (k : Part S) → ((c : ℕ) → k c ≡ not_covered c) → and_then a k ≡ a
then_none (covered n s c) k h = refl
then_none (not_covered c) k h = h c
then_none spent k h = refl
then_none broken k h = refl

-- below a First m literals from j on, those in use passed over; below a step m passes
unfoldable pub runs : List ℕ → (budget : ℕ) → Above → (State → Part State) → State → (m j : ℕ) → Part State
runs d b First k s m j c = tries (machine d) (up_to b) k s m j c
runs d b Step k s zero j c = not_covered c
runs d b Step k s (suc m) j c = and_then (k s c) (runs d b Step k s m (suc j))

module _ (d : List ℕ) (b : ℕ) (k : State → Part State) (s : State) where
  -- all passes
  pub runs_whole : (above : Above) {m : ℕ} → m ≡ passes_of above (length (literals d)) → (c : ℕ) → runs d b above k s (m - 0) 0 c ≡ entered d b above k s c
  unfolding runs entered passes_of
  runs_whole First {m} e c = let f : m - 0 ≡ length (literals d) = omega arith in rw f
  runs_whole Step {m} e c = let f : m - 0 ≡ 1 = omega arith in rw f (then_none (k s c) not_covered (λ i. refl))

  -- no pass is left
  pub runs_end : (above : Above) (m j c : ℕ) → m ≤ j → runs d b above k s (m - j) j c ≡ not_covered c
  unfolding runs
  runs_end First m j c h = let z : m - j ≡ 0 = omega arith in rw z
  runs_end Step m j c h = let z : m - j ≡ 0 = omega arith in rw z

  -- the next pass
  pub runs_plain : {above : Above} → above ≡ Step → (m j c : ℕ) → j < m
      → runs d b above k s (m - j) j c ≡ and_then (k (pass_state d above j s) c) (runs d b above k s (m - (j + 1)) (j + 1))
  unfolding runs pass_state
  runs_plain e m j c h = let n : m - j ≡ suc (m - (j + 1)) = omega arith in rw (e, n, add-one)

  module _ (few : length s.chosen < max_literals) {above : Above} (e : above ≡ First) (m j c : ℕ) (h : j < m) where
    -- a literal that is used is passed over
    pub runs_over : used j s.chosen ≡ true → runs d b above k s (m - j) j c ≡ runs d b above k s (m - (j + 1)) (j + 1) c
    unfolding runs
    runs_over u = let n : m - j ≡ suc (m - (j + 1)) = omega arith in rw (e, n, enter_used d j s few u, add-one j)

    module _ (u : used j s.chosen ≡ false) where
      pub runs_spent : b ≤ c → runs d b above k s (m - j) j c ≡ spent
      unfolding runs
      runs_spent g = let n : m - j ≡ suc (m - (j + 1)) = omega arith in rw (e, n, enter_new d j s few u, lt-leb (suc c) b (omega arith))

      pub runs_first : c < b → runs d b above k s (m - j) j c ≡ and_then (k (pass_state d above j s) (c + 1)) (runs d b above k s (m - (j + 1)) (j + 1))
      unfolding runs pass_state
      runs_first g =
          let n : m - j ≡ suc (m - (j + 1)) = omega arith in
          rw (e, n, enter_new d j s few u, le-leb (suc c) b (omega arith), add-one j, add-one c)

-- what is seen of an answer
pub seen_missed : (a : Answer State) {c : ℕ} → missed c ≡ seen a → a ≡ not_covered c
unfolding seen
seen_missed (covered n s i) e = cc
seen_missed (not_covered i) e = cc
seen_missed spent e = cc
seen_missed broken e = cc

ended : (e : End) (l : List ℕ) {c : ℕ} → out_by (Err e) l ≡ missed c → ⊥
unfolding out_by
ended (Found k i) l h = cc
ended Broken l h = cc
ended Spent l h = cc

-- after a miss the walk goes on, and it ends with anything else
pub then_on : {a : Answer State} {c : ℕ} (k : Part State) → a ≡ not_covered c → and_then a k ≡ k c
then_on k e = rw e

pub then_ends : (a : Answer State) (k : Part State) (e : End) (l : List ℕ) → out_by (Err e) l ≡ seen a → and_then a k ≡ a
unfolding seen
then_ends (covered i s c) k e l h = refl
then_ends (not_covered c) k e l h = absurd (ended e l h)
then_ends spent k e l h = refl
then_ends broken k e l h = refl

pub missed_of : (a : Answer State) (n : ℕ) (l : List ℕ) → out_by (Ok n) l ≡ seen a → a ≡ not_covered n
unfolding out_by
missed_of a n l h = seen_missed a h

err≢ok : {e : End} {c : ℕ} → Err e ≡ Ok c → ⊥
err≢ok e = cc

-- what a walk's result says of its answer
module _ {a : Answer State} {before after : List ℕ} where
  pub walked_missed : {c : ℕ} → a ≡ not_covered c → after ≡ before → Walked a before after (Ok c)
  unfolding out_by seen
  walked_missed e b = record { comes = rw e; back = λ _ _. b; size = rw b }

  pub walked_spent : a ≡ spent → length after ≡ length before → Walked a before after (Err Spent)
  unfolding out_by seen
  walked_spent e l = record { comes = rw e; back = λ _ m. absurd (err≢ok m); size = l }

  pub walked_broken : a ≡ broken → length after ≡ length before → Walked a before after (Err Broken)
  unfolding out_by seen
  walked_broken e l = record { comes = rw e; back = λ _ m. absurd (err≢ok m); size = l }

  pub walked_found : (h : ℕ) {n i c : ℕ} → i ≡ n → a ≡ covered n (state_of h after) c → length after ≡ length before → Walked a before after (Err (Found i c))
  unfolding out_by seen shown
  walked_found h f e l = record { comes = rw (f, e); back = λ _ m. absurd (err≢ok m); size = l }

  pub walked_same : {m : List ℕ} {r : End} {x : Answer State} → a ≡ x → Walked x m after (Err r) → length m ≡ length before → Walked a before after (Err r)
  walked_same e w l = record { comes = rw e w.comes; back = λ _ m. absurd (err≢ok m); size = w.size ∙ l }

-- a walk that ends ends what follows it
pub then_broken : {a : Answer State} (k : Part State) → a ≡ broken → and_then a k ≡ broken
then_broken k e = rw e

pub then_covered : {a : Answer State} {n c : ℕ} {s : State} (k : Part State) → a ≡ covered n s c → and_then a k ≡ covered n s c
then_covered k e = rw e

pub then_found : {a x : Answer State} (k : Part State) {m after : List ℕ} {r : End} → a ≡ x → Walked x m after (Err r) → and_then a k ≡ x
then_found {x = x} k {after = after} {r} e w = rw e (then_ends x k r after w.comes)
