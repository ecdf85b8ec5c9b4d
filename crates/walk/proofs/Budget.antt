-- The walk with a budget against the walk without one.
use Prim.Native.Nat.{ℕ, zero, suc, ◌≤◌, ◌<◌}
use native.Mathlib.Decide.{dec_le}
use native.Mathlib.Omega.{arith}
use mathlib.Core.Option.{Option, none, some}
use lib.Dec.{leb}
use borrow.Author.Tests.{le-leb, lt-leb}
use Rattle.machine.specs.Instr.{Instr, First, Do, Success, instr_of}
use Rattle.machine.specs.Machine.{Effect, next, fails, stuck}
use Rattle.tree.specs.Forest.{Forest, empty, node}
use Rattle.walk.specs.Walk.{Machine, Answer, covered, not_covered, spent, broken, Part, and_then, follow, count, attempt, up_to, always, tries, visit_at, walk}
use Rattle.walk.proofs.Count.{Counts, counts_map, ends_then, Rises, rises_tries, rises}

-- the second answer is the first one as a budget of b leaves it: the same up to b, else spent; a broken walk is broken or spent
pub data Capped {S : Type 0} (b : ℕ) : Answer S → Answer S → Type 0 where
  as_covered : {n : ℕ} {s : S} {c : ℕ} → c ≤ b → Capped b (covered n s c) (covered n s c)
  as_not_covered : {c : ℕ} → c ≤ b → Capped b (not_covered c) (not_covered c)
  as_broken : Capped b broken broken
  over : {a : Answer S} → Counts (λ c. b < c) a → Capped b a spent

-- two parts of the walk, the second within a budget of b
abbrev Within : {S : Type 0} → ℕ → Part S → Part S → Type 0
Within b k k' = (c : ℕ) → c ≤ b → Capped b (k c) (k' c)

module _ {S : Type 0} {b : ℕ} where
  -- one part, then the next
  capped_then : {a a' : Answer S} {k k' : Part S} → Capped b a a' → Within b k k' → Rises k → Capped b (and_then a k) (and_then a' k')
  capped_then (as_covered h) w r = as_covered h
  capped_then (as_not_covered {c = c} h) w r = w c h
  capped_then as_broken w r = as_broken
  capped_then (over h) w r = over (ends_then h (λ c l. l) (λ c l. counts_map (λ d l'. omega arith) (r c)))

  -- one more, if the budget has it
  capped_count : (k k' : Part S) → Within b k k' → Rises k → (c : ℕ) → Capped b (k (suc c)) (count (leb (suc c) b) k' c)
  capped_count k k' w r c = at (dec_le (suc c) b)
    where
      at : Dec (suc c ≤ b) → Capped b (k (suc c)) (count (leb (suc c) b) k' c)
      at (yes l) = rw (le-leb (suc c) b l) (w (suc c) l)
      at (no l) = rw (lt-leb (suc c) b (omega arith)) (over (counts_map (λ d l'. omega arith) (r (suc c))))

  -- a step
  capped_follow : (k k' : S → Part S) → ((s : S) → Within b (k s) (k' s)) → (o : Effect S) → Within b (follow o k) (follow o k')
  capped_follow k k' w (next s) c h = w s c h
  capped_follow k k' w fails c h = as_not_covered h
  capped_follow k k' w stuck c h = as_broken

  -- a candidate
  capped_attempt : (k k' : S → Part S) → ((s : S) → Within b (k s) (k' s)) → ((s : S) → Rises (k s)) → (o : Effect S)
      → Within b (attempt always o k) (attempt (up_to b) o k')
  capped_attempt k k' w r (next s) c h = capped_count (k s) (k' s) (w s) (r s) c
  capped_attempt k k' w r fails c h = as_not_covered h
  capped_attempt k k' w r stuck c h = as_broken

module _ (M : Machine) (b : ℕ) where
  -- candidates
  capped_tries :
      (k k' : M.State → Part M.State) → ((s : M.State) → Within b (k s) (k' s)) → ((s : M.State) → Rises (k s))
      → (s : M.State) (n j : ℕ) → Within b (tries M always k s n j) (tries M (up_to b) k' s n j)
  capped_tries k k' w r s zero j c h = as_not_covered h
  capped_tries k k' w r s (suc n) j c h =
      capped_then (capped_attempt k k' w r (M.enter j s) c h) (capped_tries k k' w r s n (suc j)) (rises_tries M always r s n (suc j))

  -- a node
  capped_visit :
      (k k' : M.State → Part M.State) → ((s : M.State) → Within b (k s) (k' s)) → ((s : M.State) → Rises (k s))
      → (o : Option Instr) (s : M.State) → Within b (visit_at M always o k s) (visit_at M (up_to b) o k' s)
  capped_visit k k' w r none s c h = as_broken
  capped_visit k k' w r (some (Success m)) s c h = capped_follow (covered m) (covered m) (λ t c' l. as_covered l) (M.finish s) c h
  capped_visit k k' w r (some First) s c h = capped_tries k k' w r s M.query_literals 0 c h
  capped_visit k k' w r (some (Do x)) s c h = capped_follow k k' w (M.step x s) c h

  -- the walk within a budget of b is the walk without one, capped at b
  pub capped : (F : Forest) (s : M.State) → Within b (walk M always F s) (walk M (up_to b) F s)
  capped empty s c h = as_not_covered h
  capped (node i B R) s c h =
      capped_then (capped_visit (walk M always B) (walk M (up_to b) B) (capped B) (rises M always B) (instr_of i) s c h) (capped R s) (rises M always R s)
