-- The walk over a forest of instructions.
use Rattle.std.specs.Prelude.{Bool, true, false, ℕ, zero, suc, leb}
use Rattle.std.proofs.Math.Option.{Option, none, some}
use Rattle.machine.specs.Instr.{Step, Instr, First, Do, Success, instr_of}
use Rattle.machine.specs.Machine.{Effect, next, fails, stuck}
use Rattle.tree.specs.Forest.{Forest, empty, node}

-- what the walk needs of a query: the states, a step, First with literal j, Success, and the number of literals.
-- Where `enter j s` fails, literal j is passed over and not counted
pub record Machine : Type 1 where
  pub State : Type 0
  pub step : Step → State → Effect State
  pub enter : ℕ → State → Effect State
  pub finish : State → Effect State
  pub query_literals : ℕ

-- the walk's answer: number, final state and count; the count; the budget, its fuel in candidates, is spent; broken
pub data Answer (S : Type 0) : Type 0 where
  covered : ℕ → S → ℕ → Answer S
  not_covered : ℕ → Answer S
  spent : Answer S
  broken : Answer S

-- a part of the walk: it goes on from a count
abbrev pub Part : Type 0 → Type 0
Part S = ℕ → Answer S

-- only `not_covered` lets the walk go on, from the count reached
abbrev pub and_then : {S : Type 0} → Answer S → Part S → Answer S
and_then (covered n s c) k = covered n s c
and_then (not_covered c) k = k c
and_then spent k = spent
and_then broken k = broken

-- after a step: below it, or past it
abbrev pub follow : {S : Type 0} → Effect S → (S → Part S) → Part S
follow (next s) below c = below s c
follow fails below c = not_covered c
follow stuck below c = broken

-- one more candidate, where the count may become one more
abbrev pub count : {S : Type 0} → Bool → Part S → Part S
count true k c = k (suc c)
count false k c = spent

-- one literal: passed over, uncounted; or a candidate, which is counted, and then below it
abbrev pub attempt : {S : Type 0} → (ℕ → Bool) → Effect S → (S → Part S) → Part S
attempt allow (next s) below c = count (allow (suc c)) (below s) c
attempt allow fails below c = not_covered c
attempt allow stuck below c = broken

-- the count may reach the budget
abbrev pub up_to : ℕ → ℕ → Bool
up_to b c = leb c b

-- the count may reach any number
abbrev pub always : ℕ → Bool
always c = true

module _ (M : Machine) (allow : ℕ → Bool) where
  -- n literals from j on, each tried from the state s
  abbrev pub tries : (M.State → Part M.State) → M.State → ℕ → ℕ → Part M.State
  tries below s zero j c = not_covered c
  tries below s (suc n) j c = and_then (attempt allow (M.enter j s) below c) (tries below s n (suc j))

  -- one instruction, with the walk of what stands below it
  abbrev pub visit_at : Option Instr → (M.State → Part M.State) → M.State → Part M.State
  visit_at none below s c = broken
  visit_at (some (Success n)) below s c = follow (M.finish s) (covered n) c
  visit_at (some First) below s c = tries below s M.query_literals 0 c
  visit_at (some (Do x)) below s c = follow (M.step x s) below c

  -- one node, by its key
  abbrev pub visit : ℕ → (M.State → Part M.State) → M.State → Part M.State
  visit k = visit_at (instr_of k)

  -- the walk: a node, then its further siblings from the same state
  abbrev pub walk : Forest → M.State → Part M.State
  walk empty s c = not_covered c
  walk (node k B R) s c = and_then (visit k (walk B) s c) (walk R s)
