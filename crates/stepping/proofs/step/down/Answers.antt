-- `down` meets its contract.
use mathlib.Core.Path.{refl}
use Rattle.clause.specs.Word.{arity}
use Rattle.stepping.proofs.Visits.{stays, sticks, down_stuck, down_below}
use Rattle.stepping.proofs.step.down.Goals as goal

pub returns-then-query-head-eq0 : goal.returns-then-query-head-eq0
unfolding arity
returns-then-query-head-eq0 c = λ l. sticks _ l (down_stuck _ _ l c.if-query-head-eq0.true)

pub returns-else-query-head-eq0 : goal.returns-else-query-head-eq0
unfolding arity
returns-else-query-head-eq0 c = λ l. stays _ _ l refl (down_below _ _ l c.requires c.if-query-head-eq0.false)
