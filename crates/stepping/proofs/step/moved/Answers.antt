-- `moved` meets its contract.
use mathlib.Core.Path.{refl}
use Rattle.stepping.proofs.Visits.{stays, sticks, moved_none, moved_some}
use Rattle.stepping.proofs.step.moved.Goals as goal

pub returns-then-to-eq-NONE : goal.returns-then-to-eq-NONE
returns-then-to-eq-NONE c = λ h l. sticks h l (moved_none h l c.if-to-eq-NONE.true)

pub returns-else-to-eq-NONE : goal.returns-else-to-eq-NONE
returns-else-to-eq-NONE c = λ h l. stays _ h l refl (moved_some h l c.if-to-eq-NONE.false)
