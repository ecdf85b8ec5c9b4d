-- `push` meets its contract.
use Rattle.cells.specs.Inner.Cells.{state_of}
use Rattle.stepping.proofs.Visits.{sticks, over, push_none, push_visit}
use Rattle.stepping.proofs.step.push.Goals as goal

pub returns-then-n-ge-SLOTS : goal.returns-then-n-ge-SLOTS
returns-then-n-ge-SLOTS c = sticks _ _ (over _ _ c.if-n-ge-SLOTS.true)

pub returns-then-to-eq-NONE : goal.returns-then-to-eq-NONE
returns-then-to-eq-NONE c = let a = c.args in sticks _ _ (push_none a.n (state_of a.head a.cells.now) c.if-to-eq-NONE.true c.if-n-ge-SLOTS.false)

pub returns : goal.returns
returns c =
    let a = c.args in
    let e = c.store.ensures in
    rw (e.0, e.1) (push_visit a.head a.cells.now c.requires.0 a.n a.to c.if-n-ge-SLOTS.false c.requires.1 c.if-to-eq-NONE.false e.2)
