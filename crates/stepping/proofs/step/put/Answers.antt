-- `put` meets its contract.
use Rattle.stepping.proofs.Visits.{sticks, over, put_visit}
use Rattle.stepping.proofs.step.put.Goals as goal

pub returns-then-k-ge-SLOTS : goal.returns-then-k-ge-SLOTS
returns-then-k-ge-SLOTS c = sticks _ _ (over _ _ c.if-k-ge-SLOTS.true)

pub returns : goal.returns
returns c =
    let a = c.args in
    let e = c.store.ensures in
    rw (e.0, e.1) (put_visit a.head a.cells.now c.requires.0 a.k c.if-k-ge-SLOTS.false c.requires.1 e.2)
