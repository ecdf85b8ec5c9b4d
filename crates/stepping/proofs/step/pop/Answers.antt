-- `pop` meets its contract.
use Rattle.stepping.proofs.Visits.{sticks, over, pop_visit}
use Rattle.stepping.proofs.step.pop.Goals as goal

pub returns-then-n-ge-SLOTS : goal.returns-then-n-ge-SLOTS
returns-then-n-ge-SLOTS c h = sticks h _ (over _ _ c.if-n-ge-SLOTS.true)

pub returns : goal.returns
returns c h =
    let a = c.args in
    let p = pop_visit h a.cells.now c.requires a.n c.if-n-ge-SLOTS.false in
    rw (← p, ← c.from.ensures) (c.moved.ensures h a.cells.now)
