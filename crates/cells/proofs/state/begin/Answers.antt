-- `begin` meets its contract.
use Rattle.std.proofs.Common.{◌∙◌, arith}
use Rattle.clause.proofs.Literals.{accepted}
use Rattle.cells.specs.Inner.Cells.{candidate, pass_head}
use Rattle.cells.proofs.state.begin.Goals as goal

pub overflow_sub-slot : goal.overflow_sub-slot
overflow_sub-slot c = omega (arith, c.requires.3 c.in-First.is)

pub overflow_cast-cells : goal.overflow_cast-cells
overflow_cast-cells c = omega (arith, c.requires.3 c.in-First.is, (accepted _ c.requires.0).few)

pub bounds-cells-slot : goal.bounds-cells-slot
bounds-cells-slot c = omega (arith, c.requires.3 c.in-First.is)

pub bounds-tables-j : goal.bounds-tables-j
bounds-tables-j c = omega (arith, c.requires.3 c.in-First.is, (accepted _ c.requires.0).few)

pub returns-in-First : goal.returns-in-First
unfolding candidate pass_head
returns-in-First c =
    let p = c.requires in
    let e = c.in-First.is in
    (rw e (c.from.ensures ∙ p.1.starts _ (p.3 e).1), rw (e, c.from-slot.ensures))

pub returns-in-Step : goal.returns-in-Step
unfolding candidate pass_head
returns-in-Step c = (rw c.in-Step.is, rw c.in-Step.is)
