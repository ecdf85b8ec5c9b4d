-- `release` meets its contract.
use Rattle.std.proofs.Common.{refl, arith}
use Rattle.cells.specs.Inner.Cells.{released}
use Rattle.cells.proofs.state.release.Goals as goal

pub overflow_sub-chosen : goal.overflow_sub-chosen
overflow_sub-chosen c = omega (arith, c.requires.1 c.in-First.is)

pub bounds-cells-slot : goal.bounds-cells-slot
bounds-cells-slot c = omega (arith, c.requires.1 c.in-First.is)

pub returns-in-First : goal.returns-in-First
unfolding released
returns-in-First c = rw (c.in-First.is, c.from-slot.ensures) refl

pub returns-in-Step : goal.returns-in-Step
unfolding released
returns-in-Step c = rw c.in-Step.is
