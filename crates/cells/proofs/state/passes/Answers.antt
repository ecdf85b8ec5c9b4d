-- `passes` meets its contract.
use Rattle.cells.specs.Inner.Cells.{passes_of}
use Rattle.cells.proofs.state.passes.Goals as goal

pub returns-in-First : goal.returns-in-First
unfolding passes_of
returns-in-First c = rw c.in-First.is c.from.ensures

pub returns-in-Step : goal.returns-in-Step
unfolding passes_of
returns-in-Step c = rw c.in-Step.is
