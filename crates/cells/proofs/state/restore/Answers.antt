-- `restore` meets its contract.
use Rattle.std.proofs.Common.{eq-eqb, ne_eqb}
use Rattle.cells.specs.Inner.Cells.{restored}
use Rattle.cells.proofs.state.restore.Goals as goal

pub returns-then-undo-eq0 : goal.returns-then-undo-eq0
unfolding restored
returns-then-undo-eq0 c = rw (eq-eqb _ 0 c.if-undo-eq0.true)

pub returns : goal.returns
unfolding restored
returns c = rw (ne_eqb _ 0 c.if-undo-eq0.false)
