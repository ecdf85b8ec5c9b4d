-- `Above::of` meets its contract.
use Rattle.std.proofs.Common.{eq-eqb, ne_eqb}
use Rattle.cells.specs.Inner.Cells.{no_position, above_of}
use Rattle.cells.proofs.Above.of.Goals as goal

pub returns-then-head-eq-BEFORE : goal.returns-then-head-eq-BEFORE
unfolding above_of
returns-then-head-eq-BEFORE c = rw (eq-eqb _ no_position c.if-head-eq-BEFORE.true)

pub returns-else-head-eq-BEFORE : goal.returns-else-head-eq-BEFORE
unfolding above_of
returns-else-head-eq-BEFORE c = rw (ne_eqb _ no_position c.if-head-eq-BEFORE.false)
