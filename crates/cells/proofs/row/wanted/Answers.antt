-- `wanted` meets its contract.
use Rattle.std.proofs.Common.{refl, arith}
use Rattle.cells.specs.Inner.Cells.{wanted_at}
use Rattle.cells.proofs.row.wanted.Goals as goal

pub overflow_add-result : goal.overflow_add-result
overflow_add-result c = omega (arith, c.type_inv.query c.args.head, c.from.ensures)

pub returns : goal.returns
unfolding wanted_at
returns c = (rw c.from.ensures refl, omega (arith, c.from.ensures, c.type_inv.query c.args.head))
