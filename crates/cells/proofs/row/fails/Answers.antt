-- `fails` meets its contract.
use Rattle.std.proofs.Common.{ltb-true}
use Rattle.cells.proofs.Unlike.{unlike}
use Rattle.cells.proofs.row.fails.Goals as goal

pub returns : goal.returns
returns c e = unlike _ _ _ c.requires c.wrapping_sub_u64.ensures.value (ltb-true _ _ e)
