-- `ct_remove` meets its contract: the call is made, and its answer's number returned.
use mathlib.Core.Path.{ap}
use mathlib.Core.List.{[]}
use Rattle.book.specs.Table.{called}
use Rattle.interface.specs.Calls.{ct_remove}
use Rattle.interface.proofs.Handed.{hands_left}
use Rattle.codetree.proofs.ct_remove.Goals as goal

pub returns : goal.returns
unfolding ct_remove
returns c = hands_left [] (ap called c.remove.ensures) c.hand.ensures
