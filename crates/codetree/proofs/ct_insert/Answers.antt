-- `ct_insert` meets its contract: the call is made, and its answer handed over; and the claim is proved.
use mathlib.Core.Path.{ap}
use Rattle.book.specs.Table.{called}
use Rattle.interface.specs.Calls.{ct_insert}
use Rattle.interface.proofs.Handed.{hands}
use Rattle.interface.proofs.Refusals.{ct_demand1}
use Rattle.codetree.proofs.ct_insert.Goals as goal

pub returns : goal.returns
unfolding ct_insert
returns c = record { hands = hands c.args.told.now (ap called c.insert.ensures) c.hand.ensures; refusals = ct_demand1 }
