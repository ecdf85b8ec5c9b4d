-- `ct_backward` meets its contract: the call is made, and its answer handed over; and the claim is proved.
use mathlib.Core.Path.{ap}
use Rattle.book.specs.Table.{backed}
use Rattle.interface.specs.Calls.{ct_backward}
use Rattle.interface.proofs.Handed.{hands}
use Rattle.interface.proofs.Lists.{ct_lists_book}
use Rattle.codetree.proofs.ct_backward.Goals as goal

pub returns : goal.returns
unfolding ct_backward
returns c = record { hands = hands c.args.told.now (ap backed c.backward.ensures) c.hand.ensures; lists = ct_lists_book }
