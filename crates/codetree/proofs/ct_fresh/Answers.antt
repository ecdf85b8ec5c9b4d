-- `ct_fresh` meets its contract: the call is made, and its answer's number returned.
use mathlib.Core.Path.{ap}
use mathlib.Core.List.{[]}
use Rattle.book.specs.Table.{called}
use Rattle.interface.specs.Calls.{ct_fresh}
use Rattle.interface.proofs.Handed.{hands_left}
use Rattle.codetree.proofs.ct_fresh.Goals as goal

pub returns : goal.returns
unfolding ct_fresh
returns c = hands_left [] (ap called c.fresh.ensures) c.hand.ensures
