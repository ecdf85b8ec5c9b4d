-- `ct_read_back` meets its contract: the call is made, and its answer handed over.
use mathlib.Core.Path.{ap}
use Rattle.book.specs.Table.{given_back}
use Rattle.interface.specs.Calls.{ct_read_back}
use Rattle.interface.proofs.Handed.{hands}
use Rattle.codetree.proofs.ct_read_back.Goals as goal

pub returns : goal.returns
unfolding ct_read_back
returns c = hands c.args.told.now (ap given_back c.read_back.ensures) c.hand.ensures
