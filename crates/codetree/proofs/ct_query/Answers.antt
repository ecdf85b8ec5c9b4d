-- `ct_query` meets its contract: the call is made, and its answer handed over; and the claims are proved.
use mathlib.Core.Path.{ap}
use Rattle.book.specs.Table.{asked}
use Rattle.interface.specs.Calls.{ct_query}
use Rattle.interface.proofs.Handed.{hands}
use Rattle.interface.proofs.Differ.{told_apart}
use Rattle.interface.proofs.Lists.{ct_reach, ct_demand2, ct_demand3, ct_exact_count}
use Rattle.codetree.proofs.ct_query.Goals as goal

pub returns : goal.returns
unfolding ct_query
returns c =
    record {
      hands = hands c.args.told.now (ap asked c.query.ensures) c.hand.ensures;
      lists = (ct_reach, ct_demand2, ct_demand3);
      count = ct_exact_count;
      apart = told_apart;
    }
