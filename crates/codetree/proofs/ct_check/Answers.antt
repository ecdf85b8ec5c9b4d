-- `ct_check` meets its contract: the call is made, and its answer handed over; and the claims are proved.
use mathlib.Core.Path.{ap, ◌∙◌}
use Rattle.book.specs.Table.{said_check}
use Rattle.interface.specs.Told.{Reply, number_of}
use Rattle.interface.specs.Calls.{ct_check}
use Rattle.interface.proofs.Lists.{ct_checked, ct_reads_book, ct_saved_is_made}
use Rattle.codetree.proofs.ct_check.Goals as goal

pub returns : goal.returns
unfolding ct_check
returns c =
    record {
      hands = ap (λ (y : Reply). y.number) c.hand.ensures ∙ ap (λ a. number_of (said_check a).title) c.check.ensures;
      saved = (ct_checked, ct_reads_book, ct_saved_is_made);
    }
