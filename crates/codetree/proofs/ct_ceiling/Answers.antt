-- `ct_ceiling` meets its contract: the call is made, and its answer handed over.
use mathlib.Core.Path.{ap, ◌∙◌}
use Rattle.book.specs.Table.{said_ceiling}
use Rattle.interface.specs.Told.{replied}
use Rattle.interface.specs.Calls.{ct_ceiling}
use Rattle.codetree.proofs.ct_ceiling.Goals as goal

pub returns : goal.returns
unfolding ct_ceiling
returns c = c.hand.ensures ∙ ap (λ y. replied (said_ceiling y) c.args.told.now) c.ceiling.ensures
