-- `list_known` meets its contract: the clauses on the shelf, and the listing of them.
use mathlib.Core.Path.{◌∙◌}
use Rattle.listing.proofs.Known.{accepted, known}
use Rattle.listing.proofs.list_known.Goals as goal

pub list_shelf-requires : goal.list_shelf-requires
list_shelf-requires c = rw c.shelve_tree.ensures (c.requires.1, accepted _ c.requires.0)

pub returns : goal.returns
returns c = (rw c.shelve_tree.ensures at c.list_shelf.ensures) ∙ known _ c.requires.0 _ c.requires.1 _ _
