-- `list_shelf` meets its contract: what the queries came to, written over the list.
use Rattle.listing.proofs.Known.{came_found, came_refused}
use Rattle.tree.proofs.Refused.{refused_as}
use Rattle.listing.proofs.list_shelf.Goals as goal

pub returns : goal.returns
returns c = came_found _ _ c.try_all.new.numbers _ c.in_ok-listed.ensures _ c.copy_from_slice.ensures.after

pub returns-in_err-listed : goal.returns-in_err-listed
returns-in_err-listed c = rw (refused_as _ _ c.from_residual.ensures.1) (came_refused _ _ c.try_all.new.numbers _ c.in_err-listed.ensures)
