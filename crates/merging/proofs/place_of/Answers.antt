-- `merging::place_of` meets its contract.
use Rattle.merging.proofs.Descending.{descending_start}
use Rattle.merging.proofs.place_of.Goals as goal

pub follow-requires : goal.follow-requires
follow-requires c = descending_start _ _ c.requires
