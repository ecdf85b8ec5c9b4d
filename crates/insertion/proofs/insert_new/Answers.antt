-- `insertion::insert_new` meets its contract.
use Rattle.merging.proofs.Putting.{slice_parts}
use Rattle.insertion.proofs.insert_new.Goals as goal

pub region-requires : goal.region-requires
region-requires c = (slice_parts c.requires.0).room

pub place_of-place-requires : goal.place_of-place-requires
place_of-place-requires c = rw c.region.ensures (slice_parts c.requires.0).rows

pub insert_placed-requires : goal.insert_placed-requires
insert_placed-requires c = (c.requires.0, c.requires.1, rw c.region.ensures at c.place_of-place.ensures)
