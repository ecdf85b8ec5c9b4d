-- `insert_below` meets its contract.
use native.Mathlib.Omega.{arith}
use Rattle.merging.proofs.Putting.{slice_parts}
use Rattle.index.proofs.placing.insert_below.Goals as goal

pub region-requires : goal.region-requires
region-requires c = (slice_parts c.requires.0).room

pub place_below-place-requires : goal.place_below-place-requires
place_below-place-requires c = rw c.region.ensures ((slice_parts c.requires.0).rows, c.requires.2 (omega arith))

pub insert_placed-requires : goal.insert_placed-requires
insert_placed-requires c = (c.requires.0, c.requires.1, rw c.region.ensures at c.place_below-place.ensures)
