-- `renew` meets its contract: the places are noted in the used words.
use native.Mathlib.Omega.{arith}
use Rattle.tree.proofs.Grow.{laid_room}
use Rattle.index.proofs.Noting.{decode_region, laid_encoded}
use Rattle.index.proofs.entries.renew.Goals as goal

pub region-requires : goal.region-requires
region-requires c = omega (arith, laid_room c.args.tree.now c.requires.1)

pub note-requires : goal.note-requires
note-requires c =
    let T = c.args.tree.now in rw c.region.ensures (laid_encoded T c.requires.0 c.requires.1, rw (decode_region T) at c.requires.2)

pub returns : goal.returns
returns c = rw (decode_region c.args.tree.now) (rw c.region.ensures at c.note.ensures)
