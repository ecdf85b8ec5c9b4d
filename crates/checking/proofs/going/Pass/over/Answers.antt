-- `over` meets its contract: no word stands above the first one.
use native.Mathlib.Omega.{arith}
use Rattle.tree.proofs.Grow.{laid_room}
use Rattle.checking.specs.Inner.Scan.{opens}
use Rattle.checking.proofs.Slices.{region_nested, region_paths}
use Rattle.checking.proofs.going.Pass.over.Goals as goal

pub region-requires : goal.region-requires
region-requires c = laid_room c.args.tree.now c.requires.1

pub invariant_of-result : goal.invariant_of-result
invariant_of-result c = (rw c.region.ensures (region_nested _ c.requires.0 c.requires.1), omega arith, omega arith)

pub returns : goal.returns
unfolding opens
returns c = rw c.region.ensures (region_paths _ c.requires.0 c.requires.1)
