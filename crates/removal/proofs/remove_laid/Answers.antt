-- `remove_laid` meets its contract: where the scan finds the number, its run is taken out, and else nothing is changed.
use native.Mathlib.Omega.{arith}
use Rattle.tree.proofs.Grow.{sized_high, laid_room}
use Rattle.removal.proofs.TakingOut.{hit_order, removable, removed, missed}
use Rattle.removal.proofs.remove_laid.Goals as goal

pub region-requires : goal.region-requires
region-requires c = omega (arith, laid_room c.args.tree.now c.requires.1)

pub returns-in_default : goal.returns-in_default
returns-in_default c =
    let a = c.args in
    missed a.tree.now a.number c.requires.1 (rw c.region.ensures at c.in_default.ensures)

pub overflow_add-run : goal.overflow_add-run
overflow_add-run c =
    let a = c.args in
    let run = rw c.region.ensures at c.in-Some.ensures in
    omega (arith, (hit_order a.tree.now a.number _ (omega arith) c.requires.1 run).1, laid_room a.tree.now c.requires.1)

pub overflow_sub-run : goal.overflow_sub-run
overflow_sub-run c =
    let a = c.args in
    let run = rw c.region.ensures at c.in-Some.ensures in
    omega (arith, (hit_order a.tree.now a.number _ (omega arith) c.requires.1 run).0)

pub take_out-requires : goal.take_out-requires
take_out-requires c =
    let a = c.args in
    let r = c.in-Some.run' in
    removable a.tree.now a.number (record { place = r.place; last = r.last }) _ (omega arith) (sized_high a.tree.now c.requires.0) (omega arith)
    c.requires.1 (rw c.region.ensures at c.in-Some.ensures)

pub returns : goal.returns
returns c =
    let a = c.args in
    rw c.take_out.ensures
    (removed a.tree.now a.number _ (omega arith) c.requires.1 (rw c.region.ensures at c.in-Some.ensures))
