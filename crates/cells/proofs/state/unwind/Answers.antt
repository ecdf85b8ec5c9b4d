-- `unwind` meets its contract. The loop's invariant: storing back what is left on the trail gives what storing back the whole trail gave.
use Rattle.std.proofs.Common.{◌≡◌, length, sym, refl, ap, ◌∙◌, arith}
use Rattle.cells.proofs.Places.{restored_size, unwound_none, unwound_next}
use Rattle.cells.proofs.state.unwind.Goals as goal

pub loop-left-init : goal.loop-left-init
loop-left-init c = (c.requires, refl, c.ranges.trail.fits)

pub restore-requires : goal.restore-requires
restore-requires c = c.loop-left.invariant.0

pub loop-left-smaller : goal.loop-left-smaller
loop-left-smaller c = omega arith

pub loop-left-preserved : goal.loop-left-preserved
loop-left-preserved c =
    let e = c.restore.ensures in
    let i = c.loop-left.invariant in
    (ap length e ∙ restored_size _ _ ∙ i.0, i.1 ∙ unwound_next _ _ i.2 ∙ rw (← e), omega (arith, i.2))

pub returns : goal.returns
returns c = let z : c.loop-left.left ≡ 0 = omega arith in sym (c.loop-left.invariant.1 ∙ rw z (unwound_none _))
