-- `used` meets its contract: its bits are those of the candidates gone through, the latest first.
use Rattle.std.proofs.Common.{◌≡◌, ◌∙◌, arith}
use Rattle.cells.proofs.Bits.{bits_none, bits_more, candidate_small}
use Rattle.cells.proofs.state.used.Goals as goal

pub loop-i-init : goal.loop-i-init
loop-i-init c = rw c.from-i.ensures (omega arith, bits_none c.args.cells.now c.requires.0 c.requires.1)

-- the cell that is read holds a literal
pub overflow_shl-bits : goal.overflow_shl-bits
overflow_shl-bits c =
    let small = candidate_small c.args.cells.now c.requires.0 c.requires.1 c.loop-i.i c.loop-i-test.true c.loop-i.invariant.0 in
    omega (arith, small)

pub loop-i-preserved : goal.loop-i-preserved
loop-i-preserved c =
    let v = c.loop-i.invariant in
    (omega (arith, v.0), bits_more c.args.cells.now c.requires.0 c.requires.1 c.loop-i.i c.loop-i-test.true v.0 v.1)

pub returns : goal.returns
returns c = let z : c.loop-i.i ≡ 0 = omega arith in c.loop-i.invariant.1 ∙ rw z
