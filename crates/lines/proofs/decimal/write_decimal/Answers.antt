-- The digits before the place are those of what is left of the number.
use mathlib.Core.Path.{refl, ◌∙◌}
use Prim.Native.Nat.{◌/◌}
use native.Mathlib.Omega.{arith}
use lib.ListN.{length-set}
use Rattle.record.proofs.Text.{length_large, decimal_some}
use Rattle.lines.proofs.Writing.{put_last, put_only}
use Rattle.lines.proofs.decimal.write_decimal.Goals as goal

pub overflow_sub-last : goal.overflow_sub-last
overflow_sub-last c = omega (arith, c.digits.ensures, decimal_some c.args.number)

pub loop-left-init : goal.loop-left-init
loop-left-init c =
    let s = decimal_some c.args.number in
    (refl, omega arith, omega (arith, c.digits.ensures, s), refl)

pub bounds-output-last : goal.bounds-output-last
bounds-output-last c = omega (arith, c.requires, c.digits.ensures, c.loop-left.invariant.0, c.loop-left.invariant.1)

pub overflow_sub-last-in-loop-left : goal.overflow_sub-last-in-loop-left
overflow_sub-last-in-loop-left c = omega (arith, c.loop-left.invariant.2, length_large c.loop-left.left c.loop-left-test.true, decimal_some (c.loop-left.left / 10))

pub loop-left-preserved : goal.loop-left-preserved
loop-left-preserved c =
    let l = c.loop-left in
    let e = length_large l.left c.loop-left-test.true in
    let s = decimal_some (l.left / 10) in
    let p = put_last l.left l.output c.args.at l.last c.loop-left-test.true l.invariant.2 in
    (simp length-set l.invariant.0, omega arith, omega (arith, l.invariant.2, e, s), l.invariant.3 ∙ p)

pub bounds-output-last-2 : goal.bounds-output-last-2
bounds-output-last-2 c = omega (arith, c.requires, c.digits.ensures, c.loop-left.invariant.0, c.loop-left.invariant.1)

pub shape_of-output : goal.shape_of-output
shape_of-output c = simp length-set c.loop-left.invariant.0

pub returns : goal.returns
returns c =
    let l = c.loop-left in
    let p = put_only l.left l.output c.args.at l.last c.loop-left-test.false l.invariant.2 in
    rw (c.digits.ensures, ← p, ← l.invariant.3)
