-- The digits counted so far are those after the ones that are left.
use native.Mathlib.Omega.{arith}
use borrow.Author.Rules.{rules}
use Rattle.record.proofs.Text.{length_small, length_large, decimal_length}
use Rattle.lines.proofs.decimal.digits.Goals as goal

pub loop-left-init : goal.loop-left-init
loop-left-init c = omega arith

pub overflow_add-count : goal.overflow_add-count
overflow_add-count c = record { fits = omega (arith, c.loop-left.invariant, decimal_length 19 c.args.number (search rules)) }

pub loop-left-smaller : goal.loop-left-smaller
loop-left-smaller c = omega arith

pub loop-left-preserved : goal.loop-left-preserved
loop-left-preserved c = omega (arith, c.loop-left.invariant, length_large c.loop-left.left c.loop-left-test.true)

pub returns : goal.returns
returns c = omega (arith, c.loop-left.invariant, length_small c.loop-left.left c.loop-left-test.false)
