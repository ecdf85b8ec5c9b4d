-- `skip` meets its contract.
use Rattle.std.proofs.Common.{◌≡◌, ◌-◌, length, arith}
use Rattle.cells.proofs.Rows.{skipped_none, skipped_more, skipped_left}
use Rattle.cells.proofs.row.skip.Goals as goal

pub loop-to-init : goal.loop-to-init
loop-to-init c = (skipped_none _ _ _ c.requires.0, skipped_none _ _ _)

pub fails-requires : goal.fails-requires
fails-requires c = c.requires.1

pub returns-then-not-fails : goal.returns-then-not-fails
returns-then-not-fails c = skipped_left (c.loop-to.invariant.1 (omega (arith, c.loop-to-test.true)))

pub returns-then-size-eq0 : goal.returns-then-size-eq0
returns-then-size-eq0 c = skipped_left (c.loop-to.invariant.1 (omega (arith, c.loop-to-test.true)))

pub loop-to-preserved : goal.loop-to-preserved
loop-to-preserved c =
    let p = c.loop-to.invariant.1 (omega (arith, c.loop-to-test.true)) in
    let f = c.fails.ensures c.if-not-fails.false in
    (p, skipped_more _ _ _ _ p c.loop-to-test.true f.0 f.1 _ c.extent-size.ensures c.if-size-eq0.false)

pub overflow_sub-result-then-to-words : goal.overflow_sub-result-then-to-words
overflow_sub-result-then-to-words c = c.loop-to.invariant.0.inside

pub returns-then-to-words : goal.returns-then-to-words
returns-then-to-words c = skipped_left c.loop-to.invariant.0

pub returns : goal.returns
returns c =
    let z : c.loop-to.to ≡ length c.args.words.now - 0 = omega (arith, c.if-to-words.false, c.loop-to-test.false) in
    (omega arith, rw (← z) (c.loop-to.invariant.1 c.if-to-words.false))
