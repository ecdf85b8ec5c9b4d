-- `clause::tables::note_literals` meets its contract: the literals passed are noted. Assumes nothing.
use native.Mathlib.Omega.{arith}
use Rattle.clause.proofs.Literals.{accepted}
use Rattle.clause.proofs.Hopping.{hopped_none, hopped_high, hopped_room, hopped_next, hopped_all}
use Rattle.clause.proofs.tables.note_literals.Goals as goal

pub loop-at-init : goal.loop-at-init
loop-at-init c = (omega arith, omega arith, hopped_none _ _ c.requires.1)

pub overflow_cast-at : goal.overflow_cast-at
overflow_cast-at c =
    let n = hopped_next c.args.words.now c.requires.0 c.loop-at.count c.loop-at.at c.loop-at.invariant.2 c.loop-at-test.true in
    record { fits = omega (arith, n.1, hopped_high c.args.words.now c.requires.0 _ _ n.2, (accepted c.args.words.now c.requires.0).fits) }

pub loop-at-smaller : goal.loop-at-smaller
loop-at-smaller c =
    let n = hopped_next c.args.words.now c.requires.0 c.loop-at.count c.loop-at.at c.loop-at.invariant.2 c.loop-at-test.true in
    omega (arith, n.0, n.1, c.loop-at-test.true)

pub loop-at-preserved : goal.loop-at-preserved
loop-at-preserved c =
    let n = hopped_next c.args.words.now c.requires.0 c.loop-at.count c.loop-at.at c.loop-at.invariant.2 c.loop-at-test.true in (
      omega (arith, n.1, hopped_high c.args.words.now c.requires.0 _ _ n.2, (accepted c.args.words.now c.requires.0).fits),
      omega (arith, hopped_room c.args.words.now c.requires.0 c.loop-at.count c.loop-at.at c.loop-at.invariant.2 c.loop-at-test.true),
      rw n.1 n.2,
    )

pub returns : goal.returns
returns c = hopped_all c.args.words.now c.requires.0 c.loop-at.count c.loop-at.at c.loop-at.invariant.2 c.loop-at-test.false
