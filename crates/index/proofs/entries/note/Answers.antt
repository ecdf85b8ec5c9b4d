-- `note` meets its contract: the places of the siblings before `at` are noted.
use native.Mathlib.Omega.{arith}
use Rattle.index.proofs.Noting.{noting_start, noting_next, noting_end}
use Rattle.index.proofs.entries.note.Goals as goal

pub loop-at-init : goal.loop-at-init
loop-at-init c = noting_start c.args.words.now c.args.heads.now c.requires.0 c.requires.1

pub bounds-heads-head : goal.bounds-heads-head
bounds-heads-head c =
    let n = noting_next c.args.words.now c.loop-at.at c.loop-at.heads c.requires.0.few c.loop-at-test.true c.loop-at.invariant in
    omega (arith, c.key.ensures, n.small, c.loop-at.invariant.long)

pub loop-at-smaller : goal.loop-at-smaller
loop-at-smaller c =
    let n = noting_next c.args.words.now c.loop-at.at c.loop-at.heads c.requires.0.few c.loop-at-test.true c.loop-at.invariant in
    omega (arith, c.extent-at.ensures, n.some, n.inside)

pub loop-at-preserved : goal.loop-at-preserved
loop-at-preserved c =
    let n = noting_next c.args.words.now c.loop-at.at c.loop-at.heads c.requires.0.few c.loop-at-test.true c.loop-at.invariant in
    rw (c.key.ensures, c.extent-at.ensures) n.noted

pub returns : goal.returns
returns c = noting_end c.args.words.now c.loop-at.at c.loop-at.heads (omega (arith, c.loop-at-test.false)) c.requires.1.tree c.loop-at.invariant
