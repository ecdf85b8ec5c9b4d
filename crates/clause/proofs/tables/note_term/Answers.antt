-- `clause::tables::note_term` meets its contract: the arguments passed are noted, and the others stand from where it is on. Assumes nothing.
use mathlib.Core.Path.{◌≡◌, refl}
use native.Mathlib.Omega.{arith}
use Prim.Native.Nat.{◌-◌, ◌<◌}
use Rattle.clause.specs.Word.{arity}
use Rattle.clause.proofs.Literals.{accepted}
use Rattle.clause.proofs.Noting.{noting_none, noting_term, noting_all}
use Rattle.clause.proofs.tables.note_term.Goals as goal

pub loop-left-init : goal.loop-left-init
unfolding arity
loop-left-init c =
    let a = c.args in
    let fits = (accepted a.words.now c.requires.0).fits in (
      omega (arith, c.requires.1),
      omega (arith, c.arity-left.ensures),
      noting_none a.words.now c.requires.0 a.p c.requires.1 _ c.arity-left.ensures c.requires.2,
    )

pub loop-left-preserved : goal.loop-left-preserved
loop-left-preserved c =
    let g : 0 < c.loop-left.left = omega (arith, c.loop-left-test.true) in
    let m = noting_term c.args.words.now c.requires.0 c.args.p c.requires.1 c.loop-left.at c.loop-left.left
    (c.loop-left.left - 1) g refl c.loop-left.invariant.2 in
    (omega (arith, m.0, m.1.high, (accepted c.args.words.now c.requires.0).fits), omega (arith, c.loop-left.invariant.1), rw m.0 m.1)

pub bounds-tables-end : goal.bounds-tables-end
bounds-tables-end c = omega (arith, c.requires.1, (accepted _ c.requires.0).fits)

pub returns : goal.returns
returns c =
    let e : c.loop-left.left ≡ 0 = omega (arith, c.loop-left-test.false) in
    (noting_all c.args.words.now c.requires.0 c.args.p c.requires.1 c.loop-left.at (rw e at c.loop-left.invariant.2)).1
