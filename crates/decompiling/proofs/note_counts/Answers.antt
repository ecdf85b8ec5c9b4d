-- `note_counts` meets its contract: the first puts among the first k are counted.
use Rattle.decompiling.proofs.Tables.{counted_none, counted_new, counted_old, counted_low}
use native.Mathlib.Omega.{arith}
use Rattle.decompiling.proofs.note_counts.Goals as goal
use Rattle.decompiling.proofs.note_counts.Goals.{then-origins-k, else-origins-k}

pub loop-k-init : goal.loop-k-init
loop-k-init c = counted_none c.args.origins.now c.args.counts.now (omega arith)

pub overflow_add-firsts : goal.overflow_add-firsts
overflow_add-firsts c =
    let l = c.loop-k in
    omega (arith, counted_low _ l.counts l.firsts l.k l.invariant)

pub loop-k-preserved : goal.loop-k-preserved
loop-k-preserved c =
    let l = c.loop-k in
    let a = c.args in
    elim c.if-origins-k.branch [
      | then-origins-k w ↦ rw w.firsts-is (counted_new a.origins.now l.counts l.firsts l.k l.invariant (omega arith) w.if-origins-k.true)
      | else-origins-k w ↦ rw w.firsts-is (counted_old a.origins.now l.counts l.firsts l.k l.invariant (omega arith) w.if-origins-k.false)
    ]
