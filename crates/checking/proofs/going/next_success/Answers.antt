-- `next_success` meets its contract: what is left from the word at hand on is what was left at first.
use native.Mathlib.Omega.{arith}
use Rattle.checking.proofs.Scanning.{gone_end, gone_success, gone_deep, gone_next}
use Rattle.checking.proofs.going.next_success.Goals as goal

pub returns-then-k-lt-FIRST : goal.returns-then-k-lt-FIRST
returns-then-k-lt-FIRST c =
    gone_success c.loop-place.invariant (omega arith) _ c.still_open-above.ensures (rw c.key-k.ensures at c.if-k-lt-FIRST.true)

pub returns-then-above-ge-KEYS : goal.returns-then-above-ge-KEYS
returns-then-above-ge-KEYS c =
    let k = rw c.key-k.ensures at c.if-k-lt-FIRST.false in
    gone_deep c.loop-place.invariant (omega arith) _ c.still_open-above.ensures c.requires.0 (omega arith) c.if-above-ge-KEYS.true

pub loop-place-preserved : goal.loop-place-preserved
loop-place-preserved c =
    let k = rw c.key-k.ensures at c.if-k-lt-FIRST.false in
    rw (c.key-k.ensures, c.extent.ensures)
    (gone_next c.loop-place.invariant (omega arith) _ c.still_open-above.ensures (omega arith) (omega (arith, c.if-above-ge-KEYS.false)))

pub returns : goal.returns
returns c = gone_end c.loop-place.invariant (omega arith)
