-- `still_open` meets its contract: the words above are closed one by one, from the lowest up.
use native.Mathlib.Omega.{arith}
use Rattle.checking.proofs.Scanning.{closing_stops, closing_next, closing_none}
use Rattle.checking.proofs.going.still_open.Goals as goal

pub returns-then-ends-lowest : goal.returns-then-ends-lowest
returns-then-ends-lowest c = closing_stops _ _ _ c.loop-lowest.lowest c.loop-lowest.invariant (omega arith) c.if-ends-lowest.true

pub loop-lowest-preserved : goal.loop-lowest-preserved
loop-lowest-preserved c = closing_next _ _ _ c.loop-lowest.lowest c.loop-lowest.invariant (omega arith) c.if-ends-lowest.false

pub returns : goal.returns
returns c = closing_none _ _ _ c.loop-lowest.lowest c.loop-lowest.invariant (omega arith)
