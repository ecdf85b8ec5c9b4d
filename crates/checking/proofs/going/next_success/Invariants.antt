-- `next_success` meets its contract: what is left from the word at hand on is what was left at first.
use Rattle.checking.proofs.Scanning.{Gone}
use Rattle.checking.proofs.going.next_success.Given as goal

abbrev pub invariant-loop-place : goal.invariant-loop-place
invariant-loop-place l = Gone l.words l.from l.depth l.initial.keys l.initial.ends l.keys l.ends l.place l.above
