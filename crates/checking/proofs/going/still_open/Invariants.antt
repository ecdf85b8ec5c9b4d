-- `still_open` meets its contract: the words above are closed one by one, from the lowest up.
use Rattle.checking.proofs.Scanning.{Closing}
use Rattle.checking.proofs.going.still_open.Given as goal

abbrev pub invariant-loop-lowest : goal.invariant-loop-lowest
invariant-loop-lowest l = Closing l.ends l.depth l.at l.lowest
