-- `merging::raise` meets its contract: the words before `at` are raised, those from there on are as they were.
use Prim.Native.Nat.{◌-◌}
use lib.ListN.{length}
use Rattle.merging.proofs.Descending.{Raising}
use Rattle.merging.proofs.raise.Given as goal

abbrev pub invariant-loop-at : goal.invariant-loop-at
invariant-loop-at l = Raising l.initial.words l.keys l.new l.words l.at l.end l.shared

abbrev pub decreases-loop-at : goal.decreases-loop-at
decreases-loop-at l = length l.initial.words - l.at
