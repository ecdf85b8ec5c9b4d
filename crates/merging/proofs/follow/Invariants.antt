-- `merging::follow` meets its contract: the keys from `shared` on are looked for in the row from `at` up to `end`.
use Prim.Native.Nat.{◌-◌}
use lib.ListN.{length}
use Rattle.merging.specs.Inner.Inserting.{Descending}
use Rattle.merging.proofs.follow.Given as goal

abbrev pub invariant-loop-at : goal.invariant-loop-at
invariant-loop-at l = Descending l.words l.keys l.at l.end l.shared

abbrev pub decreases-loop-at : goal.decreases-loop-at
decreases-loop-at l = length l.words - l.at
