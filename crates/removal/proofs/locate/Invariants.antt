-- `locate` meets its contract: the definition's scan of the words left gives what the whole scan gives.
use mathlib.Core.Path.{◌≡◌}
use lib.ListN.{drop}
use Rattle.tree.specs.Inner.Cut.{locate}
use Rattle.removal.proofs.locate.Given as goal

abbrev pub invariant-loop-at : goal.invariant-loop-at
invariant-loop-at l = locate (drop l.at l.words) l.number l.at l.from l.above ≡ locate l.words l.number 0 0 0
