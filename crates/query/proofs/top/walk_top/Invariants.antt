-- `walk_top`: along the topmost row the invariant is `Walking`, with no head and an empty trail.
use lib.ListN.{length}
use Rattle.cells.specs.Inner.Cells.{no_position, state_of}
use Rattle.walking.proofs.Walking.{Walking}
use Rattle.query.proofs.top.walk_top.Given as goal

abbrev pub invariant-loop-rest : goal.invariant-loop-rest
invariant-loop-rest l = Walking l.query l.tables l.words l.budget (state_of no_position l.initial.cells) 0 l.initial.cells l.cells l.count no_position 0 l.rest

abbrev pub decreases-loop-rest : goal.decreases-loop-rest
decreases-loop-rest l = length l.rest
