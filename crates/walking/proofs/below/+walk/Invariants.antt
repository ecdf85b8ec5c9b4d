-- `walk`: over the passes the invariant is `Between`, along a row `Walking`; the words below a node are fewer.
use Rattle.std.proofs.Common.{◌<◌, length}
use Rattle.cells.specs.Inner.Cells.{state_of}
use Rattle.walking.proofs.Walking.{Walking}
use Rattle.walking.proofs.Turns.{Between}
use Rattle.walking.proofs.below.+walk.Given as goal

-- along a row
abbrev pub invariant-loop-rest : goal.invariant-loop-rest
invariant-loop-rest l =
    Walking l.query l.tables l.words l.budget (state_of l.initial.here l.initial.cells) l.initial.n l.initial.cells l.cells l.n l.here l.trail l.rest
    × (l.here < length l.query)

abbrev pub decreases-loop-rest : goal.decreases-loop-rest
decreases-loop-rest l = length l.rest

-- over the passes
abbrev pub invariant-loop-j : goal.invariant-loop-j
invariant-loop-j l = Between l.query l.words l.budget l.head l.initial.n l.above l.j-end l.saved l.initial.cells l.cells l.n l.j

abbrev pub decreases-walk : goal.decreases-walk
decreases-walk l = length l.words.now
