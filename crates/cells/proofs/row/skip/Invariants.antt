-- `skip`: only Checks that fail stand between the place where it began and the latest word, and before the next too, unless the latest is too long.
use Rattle.std.proofs.Common.{◌-◌, ◌≤◌, length}
use Rattle.cells.specs.Inner.Cells.{Skipped}
use Rattle.cells.proofs.row.skip.Given as goal

abbrev pub invariant-loop-to : goal.invariant-loop-to
invariant-loop-to l = Skipped l.words l.at l.key l.i × (l.to ≤ length l.words → Skipped l.words l.at l.key l.to)

abbrev pub decreases-loop-to : goal.decreases-loop-to
decreases-loop-to l = length l.words - l.to
