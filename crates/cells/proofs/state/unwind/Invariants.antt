-- `unwind` meets its contract. The loop's invariant: storing back what is left on the trail gives what storing back the whole trail gave.
use Rattle.std.proofs.Common.{◌≡◌, ◌^◌, ◌<◌, length}
use Rattle.cells.specs.Inner.Cells.{cell_count, unwound}
use Rattle.cells.proofs.state.unwind.Given as goal

abbrev pub invariant-loop-left : goal.invariant-loop-left
invariant-loop-left l = (length l.cells ≡ cell_count) × (unwound l.trail l.initial.cells ≡ unwound l.left l.cells) × (l.left < 2 ^ 64)

abbrev pub decreases-loop-left : goal.decreases-loop-left
decreases-loop-left l = l.left
