-- The digits before the place are those of what is left of the number.
use mathlib.Core.Path.{◌≡◌}
use Prim.Native.Nat.{◌+◌, ◌≤◌}
use lib.ListN.{length}
use lib.Seq.{sets}
use Rattle.record.specs.Text.{decimal}
use Rattle.lines.proofs.decimal.write_decimal.Given as goal

abbrev pub invariant-loop-left : goal.invariant-loop-left
invariant-loop-left l =
    (length l.output ≡ length l.initial.output) × (l.last + 1 ≤ l.end) × (l.last + 1 ≡ l.at + length (decimal l.left))
    × (sets l.initial.output l.at (decimal l.number) ≡ sets l.output l.at (decimal l.left))

abbrev pub decreases-loop-left : goal.decreases-loop-left
decreases-loop-left l = l.left
