-- `used` meets its contract.
use Rattle.std.proofs.Common.{◌≡◌, ◌≤◌, take, drop}
use Rattle.cells.specs.Inner.Cells.{count_in, bits_of}
use Rattle.cells.proofs.state.used.Given as goal

abbrev pub invariant-loop-i : goal.invariant-loop-i
invariant-loop-i l = (l.i ≤ count_in l.cells) × (l.bits ≡ bits_of (drop l.i (take (count_in l.cells) l.cells)))
