-- `literals` reads the literals. The invariant: the rest is the reading from here on, `count` literals having been read.
use mathlib.Core.Path.{◌≡◌}
use Prim.Native.Nat.{◌≤◌, ◌-◌}
use lib.ListN.{length}
use Rattle.clause.specs.Clause.{max_literals, scan}
use Rattle.reading.specs.declared.Cursor.{Cursor}
use Rattle.std.specs.Prelude.{Some}
use Rattle.reading.proofs.Scanning.{read_on}
use Rattle.reading.proofs.literals.Given as goal

abbrev pub invariant-loop-argument : goal.invariant-loop-argument
invariant-loop-argument l =
    (l.count ≤ max_literals) × ((c : Cursor) → l.argument ≡ Some c → c.at ≡ l.at) × (scan l.words 0 0 0 ≡ read_on l.words l.at l.count l.argument)

abbrev pub decreases-loop-argument : goal.decreases-loop-argument
decreases-loop-argument l = length l.words - l.at
