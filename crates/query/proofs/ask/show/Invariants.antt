-- `show` meets its contract. The invariant: the first i words to show are written.
use mathlib.Core.Path.{◌≡◌}
use lib.ListN.{length, take}
use Rattle.cells.specs.Inner.Cells.{no_position, state_of}
use Rattle.walk.specs.Query.{shown, with_shown}
use Rattle.query.proofs.ask.show.Given as goal

abbrev pub invariant-loop-i : goal.invariant-loop-i
invariant-loop-i l =
    (length l.witness ≡ length l.initial.witness)
    × (l.witness ≡ with_shown (take l.i (shown (state_of no_position l.cells))) l.initial.witness)
