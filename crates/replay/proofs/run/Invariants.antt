-- The calls still to come, on the slice as it is, give what all of them give.
use mathlib.Core.Path.{◌≡◌}
use lib.ListN.{length}
use Rattle.book.specs.Book.{AllFit, after}
use Rattle.book.specs.Encoding.{calls_of}
use Rattle.replay.proofs.run.Given as goal

abbrev pub invariant-loop-left : goal.invariant-loop-left
invariant-loop-left l =
    (AllFit (calls_of l.left) → AllFit (calls_of l.calls)) × (after l.initial.tree (calls_of l.calls) ≡ after l.tree (calls_of l.left))

abbrev pub decreases-loop-left : goal.decreases-loop-left
decreases-loop-left l = length l.left
