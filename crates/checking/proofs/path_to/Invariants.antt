-- `path_to` meets its contract: the number is none of the paths so far.
use mathlib.Core.Path.{◌≡◌}
use mathlib.Core.Bool.{true}
use lib.ListN.{length}
use Rattle.tree.specs.Laws.{first_with}
use Rattle.readback.specs.Saved.{all_readable}
use Rattle.checking.proofs.path_to.Given as goal

abbrev pub invariant-loop-found : goal.invariant-loop-found
invariant-loop-found l =
    (all_readable l.pass.left ≡ true) × (first_with l.number l.initial.pass.left ≡ first_with l.number l.pass.left)

abbrev pub decreases-loop-found : goal.decreases-loop-found
decreases-loop-found l = length l.pass.left
