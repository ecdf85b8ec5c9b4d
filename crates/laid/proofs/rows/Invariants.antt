-- The rest of the words and the Success words found so far decide.
use mathlib.Core.Path.{◌≡◌}
use mathlib.Core.Bool.{◌&&◌}
use Prim.Native.Nat.{◌+◌, ◌≤◌}
use lib.Dec.{eqb}
use lib.ListN.{drop}
use Rattle.tree.specs.Laid.{rows, successes}
use Rattle.laid.proofs.rows.Given as goal

abbrev pub invariant-loop-at : goal.invariant-loop-at
invariant-loop-at l =
    (l.found ≤ l.at)
    × ((rows l.words && eqb (successes l.words) l.kept) ≡ (rows (drop l.at l.words) && eqb (l.found + successes (drop l.at l.words)) l.kept))
