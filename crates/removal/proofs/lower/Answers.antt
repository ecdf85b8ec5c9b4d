-- `lower` meets its contract: the words from `at` on are as they were, and lowering them is all that is left.
use mathlib.Core.Path.{◌≡◌, ap}
use native.Mathlib.Omega.{arith}
use lib.ListN.{get_or}
use Rattle.std.proofs.lemmas.Grind.{common_steps}
use Rattle.tree.specs.Laid.{extent_of}
use Rattle.removal.proofs.lower.Goals as goal

pub overflow_sub-w : goal.overflow_sub-w
overflow_sub-w c =
    let p = c.loop-at.at in
    let same : get_or c.loop-at.words p 0 ≡ get_or c.args.words.now p 0 = grind (arith, common_steps) in
    omega (arith, same, c.requires p (omega (arith, ap extent_of same)))
