-- The part that is lent is the definition's.
use mathlib.Core.Path.{◌≡◌}
use mathlib.Core.List.{List, [], ◌∷◌}
use Prim.Native.Nat.{ℕ, ◌+◌, ◌-◌, ◌<◌}
use native.Mathlib.Omega.{arith}
use lib.ListN.{length, get_or, take, drop}
use Rattle.tree.specs.Laid.{used_of, region}
use Rattle.tree.proofs.Tree.region.Goals as goal

part : (T : List ℕ) (used : ℕ) → used_of (get_or T 0 0) < length T → used ≡ used_of (get_or T 0 0) → take (used + 1 - 1) (drop 1 T) ≡ region T
unfolding region
part [] used h e = absurd (omega arith)
part (w ∷ ws) used h e = let same : used + 1 - 1 ≡ used_of w = omega arith in rw same

pub returns : goal.returns
returns c = part c.args.tree.now _ c.requires c.used-end.ensures
