-- `lower` meets its contract: the words from `at` on are as they were, and lowering them is all that is left.
use mathlib.Core.Path.{◌≡◌}
use mathlib.Core.List.{◌++◌}
use Prim.Native.Nat.{◌-◌}
use lib.ListN.{length, take, drop}
use Rattle.tree.specs.Inner.Cut.{lower}
use Rattle.removal.proofs.lower.Given as goal

abbrev pub invariant-loop-at : goal.invariant-loop-at
invariant-loop-at l =
    let W = l.initial.words in
    record {
      counted : l.count ≡ length W;
      rest : drop l.at l.words ≡ drop l.at W;
      does : take l.at l.words ++ lower (drop l.at l.words) (l.count - l.at) l.gone ≡ lower W l.count l.gone;
    }
