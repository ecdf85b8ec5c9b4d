-- `gather` meets its contract: the paths so far are clauses', and their numbers are noted.
use mathlib.Core.Path.{◌≡◌}
use mathlib.Core.List.{◌++◌}
use Prim.Native.Nat.{◌+◌, ◌≤◌}
use lib.ListN.{length, take}
use Rattle.readback.specs.Saved.{all_readable, numbers_of}
use Rattle.checking.proofs.gather.Given as goal

abbrev pub invariant-loop-number : goal.invariant-loop-number
invariant-loop-number l =
    record {
      room : l.count + length l.pass.left ≤ length l.numbers;
      clauses : all_readable l.initial.pass.left ≡ all_readable l.pass.left;
      noted : numbers_of l.initial.pass.left ≡ take l.count l.numbers ++ numbers_of l.pass.left;
    }

abbrev pub decreases-loop-number : goal.decreases-loop-number
decreases-loop-number l = length l.pass.left
