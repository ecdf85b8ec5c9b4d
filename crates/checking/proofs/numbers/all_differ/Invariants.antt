-- `all_differ` meets its contract: no number so far stands again after it.
use mathlib.Core.Path.{◌≡◌}
use lib.ListN.{drop}
use Rattle.readback.specs.Saved.{all_differ}
use Rattle.checking.proofs.numbers.all_differ.Given as goal

abbrev pub invariant-loop-i : goal.invariant-loop-i
invariant-loop-i l = all_differ (drop l.i l.numbers) ≡ all_differ l.numbers
