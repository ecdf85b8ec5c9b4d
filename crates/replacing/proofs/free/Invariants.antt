-- `free` meets its contract: the marks that are left to free make of them what all make of the first ones.
use mathlib.Core.Path.{◌≡◌}
use lib.ListN.{drop}
use Rattle.record.specs.Marks.{freeing}
use Rattle.replacing.proofs.free.Given as goal

abbrev pub invariant-loop-n : goal.invariant-loop-n
invariant-loop-n l = freeing (drop l.n-index l.numbers) l.marks ≡ freeing l.numbers l.initial.marks
