-- `remove_all` meets its contract: the removals that are left make of the tree what all make of the first one.
use mathlib.Core.Path.{◌≡◌}
use lib.ListN.{drop}
use Rattle.book.specs.Book.{after}
use Rattle.record.specs.Answer.{removals}
use Rattle.replacing.proofs.remove_all.Given as goal

abbrev pub invariant-loop-n : goal.invariant-loop-n
invariant-loop-n l = after l.tree (removals (drop l.n-index l.numbers)) ≡ after l.initial.tree (removals l.numbers)
