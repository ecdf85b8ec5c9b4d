-- `is_whole` counts the terms to come. The invariant: the clause is whole where the rest is, with what is counted so far.
use mathlib.Core.Path.{◌≡◌}
use Prim.Native.Nat.{◌≤◌, ◌*◌}
use lib.ListN.{drop}
use Rattle.clause.specs.Clause.{shape}
use Rattle.reading.specs.Inner.Whole.{is_whole}
use Rattle.reading.proofs.Counting.{counted}
use Rattle.reading.proofs.whole.is_whole.Given as goal

abbrev pub invariant-loop-word : goal.invariant-loop-word
invariant-loop-word l =
    (l.need ≤ 7 * l.word-index) × (l.count ≤ l.word-index) × (is_whole (shape l.words) ≡ counted (drop l.word-index l.words) l.need l.count)
