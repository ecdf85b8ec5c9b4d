-- The rest of the row from each sibling on decides.
use mathlib.Core.Path.{sym, ◌∙◌}
use native.Mathlib.Omega.{arith}
use lib.Seq.{length-take-le}
use Rattle.laid.proofs.WellLaid.{row_short, row_rest, row_taken}
use Rattle.laid.proofs.row.Goals as goal

pub returns-then-count-words : goal.returns-then-count-words
returns-then-count-words c = sym (row_short c.args.words.now 0 0 c.args.count (omega arith))

pub loop-rest-init : goal.loop-rest-init
loop-rest-init c = let a = c.args in rw (length-take-le a.count a.words.now (omega arith)) (sym (row_taken a.words.now a.count 0 0 a.count (omega arith)))

pub loop-rest-preserved : goal.loop-rest-preserved
loop-rest-preserved c =
    let l = c.loop-rest in
    l.invariant ∙ rw c.next_key-least.ensures (row_rest l.rest.now l.least _ (omega arith) c.extent-e.ensures (omega arith) (omega arith) (omega arith))
