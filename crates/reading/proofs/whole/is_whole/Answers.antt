-- `is_whole` counts the terms to come. The invariant: the clause is whole where the rest is, with what is counted so far.
use mathlib.Core.Path.{sym, ap, ◌∙◌}
use native.Mathlib.Omega.{arith}
use borrow.Author.Tests.{le-leb, lt-leb}
use borrow.Author.Rules.{rules}
use Rattle.clause.specs.Word.{arity}
use Rattle.clause.specs.Clause.{max_literals}
use Rattle.reading.specs.Inner.Whole.{is_whole}
use Rattle.reading.proofs.Scanning.{shape_length}
use Rattle.reading.proofs.Counting.{shape_counted, counted_end, counted_head, counted_inside}
use Rattle.reading.proofs.whole.is_whole.Goals as goal
use Rattle.reading.proofs.whole.is_whole.Goals.{then-need-eq0+else-not-is_head, else-need-eq0+else-not-is_inside}

pub returns-then-is_empty : goal.returns-then-is_empty
returns-then-is_empty c = sym (ap is_whole (shape_length _ c.is_empty.ensures c.then-is_empty.either))

pub loop-word-init : goal.loop-word-init
loop-word-init c = (search rules, search rules, shape_counted _ c.if-is_empty.ensures c.if-words-gt-WORDS.false)

pub returns-then-not-is_head : goal.returns-then-not-is_head
returns-then-not-is_head c =
    let e = sym c.is_head.ensures ∙ c.if-not-is_head.true in
    sym (c.loop-word.invariant.2 ∙ counted_head _ _ c.loop-word-test.true _ _ _ c.if-need-eq0.true e)

pub returns-then-not-is_inside : goal.returns-then-not-is_inside
returns-then-not-is_inside c =
    let e = sym c.is_inside.ensures ∙ c.if-not-is_inside.true in
    sym (c.loop-word.invariant.2 ∙ counted_inside _ _ c.loop-word-test.true _ _ _ c.if-need-eq0.false e)

pub overflow_add-need : goal.overflow_add-need
unfolding arity
overflow_add-need c = elim c.if-need-eq0.branch [ then-need-eq0+else-not-is_head w ↦ omega arith | else-need-eq0+else-not-is_inside w ↦ omega arith ]

pub loop-word-preserved : goal.loop-word-preserved
unfolding arity
loop-word-preserved c =
    let e = c.loop-word.invariant.2 in
    let a = c.arity-need.ensures in
    elim c.if-need-eq0.branch [
      | then-need-eq0+else-not-is_head w ↦ (
        omega arith,
        omega arith,
        e ∙ counted_head _ _ c.loop-word-test.true _ _ _ w.if-need-eq0.true (sym w.is_head.ensures ∙ w.if-not-is_head.false) ∙ rw (w.need-is, w.count-is, a),
      )
      | else-need-eq0+else-not-is_inside w ↦ (
        omega arith,
        omega arith,
        e ∙ counted_inside _ _ c.loop-word-test.true _ _ _ w.if-need-eq0.false (sym w.is_inside.ensures ∙ w.if-not-is_inside.false)
            ∙ rw (w.need-is, w.count-is, a),
      )
    ]

pub returns-then-count-le-LITERALS : goal.returns-then-count-le-LITERALS
returns-then-count-le-LITERALS c =
    let x = c.loop-word in
    sym (x.invariant.2 ∙ counted_end _ _ _ _ c.loop-word-test.false ∙ rw (le-leb x.count max_literals (omega arith)))

pub returns-else-count-le-LITERALS : goal.returns-else-count-le-LITERALS
returns-else-count-le-LITERALS c =
    let x = c.loop-word in
    let e = lt-leb x.count max_literals (omega arith) in
    e ∙ sym (x.invariant.2 ∙ counted_end _ _ _ _ c.loop-word-test.false ∙ rw e)
