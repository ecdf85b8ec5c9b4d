-- `past` reads one term. The invariant: the rest is past the terms still to come, which are never many more than the words.
use mathlib.Core.Path.{◌≡◌, refl, sym, ◌∙◌}
use native.Mathlib.Omega.{arith}
use borrow.Author.Rules.{rules}
use Rattle.clause.specs.Word.{arity}
use Rattle.reading.specs.Inner.Cursor.{go_past}
use Rattle.reading.proofs.Past.{past_none, past_end, past_off, past_word, past_many}
use Rattle.reading.proofs.Cursor.past.Goals as goal
use Rattle.reading.proofs.Cursor.past.Goals.{then-need-words, else-need-words}

pub loop-need-init : goal.loop-need-init
unfolding go_past
loop-need-init c = (search rules, refl)

pub returns-then-at-words : goal.returns-then-at-words
returns-then-at-words c = sym (c.loop-need.invariant.1 ∙ past_end _ _ _ _ c.loop-need-test.true c.if-at-words.true)

pub returns-then-not-is_inside : goal.returns-then-not-is_inside
returns-then-not-is_inside c =
    sym (c.loop-need.invariant.1 ∙ past_off _ _ _ c.if-at-words.false _ c.loop-need-test.true (sym c.is_inside.ensures ∙ c.if-not-is_inside.true))

pub overflow_add-need : goal.overflow_add-need
unfolding arity
overflow_add-need c = omega arith

pub loop-need-preserved : goal.loop-need-preserved
unfolding arity
loop-need-preserved c =
    let e = c.loop-need.invariant.1 in
    let i = sym c.is_inside.ensures ∙ c.if-not-is_inside.false in
    elim c.if-need-words.branch [
      | then-need-words w ↦
          (omega (arith, w.arity-need.ensures), e ∙ past_word _ _ _ c.if-at-words.false _ c.loop-need-test.true i ∙ rw (w.need-is, w.arity-need.ensures))
      | else-need-words w ↦ (omega arith, e ∙ past_many _ _ _ c.if-at-words.false _ c.loop-need-test.true i w.if-need-words.false ∙ rw w.need-is)
    ]

pub returns : goal.returns
returns c = let z : c.loop-need.need ≡ 0 = omega arith in sym (c.loop-need.invariant.1 ∙ rw z (past_none _ _ _))
