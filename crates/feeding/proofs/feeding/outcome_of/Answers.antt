-- More than 64 words, or the record is answered.
use mathlib.Core.Path.{refl, sym}
use native.Mathlib.Omega.{arith}
use lib.Seq.{length-take-le}
use Rattle.intake.specs.Feed.{finishing}
use Rattle.clause.specs.Clause.{max_words}
use borrow.Author.Tests.{lt-ltb, le-ltb}
use Rattle.feeding.proofs.feeding.outcome_of.Goals as goal

pub returns-then-end-gt-WORDS-clause-came : goal.returns-then-end-gt-WORDS-clause-came
unfolding finishing
returns-then-end-gt-WORDS-clause-came c =
    record { many = omega arith; answer = rw (lt-ltb max_words _ c.if-end-gt-WORDS.true); marking = refl }

pub slice_bounds-answer-end : goal.slice_bounds-answer-end
slice_bounds-answer-end c =
    sym (length-take-le _ _ (omega (arith, c.requires.2, c.if-end-gt-WORDS.false)))

pub returns-clause-came : goal.returns-clause-came
unfolding finishing
returns-clause-came c =
    let a = c.answer.ensures.came in
    record { many = a.many; answer = rw (le-ltb max_words _ c.if-end-gt-WORDS.false) a.answer; marking = a.marking }
