-- `success` meets its contract.
use mathlib.Core.Path.{refl}
use borrow.Author.Tests.{eq-eqb, ne_eqb}
use Rattle.stepping.specs.Inner.Visits.{met_of, with_words}
use Rattle.stepping.proofs.Visits.{stays, sticks}
use Rattle.stepping.proofs.step.success.Goals as goal

pub returns-then-words-eq1 : goal.returns-then-words-eq1
unfolding met_of with_words
returns-then-words-eq1 c = λ h l. stays _ h l refl (rw (eq-eqb _ 1 c.if-words-eq1.true))

pub returns-else-words-eq1 : goal.returns-else-words-eq1
unfolding met_of with_words
returns-else-words-eq1 c = λ h l. sticks h l (rw (ne_eqb _ 1 c.if-words-eq1.false))
