-- `check` meets its contract.
use mathlib.Core.Path.{refl, sym, ◌∙◌}
use Rattle.stepping.proofs.Visits.{stays, misses, check_same, check_other}
use Rattle.stepping.proofs.step.check.Goals as goal

pub returns-then-from-x : goal.returns-then-from-x
returns-then-from-x c = λ l. stays _ _ l refl (check_same _ _ _ _ (sym c.from.ensures ∙ c.if-from-x.true))

pub returns-else-from-x : goal.returns-else-from-x
returns-else-from-x c = λ l. misses _ l (check_other _ _ _ (λ e. c.if-from-x.false (c.from.ensures ∙ e)))
