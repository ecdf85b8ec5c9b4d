-- `backward` meets its contract: size, clause, the check, and the listing.
use mathlib.Core.Path.{sym, ap, ◌∙◌}
use Rattle.listing.proofs.Known.{back_bad, back_faulty, back_failed}
use Rattle.tree.proofs.Refused.{refused_as}
use Rattle.listing.proofs.backward.Goals as goal

pub returns-then-not-sized : goal.returns-then-not-sized
returns-then-not-sized c = sym (back_bad _ _ _ _ (sym c.sized.ensures ∙ c.if-not-sized.true))

pub returns-in_default : goal.returns-in_default
returns-in_default c =
    sym (back_faulty _ _ _ _ (sym c.sized.ensures ∙ c.if-not-sized.false) _ (sym c.read-shape.ensures ∙ c.unwrap_err.ensures))

pub list_known-requires : goal.list_known-requires
list_known-requires c = (sym c.check.ensures ∙ c.in_ok-check.was, (_, sym c.read-shape.ensures ∙ c.in-Ok.is))

pub returns-in_err-check : goal.returns-in_err-check
returns-in_err-check c =
    rw (refused_as _ _ c.from_residual.ensures.1)
    (sym (back_failed _ _ _ _ (sym c.sized.ensures ∙ c.if-not-sized.false) _ (sym c.read-shape.ensures ∙ c.in-Ok.is) _
    (sym c.check.ensures ∙ c.in_err-check.was)))
