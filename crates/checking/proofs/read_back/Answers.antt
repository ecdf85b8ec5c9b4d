-- `read_back` meets its contract: size, output, the check, and the number.
use mathlib.Core.Path.{sym, ◌∙◌}
use native.Mathlib.Omega.{arith}
use Rattle.readback.proofs.Laws.{read_bad, read_short, read_failed}
use Rattle.tree.proofs.Refused.{refused_as}
use Rattle.checking.proofs.read_back.Goals as goal

pub returns-then-not-sized : goal.returns-then-not-sized
returns-then-not-sized c = sym (read_bad _ _ _ (sym c.sized.ensures ∙ c.if-not-sized.true))

pub returns-then-out-lt-WORDS : goal.returns-then-out-lt-WORDS
returns-then-out-lt-WORDS c = sym (read_short _ _ _ (sym c.sized.ensures ∙ c.if-not-sized.false) c.if-out-lt-WORDS.true)

pub returns-in_err-check : goal.returns-in_err-check
returns-in_err-check c =
    rw (refused_as _ _ c.from_residual.ensures.1)
    (sym (read_failed _ _ _ _ (sym c.sized.ensures ∙ c.if-not-sized.false) (omega (arith, c.if-out-lt-WORDS.false))
    (sym c.check.ensures ∙ c.in_err-check.was)))
