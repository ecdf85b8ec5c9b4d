-- `check` meets its contract: size, layout, clauses.
use mathlib.Core.Path.{sym, ◌∙◌}
use Rattle.readback.proofs.Laws.{passing_check, check_bad, check_broken, check_foreign}
use Rattle.checking.proofs.check.Goals as goal

pub returns-then-not-sized : goal.returns-then-not-sized
returns-then-not-sized c = sym (check_bad _ (sym c.sized.ensures ∙ c.if-not-sized.true))

pub returns-then-not-well_laid : goal.returns-then-not-well_laid
returns-then-not-well_laid c =
    sym (check_broken _ (sym c.sized.ensures ∙ c.if-not-sized.false) (sym c.well_laid.ensures ∙ c.if-not-well_laid.true))

pub returns-then-not-of_clauses : goal.returns-then-not-of_clauses
returns-then-not-of_clauses c =
    let s = sym c.sized.ensures ∙ c.if-not-sized.false in
    let w = sym c.well_laid.ensures ∙ c.if-not-well_laid.false in
    sym (check_foreign _ s w (sym c.of_clauses.ensures ∙ c.if-not-of_clauses.true))

pub returns : goal.returns
returns c =
    let s = sym c.sized.ensures ∙ c.if-not-sized.false in
    let w = sym c.well_laid.ensures ∙ c.if-not-well_laid.false in
    sym (passing_check _ record { right_size = s; laid = w; of_clauses_lem = sym c.of_clauses.ensures ∙ c.if-not-of_clauses.false })
