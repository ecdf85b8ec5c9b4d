-- `remove` meets its contract: the two tests in their order, and then removal from a well-laid slice, which is removal.
use mathlib.Core.Path.{sym, ◌∙◌}
use native.Mathlib.Omega.{arith}
use Rattle.tree.specs.Calls.{removal}
use Rattle.tree.proofs.ByWords.{removal_words}
use Rattle.removal.proofs.remove.Goals as goal

pub returns-then-not-sized : goal.returns-then-not-sized
unfolding removal
returns-then-not-sized c = rw (← c.sized.ensures, c.if-not-sized.true)

pub returns-then-not-well_laid : goal.returns-then-not-well_laid
unfolding removal
returns-then-not-well_laid c =
    rw (← c.sized.ensures, c.if-not-sized.false, ← c.well_laid.ensures, c.if-not-well_laid.true)

pub returns : goal.returns
returns c =
    c.remove_laid.ensures
    ∙ sym (
    removal_words c.args.tree.now (sym c.sized.ensures ∙ c.if-not-sized.false)
    (sym c.well_laid.ensures ∙ c.if-not-well_laid.false) c.args.number (omega arith)
    )
