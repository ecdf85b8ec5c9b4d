-- `clause::tables::note_terms` meets its contract: from the position at hand on, the terms are noted. Assumes nothing.
use mathlib.Core.Path.{◌∙◌}
use Rattle.clause.proofs.Noting.{noted_none}
use Rattle.clause.proofs.tables.note_terms.Goals as goal

pub loop-p-init : goal.loop-p-init
loop-p-init c = c.requires.1 ∙ noted_none _
