-- `clause::tables::note_terms` meets its contract: from the position at hand on, the terms are noted. Assumes nothing.
use mathlib.Core.Path.{◌≡◌}
use Rattle.clause.specs.Inner.Tables.{tables_from}
use Rattle.clause.proofs.tables.note_terms.Given as goal

abbrev pub invariant-loop-p : goal.invariant-loop-p
invariant-loop-p l = l.tables ≡ tables_from l.words l.p
