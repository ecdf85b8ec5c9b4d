-- `clause::tables::note_term` meets its contract: the arguments passed are noted, and the others stand from where it is on. Assumes nothing.
use Prim.Native.Nat.{◌≤◌, ◌<◌}
use Rattle.clause.specs.Word.{arities}
use Rattle.clause.specs.Clause.{max_words}
use Rattle.clause.proofs.Noting.{Noting}
use Rattle.clause.proofs.tables.note_term.Given as goal

abbrev pub invariant-loop-left : goal.invariant-loop-left
invariant-loop-left l = (l.at ≤ max_words) × (l.left < arities) × Noting l.words l.p l.at l.left l.tables
