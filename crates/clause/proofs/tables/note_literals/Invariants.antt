-- `clause::tables::note_literals` meets its contract: the literals passed are noted. Assumes nothing.
use Prim.Native.Nat.{◌-◌, ◌≤◌}
use lib.ListN.{length}
use Rattle.clause.specs.Clause.{max_words, max_literals}
use Rattle.clause.proofs.Hopping.{Hopped}
use Rattle.clause.proofs.tables.note_literals.Given as goal

abbrev pub invariant-loop-at : goal.invariant-loop-at
invariant-loop-at l = (l.at ≤ max_words) × (l.count ≤ max_literals) × Hopped l.words l.count l.at l.tables

abbrev pub decreases-loop-at : goal.decreases-loop-at
decreases-loop-at l = length l.words - l.at
