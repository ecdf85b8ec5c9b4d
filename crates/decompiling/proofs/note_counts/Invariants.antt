-- `note_counts` meets its contract: the first puts among the first k are counted.
use Rattle.decompiling.proofs.Tables.{Counted}
use Rattle.decompiling.proofs.note_counts.Given as goal

abbrev pub invariant-loop-k : goal.invariant-loop-k
invariant-loop-k l = Counted l.origins l.counts l.firsts l.k
