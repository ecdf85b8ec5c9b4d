-- The blocks so far are handed on, and then the last line.
use Rattle.printing.proofs.Pieces.{Printing}
use Rattle.printing.proofs.tally.write_tally.Given as goal

abbrev pub invariant-loop-block : goal.invariant-loop-block
invariant-loop-block l = Printing l.marks l.counters l.initial.meters l.initial.output l.meters l.output l.block
