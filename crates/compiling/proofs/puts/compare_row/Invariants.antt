-- `compare_row` writes the Compares of one first put.
use Rattle.compiling.specs.Inner.Compiling.{Writes}
use Rattle.compiling.specs.Inner.Rows.{firsts_in}
use Rattle.compiling.proofs.Rows.{row_to}
use Rattle.compiling.proofs.puts.compare_row.Given as goal

abbrev pub invariant-loop-k : goal.invariant-loop-k
invariant-loop-k l = Writes (row_to (firsts_in l.puts) l.from l.m l.k) l.initial.keys l.keys
