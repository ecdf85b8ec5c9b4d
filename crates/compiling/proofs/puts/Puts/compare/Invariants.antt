-- `compare` writes a literal's Compares, row by row.
use Rattle.compiling.specs.Inner.Compiling.{Writes}
use Rattle.compiling.specs.Inner.Rows.{firsts_in}
use Rattle.compiling.proofs.Rows.{rows_to}
use Rattle.compiling.proofs.puts.Puts.compare.Given as goal

abbrev pub invariant-loop-m : goal.invariant-loop-m
invariant-loop-m l = Writes (rows_to (firsts_in l.puts) l.from l.m) l.initial.keys l.keys
