-- `compile` writes the keys of a clause, word by word.
use Rattle.compiling.proofs.Turns.{Compiling}
use Rattle.compiling.proofs.compile.Given as goal

abbrev pub invariant-loop-word : goal.invariant-loop-word
invariant-loop-word l = Compiling l.words l.word-index l.spot l.initial.out l.out
