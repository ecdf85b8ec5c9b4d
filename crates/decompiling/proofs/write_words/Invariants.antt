-- `write_words` meets its contract: the words of the first keys are written.
use Rattle.decompiling.proofs.Wording.{Writing}
use Rattle.decompiling.proofs.write_words.Given as goal

abbrev pub invariant-loop-key : goal.invariant-loop-key
invariant-loop-key l = Writing l.keys l.origins l.counts l.initial.out l.out l.count l.key-index
