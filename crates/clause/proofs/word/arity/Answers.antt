-- `arity` gives the number of a word's arguments.
use borrow.Author.Rules.{rules}
use Rattle.clause.specs.Word.{arity}
use Rattle.clause.proofs.word.arity.Goals as goal

pub returns : goal.returns
unfolding arity
returns c = search rules
