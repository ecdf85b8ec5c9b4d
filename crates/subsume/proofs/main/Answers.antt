-- The first argument, and the words that are lent, all zeros: what the first store has.
use borrow.Author.Rules.{rules}
use Rattle.streaming.proofs.FedBlocks.{store_first}
use Rattle.subsume.proofs.main.Goals as goal

pub start-requires : goal.start-requires
start-requires c = (store_first, search rules)
