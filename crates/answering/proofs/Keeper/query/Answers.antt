-- The tree is one of some pairs, so it can be asked.
use Rattle.answering.proofs.Steady.{steady_sized, steady_laid}
use Rattle.answering.proofs.Keeper.query.Goals as goal

pub query_indexed-requires : goal.query_indexed-requires
query_indexed-requires c = (steady_sized c.requires.steady, steady_laid c.requires.steady, c.requires.indexed)
