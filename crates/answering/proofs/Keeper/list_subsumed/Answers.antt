-- The tree is one of some pairs, so it passes a check.
use Rattle.answering.proofs.Steady.{steady_passes}
use Rattle.answering.proofs.Keeper.list_subsumed.Goals as goal

pub list_known-requires : goal.list_known-requires
list_known-requires c = (steady_passes c.requires.0.steady, c.requires.1)
