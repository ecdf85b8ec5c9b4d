-- `insertion::taken` meets its contract.
use Rattle.merging.proofs.UsedWords.{parts}
use Rattle.insertion.proofs.taken.Goals as goal

pub region-requires : goal.region-requires
region-requires c = (parts _ c.requires.0 c.requires.1).room
