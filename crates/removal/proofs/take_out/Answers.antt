-- `take_out` meets its contract: what the two lent parts hold when they are back, with the header stored, is the definition's slice.
use Rattle.removal.proofs.TakingOut.{taken}
use Rattle.removal.proofs.take_out.Goals as goal

pub returns : goal.returns
returns c =
    rw c.one_less.ensures
    (taken c.args.tree.now c.args.place c.args.gone _ _ c.requires c.lower.ensures (rw c.used-used.ensures at c.close_up.ensures))
