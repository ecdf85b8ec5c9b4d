-- The length decides; then every word is 0, or every word is as it was.
use Rattle.tree.specs.Calls.{fresh}
use Rattle.laid.proofs.freshen.fresh.Goals as goal

pub returns-then-sized : goal.returns-then-sized
unfolding fresh
returns-then-sized c = rw (← c.sized.ensures, c.if-sized.true, c.fill.ensures.after (λ _ e. e))

pub returns-else-sized : goal.returns-else-sized
unfolding fresh
returns-else-sized c = rw (← c.sized.ensures, c.if-sized.false)
