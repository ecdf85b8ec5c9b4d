-- A counter inside the slice is raised.
use Rattle.record.specs.Counters.{raised}
use lib.Seq.{set_out}
use mathlib.Core.Path.{sym}
use Rattle.tallying.proofs.counting.raise.Goals as goal

pub returns-then-at-counters : goal.returns-then-at-counters
unfolding raised
returns-then-at-counters c = rw c.saturating_add.ensures

pub returns-else-at-counters : goal.returns-else-at-counters
unfolding raised
returns-else-at-counters c = sym (set_out _ _ _ c.if-at-counters.false)
