-- `tell` meets its contract: past the end nothing is stored.
use mathlib.Core.Path.{sym}
use lib.Seq.{set_out}
use Rattle.reply.proofs.tell.Goals as goal

pub returns-else-at-told : goal.returns-else-at-told
returns-else-at-told c = sym (set_out _ _ _ c.if-at-told.false)
