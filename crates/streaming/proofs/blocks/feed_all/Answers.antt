-- Before the first block nothing was fed; the rest follows from what a block leaves.
use mathlib.Core.Path.{◌≡◌}
use borrow.Author.Rules.{rules}
use Rattle.intake.specs.Feed.{first_session}
use Rattle.streaming.proofs.FedBlocks.{indexed_first, running_none}
use Rattle.streaming.proofs.blocks.feed_all.Goals as goal

pub loop-setting-init : goal.loop-setting-init
loop-setting-init c =
    let p = c.requires in
    let e : c.default-session.result ≡ first_session = search rules in
    (running_none _ e p.1 p.2, indexed_first p.1)
