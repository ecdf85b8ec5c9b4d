-- Block after block is taken, until no more are read.
use Prim.Native.Nat.{◌-◌}
use Rattle.intake.specs.Feed.{store_of}
use Rattle.index.specs.Inner.Heads.{Indexed}
use Rattle.streaming.specs.Fed.{most_reads}
use Rattle.streaming.specs.Inner.Running.{Running}
use Rattle.streaming.proofs.blocks.feed_all.Given as goal

abbrev pub invariant-loop-setting : goal.invariant-loop-setting
invariant-loop-setting l = Running l.setting l.session (store_of l.words l.tree l.marks l.counters) l.meters × Indexed l.tree l.heads

abbrev pub decreases-loop-setting : goal.decreases-loop-setting
decreases-loop-setting l = most_reads - l.meters.reads
