-- The bytes so far are fed, and their text is in the output.
use mathlib.Core.Path.{◌≡◌}
use lib.ListN.{length}
use Rattle.record.specs.Answer.{list_words}
use Rattle.index.specs.Inner.Heads.{Indexed}
use Rattle.answering.specs.Inner.Keepers.{SameWords}
use Rattle.feeding.specs.Inner.Blocks.{store_with}
use Rattle.feeding.proofs.Blocks.{Feeding}
use Rattle.feeding.proofs.feeding.feed.Given as goal

abbrev pub invariant-loop-keeper : goal.invariant-loop-keeper
invariant-loop-keeper l =
    Feeding l.setting l.initial.turn.session (store_with l.initial.words l.initial.keeper l.initial.counters) l.input l.initial.output l.turn.session (store_with l.words l.keeper l.counters) l.output l.rest l.turn.next
    × (length l.list ≡ list_words) × Indexed l.keeper.tree.now l.keeper.heads.now × SameWords l.initial.keeper l.keeper

abbrev pub decreases-loop-keeper : goal.decreases-loop-keeper
decreases-loop-keeper l = length l.rest
