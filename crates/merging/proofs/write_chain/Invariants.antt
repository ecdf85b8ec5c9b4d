-- `merging::write_chain` meets its contract: the first `i` of the new words are written.
use mathlib.Core.Path.{◌≡◌}
use lib.ListN.{length}
use Rattle.tree.specs.Inner.Merge.{new_words}
use Rattle.merging.proofs.Chain.{over}
use Rattle.merging.proofs.write_chain.Given as goal

abbrev pub invariant-loop-i : goal.invariant-loop-i
invariant-loop-i l = (l.count ≡ length l.keys) × (l.words ≡ over (new_words l.keys l.number) l.initial.words l.i)
