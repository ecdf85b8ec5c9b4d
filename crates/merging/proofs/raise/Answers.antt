-- `merging::raise` meets its contract: the words before `at` are raised, those from there on are as they were.
use mathlib.Core.Logic.{inl, inr}
use native.Mathlib.Omega.{arith}
use lib.Arith.{lt_of_le-ne}
use borrow.Author.Tests.{ltb-true, ltb-false}
use Rattle.merging.proofs.Descending.{raising_start, firm_small, as_was, at_stop, at_end, raising_dive, raising_hop, all_raised}
use Rattle.merging.proofs.raise.Goals as goal

pub loop-at-init : goal.loop-at-init
loop-at-init c = raising_start _ _ _ c.requires.0

pub returns-then-wanted-here : goal.returns-then-wanted-here
returns-then-wanted-here c =
    let s = c.loop-at.invariant in
    all_raised s.on (at_stop s.on (omega arith) (omega (arith, ltb-true)) (omega (arith, as_was s (omega arith)))) _ s.words

pub overflow_add-words : goal.overflow_add-words
overflow_add-words c =
    let s = c.loop-at.invariant in
    omega (arith, as_was s (omega arith), firm_small s.on (omega arith) _ c.requires.1)

pub loop-at-preserved-then-wanted-here-2 : goal.loop-at-preserved-then-wanted-here-2
loop-at-preserved-then-wanted-here-2 c =
    let s = c.loop-at.invariant in
    raising_dive s (omega arith) (omega (arith, ltb-true)) _ c.extent.ensures (omega arith)

pub loop-at-preserved : goal.loop-at-preserved
loop-at-preserved c =
    let s = c.loop-at.invariant in
    raising_hop s (omega arith) (omega (arith, ltb-true)) _ c.extent-at.ensures (lt_of_le-ne (omega arith) (λ e. c.if-wanted-here-2.false (omega arith)))

pub returns-else-shared-keys : goal.returns-else-shared-keys
returns-else-shared-keys c = let s = c.loop-at.invariant in all_raised s.on (at_end s.on (inr (omega (arith, ltb-false)))) _ s.words

pub returns-after-loop-at : goal.returns-after-loop-at
returns-after-loop-at c = let s = c.loop-at.invariant in all_raised s.on (at_end s.on (inl (omega arith))) _ s.words
