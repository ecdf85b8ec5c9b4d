-- `merging::follow` meets its contract: the keys from `shared` on are looked for in the row from `at` up to `end`.
use mathlib.Core.Path.{refl}
use mathlib.Core.Logic.{◌⊎◌, inl, inr}
use Prim.Native.Nat.{◌≤◌}
use native.Mathlib.Omega.{arith}
use lib.Arith.{lt_of_le-ne}
use lib.ListN.{length}
use borrow.Author.Tests.{ltb-true, ltb-false}
use Rattle.merging.proofs.Descending.{firm_some, firm_fits, at_stop, at_end, descending_dive, descending_hop, leads}
use Rattle.std.specs.Prelude.{None}
use Rattle.merging.proofs.follow.Goals as goal
use Rattle.merging.proofs.follow.Goals.{then-loop-at-test+else-shared-keys, else-loop-at-test}

pub returns-then-wanted-here : goal.returns-then-wanted-here
returns-then-wanted-here c =
    let s = c.loop-at.invariant in
    leads s (at_stop s (omega arith) (omega (arith, ltb-true)) (omega arith)) None refl

pub loop-at-preserved-then-wanted-here-2 : goal.loop-at-preserved-then-wanted-here-2
loop-at-preserved-then-wanted-here-2 c =
    let s = c.loop-at.invariant in
    descending_dive s (omega arith) (omega (arith, ltb-true)) _ c.extent.ensures (omega arith)

pub loop-at-smaller : goal.loop-at-smaller
loop-at-smaller c =
    let s = c.loop-at.invariant in
    omega (arith, c.extent-at.ensures, firm_some s (omega arith), firm_fits s (omega arith), s.room)

pub loop-at-preserved : goal.loop-at-preserved
loop-at-preserved c =
    let s = c.loop-at.invariant in
    descending_hop s (omega arith) (omega (arith, ltb-true)) _ c.extent-at.ensures (lt_of_le-ne (omega arith) (λ e. c.if-wanted-here-2.false (omega arith)))

pub returns : goal.returns
returns c =
    let l = c.loop-at in
    let o : (l.end ≤ l.at) ⊎ (length c.args.keys.now ≤ l.shared) =
    elim c.loop-at-test.branch [
      | then-loop-at-test+else-shared-keys w ↦ inr (omega (arith, ltb-false))
      | else-loop-at-test w ↦ inl (omega arith)
    ] in
    leads l.invariant (at_end l.invariant o) _ c.first_success.ensures
