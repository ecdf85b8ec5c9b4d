-- `show` meets its contract. The invariant: the first i words to show are written.
use Rattle.walk.proofs.Witnessed.{length_with_shown}
use mathlib.Core.Path.{◌≡◌, refl, ap, ◌∙◌}
use mathlib.Core.List.{List}
use lib.ListN.{length, get_or, take}
use Rattle.query.proofs.Showing.{shown_all, show_one, show_none}
use Prim.Native.Nat.{ℕ, ◌+◌}
use Rattle.cells.specs.Inner.Cells.{no_position, state_of}
use Rattle.walk.specs.Query.{shown, with_shown}
use Rattle.query.proofs.ask.show.Goals as goal
use Rattle.query.proofs.ask.show.Goals.{then-shows, else-shows}

pub loop-i-init : goal.loop-i-init
loop-i-init c = (refl, refl)

pub loop-i-preserved : goal.loop-i-preserved
loop-i-preserved c =
    let a = c.args in
    let i = c.loop-i.i in
    let j = c.loop-i.invariant in
    let s = c.shows.ensures in
    let os = shown (state_of no_position a.cells.now) in
    let q : c.if-shows.witness ≡ with_shown (take (i + 1) os) a.witness.now =
    elim c.if-shows.branch [
      | then-shows w ↦ show_one os a.witness.now i (get_or a.cells.now i 0) s w.if-shows.true j.1 w.from.ensures w.witness-is
      | else-shows w ↦ show_none os a.witness.now i (get_or a.cells.now i 0) s w.if-shows.false j.1 w.witness-is
    ] in
    (ap (λ (l : List ℕ). length l) q ∙ length_with_shown (take (i + 1) os) a.witness.now, q)

pub returns : goal.returns
returns c = let i = c.loop-i.invariant in rw (shown_all c.args.cells.now c.loop-i.i c.loop-i-test.false) at i.1
