-- `free` meets its contract: the marks that are left to free make of them what all make of the first ones.
use mathlib.Core.Path.{◌≡◌, sym, ◌∙◌}
use native.Mathlib.Omega.{arith}
use lib.ListN.{get_or}
use Rattle.std.proofs.lemmas.List.{at_drop_more}
use Rattle.clause.proofs.Lists.{all_get}
use Rattle.record.specs.Marks.{freeing}
use Rattle.replacing.proofs.Copying.{freed_at, freed_marked, freed_free}
use Rattle.replacing.proofs.free.Goals as goal
use Rattle.replacing.proofs.free.Goals.{then-marks-at-gt0, else-marks-at-gt0}

pub bounds-marks-at : goal.bounds-marks-at
bounds-marks-at c = omega (arith, all_get c.args.numbers.now c.requires.1 c.loop-n.n-index 0 (omega arith), c.requires.0)

pub loop-n-preserved : goal.loop-n-preserved
loop-n-preserved c =
    let l = c.loop-n in
    let ns = c.args.numbers.now in
    let n = get_or ns l.n-index 0 in
    let freed : c.if-marks-at-gt0.marks ≡ freed_at l.marks n =
    elim c.if-marks-at-gt0.branch [
      | then-marks-at-gt0 w ↦ w.marks-is ∙ freed_marked l.marks n w.if-marks-at-gt0.true
      | else-marks-at-gt0 w ↦ w.marks-is ∙ freed_free l.marks n w.if-marks-at-gt0.false
    ] in
    rw freed (sym (at_drop_more (λ ms. freeing ms l.marks) ns l.n-index 0 (omega arith)) ∙ l.invariant)
