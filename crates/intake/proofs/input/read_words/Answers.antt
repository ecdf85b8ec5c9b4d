-- The words from `i` on are still to be stored.
use mathlib.Core.Path.{◌≡◌, ◌∙◌}
use Prim.Native.Nat.{◌+◌, ◌*◌}
use native.Mathlib.Omega.{arith}
use Rattle.intake.proofs.Whole.{read_more}
use Rattle.intake.proofs.input.read_words.Goals as goal

pub loop-i-preserved : goal.loop-i-preserved
loop-i-preserved c =
    let l = c.loop-i in
    let a = c.args in
    let e : l.i * 2 + 2 ≡ (l.i + 1) * 2 = omega arith in
    l.invariant ∙ read_more a.input.now l.words (l.i * 2) l.i a.count (omega (arith, c.requires.0, c.loop-i-test.true)) c.loop-i-test.true ∙ rw (e, c.field_at.ensures)
