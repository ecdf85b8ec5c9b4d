-- `meet_top` meets its contract.
use mathlib.Core.Path.{refl, sym, ◌∙◌}
use mathlib.Core.Logic.{inr}
use native.Mathlib.Omega.{arith}
use Rattle.stepping.specs.Inner.Visits.{met_of}
use Rattle.cells.specs.Inner.Cells.{no_position}
use Rattle.cells.proofs.Places.{place_none}
use Rattle.cells.proofs.Rows.{extends_zero, extends_long, extends_in}
use Rattle.stepping.proofs.Visits.{sticks, met_unfit, met_early, met_tries}
use Rattle.stepping.proofs.step.meet_top.Goals as goal

pub returns-then-words-eq0 : goal.returns-then-words-eq0
unfolding met_of
returns-then-words-eq0 c =
    let a = c.args in
    let e = extends_zero a.w a.room c.requires.1 (sym c.extent-words.ensures ∙ c.if-words-eq0.true) in
    (sticks _ _ (sym (met_unfit _ a.w a.room _ e)), inr refl)

pub returns-then-words-room : goal.returns-then-words-room
unfolding met_of
returns-then-words-room c =
    let a = c.args in
    let e = c.extent-words.ensures in
    let f = extends_long a.w a.room c.requires.1 (omega (arith, e, c.if-words-eq0.false)) (omega (arith, e, c.if-words-room.true)) in
    (sticks _ _ (sym (met_unfit _ a.w a.room _ f)), inr refl)

pub returns-then-operation-ne-FIRST : goal.returns-then-operation-ne-FIRST
unfolding met_of
returns-then-operation-ne-FIRST c =
    let a = c.args in
    (sticks _ _ (sym (met_early _ a.w a.room _ c.operation.ensures c.if-operation-ne-FIRST.true (place_none refl))), inr refl)

pub returns : goal.returns
returns c =
    let a = c.args in
    let o = c.operation.ensures in
    let ok = extends_in a.w a.room c.requires.1 c.extent-words.ensures c.if-words-eq0.false c.if-words-room.false
    (λ z. absurd (omega (arith, o, c.if-operation-ne-FIRST.false, z))) in
    let f = met_tries a.query.now a.tables.now no_position a.cells.now c.requires.0 a.w a.room ok o c.if-operation-ne-FIRST.false in
    (rw f (c.tries.ensures.0 no_position), c.tries.ensures.1)
