-- `meet` meets its contract.
use mathlib.Core.Path.{sym, ◌∙◌}
use native.Mathlib.Omega.{arith}
use Rattle.stepping.specs.Inner.Visits.{met_of}
use Rattle.cells.proofs.Rows.{extends_zero, extends_long}
use Rattle.stepping.proofs.Visits.{sticks, met_unfit, met_sized}
use Rattle.stepping.proofs.step.meet.Goals as goal

pub returns-then-words-eq0 : goal.returns-then-words-eq0
unfolding met_of
returns-then-words-eq0 c =
    let a = c.args in
    sticks _ _ (sym (met_unfit _ a.w a.room _ (extends_zero a.w a.room c.requires.1 (sym c.extent-words.ensures ∙ c.if-words-eq0.true))))

pub returns-then-words-room : goal.returns-then-words-room
unfolding met_of
returns-then-words-room c =
    let a = c.args in
    let e = c.extent-words.ensures in
    sticks _ _ (sym (met_unfit _ a.w a.room _ (extends_long a.w a.room c.requires.1
    (omega (arith, e, c.if-words-eq0.false)) (omega (arith, e, c.if-words-room.true)))))

pub returns : goal.returns
returns c =
    rw (met_sized c.args.query.now c.args.w c.args.room _ c.requires.1 c.extent-words.ensures c.if-words-eq0.false c.if-words-room.false
    c.operation.ensures c.operand.ensures) c.act.ensures
