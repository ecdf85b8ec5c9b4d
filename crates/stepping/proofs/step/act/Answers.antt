-- `act` meets its contract: one law for each operation.
use mathlib.Core.Path.{sym}
use Prim.Native.Nat.{◌≤◌}
use native.Mathlib.Omega.{arith}
use Rattle.cells.proofs.Places.{few_words}
use Rattle.stepping.proofs.Visits.{sticks, sized_other, act_success, act_first}
use Rattle.stepping.proofs.Visits.{act_down, act_right, act_put, act_push, act_pop, act_check, act_compare, act_over}
use Rattle.stepping.proofs.step.act.Goals as goal

pub down-requires : goal.down-requires
down-requires c = (c.requires.1, few_words c.requires.0)

pub put-requires : goal.put-requires
put-requires c = (c.requires.0.few, omega (arith, few_words c.requires.0))

pub returns-in-0 : goal.returns-in-0
returns-in-0 c =
    let a = c.args in
    let d = a.query.now in
    let t = a.tables.now in
    let l = a.cells.now in
    rw (c.in-0.is, act_success d t a.head l c.requires.0 c.requires.1 a.x) (c.success.ensures a.head l)

pub returns-in-1 : goal.returns-in-1
returns-in-1 c =
    let a = c.args in
    let d = a.query.now in
    let t = a.tables.now in
    let l = a.cells.now in
    let e = c.in-1.is in
    rw (sized_other a.op a.words (λ z. omega (arith, z, e)) (act_first d t a.head l c.requires.0 a.op a.x e)) (c.tries.ensures.0 a.head)

pub returns-in-2 : goal.returns-in-2
returns-in-2 c =
    let a = c.args in
    let d = a.query.now in
    let t = a.tables.now in
    let l = a.cells.now in
    let e = c.in-2.is in
    rw (sized_other a.op a.words (λ z. omega (arith, z, e)) (act_down d t a.head l c.requires.0 c.requires.1 a.op a.x e)) (c.down.ensures l)

pub returns-in-3 : goal.returns-in-3
returns-in-3 c =
    let a = c.args in
    let d = a.query.now in
    let t = a.tables.now in
    let l = a.cells.now in
    let e = c.in-3.is in
    let p = act_right d t a.head l c.requires.0 c.requires.1 a.op a.x e in
    rw (sized_other a.op a.words (λ z. omega (arith, z, e)) p, ← c.right.ensures.0) (c.moved.ensures a.head l)

pub returns-in-4 : goal.returns-in-4
returns-in-4 c =
    let a = c.args in
    let d = a.query.now in
    let t = a.tables.now in
    let l = a.cells.now in
    let e = c.in-4.is in
    rw (sized_other a.op a.words (λ z. omega (arith, z, e)) (act_put d t a.head l c.requires.0 c.requires.1 a.op a.x e)) c.put.ensures

pub returns-in-5 : goal.returns-in-5
returns-in-5 c =
    let a = c.args in
    let d = a.query.now in
    let t = a.tables.now in
    let l = a.cells.now in
    let e = c.in-5.is in
    let p = act_push d t a.head l c.requires.0 c.requires.1 a.op a.x e in
    rw (sized_other a.op a.words (λ z. omega (arith, z, e)) p, ← c.right-to.ensures.0) c.push.ensures

pub returns-in-6 : goal.returns-in-6
returns-in-6 c =
    let a = c.args in
    let d = a.query.now in
    let t = a.tables.now in
    let l = a.cells.now in
    let e = c.in-6.is in
    rw (sized_other a.op a.words (λ z. omega (arith, z, e)) (act_pop d t a.head l c.requires.0 c.requires.1 a.op a.x e)) (c.pop.ensures a.head)

pub returns-in-7 : goal.returns-in-7
returns-in-7 c =
    let a = c.args in
    let d = a.query.now in
    let t = a.tables.now in
    let l = a.cells.now in
    let e = c.in-7.is in
    rw (sized_other a.op a.words (λ z. omega (arith, z, e)) (act_check d t a.head l c.requires.0 c.requires.1 a.op a.x e)) (c.check.ensures l)

pub returns-in-8 : goal.returns-in-8
returns-in-8 c =
    let a = c.args in
    let d = a.query.now in
    let t = a.tables.now in
    let l = a.cells.now in
    let e = c.in-8.is in
    rw (sized_other a.op a.words (λ z. omega (arith, z, e)) (act_compare d t a.head l c.requires.0 c.requires.1 a.op a.x e)) c.compare.ensures

pub returns-in_default : goal.returns-in_default
returns-in_default c =
    let a = c.args in
    let d = a.query.now in
    let t = a.tables.now in
    let l = a.cells.now in
    let o : 9 ≤ a.op = omega arith in
    sticks _ _ (sym (sized_other a.op a.words (λ z. omega (arith, z, o)) (sym (act_over d t a.head l c.requires.0 c.requires.1 a.op a.x o))))
