-- What the query says of the record, by cases; where it goes in, the index is made anew.
use Prim.Native.Nat.{◌^◌}
use native.Mathlib.Omega.{arith}
use Rattle.clause.proofs.Lists.{all_below}
use Rattle.tree.proofs.Refused.{answer_as}
use Rattle.record.proofs.Reading.{Narrow}
use Rattle.answering.proofs.Keeping.{of, asked_refused, asked_struck, asked_accepted, asked_in}
use Rattle.answering.proofs.Renewing.{outdated}
use Rattle.answering.proofs.Keeper.answer.Goals as goal

pub go_in-came-requires : goal.go_in-came-requires
go_in-came-requires c =
    let a = c.args in
    let u = c.in-Ok-NotCovered in
    (c.requires.0, asked_accepted a.setting a.self.now.tree.now a.words.now a.number c.query.ensures u.field-0-0 (answer_as u.is u.field-0-is), c.requires.1)

pub reindex-requires : goal.reindex-requires
reindex-requires c =
    let a = c.args in
    let u = c.in-Ok-NotCovered in
    let w : Narrow (of a.words.now a.number) = (omega (arith, c.ranges.number), all_below (2 ^ 16) a.words.now (λ k. omega (arith, c.type_inv.words k))) in
    let o = asked_in a.setting a.self.now.tree.now a.words.now a.number c.query.ensures u.field-0-0 (answer_as u.is u.field-0-is) c.go_in-came.ensures.came in
    rw c.go_in-came.ensures.lent.1 (outdated a.setting c.requires.0.steady (of a.words.now a.number) w c.requires.0.indexed o)

pub returns-in-Err-clause-came : goal.returns-in-Err-clause-came
returns-in-Err-clause-came c =
    let a = c.args in
    let u = c.in-Err in
    asked_refused a.setting a.self.now.tree.now a.words.now a.number c.query.ensures u.refusal u.is

pub returns-in-Ok-Covered-clause-came : goal.returns-in-Ok-Covered-clause-came
returns-in-Ok-Covered-clause-came c =
    let a = c.args in
    let u = c.in-Ok-Covered in
    asked_struck a.setting a.self.now.tree.now a.words.now a.number c.query.ensures u.covering u.candidates (answer_as u.is u.field-0-is)

pub returns-in-Ok-NotCovered-clause-came : goal.returns-in-Ok-NotCovered-clause-came
returns-in-Ok-NotCovered-clause-came c =
    let a = c.args in
    let u = c.in-Ok-NotCovered in
    asked_in a.setting a.self.now.tree.now a.words.now a.number c.query.ensures u.field-0-0 (answer_as u.is u.field-0-is) c.go_in-came.ensures.came
