-- `insertion::insert_placed` meets its contract.
use mathlib.Core.Path.{ap, ◌∙◌}
use native.Mathlib.Omega.{arith}
use Rattle.merging.specs.Inner.Inserting.{holder_of}
use Rattle.insertion.proofs.InsertCases.{insert_held, insert_full, insert_there}
use Rattle.insertion.proofs.insert_placed.Goals as goal

pub returns-then-kept-ge-CLAUSES : goal.returns-then-kept-ge-CLAUSES
returns-then-kept-ge-CLAUSES c =
    insert_full c.args.tree.now c.args.keys.now c.args.number c.requires.1 (c.requires.2.holder ∙ ap holder_of c.in_default.is)
    (omega (arith, c.if-kept-ge-CLAUSES.true, c.kept.ensures))

pub returns-in-Some : goal.returns-in-Some
returns-in-Some c =
    insert_held c.args.tree.now c.args.keys.now c.args.number c.requires.1 c.in-Some.held
    (c.requires.2.holder ∙ ap holder_of c.in-Some.is)

pub returns : goal.returns
returns c =
    let new = c.requires.2.holder ∙ ap holder_of c.in_default.is in
    insert_there c.args.tree.now c.args.keys.now c.args.number c.requires.1 new _ _
    (omega (arith, c.if-kept-ge-CLAUSES.false, c.kept.ensures)) c.requires.2.place c.requires.2.left c.insert_at.ensures
