-- `insertion::insert_laid` meets its contract.
use mathlib.Core.Path.{sym, ◌∙◌}
use Rattle.insertion.proofs.Scanning.{is_some_lem}
use Rattle.insertion.proofs.InsertCases.{insert_taken}
use Rattle.insertion.proofs.insert_laid.Goals as goal

pub returns-then-taken : goal.returns-then-taken
returns-then-taken c =
    let found = is_some_lem _ (sym c.taken.ensures ∙ c.if-taken.true) in
    insert_taken c.args.tree.now c.args.keys.now c.args.number found.0 found.1
