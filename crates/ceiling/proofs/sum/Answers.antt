-- `sum` meets its contract: what it reads is the table's entry for q and m.
use mathlib.Core.Path.{◌≡◌, ◌∙◌}
use Rattle.ceiling.specs.Table.{entry}
use Rattle.ceiling.proofs.Table.{last_entry}
use Rattle.ceiling.proofs.sum.Goals as goal

pub returns : goal.returns
returns c =
    let (s, a, b, d, e) = c.requires in
    let read : _ ≡ entry c.args.table.now c.args.q c.args.m = c.from.ensures in
    record { value = read ∙ s.at c.args.q c.args.m a b d e; last = last_entry _ s }
