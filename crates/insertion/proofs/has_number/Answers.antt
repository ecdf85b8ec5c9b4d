-- `insertion::has_number` meets its contract.
use mathlib.Core.Path.{◌∙◌}
use lib.Dec.{eqb}
use Rattle.std.proofs.Common.{rules, tests}
use Rattle.std.proofs.lemmas.Iterator.{YieldsList-from_slice}
use Rattle.std.proofs.lemmas.Iterator.Search.{any_from_yields_List}
use Rattle.tree.specs.Laid.{key_of}
use Rattle.insertion.proofs.Scanning.{any_located}
use Rattle.insertion.proofs.has_number.Goals as goal

pub returns : goal.returns
returns c =
    let W = c.args.words.now in
    any_from_yields_List (λ w. eqb (key_of w) c.args.number) _ _ _ c.any.ensures.ran (YieldsList-from_slice W cc) (λ x b q k. search (rules, tests))
    ∙ any_located W c.args.number 0 0 0
