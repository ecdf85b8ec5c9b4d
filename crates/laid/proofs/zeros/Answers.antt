-- `all` of the words is the definition's test.
use mathlib.Core.Path.{refl, ◌∙◌}
use mathlib.Core.Bool.{◌&&◌}
use lib.Dec.{eqb}
use Rattle.std.proofs.Common.{rules, tests}
use Rattle.std.specs.List.{list_all}
use Rattle.std.proofs.lemmas.Iterator.{YieldsList-from_slice}
use Rattle.std.proofs.lemmas.Iterator.Search.{all_from_yields_List}
use Rattle.std.proofs.lemmas.List.Recursion.{same_from_clauses}
use Rattle.tree.specs.Laid.{zeros}
use Rattle.laid.proofs.zeros.Goals as goal

pub returns : goal.returns
returns c =
    let W = c.args.words.now in
    all_from_yields_List (λ w. eqb w 0) _ _ _ c.all.ensures.ran (YieldsList-from_slice W cc) (λ x b q k. search (rules, tests))
    ∙ same_from_clauses (list_all (λ w. eqb w 0)) zeros (λ w b. eqb w 0 && b) refl (λ _ _. refl) (λ _ _. refl) W
