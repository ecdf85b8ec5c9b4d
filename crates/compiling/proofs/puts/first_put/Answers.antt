-- `first_put` gives the number of a variable's first put: the search tells its place.
use mathlib.Core.Path.{ap, ◌∙◌}
use native.Mathlib.Omega.{arith}
use lib.Dec.{eqb}
use lib.ListN.{length}
use borrow.Author.Rules.{rules}
use borrow.Author.Tests.{tests}
use Rattle.std.specs.Prelude.{unwrap_or}
use Rattle.std.proofs.lemmas.Iterator.{YieldsList-from_slice}
use Rattle.std.proofs.lemmas.Iterator.Search.{position_from_yields_List}
use Rattle.compiling.proofs.Putting.{first_found, found_inside}
use Rattle.compiling.proofs.puts.first_put.Goals as goal

pub returns : goal.returns
returns c =
    let us = c.args.puts.now in
    let e = position_from_yields_List (λ p. eqb p.variable c.args.v) _ _ c.position.result c.position.ensures.ran
    (YieldsList-from_slice us cc) (λ x b q k. search (rules, tests)) in
    let p = c.unwrap_or.ensures ∙ ap (λ o. unwrap_or o (length us)) e in
    record { placed = p ∙ first_found c.args.v us; inside = omega (arith, p, found_inside c.args.v us) }
