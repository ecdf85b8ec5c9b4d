-- `ceiling` meets its contract: each size out of bounds is refused, and the test of the table's rule computes over the table of the code.
use native.Mathlib.Omega.{arith}
use borrow.Author.Rules.{rules}
use Rattle.walk.proofs.Laws.{full_budget_lem}
use Rattle.ceiling.proofs.Table.{sums_by_test}
use Rattle.ceiling.proofs.Sizes.{sized, sized_full}
use Rattle.ceiling.proofs.ceiling.Goals as goal

pub sum-requires : goal.sum-requires
sum-requires c = (sums_by_test _ tt, search rules, search rules, search rules, search rules)

pub overflow_mul-highest : goal.overflow_mul-highest
overflow_mul-highest c =
    let a = c.args in
    omega (arith, full_budget_lem, sized_full a.kept a.q a.m (search rules) c.sum.ensures.value)

pub returns : goal.returns
returns c =
    let a = c.args in
    sized a.kept a.q a.m (search rules) c.sum.ensures.value
