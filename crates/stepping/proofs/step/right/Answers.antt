-- `right` meets its contract.
use native.Mathlib.Omega.{arith}
use Rattle.cells.proofs.Places.{few_words}
use Rattle.stepping.proofs.Visits.{right_none, right_some}
use Rattle.stepping.proofs.step.right.Goals as goal

pub bounds-tables-siblings : goal.bounds-tables-siblings
bounds-tables-siblings c = omega (arith, few_words c.requires.0)

pub bounds-tables-end : goal.bounds-tables-end
bounds-tables-end c = omega (arith, few_words c.requires.0)

pub returns-then-tables-siblings-eq0 : goal.returns-then-tables-siblings-eq0
returns-then-tables-siblings-eq0 c = (right_none _ _ _ _ c.requires.0 c.requires.1 c.if-tables-siblings-eq0.true, omega arith)

pub returns-else-tables-siblings-eq0 : goal.returns-else-tables-siblings-eq0
returns-else-tables-siblings-eq0 c = let p = c.requires in ((right_some _ _ _ _ p.0 p.1 c.if-tables-siblings-eq0.false c.from.ensures).0, omega (arith, c.from.ensures))
