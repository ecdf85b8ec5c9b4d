-- `same_terms` meets its contract: a term is a part from its position to its end.
use Rattle.machine.specs.Machine.{same_terms}
use Rattle.clause.specs.Lists.{alike}
use mathlib.Core.Path.{ap₂, ◌∙◌}
use native.Mathlib.Omega.{arith}
use Rattle.stepping.proofs.Visits.{part_start, part_end, part_term}
use Rattle.stepping.proofs.step.same_terms.Goals as goal

pub slice_bounds-at_p-count : goal.slice_bounds-at_p-count
slice_bounds-at_p-count c = let p = c.requires in omega (arith, part_start _ _ p.1 _ p.2 c.from-p_end.ensures)

pub slice_bounds-at_p-start : goal.slice_bounds-at_p-start
slice_bounds-at_p-start c = let p = c.requires in omega (arith, part_start _ _ p.1 _ p.2 c.from-p_end.ensures)

pub slice_bounds-at_p-end : goal.slice_bounds-at_p-end
slice_bounds-at_p-end c = let p = c.requires in part_end _ _ p.1 _ p.2 c.from-p_end.ensures

pub slice_bounds-at_q-count : goal.slice_bounds-at_q-count
slice_bounds-at_q-count c = let p = c.requires in omega (arith, part_start _ _ p.1 _ p.3 c.from-q_end.ensures)

pub slice_bounds-at_q-start : goal.slice_bounds-at_q-start
slice_bounds-at_q-start c = let p = c.requires in omega (arith, part_start _ _ p.1 _ p.3 c.from-q_end.ensures)

pub slice_bounds-at_q-end : goal.slice_bounds-at_q-end
slice_bounds-at_q-end c = let p = c.requires in part_end _ _ p.1 _ p.3 c.from-q_end.ensures

pub returns : goal.returns
unfolding same_terms
returns c = let p = c.requires in c.eq.ensures ∙ ap₂ alike (part_term _ _ p.1 _ p.2 c.from-p_end.ensures) (part_term _ _ p.1 _ p.3 c.from-q_end.ensures)
