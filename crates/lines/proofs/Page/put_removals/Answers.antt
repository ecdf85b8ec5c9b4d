-- The lines from number `number-index` on are still to be put.
use mathlib.Core.Path.{sym, ◌∙◌}
use native.Mathlib.Omega.{arith}
use lib.ListN.{get_or}
use Rattle.clause.proofs.Lists.{all_get}
use Rattle.record.specs.Line.{removal_line}
use Rattle.lines.proofs.Writing.{on_page, removals_more, removals_all}
use Rattle.lines.proofs.Page.put_removals.Goals as goal

pub put_removal-requires : goal.put_removal-requires
put_removal-requires c =
    let l = c.loop-number in
    let h = c.loop-number-test.true in
    (omega (arith, c.requires.0, l.invariant.1, l.invariant.2, h), all_get c.args.numbers.now c.requires.1 l.number-index 0 h)

pub loop-number-preserved : goal.loop-number-preserved
loop-number-preserved c =
    let l = c.loop-number in
    let i = l.invariant in
    let n = c.args.numbers.now in
    let e = c.put_removal.ensures in (
      e.text.same ∙ i.0,
      (on_page (removal_line c.args.by (get_or n l.number-index 0)) e.text).1 ∙ i.1,
      omega (arith, e.short, i.2),
      i.3 ∙ removals_more c.args.by n _ _ l.number-index c.loop-number-test.true e.text.put,
    )

pub returns-clause-text : goal.returns-clause-text
returns-clause-text c =
    let l = c.loop-number in
    let i = l.invariant in
    record { same = i.0; put = sym (i.3 ∙ removals_all c.args.by c.args.numbers.now _ _ l.number-index c.loop-number-test.false) }
