-- The rows so far are on the page.
use mathlib.Core.Path.{◌≡◌}
use Prim.Native.Nat.{◌-◌, ◌+◌}
use native.Mathlib.Omega.{arith}
use Rattle.record.specs.Tally.{tally_lines}
use Rattle.record.specs.Counters.{shown_from}
use Rattle.lines.proofs.Writing.{on_page, put_nothing, joined}
use Rattle.tallying.proofs.Rows.{shown_zero, shown_append}
use Rattle.tallying.proofs.sheet.put_rows.Goals as goal

pub loop-number-init : goal.loop-number-init
loop-number-init c =
    let a = c.args in
    let z : a.from - a.from ≡ 0 = omega arith in
    (omega arith, rw (z, shown_zero a.marks.now a.counters.now a.from) (put_nothing _))

pub put_marked-requires : goal.put_marked-requires
put_marked-requires c =
    let l = c.loop-number.invariant in
    let p = c.requires in
    record {
      all_marks = p.all_marks;
      all_counters = p.all_counters;
      numbers = omega (arith, p.numbers, c.loop-number-test.true);
      room = omega (arith, p.room, c.loop-number-test.true, l.0, on_page _ l.1);
    }

pub loop-number-preserved : goal.loop-number-preserved
loop-number-preserved c =
    let a = c.args in
    let l = c.loop-number in
    let p = c.put_marked.ensures in
    let n = l.number - a.from in
    let e = shown_append a.marks.now a.counters.now a.from n 1 in
    let q : l.number + 1 - a.from ≡ n + 1 = omega arith in
    let r : a.from + n ≡ l.number = omega arith in
    (omega (arith, p.short, l.invariant.0), rw (q, e, r) (joined (tally_lines (shown_from a.marks.now a.counters.now a.from n)) _ l.invariant.1 p.text))
