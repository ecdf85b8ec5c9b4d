-- The row, or nothing.
use Rattle.lines.proofs.Writing.{put_nothing}
use Rattle.tallying.proofs.Rows.{shown_one, shown_none}
use Rattle.tallying.proofs.sheet.put_marked.Goals as goal

pub returns-then-marks-number-gt0-clause-text : goal.returns-then-marks-number-gt0-clause-text
returns-then-marks-number-gt0-clause-text c =
    let a = c.args in
    rw (shown_one a.marks.now a.counters.now a.number c.if-marks-number-gt0.true) c.put_row.ensures.text

pub returns-else-marks-number-gt0-clause-text : goal.returns-else-marks-number-gt0-clause-text
returns-else-marks-number-gt0-clause-text c =
    let a = c.args in
    rw (shown_none a.marks.now a.counters.now a.number c.if-marks-number-gt0.false) (put_nothing a.page.now)
