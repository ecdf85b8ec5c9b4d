-- The rows so far are on the page.
use Prim.Native.Nat.{◌-◌, ◌*◌, ◌≤◌}
use Rattle.record.specs.Line.{longest_tally}
use Rattle.record.specs.Tally.{tally_lines}
use Rattle.record.specs.Counters.{shown_from}
use Rattle.lines.specs.Inner.Page.{Puts}
use Rattle.tallying.proofs.sheet.put_rows.Given as goal

abbrev pub invariant-loop-number : goal.invariant-loop-number
invariant-loop-number l =
    (l.page.at ≤ (l.number - l.from) * longest_tally) × Puts (tally_lines (shown_from l.marks l.counters l.from (l.number - l.from))) l.initial.page l.page
