-- The lines, the totals, and then the tally sheet.
use mathlib.Core.Path.{◌∙◌}
use native.Mathlib.Omega.{arith}
use Rattle.record.proofs.Promise.{promise}
use Rattle.running.proofs.Ends.{first_lengths, totals_next, totals_fit, sheet_next, run_ends}
use Rattle.running.proofs.run.Goals as goal

pub write_totals-requires : goal.write_totals-requires
write_totals-requires c =
    let r = c.feed_all-session.ensures.running in
    (omega (arith, c.requires.0.room, c.feed_all-session.auto.output), totals_next r, totals_fit r)

pub write_tally-requires : goal.write_tally-requires
write_tally-requires c =
    let f = c.feed_all-session in
    let l = first_lengths c.requires.1 in (
      record {
        all_marks = f.auto.marks ∙ l.0;
        all_counters = f.auto.counters ∙ l.1;
        numbers = omega arith;
        room = omega (arith, c.write_totals.auto.output, f.auto.output, c.requires.0.room);
      },
      sheet_next f.ensures.running c.write_totals.ensures.short c.write_totals.ensures.handed,
    )

pub returns : goal.returns
returns c =
    let f = c.feed_all-session.ensures in
    let o = c.write_totals.ensures in
    record { ends = run_ends f.running o.short o.handed c.setting_of-setting.ensures f.ended c.write_tally.ensures; promise = promise }
