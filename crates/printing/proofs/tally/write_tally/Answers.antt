-- The blocks so far are handed on, and then the last line.
use mathlib.Core.Path.{sym, subst}
use mathlib.Core.List.{List}
use Prim.Native.Nat.{ℕ, ◌*◌, ◌≤◌, ◌<◌}
use native.Mathlib.Omega.{arith}
use lib.ListN.{length, length-take}
use lib.Seq.{length-take-le}
use Rattle.record.specs.Line.{longest_records, records_line}
use Rattle.record.specs.Marks.{number_count}
use Rattle.printing.specs.Blocks.{block_numbers}
use Rattle.printing.specs.Handed.{NextPiece, HandedOn}
use Rattle.printing.proofs.Pieces.{text_put, printing_none, rows_next, printing_more, records_next, printing_done}
use Rattle.printing.proofs.tally.write_tally.Goals as goal

pub loop-block-init : goal.loop-block-init
loop-block-init c =
    let a = c.args in
    printing_none a.marks.now a.counters.now a.meters.now a.output.now

pub write_rows-requires : goal.write_rows-requires
write_rows-requires c =
    let l = c.loop-block.invariant in
    let p = c.requires.0 in
    let more : c.loop-block.block * block_numbers < number_count = omega (arith, c.loop-block-test.true, p.all_marks) in (
      record {
        all_marks = p.all_marks;
        all_counters = p.all_counters;
        numbers = omega (arith, more);
        room = omega (arith, p.room, l.output);
      },
      rows_next c.args.marks.now c.args.counters.now c.requires.1 l more,
      omega (arith, l.handed.most, l.short, more, c.requires.1.fits),
    )

pub loop-block-preserved : goal.loop-block-preserved
loop-block-preserved c =
    let a = c.args in
    let more : c.loop-block.block * block_numbers < number_count = omega (arith, c.loop-block-test.true, c.requires.0.all_marks) in
    let k = c.write_rows.ensures in
    printing_more a.marks.now a.counters.now c.loop-block.invariant more c.write_rows.auto.output k.short k.handed

pub put_records-end-requires : goal.put_records-end-requires
put_records-end-requires c = omega (arith, c.loop-block.invariant.output, c.requires.0.room)

pub slice_bounds-hand_on-end : goal.slice_bounds-hand_on-end
slice_bounds-hand_on-end c =
    let p = c.put_records-end.ensures in
    let room : longest_records ≤ length c.loop-block.output = omega (arith, c.loop-block.invariant.output, c.requires.0.room) in
    (text_put (records_line c.args.records) c.loop-block.output room p.short p.text).0

pub slice_bounds-hand_on-end-2 : goal.slice_bounds-hand_on-end-2
slice_bounds-hand_on-end-2 c =
    let p = c.put_records-end.ensures in
    let room : longest_records ≤ length c.loop-block.output = omega (arith, c.loop-block.invariant.output, c.requires.0.room) in
    sym (length-take-le _ _ (text_put (records_line c.args.records) c.loop-block.output room p.short p.text).0)

pub hand_on-requires : goal.hand_on-requires
hand_on-requires c =
    let a = c.args in
    let p = c.put_records-end.ensures in
    let i = c.loop-block.invariant in
    let room : longest_records ≤ length c.loop-block.output = omega (arith, i.output, c.requires.0.room) in
    let t = text_put (records_line a.records) c.loop-block.output room p.short p.text in
    let done : number_count ≤ c.loop-block.block * block_numbers = omega (arith, c.loop-block-test.false, c.requires.0.all_marks) in (
      subst (λ (x : List ℕ). NextPiece c.loop-block.meters x) (sym t.1) (records_next a.marks.now a.counters.now c.requires.1 i done),
      simp length-take (omega (arith, p.short, i.handed.most, i.short, i.inside, c.requires.1.fits)),
    )

pub returns : goal.returns
returns c =
    let a = c.args in
    let p = c.put_records-end.ensures in
    let i = c.loop-block.invariant in
    let room : longest_records ≤ length c.loop-block.output = omega (arith, i.output, c.requires.0.room) in
    let t = text_put (records_line a.records) c.loop-block.output room p.short p.text in
    let done : number_count ≤ c.loop-block.block * block_numbers = omega (arith, c.loop-block-test.false, c.requires.0.all_marks) in
    printing_done a.marks.now a.counters.now a.records i done
    (subst (λ (x : List ℕ). HandedOn c.loop-block.meters (length x) c.hand_on.new.meters) t.1 c.hand_on.ensures)
