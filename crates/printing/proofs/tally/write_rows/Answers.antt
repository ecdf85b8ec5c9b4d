-- The rows are in the output, and handed on.
use mathlib.Core.Path.{sym, subst}
use mathlib.Core.List.{List}
use Prim.Native.Nat.{ℕ, ◌*◌, ◌≤◌}
use native.Mathlib.Omega.{arith}
use lib.ListN.{length, length-take}
use lib.Seq.{length-take-le}
use Rattle.record.specs.Line.{longest_tally}
use Rattle.record.specs.Tally.{tally_lines}
use Rattle.record.specs.Counters.{shown_from}
use Rattle.printing.specs.Blocks.{block_numbers}
use Rattle.printing.specs.Handed.{NextPiece, HandedOn}
use Rattle.printing.proofs.Pieces.{text_put}
use Rattle.printing.proofs.tally.write_rows.Goals as goal

pub slice_bounds-hand_on-end : goal.slice_bounds-hand_on-end
slice_bounds-hand_on-end c =
    let a = c.args in
    let p = c.put_rows-next.ensures in
    (text_put (tally_lines (shown_from a.marks.now a.counters.now a.from block_numbers)) a.output.now c.requires.0.room p.short p.text).0

pub slice_bounds-hand_on-end-2 : goal.slice_bounds-hand_on-end-2
slice_bounds-hand_on-end-2 c =
    let a = c.args in
    let p = c.put_rows-next.ensures in
    let t = text_put (tally_lines (shown_from a.marks.now a.counters.now a.from block_numbers)) a.output.now c.requires.0.room p.short p.text in
    sym (length-take-le _ _ t.0)

pub hand_on-requires : goal.hand_on-requires
hand_on-requires c =
    let a = c.args in
    let p = c.put_rows-next.ensures in
    let t = text_put (tally_lines (shown_from a.marks.now a.counters.now a.from block_numbers)) a.output.now c.requires.0.room p.short p.text in
    (subst (λ (x : List ℕ). NextPiece a.meters.now x) (sym t.1) c.requires.1, simp length-take (omega (arith, p.short, c.requires.2)))

pub returns-clause-short : goal.returns-clause-short
returns-clause-short c =
    let a = c.args in
    let p = c.put_rows-next.ensures in
    let t = text_put (tally_lines (shown_from a.marks.now a.counters.now a.from block_numbers)) a.output.now c.requires.0.room p.short p.text in
    subst (λ (x : List ℕ). length x ≤ block_numbers * longest_tally) t.1 (simp length-take (omega (arith, p.short)))

pub returns-clause-handed : goal.returns-clause-handed
returns-clause-handed c =
    let a = c.args in
    let p = c.put_rows-next.ensures in
    let t = text_put (tally_lines (shown_from a.marks.now a.counters.now a.from block_numbers)) a.output.now c.requires.0.room p.short p.text in
    subst (λ (x : List ℕ). HandedOn a.meters.now (length x) c.hand_on.new.meters) t.1 c.hand_on.ensures
