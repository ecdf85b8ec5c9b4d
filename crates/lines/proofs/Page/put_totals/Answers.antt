-- The totals, one after another, and the end of the line.
use native.Mathlib.Omega.{arith}
use mathlib.Core.List.{◌++◌}
use Rattle.record.specs.Line.{line_end, named, says_first, says_struck, says_refused, removed_total, totals_line}
use Rattle.record.proofs.Text.{decimal_length}
use Rattle.lines.proofs.Writing.{on_page, joined, named_put, removed_total_length}
use Rattle.lines.proofs.Page.put_totals.Goals as goal

pub put_named-requires : goal.put_named-requires
put_named-requires c = omega (arith, c.requires, decimal_length 19 c.args.totals.kept (omega (arith, c.well_formed)))

pub put_named-requires-2 : goal.put_named-requires-2
put_named-requires-2 c =
    let t = c.args.totals in
    let k = named_put says_first 19 t.kept (omega (arith, c.well_formed)) c.put_named.ensures in
    omega (arith, c.requires, k, decimal_length 19 t.struck (omega (arith, c.well_formed)))

pub put_named-requires-3 : goal.put_named-requires-3
put_named-requires-3 c =
    let t = c.args.totals in
    let k = named_put says_first 19 t.kept (omega (arith, c.well_formed)) c.put_named.ensures in
    let l = named_put says_struck 19 t.struck (omega (arith, c.well_formed)) c.put_named-2.ensures in
    omega (arith, c.requires, k, l, decimal_length 19 t.refused (omega (arith, c.well_formed)))

pub put_removed_total-requires : goal.put_removed_total-requires
put_removed_total-requires c =
    let t = c.args.totals in
    let k = named_put says_first 19 t.kept (omega (arith, c.well_formed)) c.put_named.ensures in
    let l = named_put says_struck 19 t.struck (omega (arith, c.well_formed)) c.put_named-2.ensures in
    let m = named_put says_refused 19 t.refused (omega (arith, c.well_formed)) c.put_named-3.ensures in
    omega (arith, c.requires, k, l, m, removed_total_length c.args.setting t.removed (omega (arith, c.well_formed)))

pub put_text-requires : goal.put_text-requires
put_text-requires c =
    let t = c.args.totals in
    let k = named_put says_first 19 t.kept (omega (arith, c.well_formed)) c.put_named.ensures in
    let l = named_put says_struck 19 t.struck (omega (arith, c.well_formed)) c.put_named-2.ensures in
    let m = named_put says_refused 19 t.refused (omega (arith, c.well_formed)) c.put_named-3.ensures in
    let n = removed_total_length c.args.setting t.removed (omega (arith, c.well_formed)) in
    omega (arith, c.requires, k, l, m, n, on_page (removed_total c.args.setting t.removed) c.put_removed_total.ensures)

pub returns : goal.returns
unfolding totals_line
returns c =
    let t = c.args.totals in
    let p = c.put_named.ensures in
    let q = c.put_named-2.ensures in
    let r = c.put_named-3.ensures in
    let u = c.put_removed_total.ensures in
    let e = c.put_text.ensures in
    let taken = removed_total c.args.setting t.removed in
    let third = named says_refused t.refused ++ (taken ++ line_end) in
    let k = named_put says_first 19 t.kept (omega (arith, c.well_formed)) p in
    let l = named_put says_struck 19 t.struck (omega (arith, c.well_formed)) q in
    let m = named_put says_refused 19 t.refused (omega (arith, c.well_formed)) r in
    let n = removed_total_length c.args.setting t.removed (omega (arith, c.well_formed)) in record {
      text = joined (named says_first t.kept) (named says_struck t.struck ++ third) p
          (joined (named says_struck t.struck) third q
          (joined (named says_refused t.refused) (taken ++ line_end) r
          (joined taken line_end u e)));
      short = omega (arith, k, l, m, n, on_page taken u, on_page line_end e);
    }
