-- The three numbers, one after another, and the end of the line.
use native.Mathlib.Omega.{arith}
use mathlib.Core.List.{◌++◌}
use Rattle.record.specs.Text.{decimal}
use Rattle.record.specs.Line.{space, line_end, named, tally_line}
use Rattle.record.proofs.Text.{decimal_length}
use Rattle.lines.proofs.Writing.{on_page, joined, named_put}
use borrow.Author.Rules.{rules}
use Rattle.tallying.proofs.sheet.put_row.Goals as goal

pub put_decimal-requires : goal.put_decimal-requires
put_decimal-requires c = omega (arith, c.requires.0, decimal_length 4 c.args.number (omega (arith, c.requires.1)))

pub put_named-requires : goal.put_named-requires
put_named-requires c =
    let n = c.args.number in
    let k = on_page (decimal n) c.put_decimal.ensures in
    omega (arith, c.requires.0, k, decimal_length 4 n (omega (arith, c.requires.1)), decimal_length 19 c.args.strikes (search rules))

pub put_named-requires-2 : goal.put_named-requires-2
put_named-requires-2 c =
    let n = c.args.number in
    let k = on_page (decimal n) c.put_decimal.ensures in
    let l = named_put space 19 c.args.strikes (search rules) c.put_named.ensures in
    omega (arith, c.requires.0, k, l, decimal_length 4 n (omega (arith, c.requires.1)), decimal_length 19 c.args.candidates (search rules))

pub put_text-requires : goal.put_text-requires
put_text-requires c =
    let n = c.args.number in
    let k = on_page (decimal n) c.put_decimal.ensures in
    let l = named_put space 19 c.args.strikes (search rules) c.put_named.ensures in
    let m = named_put space 19 c.args.candidates (search rules) c.put_named-2.ensures in
    omega (arith, c.requires.0, k, l, m, decimal_length 4 n (omega (arith, c.requires.1)))

pub returns : goal.returns
unfolding tally_line
returns c =
    let a = c.args in
    let d = c.put_decimal.ensures in
    let p = c.put_named.ensures in
    let q = c.put_named-2.ensures in
    let e = c.put_text.ensures in
    let last = named space a.candidates ++ line_end in
    let l = named_put space 19 a.strikes (search rules) p in
    let m = named_put space 19 a.candidates (search rules) q in record {
      text = joined (decimal a.number) (named space a.strikes ++ last) d (joined (named space a.strikes) last p (joined (named space a.candidates) line_end q e));
      short = omega (arith, on_page (decimal a.number) d, l, m, decimal_length 4 a.number (omega (arith, c.requires.1)), on_page line_end e);
    }
