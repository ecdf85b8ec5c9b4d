-- The number, what became of the record, the end of the line.
use native.Mathlib.Omega.{arith}
use mathlib.Core.List.{◌++◌}
use Rattle.record.specs.Text.{decimal}
use Rattle.record.specs.Line.{line_end, saying, line_of}
use Rattle.record.proofs.Text.{decimal_length}
use Rattle.lines.proofs.Writing.{on_page, joined}
use borrow.Author.Rules.{rules}
use Rattle.lines.proofs.Page.put_line.Goals as goal

pub put_decimal-requires : goal.put_decimal-requires
put_decimal-requires c = omega (arith, c.requires, decimal_length 4 c.args.number (search rules))

pub put_outcome-requires : goal.put_outcome-requires
put_outcome-requires c =
    let n = c.args.number in
    omega (arith, c.requires, on_page (decimal n) c.put_decimal.ensures, decimal_length 4 n (search rules))

pub put_text-requires : goal.put_text-requires
put_text-requires c =
    let n = c.args.number in
    let o = c.put_outcome.ensures in
    omega (arith, c.requires, on_page (decimal n) c.put_decimal.ensures, decimal_length 4 n (search rules), o.short, on_page (saying c.args.outcome) o.text)

pub returns : goal.returns
unfolding line_of
returns c =
    let n = c.args.number in
    let says = saying c.args.outcome in
    let d = c.put_decimal.ensures in
    let o = c.put_outcome.ensures in
    let e = c.put_text.ensures in record {
      text = joined (decimal n) (says ++ line_end) d (joined says line_end o.text e);
      short = omega (arith, on_page (decimal n) d, decimal_length 4 n (search rules), o.short, on_page line_end e);
    }
