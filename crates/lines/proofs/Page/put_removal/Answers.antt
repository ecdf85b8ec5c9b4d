-- The number, the record that takes its clause out, the end of the line.
use native.Mathlib.Omega.{arith}
use mathlib.Core.List.{◌++◌}
use Rattle.record.specs.Text.{decimal}
use Rattle.record.specs.Line.{line_end, named, says_removed, removal_line}
use Rattle.record.proofs.Text.{decimal_length}
use Rattle.lines.proofs.Writing.{on_page, joined, named_put}
use borrow.Author.Rules.{rules}
use Rattle.lines.proofs.Page.put_removal.Goals as goal

pub put_decimal-requires : goal.put_decimal-requires
put_decimal-requires c = omega (arith, c.requires.0, decimal_length 4 c.args.number (omega (arith, c.requires.1)))

pub put_named-requires : goal.put_named-requires
put_named-requires c =
    let n = c.args.number in
    omega (arith, c.requires.0, on_page (decimal n) c.put_decimal.ensures, decimal_length 4 n (omega (arith, c.requires.1)), decimal_length 4 c.args.by (search rules))

pub put_text-requires : goal.put_text-requires
put_text-requires c =
    let n = c.args.number in
    let k = on_page (decimal n) c.put_decimal.ensures in
    let l = named_put says_removed 4 c.args.by (search rules) c.put_named.ensures in
    omega (arith, c.requires.0, k, decimal_length 4 n (omega (arith, c.requires.1)), l)

pub returns : goal.returns
unfolding removal_line
returns c =
    let n = c.args.number in
    let says = named says_removed c.args.by in
    let d = c.put_decimal.ensures in
    let o = c.put_named.ensures in
    let e = c.put_text.ensures in
    let l = named_put says_removed 4 c.args.by (search rules) o in record {
      text = joined (decimal n) (says ++ line_end) d (joined says line_end o e);
      short = omega (arith, on_page (decimal n) d, decimal_length 4 n (omega (arith, c.requires.1)), l, on_page line_end e);
    }
