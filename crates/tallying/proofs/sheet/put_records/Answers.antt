-- The number and the end of the line.
use native.Mathlib.Omega.{arith}
use Rattle.record.specs.Text.{decimal}
use Rattle.record.specs.Line.{line_end, records_line}
use Rattle.record.proofs.Text.{decimal_length}
use Rattle.lines.specs.Inner.Page.{Puts}
use Rattle.lines.proofs.Writing.{on_page, joined}
use borrow.Author.Rules.{rules}
use Rattle.tallying.proofs.sheet.put_records.Goals as goal

pub put_decimal-requires : goal.put_decimal-requires
put_decimal-requires c = omega (arith, c.requires, decimal_length 19 c.args.records (search rules))

pub put_text-requires : goal.put_text-requires
put_text-requires c =
    let n = c.args.records in
    omega (arith, c.requires, on_page (decimal n) c.put_decimal.ensures, decimal_length 19 n (search rules))

pub returns-clause-text : goal.returns-clause-text
unfolding records_line
returns-clause-text c =
    let n = c.args.records in
    let w : Puts (records_line n) _ c.put_text.new.self = joined (decimal n) line_end c.put_decimal.ensures c.put_text.ensures in
    search (rules, w)

pub returns-clause-short : goal.returns-clause-short
returns-clause-short c =
    let n = c.args.records in
    omega (arith, on_page (decimal n) c.put_decimal.ensures, on_page line_end c.put_text.ensures, decimal_length 19 n (search rules))
