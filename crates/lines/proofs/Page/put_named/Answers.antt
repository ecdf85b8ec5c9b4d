-- The text, then the number.
use Rattle.record.specs.Text.{decimal}
use Rattle.lines.proofs.Writing.{rest_fits, joined}
use Rattle.lines.proofs.Page.put_named.Goals as goal

pub put_decimal-requires : goal.put_decimal-requires
put_decimal-requires c = rest_fits c.args.text.now (decimal c.args.number) c.requires c.put_text.ensures

pub returns : goal.returns
returns c = joined c.args.text.now (decimal c.args.number) c.put_text.ensures c.put_decimal.ensures
