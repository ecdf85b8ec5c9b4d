-- `down` goes to the first argument of the term at the cursor: past the end there is none.
use mathlib.Core.Path.{◌∙◌}
use borrow.Author.Tests.{false-ltb}
use Rattle.reading.proofs.Past.{go_down_end}
use Rattle.reading.proofs.Cursor.down.Goals as goal

pub returns-in_err-word : goal.returns-in_err-word
returns-in_err-word c = c.from_residual.ensures ∙ go_down_end _ c.args.self (false-ltb _ _ c.in_err-word.ensures.lookup.0)
