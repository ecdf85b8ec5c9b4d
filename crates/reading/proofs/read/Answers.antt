-- `read` tests the length and reads the literals.
use mathlib.Core.Path.{sym, ◌∙◌}
use Rattle.reading.proofs.Scanning.{shape_length, shape_scan}
use Rattle.reading.proofs.read.Goals as goal

pub returns-then-is_empty : goal.returns-then-is_empty
returns-then-is_empty c = sym (shape_length _ c.is_empty.ensures c.then-is_empty.either)

pub returns : goal.returns
returns c = c.literals.ensures ∙ sym (shape_scan _ c.if-is_empty.ensures c.if-words-gt-WORDS.false)
