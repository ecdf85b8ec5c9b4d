-- `is_inside` tells a word inside a literal by its number.
use native.Mathlib.Omega.{arith}
use Rattle.reading.proofs.Words.{inside_test}
use Rattle.reading.proofs.word.is_inside.Goals as goal

pub returns : goal.returns
returns c = inside_test c.args.word (omega arith)
