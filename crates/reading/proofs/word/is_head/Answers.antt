-- `is_head` tells the head of a literal by its number.
use native.Mathlib.Omega.{arith}
use Rattle.reading.proofs.Words.{head_test}
use Rattle.reading.proofs.word.is_head.Goals as goal

pub returns : goal.returns
returns c = head_test c.args.word (omega arith)
