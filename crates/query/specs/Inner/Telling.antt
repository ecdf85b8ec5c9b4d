-- What is answered after a walk.
use Rattle.std.specs.Prelude.{List, ℕ, Ok}
use Rattle.walk.specs.Query.{Asked, unanswered, with_shown}
use Rattle.tree.specs.declared.Refusal.TheVariants.{Broken, Spent}
use Rattle.walk.specs.declared.Verdict.TheVariants.{Covered, NotCovered}
use Rattle.walking.specs.Inner.Findings.{Out, missed, found, exhausted, damaged}

-- what is asked is answered by what is seen of the walk
unfoldable pub told_out : (budget : ℕ) (witness : List ℕ) → Out → Asked
told_out b W (missed c) = record { answer = Ok (NotCovered c); witness = W }
told_out b W (found n os c) = record { answer = Ok (Covered n c); witness = with_shown os W }
told_out b W exhausted = unanswered (Spent b) W
told_out b W damaged = unanswered Broken W
