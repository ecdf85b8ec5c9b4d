-- What compiling a clause leaves in lent words.
use Rattle.std.specs.Prelude.{◌≡◌, List, ◌++◌, ℕ, ◌*◌, length, drop}
use Rattle.clause.specs.Clause.{max_words}
use Rattle.machine.specs.Compile.{keys}

-- the most keys of a clause: five for each word
abbrev pub max_keys : ℕ
max_keys = 5 * max_words

-- the answer, the number of the clause's keys; and the lent words afterwards, the keys first and all others as before
pub record Compiled (clause before : List ℕ) (answer : ℕ) (after : List ℕ) : Type 0 where
  pub answer_is : answer ≡ length (keys clause)
  pub after_is : after ≡ keys clause ++ drop (length (keys clause)) before
