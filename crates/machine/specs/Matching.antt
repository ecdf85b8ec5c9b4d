-- Adequacy of compiling: a clause subsumes a query exactly if its sequence runs to the end with some choice of the query's literals.
use Rattle.std.specs.Prelude.{◌≡◌, ◌↔◌, List, ℕ, ◌<◌, length}
use Rattle.clause.specs.Lists.{All}
use Rattle.clause.specs.Clause.{Accepted, literals, Subsumes}
use Rattle.machine.specs.Compile.{sequence}
use Rattle.machine.specs.Machine.{State, initial, next, run}

-- a choice of literals of d, one for each literal of c; that no two are the same is not asked here, since `run` fails at one that is used
pub record Choice (c d js : List ℕ) : Type 0 where
  pub each : length (literals c) ≡ length js
  pub valid : All (λ j. j < length (literals d)) js

-- the sequence of c runs to the end on d
pub record Matched (c d : List ℕ) : Type 0 where
  pub choices : List ℕ
  pub choice : Choice c d choices
  pub state : State
  pub ran : run d (sequence c) choices initial ≡ next state

-- the claim
abbrev pub Matching : Type 0
Matching = (c d : List ℕ) → Accepted c → Accepted d → Subsumes c d ↔ Matched c d
