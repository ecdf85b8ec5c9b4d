-- A state whose candidates and positions lie in the query.
use Rattle.std.specs.Prelude.{◌≡◌, List, ℕ, ◌<◌, length, get_or}
use Rattle.std.proofs.Math.Option.{none, some}
use Rattle.clause.specs.Lists.{All}
use Rattle.clause.specs.Clause.{literals}
use Rattle.machine.specs.Machine.{State}

-- every candidate of a state is a literal of the query, and every position that it holds lies in it
pub record Safe (d : List ℕ) (s : State) : Type 0 where
  pub chosen : All (λ j. j < length (literals d)) s.chosen
  pub head : (p : ℕ) → s.head ≡ some p → p < length d
  pub puts : (k p : ℕ) → get_or s.puts k none ≡ some p → p < length d
  pub pushes : (n p : ℕ) → get_or s.pushes n none ≡ some p → p < length d
