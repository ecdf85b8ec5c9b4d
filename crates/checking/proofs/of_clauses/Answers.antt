-- `of_clauses` meets its contract: the paths are gone over, and the numbers compared.
use mathlib.Core.Path.{sym}
use borrow.Author.Rules.{rules}
use Rattle.readback.specs.Saved.{of_clauses}
use Rattle.checking.proofs.Slices.{paths_few}
use Rattle.checking.proofs.of_clauses.Goals as goal

pub gather-requires : goal.gather-requires
gather-requires c = rw c.over-pass.ensures (paths_few _ c.requires.0 c.requires.1)

pub returns-in-Ok : goal.returns-in-Ok
unfolding of_clauses
returns-in-Ok c = rw (sym c.over-pass.ensures) (search rules)

pub returns-in-Err : goal.returns-in-Err
unfolding of_clauses
returns-in-Err c = rw (sym c.over-pass.ensures) (search rules)
