-- `clause::Clause::of` meets its contract: the terms noted, and then the literals. Assumes nothing.
use mathlib.Core.Path.{ap}
use mathlib.Core.List.{List}
use Prim.Native.Nat.{ℕ}
use Rattle.clause.proofs.Clause.of.Goals as goal

pub returns : goal.returns
returns c = ap (λ (t : List ℕ). record { tables = t }) c.note_literals.ensures
