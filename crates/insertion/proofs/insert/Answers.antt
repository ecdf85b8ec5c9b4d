-- `insert` meets its contract: the tests in their order, and then the insertion of an accepted clause into a well-laid slice.
use Rattle.tree.specs.Calls.{insertion}
use Rattle.insertion.proofs.insert.Goals as goal

pub returns-then-not-sized : goal.returns-then-not-sized
unfolding insertion
returns-then-not-sized c = rw (← c.sized.ensures, c.if-not-sized.true)

-- the clause has a fault
pub returns-in_default : goal.returns-in_default
unfolding insertion
returns-in_default c = rw (← c.sized.ensures, c.if-not-sized.false, ← c.read-shape.ensures, c.unwrap_err.ensures)

-- the slice is not well laid
pub returns-then-not-well_laid : goal.returns-then-not-well_laid
unfolding insertion
returns-then-not-well_laid c =
    rw (
      ← c.sized.ensures,
      c.if-not-sized.false,
      ← c.read-shape.ensures,
      c.in-Ok.is,
      ← c.well_laid.ensures,
      c.if-not-well_laid.true,
    )
