-- `tries` meets its contract.
use mathlib.Core.Path.{refl}
use mathlib.Core.Logic.{inl, inr}
use native.Mathlib.Omega.{arith}
use borrow.Author.Tests.{lt-ltb, le-ltb}
use Rattle.clause.specs.Clause.{max_literals}
use Rattle.cells.specs.Inner.Cells.{count_in}
use Rattle.stepping.specs.Inner.Visits.{met_of}
use Rattle.stepping.proofs.Visits.{stays, sticks}
use Rattle.stepping.proofs.step.tries.Goals as goal

pub returns-then-from-lt-LITERALS : goal.returns-then-from-lt-LITERALS
unfolding met_of
returns-then-from-lt-LITERALS c =
    let n = count_in c.args.cells.now in
    (λ h. stays _ h _ refl (rw (lt-ltb n max_literals (omega (arith, c.from.ensures, c.if-from-lt-LITERALS.true)))), inl refl)

pub returns-else-from-lt-LITERALS : goal.returns-else-from-lt-LITERALS
returns-else-from-lt-LITERALS c =
    let n = count_in c.args.cells.now in
    (λ h. sticks h _ (rw (le-ltb n max_literals (omega (arith, c.from.ensures, c.if-from-lt-LITERALS.false)))), inr refl)
