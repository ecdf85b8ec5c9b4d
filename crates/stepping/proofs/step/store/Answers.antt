-- `store` meets its contract.
use native.Mathlib.Omega.{arith}
use mathlib.Core.Path.{refl}
use Rattle.stepping.proofs.step.store.Goals as goal

pub returns : goal.returns
returns c = (rw c.from-old.ensures, refl, omega arith)
