-- The answer at sizes that have a ceiling, and that no ceiling is over the full budget.
use Rattle.std.specs.Prelude.{Ok}
use mathlib.Core.Path.{◌≡◌}
use Prim.Native.Nat.{ℕ, ◌*◌, ◌≤◌}
use native.Mathlib.Nat.{mul-le-mul}
use borrow.Author.Tests.{le-leb}
use Rattle.clause.specs.Clause.{max_literals}
use Rattle.tree.specs.Laid.{max_kept}
use Rattle.walk.specs.Ceiling.{powers, full_budget, ceiling_call}
use Rattle.walk.proofs.Bound.{powers_le}

module _ (kept q m : ℕ) where
  -- what the call asks for
  abbrev Sized : Type 0
  Sized = (kept ≤ max_kept) × (1 ≤ q) × (q ≤ max_literals) × (1 ≤ m) × (m ≤ max_literals)

  -- of these it answers it
  pub sized : Sized → {s : ℕ} → s ≡ powers q m → Ok (kept * s) ≡ ceiling_call kept q m
  sized (k, a, b, c, d) e = rw (le-leb kept max_kept k, le-leb 1 q a, le-leb q max_literals b, le-leb 1 m c, le-leb m max_literals d, e)

  -- and it is not over the full budget
  pub sized_full : Sized → {s : ℕ} → s ≡ powers q m → kept * s ≤ full_budget
  sized_full (k, a, b, c, d) e = rw e (mul-le-mul k (powers_le q max_literals m max_literals b d))
