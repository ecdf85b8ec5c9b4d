-- The positions to come back to, as the code holds them.
use Rattle.std.specs.Prelude.{◌≡◌, ℕ, zero, suc, get_or, Option, Some, None}
use mathlib.Core.List.{List, [], ◌∷◌}
use Rattle.machine.specs.Compile.{Saved}
use Rattle.compiling.specs.declared.saved.Position.{Position}

-- a position that the code holds
abbrev pub saved_of : Position → Saved
saved_of p = record { slot = p.slot; left = p.left }

-- the first so many of them, the latest first
abbrev pub saved_in : (positions : List Position) (depth : ℕ) → List Saved
saved_in positions zero = []
saved_in positions (suc d) = saved_of (get_or positions d (record { slot = 0; left = 0 })) ∷ saved_in positions d

-- the latest is taken, if there is one
abbrev pub Popped : (before : List Saved) → Option Position → (after : List Saved) → Type 0
Popped v None r = (v ≡ []) × (r ≡ [])
Popped v (Some p) r = v ≡ saved_of p ∷ r
