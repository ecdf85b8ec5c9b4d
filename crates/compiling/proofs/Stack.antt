-- The positions to come back to, as the code holds them.
use mathlib.Core.Path.{◌≡◌, refl, ap}
use mathlib.Core.Logic.{◌≢◌}
use mathlib.Core.List.{List, ◌∷◌}
use Prim.Native.Nat.{ℕ, zero, suc, ◌+◌, ◌≤◌, ◌<◌}
use native.Mathlib.Omega.{arith}
use native.Mathlib.Numerals.{add-one}
use lib.ListN.{length, set}
use lib.Seq.{get_or-set_same, get_or-set_other}
use Rattle.compiling.specs.Inner.Saved.{saved_of, saved_in}
use Rattle.compiling.specs.declared.saved.Position.{Position}

-- none of them is at or above the depth
saved_set : (l : List Position) (d : ℕ) (x : Position) (k : ℕ) → k ≤ d → saved_in (set l d x) k ≡ saved_in l k
saved_set l d x zero h = refl
saved_set l d x (suc k) h =
    let n : k ≢ d = omega arith in
    rw (get_or-set_other l d k x _ n, saved_set l d x k (omega arith))

-- one more
pub saved_push : (l : List Position) (d : ℕ) (x : Position) → d < length l → saved_in (set l d x) (d + 1) ≡ saved_of x ∷ saved_in l d
saved_push l d x h = rw (add-one, get_or-set_same l d x _ h, saved_set l d x d (omega arith))

pub saved_length : (l : List Position) (d : ℕ) → length (saved_in l d) ≡ d
saved_length l zero = refl
saved_length l (suc d) = ap suc (saved_length l d)
