-- A scan for a number, and what it finds.
use mathlib.Core.Path.{◌≡◌, refl}
use mathlib.Core.Bool.{Bool, true, false, ◌||◌}
use mathlib.Core.Option.{Option, none, some}
use mathlib.Core.List.{List, [], ◌∷◌}
use Prim.Native.Nat.{ℕ, suc}
use lib.Dec.{eqb}
use Rattle.std.specs.List.{list_any}
use Rattle.tree.specs.Laid.{key_of, extent_of}
use Rattle.tree.specs.Inner.Cut.{begin, locate}
use Rattle.insertion.specs.Inner.Taken.{is_some}

-- a number stands among the words where some word is its Success
pub any_located : (W : List ℕ) (n at from up : ℕ) → list_any (λ w. eqb (key_of w) n) W ≡ is_some (locate W n at from up)
any_located [] n at from up = refl
any_located (w ∷ ws) n at from up = go (eqb (key_of w) n) (any_located ws n (suc at) (begin w at from up) (extent_of w))
  where
    go : (b : Bool) → list_any (λ v. eqb (key_of v) n) ws ≡ is_some (locate ws n (suc at) (begin w at from up) (extent_of w))
        → (b || list_any (λ v. eqb (key_of v) n) ws)
        ≡ is_some (elim b [
          | true ↦ some (record { place = begin w at from up; last = at })
          | false ↦ locate ws n (suc at) (begin w at from up) (extent_of w)
        ])
    go true h = refl
    go false h = h

-- nothing was found
pub is_none : {A : Type 0} (o : Option A) → is_some o ≡ false → o ≡ none
is_none none e = refl
is_none (some a) e = cc

-- something was found
pub is_some_lem : {A : Type 0} (o : Option A) → is_some o ≡ true → (a : A) × (o ≡ some a)
is_some_lem none e = cc
is_some_lem (some a) e = (a, refl)
