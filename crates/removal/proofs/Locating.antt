-- The scan for a number, turn by turn, and what it finds.
use mathlib.Core.Path.{◌≡◌, refl, sym, subst, ◌∙◌}
use mathlib.Core.List.{List, [], ◌∷◌}
use mathlib.Core.Bool.{Bool, true, false, cond}
use mathlib.Core.Option.{some}
use Prim.Native.Nat.{ℕ, suc, ◌+◌, ◌≤◌, ◌<◌}
use native.Mathlib.Omega.{arith}
use lib.Dec.{eqb}
use lib.ListN.{length}
use borrow.Author.Tests.{eqb-true, eqb-false}
use Rattle.tree.specs.Keys.{first_key}
use Rattle.tree.specs.Forest.{leaf?}
use Rattle.tree.specs.Laid.{key_of, extent_of, successes}
use Rattle.tree.specs.Inner.Cut.{Span, begin, locate}
use Rattle.tree.proofs.InsertWords.{leaf_number}
use Rattle.tree.proofs.RemoveWords.{locate_hit, locate_miss}

-- ---- what was found

-- the run ends at a word of the list and begins at or before it; and the list has a Success
pub record Found (ws : List ℕ) (at : ℕ) (s : Span) : Type 0 where
  pub order : s.place ≤ s.last
  pub inside : s.last < at + length ws
  pub counted : 1 ≤ successes ws

begin_le : (w at from up : ℕ) → from ≤ at → begin w at from up ≤ at
begin_le w at from up h = go (eqb up (suc (extent_of w)))
  where
    go : (b : Bool) → cond b from at ≤ at
    go true = h
    go false = omega arith

found_here : (w : ℕ) (ws : List ℕ) (n at from up : ℕ) (s : Span) → n < first_key → from ≤ at → key_of w ≡ n → locate (w ∷ ws) n at from up ≡ some s
    → Found (w ∷ ws) at s
found_here w ws n at from up s l h q e =
    let one : leaf? (key_of w) ≡ 1 = leaf_number (key_of w) (omega arith) in
    let hit : some (record { place = begin w at from up; last = at }) ≡ some s = sym (locate_hit w ws n at from up q) ∙ e in
    subst (Found (w ∷ ws) at) (cc) (record { order = begin_le w at from up h; inside = omega arith; counted = omega arith })

pub found : (ws : List ℕ) (n at from up : ℕ) (s : Span) → n < first_key → from ≤ at → locate ws n at from up ≡ some s → Found ws at s
found [] n at from up s l h e = cc
found (w ∷ ws) n at from up s l h e = go (eqb (key_of w) n) refl (found ws n (suc at) (begin w at from up) (extent_of w) s l)
  where
    start : begin w at from up ≤ at
    start = begin_le w at from up h

    go : (b : Bool) → eqb (key_of w) n ≡ b
        → (begin w at from up ≤ suc at → locate ws n (suc at) (begin w at from up) (extent_of w) ≡ some s → Found ws (suc at) s) → Found (w ∷ ws) at s
    go true q r = found_here w ws n at from up s l h (eqb-true (key_of w) n q) e
    go false q r =
        let f : Found ws (suc at) s = r (omega (arith, start)) (sym (locate_miss w ws n at from up (eqb-false (key_of w) n q)) ∙ e) in
        record { order = f.order; inside = omega arith; counted = omega arith }
