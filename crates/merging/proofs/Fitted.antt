-- New words N put in at a place p of the words L: those after it move up over the first of the words Z behind them.
use mathlib.Core.Path.{◌≡◌, sym, ap}
use mathlib.Core.List.{List, ◌∷◌, ◌++◌, append_assoc}
use Prim.Native.Nat.{ℕ, ◌+◌, ◌-◌, ◌≤◌}
use native.Mathlib.Numerals.{add-one}
use native.Mathlib.Omega.{arith}
use lib.ListN.{length, take, drop, set, length-append, length-drop}
use lib.Seq.{length-take-le, take-take, take_at, drop_at, take-append-le, drop-append-le, drop-drop}
use borrow.Rule.Slice.PartMut.{put_mid}
use Rattle.tree.specs.Inner.Merge.{splice}

module _ (L Z N : List ℕ) (p r : ℕ) (inside : p ≤ length L) (room : r ≤ length Z) where
  abbrev q : ℕ
  q = length L - p

  ahead : drop p (L ++ Z) ≡ drop p L ++ Z
  ahead = drop-append-le p L Z inside

  -- the part that is lent: as many words as move, and as many as are new
  abbrev lent : List ℕ
  lent = take (q + r) (drop p (L ++ Z))

  length_lent : length lent ≡ q + r
  length_lent = length-take-le (q + r) (drop p (L ++ Z)) (simp (ahead, length-append, length-drop) (omega arith))

  moves : take (length lent - r) lent ≡ drop p L
  moves =
      let e : length lent - r ≡ q = omega (arith, length_lent) in
      rw (e, take-take q (q + r) (drop p (L ++ Z)) (omega arith), ahead) (take_at (drop p L) Z q (length-drop p L))

  stays : drop (q + r) (drop p (L ++ Z)) ≡ drop r Z
  stays = rw (← drop-drop r q (drop p (L ++ Z)), ahead, drop_at (drop p L) Z q (length-drop p L))

  -- the words with the new ones in
  fits : take p (L ++ Z) ++ ((N ++ take (length lent - r) lent) ++ drop (q + r) (drop p (L ++ Z))) ≡ splice L p N ++ drop r Z
  fits = rw (moves, stays, take-append-le p L Z inside) (sym (append_assoc (take p L) (N ++ drop p L) (drop r Z)))

  -- the same in the whole slice X: the part from p + 1 up to t comes back as Q, and the header is set
  pub fitted : (h v t : ℕ) (X Q : List ℕ) → t ≡ length L + 1 + r → X ≡ h ∷ (L ++ Z)
      → Q ≡ N ++ take (length (take (t - (p + 1)) (drop (p + 1) X)) - r) (take (t - (p + 1)) (drop (p + 1) X))
      → set (put_mid (p + 1) (t - (p + 1)) X Q) 0 v ≡ v ∷ (splice L p N ++ drop r Z)
  fitted h v t X Q far x back = let k : t - (p + 1) ≡ q + r = omega arith in rw (back, k, x, add-one p) (ap (v ∷◌) fits)
