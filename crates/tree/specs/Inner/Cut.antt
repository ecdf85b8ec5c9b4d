-- Removal on the words themselves: the definition that the loops are proved against.
use Rattle.std.specs.Prelude.{List, [], ◌∷◌, true, false, cond, ℕ, zero, suc, ◌-◌, ltb, eqb, drop}
use Rattle.std.proofs.Math.Option.{Option, none, some}
use Rattle.tree.specs.Laid.{key_of, extent_of}

-- the words that go: from the first to the last of them
pub record Span : Type 0 where
  pub place : ℕ
  pub last : ℕ

-- where the run of only children that leads to the word w at `at` begins: `up` is the extent of the word before it
abbrev pub begin : (w at from up : ℕ) → ℕ
begin w at from up = cond (eqb up (suc (extent_of w))) from at

-- from the word at `at` on, the first Success n, with the only children that lead to it
abbrev pub locate : List ℕ → (n at from up : ℕ) → Option Span
locate [] n at from up = none
locate (w ∷ ws) n at from up =
    elim (eqb (key_of w) n) [
      | true ↦ some (record { place = begin w at from up; last = at })
      | false ↦ locate ws n (suc at) (begin w at from up) (extent_of w)
    ]

-- the extents of the words above the place, d words on, lowered by r
abbrev pub lower : List ℕ → (d r : ℕ) → List ℕ
lower [] d r = []
lower (w ∷ ws) zero r = w ∷ ws
lower (w ∷ ws) (suc d) r = cond (ltb (suc d) (extent_of w)) (w - r) w ∷ lower ws d r

-- the same, with the r words at the place taken out
abbrev pub cut : List ℕ → (d r : ℕ) → List ℕ
cut [] d r = []
cut (w ∷ ws) zero r = drop r (w ∷ ws)
cut (w ∷ ws) (suc d) r = cond (ltb (suc d) (extent_of w)) (w - r) w ∷ cut ws d r
