-- Where terms end.
use mathlib.Core.Path.{◌≡◌, ap, ◌∙◌}
use mathlib.Core.List.{List, [], ◌∷◌}
use Prim.Native.Nat.{ℕ, zero, suc, ◌+◌, ◌-◌, ◌<◌, ◌≤◌}
use native.Mathlib.Nat.{add-zero}
use native.Mathlib.Omega.{arith}
use lib.ListN.{length, get_or, take, drop, length-map, length-drop}
use Rattle.clause.specs.Lists.{numbers_below}
use Rattle.clause.specs.Word.{arity}
use Rattle.clause.specs.Clause.{skip, term, term_at}
use Rattle.clause.specs.Positions.{jump, ends}
use Rattle.clause.proofs.Lists.{get_or-map-lt, length_below, get_below}
use Rattle.clause.proofs.Jump.{jump_word}

pub length_ends : (d : List ℕ) → length (ends d) ≡ length d
unfolding ends
length_ends d = simp (length-map, length_below)

pub ends_at : (d : List ℕ) (p : ℕ) → p < length d → get_or (ends d) p 0 ≡ jump d 1 p
unfolding ends
ends_at d p h =
    let b : p < length (numbers_below (length d)) = rw length_below h in
    get_or-map-lt (jump d 1) (numbers_below (length d)) p 0 0 b ∙ ap (jump d 1) (get_below (length d) p h)

pub skip_le : (k : ℕ) (ws : List ℕ) → skip k ws ≤ length ws
unfolding skip
skip_le k [] = omega arith
skip_le zero (w ∷ ws) = omega arith
skip_le (suc k) (w ∷ ws) = omega (arith, skip_le (arity w + k) ws)

-- terms end within the words
pub jump_le : (d : List ℕ) (k p : ℕ) → p ≤ length d → jump d k p ≤ length d
unfolding jump
jump_le d k p h = omega (arith, simp length-drop at (skip_le k (drop p d)))

pub jump_from : (d : List ℕ) (k p : ℕ) → p ≤ jump d k p
unfolding jump
jump_from d k p = omega arith

-- the end of a word's term: past the word, and then past its arguments
pub jump_one : (d : List ℕ) (p : ℕ) → p < length d → jump d 1 p ≡ jump d (arity (get_or d p 0)) (suc p)
jump_one d p h = rw (jump_word d 0 p h, add-zero)

-- the words from a position to the end of its term
pub term_part : (d : List ℕ) (p : ℕ) → take (jump d 1 p - p) (drop p d) ≡ term_at d p
unfolding jump term
term_part d p = let e : p + skip 1 (drop p d) - p ≡ skip 1 (drop p d) = omega arith in rw e
