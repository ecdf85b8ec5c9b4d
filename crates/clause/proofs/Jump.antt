-- Positions some terms further on.
use mathlib.Core.Path.{◌≡◌}
use mathlib.Core.List.{List, ◌∷◌}
use Prim.Native.Nat.{ℕ, suc, ◌+◌, ◌<◌}
use native.Mathlib.Nat.{suc-add, add-suc, add_assoc, add-zero}
use native.Mathlib.Numerals.{one-add}
use native.Mathlib.Omega.{arith}
use lib.ListN.{length, drop, get_or, length-drop}
use lib.Seq.{drop-cons, drop-drop}
use Rattle.clause.specs.Word.{arity}
use Rattle.clause.specs.Clause.{skip}
use Rattle.clause.proofs.Skip.{skip_zero, skip_add, Enough, more, enough_after}
use Rattle.clause.specs.Positions.{jump}

pub jump_zero : (d : List ℕ) (p : ℕ) → jump d 0 p ≡ p
unfolding jump
jump_zero d p = simp (skip_zero, add-zero)

pub jump_add : (d : List ℕ) (a b p : ℕ) → jump d (a + b) p ≡ jump d b (jump d a p)
unfolding jump
jump_add d a b p = simp (skip_add, drop-drop, add_assoc)

pub jump_suc : (d : List ℕ) (k p : ℕ) → jump d (suc k) p ≡ jump d k (jump d 1 p)
jump_suc d k p = rw (← one-add k) (jump_add d 1 k p)

-- over a word with its arguments: over the word, and then over the arguments
pub jump_word : (d : List ℕ) (k p : ℕ) → p < length d → jump d (suc k) p ≡ jump d (arity (get_or d p 0) + k) (suc p)
unfolding jump skip
jump_word d k p h = rw (drop-cons d p 0) (simp (add-suc, suc-add))

-- where a term is still to come there is a word
enough_pos : {k : ℕ} {ws : List ℕ} → Enough (suc k) ws → 0 < length ws
enough_pos (more h) = omega arith

enough_tail : {k w : ℕ} {ws : List ℕ} → Enough (suc k) (w ∷ ws) → Enough (arity w + k) ws
enough_tail (more h) = h

pub enough_here : (d : List ℕ) (k p : ℕ) → Enough (suc k) (drop p d) → p < length d
enough_here d k p h = omega (arith, simp length-drop at (enough_pos h))

-- the terms left after a word, and after a term
pub enough_word : (d : List ℕ) (k p : ℕ) → Enough (suc k) (drop p d) → Enough (arity (get_or d p 0) + k) (drop (suc p) d)
enough_word d k p h = let g : p < length d = enough_here d k p h in enough_tail (rw (drop-cons d p 0) at h)

pub enough_term : (d : List ℕ) (k p : ℕ) → Enough (suc k) (drop p d) → Enough k (drop (jump d 1 p) d)
unfolding jump
enough_term d k p h = rw (← drop-drop) (enough_after 1 k (rw one-add h))
