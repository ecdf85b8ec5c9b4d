-- Comparing two keys.
use mathlib.Core.Path.{◌≡◌, refl, ap, ◌∙◌}
use mathlib.Core.Logic.{◌↔◌, ◌⊎◌, inl, inr}
use Prim.Native.Nat.{Ordering}
use Prim.Native.Nat.{ℕ, zero, suc, ◌*◌, ◌^◌, ◌<◌, zero-le, suc-le-suc, compare}
use Prim.Native.Nat.compare
use native.Mathlib.Nat.{le_of_suc-le-suc, not-suc-le-zero}
use native.Mathlib.Omega.{arith}
use lib.Dec.{T, ltb→lt}
use Rattle.machine.specs.Instr.{instr}
use Rattle.tree.specs.Keys.{first_key, lawful}
use Rattle.clause.proofs.Tests.{and_l}

-- how two numbers lie, with the proof
pub data Tri (a b : ℕ) : Type 0 where
  less : a < b → Tri a b
  same : a ≡ b → Tri a b
  more : b < a → Tri a b

tri_suc : {a b : ℕ} → Tri a b → Tri (suc a) (suc b)
tri_suc (less h) = less (suc-le-suc h)
tri_suc (same e) = same (ap suc e)
tri_suc (more h) = more (suc-le-suc h)

pub tri : (a b : ℕ) → Tri a b
tri zero zero = same refl
tri zero (suc b) = less (suc-le-suc zero-le)
tri (suc a) zero = more (suc-le-suc zero-le)
tri (suc a) (suc b) = tri_suc (tri a b)

pub compare_less : (a b : ℕ) → a < b → compare a b ≡ Ordering.lt
compare_less zero zero h = absurd (not-suc-le-zero h)
compare_less zero (suc b) h = compare.zero-suc b
compare_less (suc a) zero h = absurd (not-suc-le-zero h)
compare_less (suc a) (suc b) h = compare.suc-suc a b ∙ compare_less a b (le_of_suc-le-suc h)

compare_refl : (a : ℕ) → compare a a ≡ Ordering.eq
compare_refl zero = compare.zero-zero
compare_refl (suc a) = compare.suc-suc a a ∙ compare_refl a

pub compare_same : (a b : ℕ) → a ≡ b → compare a b ≡ Ordering.eq
compare_same a b e = rw e (compare_refl b)

pub compare_more : (a b : ℕ) → b < a → compare a b ≡ Ordering.gt
compare_more zero b h = absurd (not-suc-le-zero h)
compare_more (suc a) zero h = compare.suc-zero a
compare_more (suc a) (suc b) h = compare.suc-suc a b ∙ compare_more a b (le_of_suc-le-suc h)

-- the order of the keys is by operation, then by operand
pub instr_order : (o a p b : ℕ) → a < first_key → b < first_key → (instr o a < instr p b) ↔ ((o < p) ⊎ ((o ≡ p) × (a < b)))
instr_order o a p b ha hb = (λ h. to h (tri o p), from)
  where
    to : instr o a < instr p b → Tri o p → (o < p) ⊎ ((o ≡ p) × (a < b))
    to h (less l) = inl l
    to h (same e) = inr (e, omega arith)
    to h (more l) = absurd (omega arith)

    from : (o < p) ⊎ ((o ≡ p) × (a < b)) → instr o a < instr p b
    from (inl h) = omega arith
    from (inr h) = omega arith

-- a key that the tree may hold has an operation up to 8
pub lawful_small : (k : ℕ) → T (lawful k) → k < 9 * 2 ^ 32
unfolding lawful
lawful_small k t = ltb→lt k (9 * 2 ^ 32) (search and_l)
