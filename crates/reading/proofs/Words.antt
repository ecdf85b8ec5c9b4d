-- What a word of 16 bits is, by number tests.
use mathlib.Core.Path.{◌≡◌, refl, sym, ◌∙◌}
use mathlib.Core.Bool.{true, false}
use Prim.Native.Nat.{ℕ, zero, suc, ◌<◌}
use native.Mathlib.Omega.{arith}
use native.Mathlib.Decide.{dec_lt}
use lib.Dec.{leb, ltb}
use borrow.Author.Tests.{le-leb, lt-leb, lt-ltb, le-ltb}
use Rattle.clause.specs.Word.{arity, kind, sort_by, sort, is_head, is_inside}

by_head : (k a : ℕ) → is_head (sort_by k a) ≡ leb 2 k
unfolding sort_by
by_head zero a = refl
by_head (suc zero) zero = refl
by_head (suc zero) (suc a) = refl
by_head (suc (suc k)) a = sym (le-leb 2 (suc (suc k)) (omega arith))

by_inside : (k a : ℕ) → k < 2 → (0 < k → a ≡ 0) → is_inside (sort_by k a) ≡ true
unfolding sort_by
by_inside zero a h i = refl
by_inside (suc zero) zero h i = refl
by_inside (suc zero) (suc a) h i = absurd (omega (arith, i (omega arith)))
by_inside (suc (suc k)) a h i = absurd (omega arith)

by_outside : (k a : ℕ) → 0 < k → (k < 2 → 0 < a) → is_inside (sort_by k a) ≡ false
unfolding sort_by
by_outside zero a h i = absurd (omega arith)
by_outside (suc zero) zero h i = absurd (omega (arith, i (omega arith)))
by_outside (suc zero) (suc a) h i = refl
by_outside (suc (suc k)) a h i = refl

module _ (w : ℕ) (fits : w < 65536) where
  -- a head: kind 2 or 3
  pub head_test : leb 32768 w ≡ is_head (sort w)
  unfolding sort kind arity
  head_test = go (dec_lt w 32768) ∙ sym (by_head (kind w) (arity w))
    where
      go : Dec (w < 32768) → leb 32768 w ≡ leb 2 (kind w)
      go (yes h) = lt-leb 32768 w h ∙ sym (lt-leb 2 (kind w) (omega arith))
      go (no h) = le-leb 32768 w (omega arith) ∙ sym (le-leb 2 (kind w) (omega arith))

  -- a word inside a literal: kind 0, or kind 1 and arity 0
  pub inside_test : ltb w 18432 ≡ is_inside (sort w)
  unfolding sort kind arity
  inside_test = go (dec_lt w 18432)
    where
      go : Dec (w < 18432) → ltb w 18432 ≡ is_inside (sort_by (kind w) (arity w))
      go (yes h) = lt-ltb w 18432 h ∙ sym (by_inside (kind w) (arity w) (omega arith) (λ i. omega arith))
      go (no h) = le-ltb w 18432 (omega arith) ∙ sym (by_outside (kind w) (arity w) (omega arith) (λ i. omega arith))
