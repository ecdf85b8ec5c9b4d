-- The two tables by which the code numbers the puts' variables, turn by turn.
use mathlib.Core.Path.{◌≡◌, refl, sym, ap, ◌∙◌}
use mathlib.Core.Logic.{◌≢◌}
use mathlib.Core.Bool.{cond}
use mathlib.Core.List.{List}
use Prim.Native.Nat.{ℕ, suc, ◌+◌, ◌/◌, ◌%◌, ◌^◌, ◌≤◌, ◌<◌}
use native.Mathlib.Nat.{le_refl}
use native.Mathlib.Numerals.{add-one}
use native.Mathlib.Omega.{arith}
use native.Mathlib.Decide.{ℕ_discrete}
use lib.ListN.{length, get_or, drop, set, drop_of_length-le}
use lib.Seq.{get_or-set_same, get_or-set_other}
use lib.Dec.{eqb}
use borrow.Author.Tests.{eq-eqb, ne_eqb}
use Rattle.machine.specs.Machine.{slots}
use Rattle.readback.specs.Readback.{new_below, instructions, compared_by, origin}
use Rattle.decompiling.specs.Inner.Reader.{Own, Origins}
use Rattle.readback.proofs.Lists.{new_below_le, new_below_new, new_below_old}
use Rattle.decompiling.proofs.Reader.{origin_turn, key_compare, no_compare}

-- ---- origins

-- a table noted from a later key on
module _ (p os : List ℕ) (i later : ℕ) (next : later ≡ suc i) (h : i < length p) (noted : Origins (instructions (drop later p)) os) where
  O : Origins (instructions (drop (suc i) p)) os
  O = rw next at noted

  -- the key is no Compare
  pub origins_other : get_or p i 0 / 2 ^ 32 ≢ 8 → Origins (instructions (drop i p)) os
  origins_other n k l = O k l ∙ sym (origin_turn p i k h ∙ no_compare (get_or p i 0) n k (origin (instructions (drop (suc i) p)) k))

  origin_is : get_or p i 0 / 2 ^ 32 ≡ 8 → (k : ℕ)
      → origin (instructions (drop i p)) k ≡ cond (eqb (get_or p i 0 % 2 ^ 32 % 2 ^ 16) k) (get_or p i 0 % 2 ^ 32 / 2 ^ 16) (origin (instructions (drop (suc i) p)) k)
  unfolding compared_by
  origin_is e k = origin_turn p i k h ∙ rw (key_compare (get_or p i 0) e)

  second_is : (x : ℕ) → x % 2 ^ 32 % 2 ^ 16 ≡ x % 2 ^ 16
  second_is x = omega arith

  -- it is one of a put with a high number
  pub origins_far : get_or p i 0 / 2 ^ 32 ≡ 8 → slots ≤ get_or p i 0 % 2 ^ 16 → Origins (instructions (drop i p)) os
  origins_far e g k l =
      let n : get_or p i 0 % 2 ^ 32 % 2 ^ 16 ≢ k = λ f. omega (arith, second_is (get_or p i 0)) in
      O k l ∙ sym (origin_is e k ∙ rw (ne_eqb (get_or p i 0 % 2 ^ 32 % 2 ^ 16) k n))

  -- it is stored
  pub origins_set : get_or p i 0 / 2 ^ 32 ≡ 8 → get_or p i 0 % 2 ^ 16 < length os
      → Origins (instructions (drop i p)) (set os (get_or p i 0 % 2 ^ 16) (get_or p i 0 % 2 ^ 32 / 2 ^ 16))
  origins_set e g k l = go (ℕ_discrete k (get_or p i 0 % 2 ^ 16))
    where
      go : Dec (k ≡ get_or p i 0 % 2 ^ 16) → get_or (set os (get_or p i 0 % 2 ^ 16) (get_or p i 0 % 2 ^ 32 / 2 ^ 16)) k 0 ≡ origin (instructions (drop i p)) k
      go (yes f) =
          let s : get_or p i 0 % 2 ^ 32 % 2 ^ 16 ≡ k = second_is (get_or p i 0) ∙ sym f in
          ap (λ j. get_or (set os (get_or p i 0 % 2 ^ 16) (get_or p i 0 % 2 ^ 32 / 2 ^ 16)) j 0) f ∙ get_or-set_same os (get_or p i 0 % 2 ^ 16) _ 0 g
          ∙ sym (origin_is e k ∙ rw (eq-eqb (get_or p i 0 % 2 ^ 32 % 2 ^ 16) k s))
      go (no n) =
          let m : get_or p i 0 % 2 ^ 32 % 2 ^ 16 ≢ k = λ f. n (sym f ∙ second_is (get_or p i 0)) in
          get_or-set_other os (get_or p i 0 % 2 ^ 16) k _ 0 n ∙ O k l ∙ sym (origin_is e k ∙ rw (ne_eqb (get_or p i 0 % 2 ^ 32 % 2 ^ 16) k m))

-- ---- counts

pub record Counted (os cs : List ℕ) (count k : ℕ) : Type 0 where
  pub now : count ≡ new_below (λ j. get_or os j 0) k
  pub stored : (m : ℕ) → m ≤ k → get_or cs m 0 ≡ new_below (λ j. get_or os j 0) m

pub counted_none : (os cs : List ℕ) → 0 < length cs → Counted os (set cs 0 0) 0 0
unfolding new_below
counted_none os cs h =
    record { now = refl; stored = λ m l. let e : m ≡ 0 = omega arith in rw e (get_or-set_same cs 0 0 0 h) }

-- one more put, the first of its variable or not
module _ (os cs : List ℕ) (count k : ℕ) (C : Counted os cs count k) (h : k + 1 < length cs) where
  counted_store : (n : ℕ) → n ≡ new_below (λ j. get_or os j 0) (k + 1) → Counted os (set cs (k + 1) n) n (k + 1)
  counted_store n e = record { now = e; stored = λ m l. go m l (ℕ_discrete m (k + 1)) }
    where
      go : (m : ℕ) → m ≤ k + 1 → Dec (m ≡ k + 1) → get_or (set cs (k + 1) n) m 0 ≡ new_below (λ j. get_or os j 0) m
      go m l (yes f) = rw f (get_or-set_same cs (k + 1) n 0 h ∙ e)
      go m l (no f) = get_or-set_other cs (k + 1) m n 0 f ∙ C.stored m (omega arith)

  pub counted_new : get_or os k 0 ≡ k → Counted os (set cs (k + 1) (count + 1)) (count + 1) (k + 1)
  counted_new e = counted_store (count + 1) (simp add-one (ap suc C.now ∙ sym (new_below_new (λ j. get_or os j 0) k e)))

  pub counted_old : get_or os k 0 ≢ k → Counted os (set cs (k + 1) count) count (k + 1)
  counted_old n = counted_store count (simp add-one (C.now ∙ sym (new_below_old (λ j. get_or os j 0) k n)))

-- no instructions, each put its own origin
pub origins_none : (p os : List ℕ) → Own os → Origins (instructions (drop (length p) p)) os
unfolding instructions origin
origins_none p os h k l = rw (drop_of_length-le p (le_refl (length p))) (h k l)

pub counted_low : (os cs : List ℕ) (count k : ℕ) → Counted os cs count k → count ≤ k
counted_low os cs count k C = omega (arith, C.now, new_below_le (λ j. get_or os j 0) k)
