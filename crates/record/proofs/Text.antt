-- The digits of a number without fuel, how many they are, and their value.
use mathlib.Core.Path.{◌≡◌, refl, sym, ap, ◌∙◌}
use mathlib.Core.List.{List, [], ◌∷◌, ◌++◌}
use mathlib.Core.Bool.{Bool, true, false}
use Prim.Native.Nat.{ℕ, zero, suc, ◌+◌, ◌-◌, ◌*◌, ◌/◌, ◌%◌, ◌^◌, ◌≤◌, ◌<◌}
use native.Mathlib.Omega.{arith}
use native.Mathlib.Decide.{dec_lt}
use lib.ListN.{length, get_or, length-append}
use borrow.Author.Tests.{lt-ltb, le-ltb}
use Rattle.clause.specs.Lists.{All, none, also}
use Rattle.clause.proofs.Lists.{all_append}
use Rattle.record.specs.Text.{digits_for, decimal, read_on, value_of, DecimalReads}

-- one digit, or the digits before the last one and the last one
digits_small : (f n : ℕ) → n < 10 → digits_for (suc f) n ≡ (48 + n) ∷ []
unfolding digits_for
digits_small f n h = ap (λ (b : Bool). elim b as (λ x. List ℕ) [ true ↦ (48 + n) ∷ [] | false ↦ digits_for f (n / 10) ++ ((48 + n % 10) ∷ []) ]) (lt-ltb n 10 h)

digits_large : (f n : ℕ) → 10 ≤ n → digits_for (suc f) n ≡ digits_for f (n / 10) ++ ((48 + n % 10) ∷ [])
unfolding digits_for
digits_large f n h = ap (λ (b : Bool). elim b as (λ x. List ℕ) [ true ↦ (48 + n) ∷ [] | false ↦ digits_for f (n / 10) ++ ((48 + n % 10) ∷ []) ]) (le-ltb n 10 h)

-- the fuel does not matter
digits_fuel : (f g n : ℕ) → n < f → n < g → digits_for f n ≡ digits_for g n
digits_fuel zero g n h k = absurd (omega arith)
digits_fuel (suc f) zero n h k = absurd (omega arith)
digits_fuel (suc f) (suc g) n h k = go (dec_lt n 10) (digits_fuel f g (n / 10))
  where
    go : Dec (n < 10) → (n / 10 < f → n / 10 < g → digits_for f (n / 10) ≡ digits_for g (n / 10)) → digits_for (suc f) n ≡ digits_for (suc g) n
    go (yes s) ih = digits_small f n s ∙ sym (digits_small g n s)
    go (no s) ih =
        let e : digits_for f (n / 10) ≡ digits_for g (n / 10) = ih (omega arith) (omega arith) in
        digits_large f n (omega arith) ∙ rw e (sym (digits_large g n (omega arith)))

pub decimal_small : (n : ℕ) → n < 10 → decimal n ≡ (48 + n) ∷ []
unfolding decimal
decimal_small n h = digits_small n n h

pub decimal_large : (n : ℕ) → 10 ≤ n → decimal n ≡ decimal (n / 10) ++ ((48 + n % 10) ∷ [])
unfolding decimal
decimal_large n h =
    let e : digits_for n (n / 10) ≡ digits_for (suc (n / 10)) (n / 10) = digits_fuel n (suc (n / 10)) (n / 10) (omega arith) (omega arith) in
    digits_large n n h ∙ rw e

-- ---- how long a number is

pub length_small : (n : ℕ) → n < 10 → length (decimal n) ≡ 1
length_small n h = ap length (decimal_small n h)

pub length_large : (n : ℕ) → 10 ≤ n → length (decimal n) ≡ length (decimal (n / 10)) + 1
length_large n h = ap length (decimal_large n h) ∙ length-append (decimal (n / 10)) ((48 + n % 10) ∷ [])

-- every number has a digit
pub decimal_some : (n : ℕ) → 0 < length (decimal n)
decimal_some n = go (dec_lt n 10)
  where
    go : Dec (n < 10) → 0 < length (decimal n)
    go (yes s) = omega (arith, length_small n s)
    go (no s) = omega (arith, length_large n (omega arith))

-- a number below 10 to the power k + 1 has at most k + 1 digits
pub decimal_length : (k n : ℕ) → n < 10 ^ suc k → length (decimal n) ≤ suc k
decimal_length zero n h = omega (arith, length_small n (omega arith))
decimal_length (suc k) n h = go (dec_lt n 10) (decimal_length k (n / 10))
  where
    go : Dec (n < 10) → (n / 10 < 10 ^ suc k → length (decimal (n / 10)) ≤ suc k) → length (decimal n) ≤ suc (suc k)
    go (yes s) ih = omega (arith, length_small n s)
    go (no s) ih = omega (arith, length_large n (omega arith), ih (omega arith))

-- ---- what the digits say

-- a number has one digit, or those of its tenth and one more
by_tens : (P : ℕ → Type 0) → ((n : ℕ) → n < 10 → P n) → ((n : ℕ) → 10 ≤ n → P (n / 10) → P n) → (n : ℕ) → P n
by_tens P small large n = go (suc n) n (omega arith)
  where
    go : (f n : ℕ) → n < f → P n
    go zero n h = absurd (omega arith)
    go (suc f) n h = turn (dec_lt n 10) (go f (n / 10))
      where
        turn : Dec (n < 10) → (n / 10 < f → P (n / 10)) → P n
        turn (yes s) ih = small n s
        turn (no s) ih = large n (omega arith) (ih (omega arith))

read_last : (n : ℕ) (l : List ℕ) (b : ℕ) → read_on n (l ++ (b ∷ [])) ≡ read_on (read_on n l) (b ∷ [])
read_last n [] b = refl
read_last n (a ∷ l) b = read_last (n * 10 + (a - 48)) l b

value : (n : ℕ) → value_of (decimal n) ≡ n
value =
    by_tens (λ n. value_of (decimal n) ≡ n) (λ n h. rw (decimal_small n h) (omega arith))
    (λ n h ih. rw (decimal_large n h, read_last 0 (decimal (n / 10)) (48 + n % 10)) (omega (arith, ih)))

digits : (n : ℕ) → All (λ b. (48 ≤ b) × (b ≤ 57)) (decimal n)
digits =
    by_tens (λ n. All (λ b. (48 ≤ b) × (b ≤ 57)) (decimal n)) (λ n h. rw (decimal_small n h) (also {x = 48 + n} (omega arith, omega arith) none))
    (λ n h ih. rw (decimal_large n h) (all_append ih (also {x = 48 + n % 10} (omega arith, omega arith) none)))

-- the first digit is that of the tenth
first_large : (n : ℕ) → 10 ≤ n → get_or (decimal n) 0 0 ≡ get_or (decimal (n / 10)) 0 0
first_large n h = ap (λ l. get_or l 0 0) (decimal_large n h) ∙ go (decimal (n / 10)) (decimal_some (n / 10))
  where
    go : (l : List ℕ) → 0 < length l → get_or (l ++ ((48 + n % 10) ∷ [])) 0 0 ≡ get_or l 0 0
    go [] s = absurd (omega arith)
    go (b ∷ l) s = refl

leads : (n : ℕ) → get_or (decimal n) 0 0 ≡ 48 → n ≡ 0
leads =
    by_tens (λ n. get_or (decimal n) 0 0 ≡ 48 → n ≡ 0) (λ n h e. omega (arith, e, ap (λ l. get_or l 0 0) (decimal_small n h)))
    (λ n h ih e. omega (arith, ih (sym (first_large n h) ∙ e)))

pub decimal_reads : DecimalReads
decimal_reads =
    record {
      value = value;
      apart = λ m n e. sym (value m) ∙ ap value_of e ∙ value n;
      digits = digits;
      leads = λ n bs e. leads n (ap (λ l. get_or l 0 0) e);
    }
