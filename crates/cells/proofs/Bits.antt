-- The literals that are used on a path, as bits of a number.
use Rattle.std.proofs.Common.{◌≡◌, ℕ, suc, ◌+◌, ◌-◌, ◌*◌, ◌/◌, ◌%◌, ◌^◌, ◌<◌, ◌≤◌, ◌||◌, eqb, List, [], ◌∷◌, length, get_or, take, drop, sym, ap, ◌∙◌, ap₂, zero-add, arith, drop_of_length-le, length-take, drop-cons, get_or-take, pow-add, shl_exact, shr_lt, eq-eqb, ne_eqb}
use native.Mathlib.Decide.{ℕ_discrete, dec_lt}
use lib.Bits.{bit_or, or_shr, or_mod, or_zero_l, or_comm, or_lt, shifted_even}
use lib.Pow.{pow-lt, shl-shr, shr_le, field, mod-mod-pow}
use Rattle.clause.specs.Lists.{All, none, also}
use Rattle.clause.specs.Clause.{max_literals}
use Rattle.machine.specs.Machine.{used}
use Rattle.clause.proofs.Lists.{all_get}
use Rattle.cells.specs.Inner.Cells.{cell_count, use_limit, count_in, HasLiterals, bits_of, has_bit}

-- a power of two has one bit
one_bit : (j : ℕ) → 2 ^ j / 2 ^ j % 2 ≡ 1
one_bit j = ap (λ (n : ℕ). n / 2 ^ j % 2) (omega arith) ∙ ap (λ (n : ℕ). n % 2) (shl-shr 1 j)

other_bit : (i j : ℕ) → (i ≡ j → ⊥) → 2 ^ i / 2 ^ j % 2 ≡ 0
other_bit i j n = go (dec_lt i j)
  where
    go : Dec (i < j) → 2 ^ i / 2 ^ j % 2 ≡ 0
    go (yes h) = let z : 2 ^ i / 2 ^ j < 1 = shr_lt 0 j (simp zero-add (pow-lt h)) in omega arith
    go (no h) =
        let k : suc (i - j - 1) + j ≡ i = omega arith in
        let e : 2 ^ i / 2 ^ j ≡ 2 ^ suc (i - j - 1) =
        ap (λ (m : ℕ). 2 ^ m / 2 ^ j) (sym k) ∙ ap (λ (m : ℕ). m / 2 ^ j) (pow-add 2 (suc (i - j - 1)) j) ∙ shl-shr (2 ^ suc (i - j - 1)) j in
        ap (λ (m : ℕ). m % 2) (e ∙ omega arith) ∙ shifted_even 1 (i - j - 1)

-- one literal more
more_bit : (i m j : ℕ) → has_bit (bit_or (2 ^ i) m) j ≡ (eqb i j || has_bit m j)
more_bit i m j = go (ℕ_discrete i j) (ℕ_discrete (m / 2 ^ j % 2) 0)
  where
    parts : bit_or (2 ^ i) m / 2 ^ j % 2 ≡ bit_or (2 ^ i / 2 ^ j % 2) (m / 2 ^ j % 2)
    parts = ap (λ (n : ℕ). n % 2) (or_shr (2 ^ i) m j) ∙ or_mod (2 ^ i / 2 ^ j) (m / 2 ^ j) 1

    go : Dec (i ≡ j) → Dec (m / 2 ^ j % 2 ≡ 0) → has_bit (bit_or (2 ^ i) m) j ≡ (eqb i j || has_bit m j)
    go (no n) b = rw (ne_eqb i j n, parts, other_bit i j n, or_zero_l)
    go (yes e) (yes z) = rw (eq-eqb i j e) (eq-eqb _ 1 (parts ∙ rw (e, one_bit j, z)))
    go (yes e) (no z) =
        let o : m / 2 ^ j % 2 ≡ 1 = omega arith in
        rw (eq-eqb i j e) (eq-eqb _ 1 (parts ∙ rw (e, one_bit j, o)))

-- the bits are the literals that are used
pub bits_used : (js : List ℕ) (j : ℕ) → has_bit (bits_of js) j ≡ used j js
unfolding bits_of used
bits_used [] j = ne_eqb (0 / 2 ^ j % 2) 1 (λ e. omega (arith, shr_le 0 j))
bits_used (i ∷ js) j = more_bit i (bits_of js) j ∙ rw (bits_used js j)

-- the bits of literals are below the limit
bits_low : {js : List ℕ} → All (λ j. j < max_literals) js → bits_of js < use_limit
unfolding bits_of
bits_low none = omega arith
bits_low (also {x = j} h p) = or_lt max_literals (2 ^ j) _ (pow-lt h) (bits_low p)

-- what stands above them does not matter
pub low_bit : (m j : ℕ) → j < max_literals → has_bit (m % use_limit) j ≡ has_bit m j
low_bit m j h =
    let i = max_literals - j - 1 in
    let whole : (i + 1) + j ≡ max_literals = omega arith in
    let e : m % use_limit / 2 ^ j ≡ m / 2 ^ j % 2 ^ (i + 1) = ap (λ (n : ℕ). m % 2 ^ n / 2 ^ j) (sym whole) ∙ field m (i + 1) j in
    ap (λ (n : ℕ). eqb (n % 2) 1) e ∙ ap (λ (n : ℕ). eqb n 1) (mod-mod-pow (m / 2 ^ j) i 1)

-- as they are gathered from the cells, the latest candidate first
module _ (l : List ℕ) (size : length l ≡ cell_count) (L : HasLiterals l) where
  abbrev taken : List ℕ
  taken = take (count_in l) l

  pub taken_low : bits_of taken < use_limit
  taken_low = bits_low L.1

  length_taken : length taken ≡ count_in l
  length_taken = simp length-take (omega (arith, size, L.0))

  pub bits_none : 0 ≡ bits_of (drop (count_in l) taken)
  unfolding bits_of
  bits_none = rw (drop_of_length-le taken {i = count_in l} (omega (arith, length_taken)))

  module _ (i : ℕ) (low : 0 < i) (high : i ≤ count_in l) where
    pub candidate_small : get_or l (i - 1) 0 < max_literals
    candidate_small = rw (get_or-take (count_in l) l (i - 1) 0 (omega arith)) at (all_get taken L.1 (i - 1) 0 (omega (arith, length_taken)))

    pub bits_more : {bits : ℕ} → bits ≡ bits_of (drop i taken) → bit_or bits (1 * 2 ^ get_or l (i - 1) 0 % 2 ^ 32) ≡ bits_of (drop (i - 1) taken)
    unfolding bits_of
    bits_more {bits} e =
        let c = get_or l (i - 1) 0 in
        let there : get_or taken (i - 1) 0 ≡ c = get_or-take (count_in l) l (i - 1) 0 (omega arith) in
        let onward : suc (i - 1) ≡ i = omega arith in
        let more : drop (i - 1) taken ≡ c ∷ drop i taken =
        drop-cons taken (i - 1) 0 (omega (arith, length_taken)) ∙ ap₂ (λ (x : ℕ) (n : ℕ). x ∷ drop n taken) there onward in
        let bit : 1 * 2 ^ c % 2 ^ 32 ≡ 2 ^ c = shl_exact {a = 1} 1 c 32 (omega arith) (omega (arith, candidate_small)) ∙ omega arith in
        rw (bit, more, ← e) (or_comm bits (2 ^ c))
