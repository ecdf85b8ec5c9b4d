-- Two numbers compared by their exclusive or: from which bit on they agree.
use Rattle.std.proofs.Common.{◌≡◌, ℕ, ◌+◌, ◌-◌, ◌*◌, ◌/◌, ◌%◌, ◌^◌, ◌<◌, sym, ap, ◌∙◌, arith}
use Rattle.tree.specs.Forest.{extent_limit}
use lib.Bits.{bit_xor, and_le_l, and_le_r, xor_add_and, xor_self, xor_shr}

-- numbers without a bit that differs are equal
alike : (a b : ℕ) → bit_xor a b ≡ 0 → a ≡ b
alike a b e = omega (arith, xor_add_and a b, and_le_l a b, and_le_r a b)

-- the bits from k on agree where the exclusive or has none of them, and only there
module _ (a b k : ℕ) where
  agree : bit_xor a b / 2 ^ k ≡ 0 → a / 2 ^ k ≡ b / 2 ^ k
  agree z = alike (a / 2 ^ k) (b / 2 ^ k) (sym (xor_shr a b k) ∙ z)

  none_left : a / 2 ^ k ≡ b / 2 ^ k → bit_xor a b / 2 ^ k ≡ 0
  none_left e = xor_shr a b k ∙ ap (λ (x : ℕ). bit_xor x (b / 2 ^ k)) e ∙ xor_self (b / 2 ^ k)

-- a word and a Check's key in the key's place: their exclusive or, less the extents modulo 2 ^ 64, is under 2 ^ 60
-- less the extents only where the word is a Check with another key
pub unlike :
    (w key r : ℕ) → key / 2 ^ 32 ≡ 7 → (r + extent_limit) % 2 ^ 64 ≡ bit_xor w (key * extent_limit) → r < 2 ^ 60 - extent_limit
    → (w / 2 ^ 60 ≡ 7) × (w / extent_limit ≡ key → ⊥)
unlike w key r check e h =
    let high : bit_xor w (key * extent_limit) / 2 ^ 60 ≡ 0 = omega arith in
    let up : key * extent_limit / 2 ^ 60 ≡ 7 = omega arith in
    let low : bit_xor w (key * extent_limit) / 2 ^ 28 ≡ 0 → ⊥ = λ z. omega arith in
    let down : key ≡ key * extent_limit / 2 ^ 28 = omega arith in
    (agree w (key * extent_limit) 60 high ∙ up, λ g. low (none_left w (key * extent_limit) 28 (g ∙ down)))
