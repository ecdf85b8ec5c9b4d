-- Text as bytes, and its place in the output; what is claimed of the text of numbers.
use Rattle.std.specs.Prelude.{◌≡◌, List, [], ◌∷◌, ◌++◌, true, false, ℕ, zero, suc, ◌+◌, ◌-◌, ◌*◌, ◌/◌, ◌%◌, ◌≤◌, ltb, length}
use Rattle.std.proofs.lemmas.List.Edits.{sets}
use Rattle.clause.specs.Lists.{All}

-- the digits of a number in base ten, the most significant first; the fuel is more than the number, and does not matter then
unfoldable pub digits_for : (fuel number : ℕ) → List ℕ
digits_for zero n = []
digits_for (suc f) n = elim (ltb n 10) [ true ↦ (48 + n) ∷ [] | false ↦ digits_for f (n / 10) ++ ((48 + n % 10) ∷ []) ]

-- a number in base ten: 0 is `0`, and no other begins with it
unfoldable pub decimal : ℕ → List ℕ
decimal n = digits_for (suc n) n

-- some digits read after a number, one after another
abbrev pub read_on : (number : ℕ) (digits : List ℕ) → ℕ
read_on n [] = n
read_on n (b ∷ bs) = read_on (n * 10 + (b - 48)) bs

-- the value of some digits in base ten
abbrev pub value_of : (digits : List ℕ) → ℕ
value_of bs = read_on 0 bs

-- the claim about a number in base ten
pub record DecimalReads : Type 0 where
  -- its digits' value is the number; so no two numbers have the same text
  pub value : (n : ℕ) → value_of (decimal n) ≡ n
  pub apart : (m n : ℕ) → decimal m ≡ decimal n → m ≡ n
  -- its bytes are digits, and only 0 begins with the digit 0
  pub digits : (n : ℕ) → All (λ b. (48 ≤ b) × (b ≤ 57)) (decimal n)
  pub leads : (n : ℕ) (bs : List ℕ) → decimal n ≡ 48 ∷ bs → n ≡ 0

-- the output with some text in it, and the place after the text
pub record Written : Type 0 where
  pub next : ℕ
  pub output : List ℕ

-- some text put into the output, byte after byte from a place on
abbrev pub put_at : (text output : List ℕ) (at : ℕ) → Written
put_at t o at = record { next = at + length t; output = sets o at t }
