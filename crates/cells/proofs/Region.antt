-- Words of a row by their operation and their operand.
use Rattle.std.proofs.Common.{◌≡◌, ℕ, ◌/◌, ◌%◌, ◌^◌, eqb, ltb, arith, le-ltb, lt-ltb, eq-eqb, ne_eqb}
use native.Mathlib.Decide.{ℕ_discrete}
use Rattle.machine.specs.Instr.{instruction, instr_of}
use Rattle.tree.specs.Keys.{first_key}
use Rattle.tree.specs.Laid.{key_of}

-- the instruction of a word by its fields
pub instr_of_word : (w : ℕ) → instr_of (key_of w) ≡ instruction (w / 2 ^ 60) (w / 2 ^ 28 % 2 ^ 32)
unfolding instr_of
instr_of_word w =
    let e : key_of w / 2 ^ 32 ≡ w / 2 ^ 60 = omega arith in
    rw e

-- a word is a Success where its operation is 0
pub success_word : (w : ℕ) → ltb (key_of w) first_key ≡ eqb (w / 2 ^ 60) 0
success_word w = go (ℕ_discrete (w / 2 ^ 60) 0)
  where
    go : Dec (w / 2 ^ 60 ≡ 0) → ltb (key_of w) first_key ≡ eqb (w / 2 ^ 60) 0
    go (yes e) = rw (lt-ltb (key_of w) first_key (omega arith), eq-eqb (w / 2 ^ 60) 0 e)
    go (no n) = rw (le-ltb (key_of w) first_key (omega arith), ne_eqb (w / 2 ^ 60) 0 n)
