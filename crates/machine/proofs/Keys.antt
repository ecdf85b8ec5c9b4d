-- An instruction is known by its key.
use mathlib.Core.Path.{◌≡◌, refl, sym, ap, ap₂, ◌∙◌}
use mathlib.Core.Option.{some, some-injective}
use mathlib.Core.List.{List, ◌∷◌, map, nil≢cons, cons≢nil, head-eq_of_cons-eq, tail-eq_of_cons-eq}
use Prim.Native.Nat.{ℕ, ◌+◌, ◌*◌, ◌/◌, ◌%◌, ◌^◌, ◌<◌}
use native.Mathlib.Omega.{arith}
use lib.Arith.{digits_div, digits_mod}
use Rattle.clause.specs.Lists.{All, none, also}
use Rattle.machine.specs.Instr.{Step, Down, Right, Put, Push, Pop, Check, Compare, Instr, First, Do, Success, instr, key, instruction, instr_of}

-- the two fields of a key
pub op_instr : (op operand : ℕ) → operand < 2 ^ 32 → instr op operand / 2 ^ 32 ≡ op
op_instr op operand h = digits_div op h

pub operand_instr : (op operand : ℕ) → operand < 2 ^ 32 → instr op operand % 2 ^ 32 ≡ operand
operand_instr op operand h = digits_mod op h

-- a step whose parts fit into its operand
abbrev pub Fitting : Step → Type 0
Fitting Down = Unit {0}
Fitting Right = Unit {0}
Fitting (Put k) = k < 2 ^ 32
Fitting (Push n) = n < 2 ^ 32
Fitting (Pop n) = n < 2 ^ 32
Fitting (Check w) = w < 2 ^ 32
Fitting (Compare m k) = (m < 2 ^ 16) × (k < 2 ^ 16)

-- an instruction above a Success, whose parts fit into its operand
abbrev pub Plain : Instr → Type 0
Plain First = Unit {0}
Plain (Do x) = Fitting x
Plain (Success n) = ⊥

-- an operation with an operand that fits
known : (op x : ℕ) → x < 2 ^ 32 → instr_of (instr op x) ≡ instruction op x
unfolding instr_of
known op x h = rw (op_instr op x h, operand_instr op x h)

pub instr_of_success : (n : ℕ) → n < 2 ^ 32 → instr_of n ≡ some (Success n)
unfolding instruction instr_of
instr_of_success n h =
    let e : n / 2 ^ 32 ≡ 0 = omega arith in
    let f : n % 2 ^ 32 ≡ n = omega arith in
    rw (e, f)

pub instr_of_step : (x : Step) → Fitting x → instr_of (key (Do x)) ≡ some (Do x)
unfolding key instruction
instr_of_step Down h = known 2 0 (omega arith)
instr_of_step Right h = known 3 0 (omega arith)
instr_of_step (Put k) h = known 4 k h
instr_of_step (Push n) h = known 5 n h
instr_of_step (Pop n) h = known 6 n h
instr_of_step (Check w) h = known 7 w h
instr_of_step (Compare m k) h =
    let e : (m * 2 ^ 16 + k) / 2 ^ 16 ≡ m = digits_div m h.1 in
    let f : (m * 2 ^ 16 + k) % 2 ^ 16 ≡ k = digits_mod m h.1 in
    rw (known 8 (m * 2 ^ 16 + k) (omega arith), e, f)

pub instr_of_first : instr_of (key First) ≡ some First
unfolding key instruction
instr_of_first = known 1 0 (omega arith)

pub instr_of_plain : (i : Instr) → Plain i → instr_of (key i) ≡ some i
instr_of_plain First h = instr_of_first
instr_of_plain (Do x) h = instr_of_step x h
instr_of_plain (Success n) h = absurd h

-- sequences with the same keys are the same
pub keys_same : {a b : List Instr} → All Plain a → All Plain b → map key a ≡ map key b → a ≡ b
keys_same none none e = refl
keys_same none (also h q) e = absurd (nil≢cons e)
keys_same (also h p) none e = absurd (cons≢nil e)
keys_same (also {x = i} h p) (also {x = j} g q) e =
    ap₂ ◌∷◌ (some-injective i j (sym (instr_of_plain i h) ∙ ap instr_of (head-eq_of_cons-eq e) ∙ instr_of_plain j g)) (keys_same p q (tail-eq_of_cons-eq e))
