-- `reserve` meets its contract.
use Rattle.std.proofs.Common.{◌≡◌, ◌+◌, ◌*◌, ◌/◌, ◌%◌, ◌∙◌, arith, get_or-set_other}
use Rattle.cells.specs.Inner.Cells.{count_at, use_limit, count_in, reserved, kept_in, uses_of, saved_byte}
use Rattle.cells.proofs.Bits.{taken_low}
use Rattle.cells.proofs.state.reserve.Goals as goal

pub overflow_add-result : goal.overflow_add-result
overflow_add-result c = record { fits = omega (arith, c.from.ensures, c.used-bits.ensures, taken_low c.args.cells.now c.requires.0 c.requires.1) }

pub returns-in-First : goal.returns-in-First
unfolding reserved kept_in uses_of
returns-in-First c =
    let t = c.in-First.is in
    let u = c.used-bits in
    let l = c.args.cells.now in
    let n = count_in l in
    let low = taken_low l c.requires.0 c.requires.1 in
    let bits : (c.from.result * use_limit + u.result) % use_limit ≡ u.result = omega (arith, u.ensures, low) in
    let high : (c.from.result * use_limit + u.result) / use_limit ≡ c.from.result = omega (arith, u.ensures, low) in
    let byte : saved_byte (c.from.result * use_limit + u.result) ≡ c.from.result = rw high (omega (arith, c.from.ensures)) in
    let kept = get_or-set_other l count_at n (n + 1) 0 (λ e. omega (arith, c.requires.1.0)) in
    (bits ∙ u.ensures ∙ rw t, byte ∙ c.from.ensures ∙ rw (t, c.from-slot.ensures) kept, rw t)

pub returns-in-Step : goal.returns-in-Step
unfolding reserved kept_in uses_of
returns-in-Step c = let t = c.in-Step.is in (rw t, rw t, rw t)
