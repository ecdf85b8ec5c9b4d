-- `word_of` meets its contract: a key by its operation and its operand.
use Prim.Native.Nat.{◌%◌, ◌^◌}
use lib.ListN.{get_or}
use Rattle.readback.specs.Readback.{variable_word}
use Rattle.decompiling.proofs.Wording.{names_check, outside_check, outside_put, outside_origin, names_put, names_none, number_low}
use native.Mathlib.Omega.{arith}
use Rattle.decompiling.proofs.word_of.Goals as goal

pub returns-then-operand-ge-VALUES : goal.returns-then-operand-ge-VALUES
returns-then-operand-ge-VALUES c = let a = c.args in outside_check a.origins.now a.counts.now a.x (omega arith) (omega arith)

pub returns-else-operand-ge-VALUES : goal.returns-else-operand-ge-VALUES
returns-else-operand-ge-VALUES c = let a = c.args in names_check a.origins.now a.counts.now a.x (omega arith) (omega arith)

pub returns-then-operand : goal.returns-then-operand
returns-then-operand c = let a = c.args in outside_put a.origins.now a.counts.now a.x (omega arith) (omega arith)

pub returns-then-m : goal.returns-then-m
returns-then-m c = let a = c.args in outside_origin a.origins.now a.counts.now a.x (omega arith) c.if-m.true

pub overflow_add-variable : goal.overflow_add-variable
overflow_add-variable c =
    let m = get_or c.args.origins.now (c.args.x % 2 ^ 32) 0 in
    omega (arith, number_low c.args.origins.now c.args.counts.now m c.requires (omega (arith, c.if-m.false)))

pub overflow_cast-result : goal.overflow_cast-result
overflow_cast-result c =
    let m = get_or c.args.origins.now (c.args.x % 2 ^ 32) 0 in
    omega (arith, number_low c.args.origins.now c.args.counts.now m c.requires (omega (arith, c.if-m.false)))

pub returns-else-m : goal.returns-else-m
unfolding variable_word
returns-else-m c =
    let a = c.args in
    names_put a.origins.now a.counts.now a.x (omega arith) (omega arith) (omega (arith, c.if-m.false))

pub returns-in_default : goal.returns-in_default
returns-in_default c = let a = c.args in names_none a.origins.now a.counts.now a.x (λ e. omega arith) (λ e. omega arith)

pub returns-in_default-2 : goal.returns-in_default-2
returns-in_default-2 c = let a = c.args in names_none a.origins.now a.counts.now a.x (λ e. omega arith) (λ e. omega arith)

pub returns-in_default-3 : goal.returns-in_default-3
returns-in_default-3 c = let a = c.args in names_none a.origins.now a.counts.now a.x (λ e. omega arith) (λ e. omega arith)
