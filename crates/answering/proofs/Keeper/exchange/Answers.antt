-- A marked number is taken; else the record goes in for the numbers, if there are any.
use mathlib.Core.Path.{◌∙◌}
use native.Mathlib.Omega.{arith}
use Rattle.answering.proofs.Keeping.{insertable, exchange_marked, exchange_free, exchange_none}
use Rattle.answering.proofs.Keeper.exchange.Goals as goal

pub returns-then-self-number-eq-TAKEN-clause-replaced : goal.returns-then-self-number-eq-TAKEN-clause-replaced
returns-then-self-number-eq-TAKEN-clause-replaced c =
    let a = c.args in
    let g = insertable a.number c.requires.0.steady c.requires.1 (λ i. omega (arith, c.type_inv.words i)) (omega (arith, c.ranges.number)) in
    exchange_marked g a.numbers.now c.if-self-number-eq-TAKEN.true

pub returns-then-numbers-gt0-clause-replaced : goal.returns-then-numbers-gt0-clause-replaced
returns-then-numbers-gt0-clause-replaced c =
    let a = c.args in
    let g = insertable a.number c.requires.0.steady c.requires.1 (λ i. omega (arith, c.type_inv.words i)) (omega (arith, c.ranges.number)) in
    c.replace.ensures.entered ∙ exchange_free g a.numbers.now c.if-self-number-eq-TAKEN.false

pub returns-clause-replaced : goal.returns-clause-replaced
returns-clause-replaced c =
    let a = c.args in
    let g = insertable a.number c.requires.0.steady c.requires.1 (λ i. omega (arith, c.type_inv.words i)) (omega (arith, c.ranges.number)) in
    c.keep.ensures.entered ∙ exchange_none g a.numbers.now c.if-numbers-gt0.false ∙ exchange_free g a.numbers.now c.if-self-number-eq-TAKEN.false
