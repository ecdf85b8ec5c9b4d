-- A marked number is taken; else the keys are inserted.
use mathlib.Core.Path.{refl}
use native.Mathlib.Omega.{arith}
use Rattle.machine.proofs.Compiled.{compiled_keys}
use Rattle.answering.proofs.Renewing.{entry_begins}
use Rattle.answering.proofs.Keeping.{clause_short, clause_some, insertable, ready, number_new, keep_marked, keep_refused, keep_kept}
use borrow.Author.Rules.{rules}
use Rattle.answering.proofs.Keeper.keep.Goals as goal

pub returns-then-self-mark-eq-TAKEN-clause-entered : goal.returns-then-self-mark-eq-TAKEN-clause-entered
returns-then-self-mark-eq-TAKEN-clause-entered c =
    let g = insertable c.args.number c.requires.0.steady c.requires.1 (λ i. omega (arith, c.type_inv.words i)) (omega (arith, c.ranges.number)) in
    keep_marked g c.if-self-mark-eq-TAKEN.true

pub compile-count-requires : goal.compile-count-requires
compile-count-requires c = (clause_short _ c.requires.1, search rules)

pub bounds-words-0 : goal.bounds-words-0
bounds-words-0 c = clause_some c.args.words.now c.requires.1

pub insert_below-answer-requires : goal.insert_below-answer-requires
insert_below-answer-requires c =
    let g = insertable c.args.number c.requires.0.steady c.requires.1 (λ i. omega (arith, c.type_inv.words i)) (omega (arith, c.ranges.number)) in
    let k = compiled_keys c.compile-count.ensures in
    (ready g k, number_new g c.if-self-mark-eq-TAKEN.false, λ l. entry_begins g.steady c.requires.0.indexed g.accepts g.words k refl l)

pub returns-in_default : goal.returns-in_default
returns-in_default c =
    let g = insertable c.args.number c.requires.0.steady c.requires.1 (λ i. omega (arith, c.type_inv.words i)) (omega (arith, c.ranges.number)) in
    record {
      lent = search rules;
      entered = keep_kept g (compiled_keys c.compile-count.ensures) c.insert_below-answer.ensures c.in_default.not-Err c.used.ensures;
      marking = refl;
    }

pub returns-clause-entered : goal.returns-clause-entered
returns-clause-entered c =
    let g = insertable c.args.number c.requires.0.steady c.requires.1 (λ i. omega (arith, c.type_inv.words i)) (omega (arith, c.ranges.number)) in
    let w = c.in-Err in
    keep_refused g (compiled_keys c.compile-count.ensures) c.insert_below-answer.ensures w.refusal w.is
