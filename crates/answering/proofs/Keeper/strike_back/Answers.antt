-- The listing is refused, or the record goes in for the numbers listed.
use mathlib.Core.Path.{sym}
use native.Mathlib.Omega.{arith}
use lib.Seq.{length-take-le}
use Rattle.answering.proofs.Keeping.{insertable, back_refused, listed_inside, listed_small, back_listed}
use Rattle.answering.proofs.Keeper.strike_back.Goals as goal

pub slice_bounds-exchange-end : goal.slice_bounds-exchange-end
slice_bounds-exchange-end c =
    let g = insertable c.args.number c.requires.0.steady c.requires.1 (λ i. omega (arith, c.type_inv.words i)) (omega (arith, c.ranges.number)) in
    let u = c.in-Ok in
    listed_inside g c.args.list.now c.requires.2 c.list_subsumed.ensures u.listed.count u.listed.candidates u.is c.list_subsumed.auto.list

pub slice_bounds-exchange-end-in-Ok : goal.slice_bounds-exchange-end-in-Ok
slice_bounds-exchange-end-in-Ok c =
    let g = insertable c.args.number c.requires.0.steady c.requires.1 (λ i. omega (arith, c.type_inv.words i)) (omega (arith, c.ranges.number)) in
    let u = c.in-Ok in
    sym (length-take-le _ _ (listed_inside g c.args.list.now c.requires.2 c.list_subsumed.ensures u.listed.count u.listed.candidates u.is c.list_subsumed.auto.list))

pub exchange-requires : goal.exchange-requires
exchange-requires c =
    let g = insertable c.args.number c.requires.0.steady c.requires.1 (λ i. omega (arith, c.type_inv.words i)) (omega (arith, c.ranges.number)) in
    let u = c.in-Ok in
    (c.requires.0, c.requires.1, listed_small g c.args.list.now c.requires.2 c.list_subsumed.ensures u.listed.count u.listed.candidates u.is)

pub returns-in-Err-clause-came : goal.returns-in-Err-clause-came
returns-in-Err-clause-came c =
    let g = insertable c.args.number c.requires.0.steady c.requires.1 (λ i. omega (arith, c.type_inv.words i)) (omega (arith, c.ranges.number)) in
    let u = c.in-Err in
    back_refused g c.args.list.now c.requires.2 c.list_subsumed.ensures u.refusal u.is

pub returns-in-Ok-clause-came : goal.returns-in-Ok-clause-came
returns-in-Ok-clause-came c =
    let L = c.args.list.now in
    let g = insertable c.args.number c.requires.0.steady c.requires.1 (λ i. omega (arith, c.type_inv.words i)) (omega (arith, c.ranges.number)) in
    let u = c.in-Ok in
    let w = c.list_subsumed.ensures in
    let x = c.exchange.ensures in
    let i = listed_inside g L c.requires.2 w u.listed.count u.listed.candidates u.is c.list_subsumed.auto.list in
    back_listed g L c.requires.2 w u.listed.count u.listed.candidates u.is i x.replaced x.marking x.many
