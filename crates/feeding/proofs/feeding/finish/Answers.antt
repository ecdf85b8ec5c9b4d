-- The outcome, its strike, its lines, the totals.
use mathlib.Core.Path.{sym}
use native.Mathlib.Omega.{arith}
use Prim.Native.Nat.{ℕ, ◌<◌, ◌^◌}
use mathlib.Core.List.{List}
use lib.ListN.{get_or}
use lib.Seq.{length-take-le}
use Rattle.record.specs.Marks.{number_count}
use borrow.Author.Rules.{rules}
use Rattle.lines.proofs.Writing.{on_page}
use Rattle.record.specs.declared.Came.{Came}
use Rattle.record.specs.declared.Setting.{Setting}
use Rattle.record.specs.declared.Totals.{Totals}
use Rattle.answering.specs.Inner.Steady.{CameOut}
use Rattle.intake.specs.declared.Heading.{Heading}
use Rattle.intake.specs.Feed.{Store, finishing}
use Rattle.feeding.specs.Inner.Blocks.{Feedable}
use Rattle.feeding.proofs.Blocks.{Ended, ended, removed_many, removed_few, one_room, line_room, finishes}
use Rattle.feeding.proofs.feeding.finish.Goals as goal

-- the record came out, and so it goes on
came : (v : Setting) (h : Heading) {t : Totals} {m : Store} {bytes at : ℕ} {o : List ℕ} {x : Came} {list T K : List ℕ} → Feedable m t bytes at o
    → h.number < number_count → ((i : ℕ) → get_or m.words i 0 < 2 ^ 16) → CameOut (finishing v h.number h.count m.words m.slice) h.number m.marks x list T K
    → Ended v h.number h.count t m x list T K
came v h {t = t} {m = m} f n w e = ended v h.number h.count t m f.steady n w f.kept e

pub slice_bounds-put_removals-end-2 : goal.slice_bounds-put_removals-end-2
slice_bounds-put_removals-end-2 c =
    let a = c.args in
    let e = came a.setting a.heading c.requires.0 (omega (arith, c.well_formed)) (λ i. omega (arith, c.type_inv.words i)) c.outcome_of-came.ensures.came in
    sym (length-take-le _ _ e.out.many)

pub put_removals-requires : goal.put_removals-requires
put_removals-requires c =
    let a = c.args in
    let e = came a.setting a.heading c.requires.0 (omega (arith, c.well_formed)) (λ i. omega (arith, c.type_inv.words i)) c.outcome_of-came.ensures.came in
    (one_room a.turn.next (removed_many e) (removed_few e) c.requires.0.room, e.on.small)

pub put_line-requires : goal.put_line-requires
put_line-requires c =
    let a = c.args in
    let e = came a.setting a.heading c.requires.0 (omega (arith, c.well_formed)) (λ i. omega (arith, c.type_inv.words i)) c.outcome_of-came.ensures.came in
    let p = c.put_removals.ensures in
    line_room a.turn.next (removed_many e) (removed_few e) c.requires.0.room p.short (on_page _ p.text).1

pub count_outcome-totals-requires : goal.count_outcome-totals-requires
count_outcome-totals-requires c =
    let a = c.args in
    let e = came a.setting a.heading c.requires.0 (omega (arith, c.well_formed)) (λ i. omega (arith, c.type_inv.words i)) c.outcome_of-came.ensures.came in
    (c.requires.0.counts, removed_few e)

pub returns-clause-took : goal.returns-clause-took
returns-clause-took c =
    let a = c.args in
    let e = came a.setting a.heading c.requires.0 (omega (arith, c.well_formed)) (λ i. omega (arith, c.type_inv.words i)) c.outcome_of-came.ensures.came in
    let p = c.put_removals.ensures in
    let q = c.put_line.ensures in
    finishes e a.output.now a.turn.next c.count_strike.ensures c.count_outcome-totals.ensures p.text.put p.short (search (rules, p.text.same, q.text)) q.short
