-- `compare` meets its contract.
use mathlib.Core.Path.{refl, sym, ◌∙◌}
use Rattle.cells.proofs.Places.{few_words}
use Rattle.stepping.proofs.Visits.{stays, sticks, misses, compare_over_m, compare_over_k, compare_no_m, compare_no_k}
use Rattle.stepping.proofs.Visits.{compare_same, compare_other, put_inside_m, put_inside_k}
use Rattle.stepping.proofs.step.compare.Goals as goal

pub returns-then-m-ge-SLOTS : goal.returns-then-m-ge-SLOTS
returns-then-m-ge-SLOTS c = sticks _ _ (compare_over_m _ _ _ _ c.requires _ _ c.if-m-ge-SLOTS.true)

pub returns-then-k-ge-SLOTS : goal.returns-then-k-ge-SLOTS
returns-then-k-ge-SLOTS c = sticks _ _ (compare_over_k _ _ _ _ c.requires _ _ c.if-m-ge-SLOTS.false c.if-k-ge-SLOTS.true)

pub returns-then-p-eq-NONE : goal.returns-then-p-eq-NONE
returns-then-p-eq-NONE c = sticks _ _ (compare_no_m _ _ _ _ c.requires _ _ c.if-m-ge-SLOTS.false c.if-k-ge-SLOTS.false c.from-p.ensures c.if-p-eq-NONE.true)

pub returns-then-q-eq-NONE : goal.returns-then-q-eq-NONE
returns-then-q-eq-NONE c =
    sticks _ _ (compare_no_k _ _ _ _ c.requires _ _ c.if-m-ge-SLOTS.false c.if-k-ge-SLOTS.false c.from-p.ensures c.if-p-eq-NONE.false
    c.from-q.ensures c.if-q-eq-NONE.true)

pub same_terms-requires : goal.same_terms-requires
same_terms-requires c =
    let r = c.requires in
    let m = c.from-p.ensures in
    let k = c.from-q.ensures in (
      few_words r,
      r.tables,
      put_inside_m _ _ _ _ r _ _ c.if-m-ge-SLOTS.false c.if-k-ge-SLOTS.false m c.if-p-eq-NONE.false,
      put_inside_k _ _ _ _ r _ _ c.if-m-ge-SLOTS.false c.if-k-ge-SLOTS.false m c.if-p-eq-NONE.false k c.if-q-eq-NONE.false,
    )

pub returns-then-same_terms : goal.returns-then-same_terms
returns-then-same_terms c =
    stays _ _ _ refl (compare_same _ _ _ _ c.requires _ _ c.if-m-ge-SLOTS.false c.if-k-ge-SLOTS.false
    c.from-p.ensures c.if-p-eq-NONE.false c.from-q.ensures
    c.if-q-eq-NONE.false (sym c.same_terms.ensures ∙ c.if-same_terms.true))

pub returns-else-same_terms : goal.returns-else-same_terms
returns-else-same_terms c =
    misses _ _ (compare_other _ _ _ _ c.requires _ _ c.if-m-ge-SLOTS.false c.if-k-ge-SLOTS.false
    c.from-p.ensures c.if-p-eq-NONE.false c.from-q.ensures c.if-q-eq-NONE.false
    (sym c.same_terms.ensures ∙ c.if-same_terms.false))
