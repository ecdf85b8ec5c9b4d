-- The calls still to come, on the slice as it is, give what all of them give; and the claims are proved.
use mathlib.Core.Path.{◌≡◌, sym, ap, subst, ◌∙◌}
use mathlib.Core.List.{List, []}
use Prim.Native.Nat.{ℕ}
use native.Mathlib.Omega.{arith}
use Rattle.book.specs.Book.{after}
use Rattle.book.specs.Claims.{Run}
use Rattle.book.specs.Encoding.{calls_of, Ran}
use Rattle.book.proofs.Encoding.{three_first, calls_short, ran_after, ran_fit, has_words}
use Rattle.book.proofs.Believable.{believable}
use Rattle.book.proofs.Refusals.{demand1}
use Rattle.book.proofs.Reach.{reach, demand2}
use Rattle.book.proofs.Agreement.{demand3}
use Rattle.book.proofs.Exact.{exact_count}
use Rattle.book.proofs.Saved.{reach_saved, passed_saved, saved_is_made, saved_demand2, saved_demand3, reads_book}
use Rattle.book.proofs.Backward.{lists_book}
use Rattle.replay.proofs.run.Goals as goal

pub loop-left-preserved : goal.loop-left-preserved
loop-left-preserved c =
    let i = c.loop-left.invariant in
    let l = c.loop-left in
    let n = c.run_one-left in
    let r = subst (λ (ws : List ℕ). Ran l.tree ws n.result.now n.new.tree) (three_first l.left.now (omega arith)) n.ensures in
    (λ f. i.0 (ran_fit r f), i.1 ∙ ran_after r)

pub returns-clause-slice : goal.returns-clause-slice
returns-clause-slice c =
    let a = c.args in
    let none_left : calls_of c.loop-left.left.now ≡ [] = calls_short _ _ c.in_default.len_below in
    sym (ap (λ T. after T (calls_of a.calls.now)) (sym (ap (λ y. y.slice) c.fresh.ensures)) ∙ c.loop-left.invariant.1 ∙ rw none_left)

pub returns-clause-reached : goal.returns-clause-reached
returns-clause-reached c =
    let a = c.args in
    let none_left : calls_of c.loop-left.left.now ≡ [] = calls_short _ _ c.in_default.len_below in
    λ r.
    let run : Run a.tree.now (calls_of a.calls.now) = record { ready = r; fit = c.loop-left.invariant.0 (rw none_left tt) } in
    (run, reach _ _ run)

pub returns-clause-lists : goal.returns-clause-lists
returns-clause-lists c = has_words

pub returns-clause-definitions : goal.returns-clause-definitions
returns-clause-definitions c = believable

pub returns-clause-demands : goal.returns-clause-demands
returns-clause-demands c = (demand1, reach, demand2, demand3)

pub returns-clause-count : goal.returns-clause-count
returns-clause-count c = exact_count

pub returns-clause-saved : goal.returns-clause-saved
returns-clause-saved c = (reach_saved, passed_saved, saved_is_made, saved_demand2, saved_demand3, reads_book)

pub returns-clause-backward : goal.returns-clause-backward
returns-clause-backward c = lists_book
