-- The first call that the words stand for is run, by its kind.
use mathlib.Core.Path.{◌≡◌, refl, sym, ap, ◌∙◌}
use mathlib.Core.List.{List, ◌∷◌}
use Prim.Native.Nat.{ℕ, suc, ◌-◌, ◌^◌}
use native.Mathlib.Omega.{arith}
use lib.ListN.{take, drop}
use Rattle.clause.proofs.Lists.{all_below, all_take}
use Rattle.book.specs.Book.{insert, remove}
use Rattle.book.specs.Encoding.{whole, calls_within}
use Rattle.book.proofs.Encoding.{drop_min, take_min, step_remove, step_insert}
use Rattle.tree.specs.Calls.{insertion}
use Rattle.replay.proofs.run_one.Goals as goal

pub returns-then-kind-eq0 : goal.returns-then-kind-eq0
returns-then-kind-eq0 c =
    let a = c.args in
    record {
      first = remove (whole a.high a.low);
      reads = λ f. rw c.if-kind-eq0.true (step_remove f a.high a.low a.rest.now);
      fit = omega (arith, c.ranges.high, c.ranges.low);
      slice = ap (λ y. y.slice) c.remove.ensures;
      end = (3, refl);
      shorter = omega arith;
    }

pub returns : goal.returns
returns c =
    let a = c.args in
    let ws = a.rest.now in
    let m : ℕ = a.kind - 1 in
    let some : a.kind ≡ suc m = omega (arith, c.if-kind-eq0.false) in
    let clause : c.split_at.result.0.now ≡ take m ws = c.split_at.ensures.front ∙ ap (λ (i : ℕ). take i ws) c.min.ensures ∙ take_min m ws in
    let after : c.split_at.result.1.now ≡ drop m ws = c.split_at.ensures.back ∙ ap (λ (i : ℕ). drop i ws) c.min.ensures ∙ drop_min m ws in
    record {
      first = insert (take m ws) (whole a.high a.low);
      reads = λ f.
          ap (λ (k : ℕ). calls_within (suc f) (k ∷ a.high ∷ a.low ∷ ws)) some ∙ step_insert f m a.high a.low ws
          ∙ ap (λ (xs : List ℕ). insert (take m ws) (whole a.high a.low) ∷ calls_within f xs) (sym after);
      fit = (all_take m (all_below (2 ^ 16) ws (λ i. omega (arith, c.type_inv.rest i))), omega (arith, c.ranges.high, c.ranges.low));
      slice = ap (λ y. y.slice) c.insert.ensures ∙ ap (λ (xs : List ℕ). (insertion a.tree.now xs (whole a.high a.low)).slice) clause;
      end = (suc (suc (suc m)), after);
      shorter = omega (arith, c.split_at.ensures.back_len);
    }
