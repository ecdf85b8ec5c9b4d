-- `replace` meets its contract: what is done on the copy, or nothing.
use mathlib.Core.Path.{refl, sym, ap, ◌∙◌}
use mathlib.Core.List.{List}
use Prim.Native.Nat.{ℕ}
use native.Mathlib.Omega.{arith}
use lib.ListN.{length, set}
use lib.Seq.{take_all}
use Rattle.book.specs.Book.{after}
use Rattle.record.specs.Answer.{removals}
use Rattle.record.specs.Marks.{freeing}
use Rattle.replacing.proofs.Copying.{enters_kept, enters_refused}
use Rattle.replacing.proofs.replace.Goals as goal

pub returns-in_default : goal.returns-in_default
returns-in_default c =
    let a = c.args in
    let ns = a.numbers.now in record {
      entered = enters_kept a.tree.now ns (record { number = a.number; words = a.words.now })
          (c.remove_all.ensures ∙ ap (λ (T : List ℕ). after T (removals ns)) c.copy_from_slice.ensures.after)
          c.insert-answer.ensures c.in_default.not-Err c.copy_from_slice-in_default.ensures.after c.used.ensures;
      marking = ap (λ (m : List ℕ). set m a.number 1)
          (c.free.ensures ∙ ap (λ (l : List ℕ). freeing l a.marks.now) (sym (take_all (length ns) ns (omega arith))));
      many = omega arith;
    }

pub returns : goal.returns
returns c =
    let a = c.args in
    let w = c.in-Err in
    let ns = a.numbers.now in record {
      entered = enters_refused a.tree.now ns (record { number = a.number; words = a.words.now })
          (c.remove_all.ensures ∙ ap (λ (T : List ℕ). after T (removals ns)) c.copy_from_slice.ensures.after)
          c.insert-answer.ensures w.refusal w.is;
      marking = refl;
      many = omega arith;
    }
