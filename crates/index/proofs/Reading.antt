-- What the reading of a query says, by its test.
use Rattle.std.specs.Prelude.{Err, Ok, Result, ℕ}
use mathlib.Core.Path.{◌≡◌, refl, sym, ap, ◌∙◌}
use mathlib.Core.Bool.{Bool, true}
use mathlib.Core.List.{List}
use Prim.Native.Nat.{ℕ}
use lib.ListN.{replicate}
use Rattle.clause.specs.Clause.{Accepted, shape}
use Rattle.clause.specs.declared.Fault.{Fault}
use Rattle.reading.specs.Inner.Whole.{is_whole}
use Rattle.tree.specs.declared.Refusal.{Refusal}
use Rattle.tree.specs.Laid.{sized}
use Rattle.tree.specs.declared.Refusal.TheVariants.{BadClause}
use Rattle.walk.specs.declared.Verdict.{Verdict}
use Rattle.walk.specs.Query.{witness_words, Asked, query}
use Rattle.query.proofs.Asking.{query_fault}

-- a clause is whole and so accepted, or it has a fault
pub whole_accepted : (d : List ℕ) {w : Bool} → w ≡ is_whole (shape d) → w ≡ true → Accepted d
whole_accepted d e t = go (shape d) (sym e ∙ t)
  where
    go : (s : Result ℕ Fault) → is_whole s ≡ true → (n : ℕ) × (s ≡ Ok n)
    go (Err f) e = cc
    go (Ok n) e = (n, refl)

-- which it is refused with, whatever the witness
pub undecided : (T d : List ℕ) (b : ℕ) → sized T ≡ true → {s : Result ℕ Fault} {f : Fault} {r : Result Verdict Refusal}
    → s ≡ Err f → s ≡ shape d → r ≡ Err (BadClause f) → r ≡ (query T d b (replicate witness_words 0)).answer
undecided T d b z g h e = ap (λ (x : Asked). x.answer) (query_fault T d b (replicate witness_words 0) (sym z) refl g h e)
