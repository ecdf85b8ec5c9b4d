-- Answers and refusals: what `?` hands on, and what an answer holds.
use Rattle.std.specs.Prelude.{Ok, Err, IsErrAnd, Result, ◌≡◌}
use Rattle.std.proofs.Common.{◌∙◌, ap, refl}
use Rattle.std.proofs.lemmas.Result.{err_from_is_err_and}
use Rattle.tree.specs.declared.Refusal.{Refusal}

-- an error that is this refusal
pub refused_as : {A : Type 0} (r : Result A Refusal) (f : Refusal) → IsErrAnd r (λ e. e ≡ f) → r ≡ Err f
refused_as r f h = let (e, is, same) = err_from_is_err_and r h in is ∙ ap Err same

-- an answer whose value is this one
pub answer_as : {A : Type 0} {r : Result A Refusal} {v w : A} → r ≡ Ok v → v ≡ w → r ≡ Ok w
answer_as is same = is ∙ ap Ok same

-- an answer that has no value has an error
pub refusal_in : {A E : Type 0} (r : Result A E) → ((v : A) → r ≡ Ok v → ⊥) → (f : E) × (r ≡ Err f)
refusal_in r none = go r none
  where
    go : {A E : Type 0} (r : Result A E) → ((v : A) → r ≡ Ok v → ⊥) → (f : E) × (r ≡ Err f)
    go (Err f) none = (f, refl)
    go (Ok v) none = absurd (none v refl)
