-- Lists of which no element is related to one at another place, by any relation.
use Rattle.std.specs.Prelude.{List}
use Rattle.clause.specs.Lists.{Each}

-- neither of two is related to the other
abbrev pub Unrelated : {A : Type 0} (R : A → A → Type 0) → A → A → Type 0
Unrelated R a b = (R a b → ⊥) × (R b a → ⊥)

-- no element is related to one at another place
abbrev pub Antichain : {A : Type 0} (R : A → A → Type 0) → List A → Type 0
Antichain R xs = Each (Unrelated R) xs
