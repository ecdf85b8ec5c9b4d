-- An answer handed over makes a call handed over.
use mathlib.Core.Path.{◌≡◌, ap, ◌∙◌}
use mathlib.Core.List.{List}
use Prim.Native.Nat.{ℕ}
use Rattle.book.specs.Table.{Said, Returned}
use Rattle.interface.specs.Told.{Reply, replied}
use Rattle.interface.specs.Calls.{left, handed}

-- with the words told
pub hands : {n : ℕ} {us ws : List ℕ} {s : Said} {r : Returned} (ts : List ℕ)
    → record { said = s; words = ws } ≡ r → record { number = n; told = us } ≡ replied s ts
    → record { number = n; words = ws; told = us } ≡ handed r ts
hands {ws = ws} ts f e = ap (λ (y : Reply). record { number = y.number; words = ws; told = y.told }) e ∙ ap (λ (y : Returned). handed y ts) f

-- without them
pub hands_left : {n : ℕ} {us ws : List ℕ} {s : Said} {r : Returned} (ts : List ℕ)
    → record { said = s; words = ws } ≡ r → record { number = n; told = us } ≡ replied s ts
    → record { number = n; words = ws } ≡ left r
hands_left {ws = ws} ts f e = ap (λ (y : Reply). record { number = y.number; words = ws }) e ∙ ap (λ (y : Returned). left y) f
