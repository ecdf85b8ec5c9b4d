-- Keys written one after another.
use mathlib.Core.Path.{◌≡◌, refl, ◌∙◌}
use mathlib.Core.List.{List, [], ◌++◌}
use Prim.Native.Nat.{ℕ, ◌+◌}
use lib.ListN.{length}
use Rattle.compiling.specs.Inner.Compiling.{Writes}
use Rattle.compiling.specs.declared.keys.Keys.{Keys}
use Rattle.compiling.proofs.Stores.{stored_none, stored_append, stored_length}

pub writes_none : (k : Keys) → Writes [] k k
writes_none k = record { same = refl; stored = stored_none k.words.now k.written }

pub writes_append : {xs ys : List ℕ} {a b c : Keys} → Writes xs a b → Writes ys b c → Writes (xs ++ ys) a c
writes_append s t = record { same = t.same ∙ s.same; stored = stored_append s.stored t.stored }

-- how many keys are written then, and the lent words are as many
pub wrote : {xs : List ℕ} {a b : Keys} → Writes xs a b → (b.written ≡ a.written + length xs) × (length b.words.now ≡ length a.words.now)
wrote s = (s.stored.end_is, stored_length s.stored)
