-- Keys stored one after another.
use mathlib.Core.Path.{◌≡◌, refl, sym, ap, ◌∙◌}
use mathlib.Core.List.{List, [], ◌∷◌, ◌++◌}
use Prim.Native.Nat.{ℕ, suc, ◌+◌}
use native.Mathlib.Nat.{add-zero, add-suc, suc-add}
use native.Mathlib.Omega.{arith}
use lib.ListN.{length, set, length-append}
use lib.Seq.{sets, length-sets}
use Rattle.compiling.specs.Inner.Compiling.{Stored}

-- two lists of keys, one after the other
pub sets_append : (l : List ℕ) (i : ℕ) (xs ys : List ℕ) → sets l i (xs ++ ys) ≡ sets (sets l i xs) (i + length xs) ys
sets_append l i [] ys = rw add-zero
sets_append l i (x ∷ xs) ys = rw (add-suc, ← suc-add) (sets_append (set l i x) (suc i) xs ys)

pub stored_none : (l : List ℕ) (at : ℕ) → Stored [] l at l at
stored_none l at = record { after_is = refl; end_is = sym (add-zero at) }

pub stored_append : {xs ys : List ℕ} {a b c : List ℕ} {i j k : ℕ} → Stored xs a i b j → Stored ys b j c k → Stored (xs ++ ys) a i c k
stored_append {xs} {ys} {a} {i = i} s t =
    record {
      after_is = t.after_is ∙ rw (s.after_is, s.end_is) (sym (sets_append a i xs ys));
      end_is = simp length-append (omega arith);
    }

-- one key more
pub stored_snoc : {xs : List ℕ} {a b : List ℕ} {i j : ℕ} (x : ℕ) → Stored xs a i b j → Stored (xs ++ (x ∷ [])) a i (set b j x) (j + 1)
stored_snoc x s = stored_append s (record { after_is = refl; end_is = refl })

-- the list stays as long
pub stored_length : {xs : List ℕ} {a b : List ℕ} {i j : ℕ} → Stored xs a i b j → length b ≡ length a
stored_length {xs} {a} {i = i} s = ap length s.after_is ∙ length-sets a i xs
