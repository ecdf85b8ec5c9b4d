-- Lists filled up with zeros to a table's length.
use mathlib.Core.Path.{◌≡◌, refl, sym, ◌∙◌}
use mathlib.Core.List.{List, [], ◌∷◌, ◌++◌}
use Prim.Native.Nat.{ℕ, zero, suc, ◌<◌, ◌≤◌}
use native.Mathlib.Decide.{ℕ_discrete, dec_lt}
use native.Mathlib.Omega.{arith}
use lib.ListN.{length, get_or, set, replicate, length-append, length-take, length-set, length-replicate, get_or-append, get_or-eq_default}
use lib.Seq.{ext_get_or, get_or-take, get_or-append_seam, get_or-set_same, get_or-set_other}
use Rattle.clause.specs.Inner.Tables.{padded}
use Rattle.clause.proofs.Lists.{length-snoc}

pub length_padded : (n : ℕ) (l : List ℕ) → length (padded n l) ≡ n
unfolding padded
length_padded n l = simp (length-take, length-append, length-replicate) (omega arith)

-- zeros after a list are as what stands past its end
pub get_or_zeros : (l : List ℕ) (n i : ℕ) → get_or (l ++ replicate n 0) i 0 ≡ get_or l i 0
get_or_zeros [] zero i = refl
get_or_zeros [] (suc n) zero = refl
get_or_zeros [] (suc n) (suc i) = get_or_zeros [] n i
get_or_zeros (x ∷ l) n zero = refl
get_or_zeros (x ∷ l) n (suc i) = get_or_zeros l n i

pub padded_get : (n : ℕ) (l : List ℕ) (i : ℕ) → i < n → get_or (padded n l) i 0 ≡ get_or l i 0
unfolding padded
padded_get n l i h = get_or-take n (l ++ replicate n 0) i 0 h ∙ get_or_zeros l n i

-- a table is a list filled up if it has the list's elements
pub padded_is : (n : ℕ) (t l : List ℕ) → length t ≡ n → ((i : ℕ) → i < n → get_or t i 0 ≡ get_or l i 0) → t ≡ padded n l
padded_is n t l e h =
    ext_get_or 0 t (padded n l) (e ∙ sym (length_padded n l)) (λ i g. let b : i < n = omega arith in h i b ∙ sym (padded_get n l i b))

-- one more element; past the table's length it is left out
pub padded_snoc : (n : ℕ) (l : List ℕ) (x : ℕ) → set (padded n l) (length l) x ≡ padded n (l ++ (x ∷ []))
padded_snoc n l x = padded_is n (set (padded n l) (length l) x) (l ++ (x ∷ [])) (simp (length-set, length_padded)) (λ i h. go i h (ℕ_discrete i (length l)))
  where
    other : (i : ℕ) → Dec (i < length l) → (i ≡ length l → ⊥) → get_or (l ++ (x ∷ [])) i 0 ≡ get_or l i 0
    other i (yes h) m = get_or-append l (x ∷ []) 0 i h
    other i (no h) m =
        let a : length l ≤ i = omega arith in
        let b : length (l ++ (x ∷ [])) ≤ i = rw (length-snoc l x) (omega arith) in
        get_or-eq_default (l ++ (x ∷ [])) 0 b ∙ sym (get_or-eq_default l 0 a)

    go : (i : ℕ) → i < n → Dec (i ≡ length l) → get_or (set (padded n l) (length l) x) i 0 ≡ get_or (l ++ (x ∷ [])) i 0
    go i h (yes e) =
        let b : length l < length (padded n l) = rw length_padded (omega arith) in
        rw e (get_or-set_same (padded n l) (length l) x 0 b ∙ sym (get_or-append_seam l x [] 0))
    go i h (no m) = get_or-set_other (padded n l) (length l) i x 0 m ∙ padded_get n l i h ∙ sym (other i (dec_lt i (length l)) m)
