-- Tables one after another: what stands at a place, and what a store there changes.
use mathlib.Core.Path.{◌≡◌, refl, sym, ap, ◌∙◌}
use mathlib.Core.List.{List, [], ◌∷◌, ◌++◌}
use Prim.Native.Nat.{ℕ, ◌+◌, ◌<◌}
use native.Mathlib.Nat.{zero-add, suc-add}
use native.Mathlib.Omega.{arith}
use lib.ListN.{length, get_or, set, replicate, length-append, get_or-append}
use lib.Seq.{get_or-append-add, get_or_at, set-append_left, set_at, take-set-lt}
use Rattle.clause.specs.Clause.{max_words, max_literals}
use Rattle.clause.specs.Inner.Tables.{at_ends, at_siblings, at_count, tables_size, padded, packed}
use Rattle.clause.proofs.Padded.{length_padded, get_or_zeros, padded_get, padded_is, padded_snoc}

set_append_add : (xs ys : List ℕ) (n v : ℕ) → set (xs ++ ys) (length xs + n) v ≡ xs ++ set ys n v
set_append_add [] ys n v = rw zero-add
set_append_add (x ∷ xs) ys n v = rw suc-add (ap (λ (l : List ℕ). x ∷ l) (set_append_add xs ys n v))

-- what stands after a list, read and stored
pub get_d_after : (xs ys : List ℕ) (m n : ℕ) → length xs ≡ m → get_or (xs ++ ys) (m + n) 0 ≡ get_or ys n 0
get_d_after xs ys m n e = rw (← e) (get_or-append-add xs ys n 0)

set_after : (xs ys : List ℕ) (m n v : ℕ) → length xs ≡ m → set (xs ++ ys) (m + n) v ≡ xs ++ set ys n v
set_after xs ys m n v e = rw (← e) (set_append_add xs ys n v)

padded_set : (n : ℕ) (l : List ℕ) (i v : ℕ) → i < n → i < length l → set (padded n l) i v ≡ padded n (set l i v)
unfolding padded
padded_set n l i v h g = sym (take-set-lt n (l ++ replicate n 0) i v h) ∙ rw (set-append_left l (replicate n 0) i v g)

-- zeros filled up with zeros
padded_zeros : (n m : ℕ) → padded n (replicate m 0) ≡ padded n []
padded_zeros n m =
    sym (padded_is n (padded n []) (replicate m 0) (length_padded n []) (λ i h. padded_get n [] i h ∙ sym (get_or_zeros [] m i)))

zeros : padded max_literals [] ++ padded max_words [] ++ padded max_words [] ++ (0 ∷ []) ≡ replicate tables_size 0
unfolding padded
zeros = refl

pub packed_zeros : (m : ℕ) → packed [] (replicate m 0) (replicate m 0) 0 ≡ replicate tables_size 0
unfolding packed
packed_zeros m = rw (padded_zeros max_words m) zeros

module _ (s e r : List ℕ) (n : ℕ) where
  first_two : length (padded max_literals s ++ padded max_words e) ≡ at_siblings
  first_two = simp (length-append, length_padded)

  first_three : length (padded max_literals s ++ padded max_words e ++ padded max_words r) ≡ at_count
  first_three = simp (length-append, length_padded)

  -- what stands at a place
  pub start_at : (j : ℕ) → j < max_literals → get_or (packed s e r n) j 0 ≡ get_or s j 0
  unfolding packed
  start_at j h =
      let a : j < length (padded max_literals s) = rw length_padded h in
      let b : j < length (padded max_literals s ++ padded max_words e) = rw first_two (omega arith) in
      let c : j < length (padded max_literals s ++ padded max_words e ++ padded max_words r) = rw first_three (omega arith) in
      rw (get_or-append _ (n ∷ []) 0 j c, get_or-append _ (padded max_words r) 0 j b, get_or-append _ (padded max_words e) 0 j a)
      (padded_get max_literals s j h)

  pub end_at : (k : ℕ) → k < max_words → get_or (packed s e r n) (at_ends + k) 0 ≡ get_or e k 0
  unfolding packed
  end_at k h =
      let b : at_ends + k < length (padded max_literals s ++ padded max_words e) = rw first_two (omega arith) in
      let c : at_ends + k < length (padded max_literals s ++ padded max_words e ++ padded max_words r) = rw first_three (omega arith) in
      let a = get_d_after (padded max_literals s) (padded max_words e) at_ends k (length_padded max_literals s) in
      rw (get_or-append _ (n ∷ []) 0 (at_ends + k) c, get_or-append _ (padded max_words r) 0 (at_ends + k) b, a) (padded_get max_words e k h)

  pub right_at : (k : ℕ) → k < max_words → get_or (packed s e r n) (at_siblings + k) 0 ≡ get_or r k 0
  unfolding packed
  right_at k h =
      let c : at_siblings + k < length (padded max_literals s ++ padded max_words e ++ padded max_words r) = rw first_three (omega arith) in
      rw (get_or-append _ (n ∷ []) 0 (at_siblings + k) c, get_d_after _ (padded max_words r) at_siblings k first_two) (padded_get max_words r k h)

  pub count_at : get_or (packed s e r n) at_count 0 ≡ n
  unfolding packed
  count_at = get_or_at (padded max_literals s ++ padded max_words e ++ padded max_words r) n [] 0 at_count first_three

  -- what a store changes
  pub set_start : (v : ℕ) → length s < max_literals → set (packed s e r n) (length s) v ≡ packed (s ++ (v ∷ [])) e r n
  unfolding packed
  set_start v h =
      let j = length s in
      let a : j < length (padded max_literals s) = rw length_padded h in
      let b : j < length (padded max_literals s ++ padded max_words e) = rw first_two (omega arith) in
      let c : j < length (padded max_literals s ++ padded max_words e ++ padded max_words r) = rw first_three (omega arith) in
      rw (set-append_left _ (n ∷ []) j v c, set-append_left _ (padded max_words r) j v b, set-append_left _ (padded max_words e) j v a, padded_snoc)

  pub set_end : (k v : ℕ) → k < max_words → k < length e → set (packed s e r n) (at_ends + k) v ≡ packed s (set e k v) r n
  unfolding packed
  set_end k v h g =
      let b : at_ends + k < length (padded max_literals s ++ padded max_words e) = rw first_two (omega arith) in
      let c : at_ends + k < length (padded max_literals s ++ padded max_words e ++ padded max_words r) = rw first_three (omega arith) in
      rw (
        set-append_left _ (n ∷ []) (at_ends + k) v c,
        set-append_left _ (padded max_words r) (at_ends + k) v b,
        set_after _ (padded max_words e) at_ends k v (length_padded max_literals s),
        padded_set max_words e k v h g,
      )

  pub set_right : (k v : ℕ) → k < max_words → k < length r → set (packed s e r n) (at_siblings + k) v ≡ packed s e (set r k v) n
  unfolding packed
  set_right k v h g =
      let c : at_siblings + k < length (padded max_literals s ++ padded max_words e ++ padded max_words r) = rw first_three (omega arith) in
      rw (set-append_left _ (n ∷ []) (at_siblings + k) v c, set_after _ (padded max_words r) at_siblings k v first_two, padded_set max_words r k v h g)

  pub set_count : (v : ℕ) → set (packed s e r n) at_count v ≡ packed s e r v
  unfolding packed
  set_count v = set_at (padded max_literals s ++ padded max_words e ++ padded max_words r) n [] v at_count first_three
