-- The pass over a clause's words from the last one back, which notes the right siblings of each word's arguments and where its term ends.
use mathlib.Core.Path.{◌≡◌, refl, sym, ap, ◌∙◌}
use mathlib.Core.List.{List, [], ◌∷◌, ◌++◌, append_assoc, append-nil}
use Prim.Native.Nat.{ℕ, zero, suc, ◌+◌, ◌-◌, ◌<◌, ◌≤◌}
use native.Mathlib.Nat.{add-zero}
use native.Mathlib.Numerals.{add-one}
use native.Mathlib.Omega.{arith}
use lib.ListN.{length, get_or, take, drop, set, replicate, length-append, length-replicate, length-drop}
use lib.Seq.{drop-cons, drop-drop, drop-length, get_or-drop, set_at, length-take-le}
use Rattle.clause.specs.Lists.{none, also}
use Rattle.clause.specs.Word.{arity}
use Rattle.clause.specs.Clause.{max_words, Accepted, skip}
use Rattle.clause.specs.Positions.{jump, ends, push_due, siblings}
use Rattle.clause.specs.Inner.Tables.{at_ends, at_siblings, tables_size, packed, tables_from}
use Rattle.clause.proofs.Skip.{Enough, enough_fewer}
use Rattle.clause.proofs.Jump.{jump_zero, jump_suc, enough_here, enough_word, enough_term}
use Rattle.clause.proofs.Literals.{accepted}
use Rattle.clause.proofs.Ends.{skip_le, length_ends, ends_at, jump_one, jump_le, jump_from}
use Rattle.clause.proofs.Siblings.{rights_of, after_term, total, Positive, siblings_cons, length_siblings, push_append, push_total, push_positive}
use Rattle.clause.proofs.Siblings.{enough_rights}
use Rattle.clause.proofs.Packing.{get_d_after, packed_zeros, end_at, set_end, set_right}

-- right siblings up to the end of the arguments still to come, and after it
seam : (ws due rest : List ℕ) (k : ℕ) → Positive due → k ≡ total due
    → siblings ws (due ++ rest) ≡ take (skip k ws) (siblings ws due) ++ siblings (drop (skip k ws) ws) rest
unfolding siblings skip
seam [] due rest k p e = refl
seam (w ∷ ws) [] rest zero p e = refl
seam (w ∷ ws) [] rest (suc k) p e = absurd (omega arith)
seam (w ∷ ws) (zero ∷ due) rest k (also h p) e = absurd (omega arith)
seam (w ∷ ws) (suc n ∷ due) rest zero p e = absurd (omega arith)
seam (w ∷ ws) (suc n ∷ due) rest (suc k) (also h p) e =
    rw (push_append n due rest, push_append (arity w) (push_due n due) rest)
    (ap (λ (l : List ℕ). n ∷ l)
    (seam ws (push_due (arity w) (push_due n due)) rest (arity w + k) (push_positive (arity w) (push_positive n p)) (simp push_total (omega arith))))

-- the right siblings inside the term at a position, without those of the term itself
first_key : List ℕ → ℕ → List ℕ
first_key d at = take (skip (arity (get_or d at 0)) (drop (suc at) d)) (siblings (drop (suc at) d) (push_due (arity (get_or d at 0)) []))

module _ (d : List ℕ) (at : ℕ) (h : at < length d) where
  -- the right siblings from a term on: its own, those inside it, and those after it
  siblings_term : (rest : List ℕ) → siblings (drop at d) rest ≡ rights_of rest ∷ first_key d at ++ siblings (drop (jump d 1 at) d) (after_term rest)
  unfolding jump skip first_key
  siblings_term rest =
      let w = get_or d at 0 in
      let ws = drop (suc at) d in
      let a = arity w in
      let c : drop at d ≡ w ∷ ws = drop-cons d at 0 h in
      let t : a ≡ total (push_due a []) = rw (push_total a []) (omega arith) in
      let g : suc at + skip a ws ≡ at + suc (skip a ws) = omega arith in
      let f : drop (skip a ws) ws ≡ drop (at + suc (skip (a + 0) ws)) d = rw (drop-drop, add-zero, g) in
      rw (c, siblings_cons w ws rest, push_append a [] (after_term rest), seam ws (push_due a []) (after_term rest) a (push_positive a none) t, f)

  inner_size : (x : ℕ) → at + length (x ∷ first_key d at) ≡ jump d 1 at
  unfolding jump skip first_key
  inner_size x =
      let w = get_or d at 0 in
      let ws = drop (suc at) d in
      let a = arity w in
      let c : drop at d ≡ w ∷ ws = drop-cons d at 0 h in
      let s : skip a ws ≤ length (siblings ws (push_due a [])) = rw length_siblings (skip_le a ws) in
      rw (c, length-take-le (skip a ws) (siblings ws (push_due a [])) s, add-zero)

-- zeros, with one more
zeros_snoc : (p : ℕ) (xs : List ℕ) → replicate p 0 ++ 0 ∷ xs ≡ replicate (suc p) 0 ++ xs
zeros_snoc zero xs = refl
zeros_snoc (suc p) xs = ap (λ (l : List ℕ). 0 ∷ l) (zeros_snoc p xs)

-- what stands from a position on, with zeros before it
from_at : (l : List ℕ) (q k : ℕ) → q ≤ k → get_or (replicate q 0 ++ drop q l) k 0 ≡ get_or l k 0
from_at l q k h =
    let e : q + (k - q) ≡ k = omega arith in
    rw (← e) (get_d_after (replicate q 0) (drop q l) q (k - q) (length-replicate q 0) ∙ get_or-drop q l (k - q) 0)

from_set : (l : List ℕ) (p v : ℕ) → p < length l → v ≡ get_or l p 0 → set (replicate (suc p) 0 ++ drop (suc p) l) p v ≡ replicate p 0 ++ drop p l
from_set l p v h e =
    ap (λ (k : List ℕ). set k p v) (sym (zeros_snoc p (drop (suc p) l))) ∙ set_at (replicate p 0) 0 (drop (suc p) l) v p (length-replicate p 0)
    ∙ rw (e, ← drop-cons l p 0 h)

-- some of the arguments of the word at p are noted, and `left` more stand from `at` on
pub record Noting (d : List ℕ) (p at left : ℕ) (table : List ℕ) : Type 0 where
  pub done : List ℕ
  pub size : length done ≡ at
  pub is : table ≡ packed [] (replicate (suc p) 0 ++ drop (suc p) (ends d)) (done ++ siblings (drop at d) []) 0
  pub goal : done ++ siblings (drop at d) (push_due left []) ≡ replicate p 0 ++ siblings (drop p d) []
  pub enough : Enough left (drop at d)
  pub over : jump d left at ≡ jump d 1 p
  pub low : suc p ≤ at
  pub high : at ≤ length d

module _ (d : List ℕ) (A : Accepted d) (p : ℕ) (h : p < length d) where
  pub noting_none : {table : List ℕ} (left : ℕ) → left ≡ arity (get_or d p 0) → table ≡ tables_from d (suc p) → Noting d p (p + 1) left table
  unfolding tables_from
  noting_none left e t =
      let w = get_or d p 0 in
      let n : siblings (drop p d) [] ≡ 0 ∷ siblings (drop (suc p) d) (push_due left []) = rw (drop-cons d p 0 h, siblings_cons w (drop (suc p) d) [], e) in
      rw add-one
      (record {
        done = replicate (suc p) 0;
        size = length-replicate (suc p) 0;
        is = t;
        goal = rw n (sym (zeros_snoc p (siblings (drop (suc p) d) (push_due left []))));
        enough = rw e (enough_fewer (enough_word d _ p (enough_rights d (accepted d A) p h)) (arity w) (omega arith));
        over = rw e (sym (jump_one d p h));
        low = omega arith;
        high = omega arith;
      })

  module _ (at : ℕ) {table : List ℕ} where
    -- one argument more
    pub noting_term : (left v : ℕ) → 0 < left → v ≡ left - 1 → Noting d p at left table
        → (get_or (set table (at_siblings + at) v) (at_ends + at) 0 ≡ jump d 1 at) × Noting d p (jump d 1 at) v (set table (at_siblings + at) v)
    unfolding push_due
    noting_term zero v g e M = absurd (omega arith)
    noting_term (suc n) v g e M = let f : v ≡ n = omega arith in rw f (
      ap (λ (t : List ℕ). get_or t (at_ends + at) 0) stored ∙ end_at [] _ _ 0 at room ∙ from_at (ends d) (suc p) at M.low ∙ ends_at d at b,
      record {
        done = M.done ++ n ∷ first_key d at;
        size = rw (length-append, M.size) (inner_size d at b n);
        is = stored;
        goal = append_assoc M.done (n ∷ first_key d at) _ ∙ later;
        enough = enough_term d n at M.enough;
        over = sym (jump_suc d n at) ∙ M.over;
        low = omega (arith, M.low, jump_from d 1 at);
        high = jump_le d 1 at M.high;
      },
    )
      where
        b : at < length d
        b = enough_here d n at M.enough

        room : at < max_words
        room = omega (arith, b, (accepted d A).fits)

        later : M.done ++ (n ∷ first_key d at ++ siblings (drop (jump d 1 at) d) (push_due n [])) ≡ replicate p 0 ++ siblings (drop p d) []
        later = ap (λ (l : List ℕ). M.done ++ l) (sym (siblings_term d at b (suc n ∷ []))) ∙ M.goal

        stored : set table (at_siblings + at) n
            ≡ packed [] (replicate (suc p) 0 ++ drop (suc p) (ends d)) (M.done ++ n ∷ first_key d at ++ siblings (drop (jump d 1 at) d) []) 0
        stored =
            let r = M.done ++ siblings (drop at d) [] in
            let l : at < length r = simp (length-append, length_siblings, length-drop, M.size) (omega (arith, b)) in
            let s : set r at n ≡ M.done ++ n ∷ first_key d at ++ siblings (drop (jump d 1 at) d) [] =
            rw (siblings_term d at b [], set_at M.done 0 (first_key d at ++ siblings (drop (jump d 1 at) d) []) n at M.size, append_assoc) in
            rw (M.is, set_right [] _ r 0 at n room l, s)

    -- all of them are noted: the end of the term is known
    pub noting_all : Noting d p at 0 table → (at ≡ jump d 1 p) × (set table (at_ends + p) at ≡ tables_from d p)
    unfolding tables_from push_due
    noting_all M =
        let e : at ≡ jump d 1 p = sym (jump_zero d at) ∙ M.over in
        let E = replicate (suc p) 0 ++ drop (suc p) (ends d) in
        let l : p < length E = simp (length-append, length-replicate) (omega arith) in
        let g : p < length (ends d) = rw length_ends h in
        let room : p < max_words = omega (arith, (accepted d A).fits) in
        (e, rw (M.is, M.goal, set_end [] E _ 0 p at room l, from_set (ends d) p at g (e ∙ sym (ends_at d p h))))

-- nothing is noted yet
pub noted_none : (d : List ℕ) → replicate tables_size 0 ≡ tables_from d (length d)
unfolding tables_from siblings
noted_none d =
    let l : drop (length d) (ends d) ≡ [] = ap (λ (m : ℕ). drop m (ends d)) (sym (length_ends d)) ∙ drop-length (ends d) in
    rw (l, drop-length d, append-nil) (sym (packed_zeros (length d)))
