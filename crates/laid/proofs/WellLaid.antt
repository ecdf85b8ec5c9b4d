-- The tests of a slice by position: what a loop over the words W at the positions p does at each turn.
use mathlib.Core.Path.{◌≡◌, refl, sym}
use mathlib.Core.List.{List, [], ◌∷◌}
use mathlib.Core.Bool.{Bool, true, false, ◌&&◌, beq, and-false, and-true}
use Prim.Native.Nat.{ℕ, zero, suc, ◌+◌, ◌-◌, ◌*◌, ◌^◌, ◌≤◌, ◌<◌}
use native.Mathlib.Nat.{sub-zero, zero-add}
use native.Mathlib.Omega.{arith}
use lib.Dec.{T, leb, ltb, eqb, leb→le, ltb→lt}
use lib.ListN.{length, take, drop, get_or, length-drop}
use lib.Seq.{take_all}
use borrow.Author.Tests.{lt-ltb, le-ltb, le-leb, ne_eqb}
use Rattle.clause.proofs.Tests.{and_l, and_r}
use Rattle.tree.specs.Keys.{first_key, lawful, next_key}
use Rattle.tree.specs.Laid.{key_of, extent_of, used_of, kept_of, max_kept, row, rows, sound, successes, zeros, well_laid}
use Rattle.tree.proofs.Hops.{key_at, extent_at, row_hop}
use Rattle.tree.proofs.Words.{row_zero}

-- a conjunction fails where its second part does, given the first
and_fails : (t x : Bool) → (T t → x ≡ false) → (t && x) ≡ false
and_fails true x h = h tt
and_fails false x h = refl

-- ---- a word by itself: a Success, and any other

same_true : (b : Bool) → beq true b ≡ b
same_true true = refl
same_true false = refl

pub sound_success : (w : ℕ) → key_of w < first_key → sound w ≡ eqb (extent_of w) 1
unfolding lawful
sound_success w u = rw (lt-ltb (key_of w) (9 * 2 ^ 32) (omega arith), lt-ltb (key_of w) first_key u) (same_true (eqb (extent_of w) 1))

module _ (w : ℕ) (u : first_key ≤ key_of w) where
  pub sound_inner : (extent_of w ≡ 1 → ⊥) → sound w ≡ lawful (key_of w)
  sound_inner e = rw (le-ltb (key_of w) first_key u, ne_eqb (extent_of w) 1 e) (and-true (lawful (key_of w)))

-- ---- a row

-- there is no row of more words than there are
pub row_short : (ws : List ℕ) (b skip e : ℕ) → length ws < skip + e → row ws b skip e ≡ false
row_short [] b zero zero h = absurd (omega arith)
row_short [] b zero (suc e) h = refl
row_short [] b (suc skip) e h = refl
row_short (w ∷ ws) b zero zero h = absurd (omega arith)
row_short (w ∷ ws) b zero (suc e) h =
    and_fails (leb b (key_of w) && ltb 0 (extent_of w) && leb (extent_of w) (suc e)) (row ws (next_key (key_of w)) (extent_of w - 1) (suc e - extent_of w))
    (λ t.
    let some : 0 < extent_of w = ltb→lt 0 (extent_of w) (search (and_l, and_r)) in
    let fits : extent_of w ≤ suc e = leb→le (extent_of w) (suc e) (search (and_l, and_r)) in
    row_short ws (next_key (key_of w)) (extent_of w - 1) (suc e - extent_of w) (omega arith))
row_short (w ∷ ws) b (suc skip) e h = row_short ws b skip e (omega arith)

-- a row is a matter of its words alone
same_if : (t x y : Bool) → (T t → x ≡ y) → (t && x) ≡ (t && y)
same_if true x y h = h tt
same_if false x y h = refl

pub row_taken : (ws : List ℕ) (k b skip e : ℕ) → skip + e ≤ k → row (take k ws) b skip e ≡ row ws b skip e
row_taken ws zero b zero zero h = sym (row_zero ws b)
row_taken ws zero b zero (suc e) h = absurd (omega arith)
row_taken ws zero b (suc skip) e h = absurd (omega arith)
row_taken [] (suc k) b skip e h = refl
row_taken (w ∷ ws) (suc k) b zero zero h = refl
row_taken (w ∷ ws) (suc k) b zero (suc e) h =
    same_if (leb b (key_of w) && ltb 0 (extent_of w) && leb (extent_of w) (suc e))
    (row (take k ws) (next_key (key_of w)) (extent_of w - 1) (suc e - extent_of w)) (row ws (next_key (key_of w)) (extent_of w - 1) (suc e - extent_of w))
    (λ t.
    let some : 0 < extent_of w = ltb→lt 0 (extent_of w) (search (and_l, and_r)) in
    let fits : extent_of w ≤ suc e = leb→le (extent_of w) (suc e) (search (and_l, and_r)) in
    row_taken ws k (next_key (key_of w)) (extent_of w - 1) (suc e - extent_of w) (omega arith))
row_taken (w ∷ ws) (suc k) b (suc skip) e h = row_taken ws k b skip e (omega arith)

-- the tail of a slice from x on, as a part of it is read
pub tail_part : (W : List ℕ) (x : ℕ) → take (length W - x) (drop x W) ≡ drop x W
tail_part W x = take_all (length W - x) (drop x W) (simp length-drop (omega arith))

-- the rest of a row after its first sibling, of the extent e
pub row_rest : (R : List ℕ) (b e : ℕ) → 0 < length R → e ≡ extent_at R 0 → b ≤ key_at R 0 → 0 < e → e ≤ length R
    → row R b 0 (length R) ≡ row (take (length R - e) (drop e R)) (next_key (key_at R 0)) 0 (length (take (length R - e) (drop e R)))
row_rest R b e l x u v q =
    let hop = row_hop R 0 (length R) (omega arith) l b u (omega arith) (omega arith) in
    rw (tail_part R e, length-drop e R, x) (rw (sub-zero (length R), zero-add (extent_at R 0)) at hop)

-- ---- the whole slice

-- the tests in another order
order : (a b c d e f : Bool) → (a && b && c && d && e && f) ≡ (a && (f && (b && ((c && e) && d))))
order false b c d e f = refl
order true false c d e f = sym (and-false f)
order true true false d e f = sym (and-false f)
order true true true false false f = sym (and-false f)
order true true true false true f = sym (and-false f)
order true true true true false f = sym (and-false f)
order true true true true true f = sym (and-true f)

-- no word, no tree
pub laid_none : (S : List ℕ) → length S < 1 → well_laid S ≡ false
unfolding well_laid
laid_none [] h = refl
laid_none (w ∷ ws) h = absurd (omega arith)

-- the words after the header, as the code reads them
abbrev pub rest_of : List ℕ → List ℕ
rest_of S = take (length S - 1) (drop 1 S)

-- the tests in the order of the code, u being the used words and k the kept clauses: those of the header first
pub laid_parts : (S : List ℕ) (u k : ℕ) → 1 ≤ length S → u ≡ used_of (get_or S 0 0) → k ≡ kept_of (get_or S 0 0)
    → (leb u (length (rest_of S)) && (leb k max_kept && (row (take u (rest_of S)) 0 0 u
    && ((rows (take u (rest_of S)) && eqb (successes (take u (rest_of S))) k) && zeros (drop u (rest_of S)))))) ≡ well_laid S
unfolding well_laid
laid_parts [] u k h p q = absurd (omega arith)
laid_parts (w ∷ ws) u k h p q =
    rw (tail_part (w ∷ ws) 1, ← p, ← q)
    (sym (order (leb u (length ws)) (row (take u ws) 0 0 u) (rows (take u ws)) (zeros (drop u ws)) (eqb (successes (take u ws)) k) (leb k max_kept)))

-- and where they hold, those of the used words W and of the words Z after them
pub laid_rest : (S W Z : List ℕ) (u k : ℕ) → 1 ≤ length S → u ≡ used_of (get_or S 0 0) → k ≡ kept_of (get_or S 0 0) → u ≤ length (rest_of S) → k ≤ max_kept
    → W ≡ take u (rest_of S) → Z ≡ drop u (rest_of S) → (row W 0 0 u && ((rows W && eqb (successes W) k) && zeros Z)) ≡ well_laid S
laid_rest S W Z u k h p q fits few w z = rw (w, z) (rw (le-leb u (length (rest_of S)) fits, le-leb k max_kept few) at (laid_parts S u k h p q))
