-- Whether words are a whole clause by counting the terms to come, with the number of literals tested at the end.
use mathlib.Core.Path.{◌≡◌, refl, sym, ap, ◌∙◌}
use mathlib.Core.Bool.{Bool, false, ◌&&◌, and-false}
use mathlib.Core.List.{List, [], ◌∷◌}
use Prim.Native.Nat.{ℕ, zero, suc, ◌+◌, ◌-◌, ◌≤◌, ◌<◌}
use native.Mathlib.Nat.{zero-add}
use native.Mathlib.Numerals.{add-one}
use native.Mathlib.Omega.{arith}
use native.Mathlib.Decide.{dec_lt}
use lib.Dec.{leb, eqb}
use lib.ListN.{length, get_or, drop, drop_of_length-le}
use lib.Seq.{drop-cons}
use borrow.Author.Tests.{lt-ltb, le-ltb, le-leb, lt-leb, ne_eqb}
use Rattle.clause.specs.Word.{arity, Sort, symbol, variable, head, wrong, sort, is_head, is_inside}
use Rattle.clause.specs.Clause.{max_words, max_literals, scan_word, scan, shape}
use Rattle.reading.specs.Inner.Whole.{is_whole}
use Rattle.reading.proofs.Scanning.{shape_scan}

-- whether the rest is whole, where `need` terms are still to come and `lits` literals have begun
unfoldable pub counted : List ℕ → (need lits : ℕ) → Bool
counted [] need lits = leb lits max_literals && eqb need 0
counted (w ∷ ws) zero lits = is_head (sort w) && counted ws (arity w) (suc lits)
counted (w ∷ ws) (suc k) lits = is_inside (sort w) && counted ws (arity w + k) lits

-- after too many literals no rest is whole
counted_over : (ws : List ℕ) (need lits : ℕ) → max_literals < lits → counted ws need lits ≡ false
unfolding counted
counted_over [] need lits h = rw (lt-leb lits max_literals h)
counted_over (w ∷ ws) zero lits h = rw (counted_over ws (arity w) (suc lits) (omega arith)) (and-false (is_head (sort w)))
counted_over (w ∷ ws) (suc k) lits h = rw (counted_over ws (arity w + k) lits h) (and-false (is_inside (sort w)))

-- the reading, which stops at a ninth head
scan_counted : (ws : List ℕ) (need lits at : ℕ) → lits ≤ max_literals → is_whole (scan ws need lits at) ≡ counted ws need lits
unfolding scan scan_word counted
scan_counted [] zero lits at h = rw (le-leb lits max_literals h)
scan_counted [] (suc k) lits at h = rw (le-leb lits max_literals h, ne_eqb (suc k) 0 (omega arith))
scan_counted (w ∷ ws) zero lits at h = go (sort w) (dec_lt lits max_literals) (scan_counted ws (arity w) (suc lits) (suc at))
  where
    go : (s : Sort) → Dec (lits < max_literals) → (suc lits ≤ max_literals → is_whole (scan ws (arity w) (suc lits) (suc at)) ≡ counted ws (arity w) (suc lits))
        → is_whole (scan_word s (arity w) zero lits at (scan ws)) ≡ (is_head s && counted ws (arity w) (suc lits))
    go symbol d ih = refl
    go variable d ih = refl
    go head (yes l) ih = rw (lt-ltb lits max_literals l) (ih l)
    go head (no l) ih = rw (le-ltb lits max_literals (omega arith)) (sym (counted_over ws (arity w) (suc lits) (omega arith)))
    go wrong d ih = refl
scan_counted (w ∷ ws) (suc k) lits at h = go (sort w) (scan_counted ws (arity w + k) lits (suc at) h)
  where
    go : (s : Sort) → is_whole (scan ws (arity w + k) lits (suc at)) ≡ counted ws (arity w + k) lits
        → is_whole (scan_word s (arity w) (suc k) lits at (scan ws)) ≡ (is_inside s && counted ws (arity w + k) lits)
    go symbol ih = ih
    go variable ih = ih
    go head ih = refl
    go wrong ih = refl

-- a clause of 1 to max_words words
pub shape_counted : (q : List ℕ) → false ≡ eqb (length q) 0 → length q ≤ max_words → is_whole (shape q) ≡ counted q 0 0
shape_counted q n h = ap is_whole (shape_scan q n h) ∙ scan_counted q 0 0 0 (omega arith)

module _ (q : List ℕ) (at : ℕ) where
  -- the end
  pub counted_end : (need lits : ℕ) → length q ≤ at → counted (drop at q) need lits ≡ (leb lits max_literals && eqb need 0)
  unfolding counted
  counted_end need lits h = rw (drop_of_length-le q h)

  module _ (inside : at < length q) (t : Bool) where
    -- a literal's first word
    pub counted_head : (need lits : ℕ) → need ≡ 0 → is_head (sort (get_or q at 0)) ≡ t
        → counted (drop at q) need lits ≡ (t && counted (drop (at + 1) q) (need + arity (get_or q at 0)) (lits + 1))
    unfolding counted
    counted_head zero lits z e = rw (zero-add, add-one at, add-one lits, drop-cons q at 0, e)
    counted_head (suc k) lits z e = absurd (omega arith)

    -- another word of it
    pub counted_inside : (need lits : ℕ) → (need ≡ 0 → ⊥) → is_inside (sort (get_or q at 0)) ≡ t
        → counted (drop at q) need lits ≡ (t && counted (drop (at + 1) q) (need - 1 + arity (get_or q at 0)) lits)
    unfolding counted
    counted_inside zero lits n e = absurd (n refl)
    counted_inside (suc k) lits n e =
        let z : suc k - 1 + arity (get_or q at 0) ≡ arity (get_or q at 0) + k = omega arith in
        rw (z, add-one, drop-cons q at 0, e)
