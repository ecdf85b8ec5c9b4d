-- Writing a witness word by word, and laying tables.
use Prim.Native.Nat.{ℕ, zero, suc, ◌+◌, ◌-◌, ◌≤◌, ◌<◌}
use mathlib.Core.Path.{◌≡◌, refl, sym, ap, ◌∙◌}
use mathlib.Core.Bool.{Bool, true, false, not, cond}
use mathlib.Core.Option.{Option, none, some, some-injective, none-ne-some}
use mathlib.Core.List.{List, [], ◌∷◌}
use native.Mathlib.Omega.{arith}
use native.Mathlib.Numerals.{add-one}
use native.Mathlib.Decide.{dec_lt}
use lib.Dec.{ltb, eqb}
use borrow.Author.Tests.{lt-ltb, le-ltb}
use lib.ListN.{length, get_or, take, set, length-take, length-append, length-map}
use lib.Seq.{get_or-take, take_all}
use Rattle.clause.specs.Clause.{max_literals}
use Rattle.walk.specs.Query.{witness_words, shown, with_shown}
use Rattle.cells.specs.Inner.Cells.{puts_at, cell_count, no_position, count_in, position_in, placed, state_of}
use Rattle.walk.proofs.Witnessed.{shown_front, shown_none, shown_position}
use Rattle.cells.proofs.Places.{placed_get}

-- one more word, where there is nothing to write, and where there is
pub with_shown_past : (os : List (Option ℕ)) (ws : List ℕ) (i : ℕ) → get_or os i none ≡ none → with_shown (take (suc i) os) ws ≡ with_shown (take i os) ws
with_shown_past [] ws zero e = refl
with_shown_past [] ws (suc i) e = refl
with_shown_past (none ∷ os) [] zero e = refl
with_shown_past (none ∷ os) (w ∷ ws) zero e = refl
with_shown_past (some x ∷ os) ws zero e = absurd (none-ne-some x (sym e))
with_shown_past (o ∷ os) [] (suc i) e = refl
with_shown_past (none ∷ os) (w ∷ ws) (suc i) e = ap (λ (l : List ℕ). w ∷ l) (with_shown_past os ws i e)
with_shown_past (some x ∷ os) (w ∷ ws) (suc i) e = ap (λ (l : List ℕ). x ∷ l) (with_shown_past os ws i e)

pub with_shown_on : (os : List (Option ℕ)) (ws : List ℕ) (i x : ℕ) → get_or os i none ≡ some x → with_shown (take (suc i) os) ws ≡ set (with_shown (take i os) ws) i x
with_shown_on [] ws i x e = absurd (none-ne-some x e)
with_shown_on (none ∷ os) ws zero x e = absurd (none-ne-some x e)
with_shown_on (some y ∷ os) [] zero x e = refl
with_shown_on (some y ∷ os) (w ∷ ws) zero x e = ap (λ (z : ℕ). z ∷ ws) (some-injective y x e)
with_shown_on (o ∷ os) [] (suc i) x e = refl
with_shown_on (none ∷ os) (w ∷ ws) (suc i) x e = ap (λ (l : List ℕ). w ∷ l) (with_shown_on os ws i x e)
with_shown_on (some y ∷ os) (w ∷ ws) (suc i) x e = ap (λ (l : List ℕ). y ∷ l) (with_shown_on os ws i x e)

-- what the cells show
module _ (l : List ℕ) (size : length l ≡ cell_count) (i : ℕ) where
  chosen_there : i < max_literals → i < count_in l → i < length (take (count_in l) l)
  chosen_there h g = simp length-take (omega arith)

  pub shows_literal : i < max_literals → i < count_in l → get_or (shown (state_of no_position l)) i none ≡ some (get_or l i 0)
  shows_literal h g = shown_front (state_of no_position l) i h (chosen_there h g) ∙ ap (λ (x : ℕ). some x) (get_or-take (count_in l) l i 0 g)

  pub shows_no_literal : i < max_literals → count_in l ≤ i → get_or (shown (state_of no_position l)) i none ≡ none
  shows_no_literal h g = shown_none (state_of no_position l) i (simp length-take (omega arith)) h

  pub shows_position : puts_at ≤ i → i < witness_words → get_or (shown (state_of no_position l)) i none ≡ position_in (get_or l i 0)
  shows_position h g =
      let e : puts_at + (i - puts_at) ≡ i = omega arith in
      ap (λ (k : ℕ). get_or (shown (state_of no_position l)) k none) (sym e) ∙ shown_position (state_of no_position l) (i - puts_at)
      ∙ placed_get puts_at l (i - puts_at) (omega arith) (omega arith) ∙ rw e

-- the same, by the tests of the code
module _ (l : List ℕ) (size : length l ≡ cell_count) (i : ℕ) where
  pub shows_front : i < max_literals → {n : ℕ} → n ≡ count_in l → get_or (shown (state_of no_position l)) i none ≡ cond (ltb i n) (some (get_or l i 0)) none
  shows_front h {n} e = go (dec_lt i n)
    where
      go : Dec (i < n) → get_or (shown (state_of no_position l)) i none ≡ cond (ltb i n) (some (get_or l i 0)) none
      go (yes g) = shows_literal l size i h (omega arith) ∙ rw (lt-ltb i n g)
      go (no g) = shows_no_literal l size i h (omega arith) ∙ rw (le-ltb i n (omega arith))

  pub shows_back : puts_at ≤ i → i < witness_words → {x : ℕ} → x ≡ get_or l i 0 → get_or (shown (state_of no_position l)) i none ≡ cond (not (eqb x no_position)) (some (get_or l i 0)) none
  unfolding position_in
  shows_back h g e = rw e (shows_position l size i h g ∙ go (eqb (get_or l i 0) no_position))
    where
      go : (b : Bool) → cond b none (some (get_or l i 0)) ≡ cond (not b) (some (get_or l i 0)) none
      go true = refl
      go false = refl

-- all words to show
pub shown_all : (l : List ℕ) (i : ℕ) → witness_words ≤ i → take i (shown (state_of no_position l)) ≡ shown (state_of no_position l)
unfolding shown placed
shown_all l i h = take_all i (shown (state_of no_position l)) (simp (length-append, length-take, length-map) (omega arith))

-- one turn of the writing
pub show_one : (os : List (Option ℕ)) (ws : List ℕ) (i x : ℕ) {b : Bool} → get_or os i none ≡ cond b (some x) none → b ≡ true
    → {w v : List ℕ} {y : ℕ} → w ≡ with_shown (take i os) ws → y ≡ x → v ≡ set w i y → v ≡ with_shown (take (i + 1) os) ws
show_one os ws i x e f g h k = rw (add-one i, k, g, h) (sym (with_shown_on os ws i x (rw f at e)))

pub show_none : (os : List (Option ℕ)) (ws : List ℕ) (i x : ℕ) {b : Bool} → get_or os i none ≡ cond b (some x) none → b ≡ false
    → {w v : List ℕ} → w ≡ with_shown (take i os) ws → v ≡ w → v ≡ with_shown (take (i + 1) os) ws
show_none os ws i x e f g k = rw (add-one i, k, g) (sym (with_shown_past os ws i (rw f at e)))
