-- Reading past terms at a position of some words: one word, a term and then the rest of the clause.
use mathlib.Core.Path.{◌≡◌, refl, sym, ap, ◌∙◌}
use mathlib.Core.Bool.{true, false}
use mathlib.Core.List.{List, [], ◌∷◌}
use Prim.Native.Nat.{ℕ, zero, suc, ◌+◌, ◌-◌, ◌≤◌, ◌<◌}
use native.Mathlib.Nat.{zero-add, suc-add, add_assoc}
use native.Mathlib.Numerals.{add-one, one-add}
use native.Mathlib.Omega.{arith}
use lib.ListN.{length, get_or, drop, length-drop, drop_of_length-le, get_or-eq_default}
use lib.Seq.{drop-cons, drop-drop}
use Rattle.clause.specs.Word.{arity, Sort, symbol, variable, head, wrong, sort, if_inside, is_inside}
use Rattle.clause.specs.Clause.{scan_word, scan, skip}
use Rattle.std.specs.Prelude.{None, Result, Ok, Err, ℕ}
use Rattle.reading.specs.Inner.Cursor.{go_down, past_terms, go_past}
use Rattle.reading.specs.declared.Cursor.{Cursor}
use Rattle.clause.specs.declared.Fault.TheVariants.{Bad}
use Rattle.clause.specs.declared.Fault.{Fault}

if-inside {ℓ} : {A : Type ℓ} (s : Sort) → is_inside s ≡ true → (a b : A) → if_inside s a b ≡ a
if-inside symbol e a b = refl
if-inside variable e a b = refl
if-inside head e a b = cc
if-inside wrong e a b = cc

if-outside {ℓ} : {A : Type ℓ} (s : Sort) → is_inside s ≡ false → (a b : A) → if_inside s a b ≡ b
if-outside symbol e a b = cc
if-outside variable e a b = cc
if-outside head e a b = refl
if-outside wrong e a b = refl

-- ---- to an argument

-- past the end there is none
pub go_down_end : (q : List ℕ) (c : Cursor) → length q ≤ c.at → None ≡ go_down q c
unfolding arity
go_down_end q c h = rw (get_or-eq_default q 0 h)

-- ---- one word

-- no terms
pub past_none : (ws : List ℕ) (at left : ℕ) → past_terms ws 0 at left ≡ Ok (record { at = at; left = left })
unfolding past_terms
past_none [] at left = refl
past_none (w ∷ ws) at left = refl

-- terms that the words cannot hold: their number makes no difference
pub past_over : (ws : List ℕ) (m n at left : ℕ) → length ws < m → length ws < n → past_terms ws m at left ≡ past_terms ws n at left
unfolding past_terms
past_over [] zero n at left h i = absurd (omega arith)
past_over [] (suc m) zero at left h i = absurd (omega arith)
past_over [] (suc m) (suc n) at left h i = refl
past_over (w ∷ ws) zero n at left h i = absurd (omega arith)
past_over (w ∷ ws) (suc m) zero at left h i = absurd (omega arith)
past_over (w ∷ ws) (suc m) (suc n) at left h i =
    rw (past_over ws (arity w + m) (arity w + n) (suc at) left (omega arith) (omega arith))

module _ (q : List ℕ) (at left : ℕ) where
  -- the end
  pub past_end : (n : ℕ) → 0 < n → length q ≤ at → past_terms (drop at q) n at left ≡ Err at
  unfolding past_terms
  past_end zero s h = absurd (omega arith)
  past_end (suc k) s h = rw (drop_of_length-le q h)

  module _ (inside : at < length q) where
    -- a word that breaks the rules
    pub past_off : (n : ℕ) → 0 < n → is_inside (sort (get_or q at 0)) ≡ false → past_terms (drop at q) n at left ≡ Err at
    unfolding past_terms
    past_off zero s e = absurd (omega arith)
    past_off (suc k) s e = rw (drop-cons q at 0) (if-outside (sort (get_or q at 0)) e _ _)

    -- another word
    pub past_word : (n : ℕ) → 0 < n → is_inside (sort (get_or q at 0)) ≡ true
        → past_terms (drop at q) n at left ≡ past_terms (drop (at + 1) q) (n - 1 + arity (get_or q at 0)) (at + 1) left
    unfolding past_terms
    past_word zero s e = absurd (omega arith)
    past_word (suc k) s e =
        let z : suc k - 1 + arity (get_or q at 0) ≡ arity (get_or q at 0) + k = omega arith in
        rw (z, add-one, drop-cons q at 0) (if-inside (sort (get_or q at 0)) e _ _)

    -- another word, where the terms to come are at least as many as the words
    pub past_many : (n : ℕ) → 0 < n → is_inside (sort (get_or q at 0)) ≡ true → length q ≤ n - 1
        → past_terms (drop at q) n at left ≡ past_terms (drop (at + 1) q) (n - 1) (at + 1) left
    past_many n s e h =
        past_word n s e
        ∙ past_over (drop (at + 1) q) (n - 1 + arity (get_or q at 0)) (n - 1) (at + 1) left (simp length-drop (omega arith)) (simp length-drop (omega arith))

-- ---- many words

drop_tail : (q : List ℕ) (at : ℕ) {w : ℕ} {ws : List ℕ} → drop at q ≡ w ∷ ws → drop (suc at) q ≡ ws
drop_tail q at e = rw (← add-one at) (sym (drop-drop 1 at q) ∙ ap (λ (l : List ℕ). drop 1 l) e)

-- going on with the clause, b terms of the literal being still to come
abbrev pub scan_on : List ℕ → (b lits : ℕ) → Result Cursor ℕ → Result ℕ Fault
scan_on q b lits (Ok c) = scan (drop c.at q) b lits c.at
scan_on q b lits (Err at) = Err (Bad at)

-- the reading with a + b terms to come is past a terms and then on
scan_split : (q ws : List ℕ) (a b lits at left : ℕ) → drop at q ≡ ws → scan ws (a + b) lits at ≡ scan_on q b lits (past_terms ws a at left)
unfolding past_terms scan scan_word
scan_split q [] zero b lits at left e = rw (zero-add, e)
scan_split q [] (suc a) b lits at left e = rw suc-add
scan_split q (w ∷ ws) zero b lits at left e = rw (zero-add, e)
scan_split q (w ∷ ws) (suc a) b lits at left e =
    rw suc-add (go (sort w) (rw add_assoc at (scan_split q ws (arity w + a) b lits (suc at) left (drop_tail q at e))))
  where
    go : (s : Sort) → scan ws (arity w + (a + b)) lits (suc at) ≡ scan_on q b lits (past_terms ws (arity w + a) (suc at) left)
        → scan_word s (arity w) (suc (a + b)) lits at (scan ws) ≡ scan_on q b lits (if_inside s (past_terms ws (arity w + a) (suc at) left) (Err at))
    go symbol h = h
    go variable h = h
    go head h = refl
    go wrong h = refl

-- a term and then its right siblings
pub scan_past : (q : List ℕ) (c : Cursor) (lits : ℕ) → scan (drop c.at q) (suc c.left) lits c.at ≡ scan_on q c.left lits (go_past q c)
unfolding go_past
scan_past q c lits = rw (← one-add c.left) (scan_split q (drop c.at q) 1 c.left lits c.at c.left refl)

-- terms passed take the words that `skip` counts
past_at : (ws : List ℕ) (need at left : ℕ) (c : Cursor) → past_terms ws need at left ≡ Ok c → c.at ≡ at + skip need ws
unfolding past_terms skip
past_at [] zero at left c e = let z : record { at = at; left = left } ≡ c = cc in rw (← z) (omega arith)
past_at [] (suc k) at left c e = cc
past_at (w ∷ ws) zero at left c e = let z : record { at = at; left = left } ≡ c = cc in rw (← z) (omega arith)
past_at (w ∷ ws) (suc k) at left c e = go (sort w) e (past_at ws (arity w + k) (suc at) left c)
  where
    go : (s : Sort) → if_inside s (past_terms ws (arity w + k) (suc at) left) (Err at) ≡ Ok c
        → (past_terms ws (arity w + k) (suc at) left ≡ Ok c → c.at ≡ suc at + skip (arity w + k) ws) → c.at ≡ at + suc (skip (arity w + k) ws)
    go symbol e ih = omega (arith, ih e)
    go variable e ih = omega (arith, ih e)
    go head e ih = cc
    go wrong e ih = cc

-- a term has a word
pub past_on : (q : List ℕ) (c n : Cursor) → go_past q c ≡ Ok n → (c.at < length q) × (c.at < n.at)
unfolding go_past past_terms skip
past_on q c n e = go (drop c.at q) refl e
  where
    go : (ws : List ℕ) → drop c.at q ≡ ws → past_terms ws 1 c.at c.left ≡ Ok n → (c.at < length q) × (c.at < n.at)
    go [] f e = cc
    go (w ∷ ws) f e =
        let l : length q - c.at ≡ suc (length ws) = sym (length-drop c.at q) ∙ ap length f in
        (omega arith, omega (arith, past_at (w ∷ ws) 1 c.at c.left n e))
