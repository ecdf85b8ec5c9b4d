-- Reading a clause: at a literal's start, down to its arguments, past each of them and right to the next one.
use mathlib.Core.Path.{◌≡◌, refl, sym, ◌∙◌}
use mathlib.Core.Bool.{Bool, true, false}
use mathlib.Core.List.{List, [], ◌∷◌}
use Prim.Native.Nat.{ℕ, zero, suc, ◌+◌, ◌≤◌, ◌<◌}
use native.Mathlib.Numerals.{add-one}
use native.Mathlib.Omega.{arith}
use lib.Dec.{eqb}
use lib.ListN.{length, get_or, drop, drop_of_length-le}
use lib.Seq.{drop-cons}
use borrow.Author.Tests.{lt-ltb, le-ltb, eqb-true}
use Rattle.clause.specs.Word.{arity, Sort, symbol, variable, head, wrong, sort, is_head}
use Rattle.clause.specs.Clause.{max_words, max_literals, scan_word, scan, shape}
use Rattle.std.proofs.Common.{◌⊎◌, inl, inr}
use Rattle.std.specs.Prelude.{Option, None, Some, Ok, Err, Result, ℕ}
use Rattle.reading.specs.Inner.Cursor.{head_cursor, first_term, go_down, go_right, go_past}
use Rattle.reading.specs.declared.Cursor.{Cursor}
use Rattle.clause.specs.declared.Fault.TheVariants.{BadLength, Bad, Ninth}
use Rattle.reading.proofs.Past.{scan_past}
use Rattle.clause.specs.declared.Fault.{Fault}

-- the reading from a position on, where an argument with its right siblings or, with none, a literal is to come
abbrev pub read_on : List ℕ → (at lits : ℕ) → Option Cursor → Result ℕ Fault
read_on q at lits None = scan (drop at q) 0 lits at
read_on q at lits (Some c) = scan (drop c.at q) (suc c.left) lits c.at

-- some terms to come, the first of which stands there
read_first : (q : List ℕ) (at lits n : ℕ) → read_on q at lits (first_term n at) ≡ scan (drop at q) n lits at
read_first q at lits zero = refl
read_first q at lits (suc k) = refl

pub first_at : (n at : ℕ) (c : Cursor) → first_term n at ≡ Some c → c.at ≡ at
first_at zero at c e = cc
first_at (suc k) at c e = let z : record { at = at; left = k } ≡ c = cc in rw (← z)

-- past an argument, and right
module _ (q : List ℕ) (c : Cursor) (lits : ℕ) where
  pub read_off : (p : ℕ) → go_past q c ≡ Err p → read_on q c.at lits (Some c) ≡ Err (Bad p)
  read_off p e = scan_past q c lits ∙ rw e

  pub read_right : (n : Cursor) → go_past q c ≡ Ok n → read_on q c.at lits (Some c) ≡ read_on q n.at lits (go_right n.at c)
  read_right n e = scan_past q c lits ∙ rw e (sym (read_first q n.at lits c.left))

module _ (q : List ℕ) (at : ℕ) where
  module _ (lits : ℕ) where
    -- the end
    pub scan_none : length q ≤ at → scan (drop at q) 0 lits at ≡ Ok lits
    unfolding scan
    scan_none h = rw (drop_of_length-le q h)

    module _ (inside : at < length q) where
      scan_here : scan (drop at q) 0 lits at ≡ scan_word (sort (get_or q at 0)) (arity (get_or q at 0)) 0 lits at (scan (drop (suc at) q))
      unfolding scan
      scan_here = rw (drop-cons q at 0)

      -- no head
      pub scan_other : is_head (sort (get_or q at 0)) ≡ false → scan (drop at q) 0 lits at ≡ Err (Bad at)
      unfolding scan_word
      scan_other e = scan_here ∙ go (sort (get_or q at 0)) e
        where
          go : (s : Sort) → is_head s ≡ false → scan_word s (arity (get_or q at 0)) 0 lits at (scan (drop (suc at) q)) ≡ Err (Bad at)
          go symbol e = refl
          go variable e = refl
          go head e = cc
          go wrong e = refl

      module _ (top : is_head (sort (get_or q at 0)) ≡ true) where
        is_head_lem : sort (get_or q at 0) ≡ head
        is_head_lem = go (sort (get_or q at 0)) top
          where
            go : (s : Sort) → is_head s ≡ true → s ≡ head
            go symbol e = cc
            go variable e = cc
            go head e = refl
            go wrong e = cc

        -- a head after 8 literals
        pub scan_ninth : max_literals ≤ lits → scan (drop at q) 0 lits at ≡ Err (Ninth at)
        unfolding scan_word
        scan_ninth h = scan_here ∙ rw (is_head_lem, le-ltb lits max_literals h)

        -- another head, and down
        pub scan_down : lits < max_literals → scan (drop at q) 0 lits at ≡ read_on q (at + 1) (lits + 1) (go_down q (head_cursor at))
        unfolding scan_word
        scan_down h =
            scan_here ∙ rw (is_head_lem, lt-ltb lits max_literals h, add-one, add-one) (sym (read_first q (suc at) (suc lits) (arity (get_or q at 0))))

-- ---- the length

shape_empty : (q : List ℕ) → length q ≡ 0 → shape q ≡ Err BadLength
unfolding shape
shape_empty [] h = refl
shape_empty (w ∷ ws) h = absurd (omega arith)

shape_long : (q : List ℕ) → max_words < length q → shape q ≡ Err BadLength
unfolding shape
shape_long [] h = absurd (omega arith)
shape_long (w ∷ ws) h = rw (lt-ltb max_words (length (w ∷ ws)) h)

-- no words, or too many, by the test for none
pub shape_length : (q : List ℕ) {e : Bool} → e ≡ eqb (length q) 0 → (e ≡ true) ⊎ ((e ≡ false) × (max_words < length q)) → shape q ≡ Err BadLength
shape_length q t (inl h) = shape_empty q (eqb-true (length q) 0 (sym t ∙ h))
shape_length q t (inr (h, g)) = shape_long q g

pub shape_scan : (q : List ℕ) → false ≡ eqb (length q) 0 → length q ≤ max_words → shape q ≡ scan q 0 0 0
unfolding shape
shape_scan [] n h = cc
shape_scan (w ∷ ws) n h = rw (le-ltb max_words (length (w ∷ ws)) h)
