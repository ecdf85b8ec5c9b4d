-- The records of an input: all that are complete, with words of 16 bits.
use mathlib.Core.Path.{◌≡◌, refl, sym, ap, ◌∙◌}
use mathlib.Core.Bool.{Bool, true, false}
use mathlib.Core.List.{List, [], ◌∷◌, ◌++◌, append_assoc}
use Prim.Native.Nat.{ℕ, zero, suc, ◌+◌, ◌*◌, ◌≤◌, ◌<◌}
use native.Mathlib.Omega.{arith}
use lib.ListN.{length, take, drop, length-append, length-drop, take-append-drop}
use lib.Seq.{length-take-le}
use borrow.Author.Tests.{leb-true, leb-false}
use Rattle.clause.specs.Lists.{All, none, also}
use Rattle.clause.specs.Word.{Words}
use Rattle.book.specs.Book.{insert, Fit}
use Rattle.record.specs.Answer.{Record}
use Rattle.record.specs.Marks.{number_count}
use Rattle.record.specs.Output.{fields, all_there, records_for, records_of}
use Rattle.record.specs.Sheet.{Bytes, fields_of, all_fields, Complete}
use Rattle.clause.proofs.Lists.{all_take, all-weaken}

-- ---- all that are complete

-- too few fields for a record
short : (x : Record) (ys fs : List ℕ) → length fs < 2 → fs ≡ fields_of x ++ ys → ⊥
short x ys fs h e = omega (arith, ap length e)

-- a record whose words are not all there
missing : (n count : ℕ) (ws : List ℕ) → length ws < count → (x : Record) (ys : List ℕ) → n ∷ count ∷ ws ≡ fields_of x ++ ys → ⊥
missing n count ws h x ys e =
    let c : count ≡ length x.words = cc in
    let w : ws ≡ x.words ++ ys = cc in
    omega (arith, ap length w, length-append x.words ys)

-- a whole record, and then the others
whole_first : (n count : ℕ) (ws : List ℕ) (xs : List Record) → count ≤ length ws → Complete xs (drop count ws)
    → Complete (record { number = n; words = take count ws } ∷ xs) (n ∷ count ∷ ws)
whole_first n count ws xs h c =
    let l : length (take count ws) ≡ count = length-take-le count ws h in
    let split =
    sym (take-append-drop count ws) ∙ ap (λ (t : List ℕ). take count ws ++ t) c.whole
    ∙ sym (append_assoc (take count ws) (all_fields xs) c.rest) in
    record {
      rest = c.rest;
      whole = rw l (ap (λ (t : List ℕ). n ∷ count ∷ t) split);
      cut = c.cut;
    }

complete_from : (f : ℕ) (fs : List ℕ) → length fs ≤ f → Complete (records_for f fs) fs
unfolding records_for
complete_from zero [] h = record { rest = []; whole = refl; cut = λ x ys e. short x ys [] (omega arith) e }
complete_from zero (n ∷ fs) h = absurd (omega arith)
complete_from (suc f) [] h = record { rest = []; whole = refl; cut = λ x ys e. short x ys [] (omega arith) e }
complete_from (suc f) (n ∷ []) h = record { rest = n ∷ []; whole = refl; cut = λ x ys e. short x ys (n ∷ []) (omega arith) e }
complete_from (suc f) (n ∷ count ∷ ws) h = go (all_there count ws) refl (complete_from f (drop count ws) (simp length-drop (omega arith)))
  where
    go : (b : Bool) → all_there count ws ≡ b → Complete (records_for f (drop count ws)) (drop count ws)
        → Complete (elim b as (λ y. List Record) [ true ↦ record { number = n; words = take count ws } ∷ records_for f (drop count ws) | false ↦ [] ]) (n ∷ count ∷ ws)
    go true e c = whole_first n count ws (records_for f (drop count ws)) (leb-true count (length ws) e) c
    go false e c = record { rest = n ∷ count ∷ ws; whole = refl; cut = missing n count ws (leb-false count (length ws) e) }

pub complete : (input : List ℕ) → Complete (records_of input) (fields input)
unfolding records_of
complete input = complete_from (length (fields input)) (fields input) (omega arith)

-- ---- numbers and words of 16 bits

-- a record's number and words have 16 bits
abbrev pub Narrow : Record → Type 0
Narrow x = (x.number < number_count) × Words x.words

-- so that its insertion fits
abbrev pub FitRecord : Record → Type 0
FitRecord x = Fit (insert x.words x.number)

fields_fit : (bs : List ℕ) → Bytes bs → Words (fields bs)
fields_fit [] h = none
fields_fit (a ∷ []) h = none
fields_fit (a ∷ b ∷ bs) (also p (also q r)) = also {x = a * 256 + b} (omega arith) (fields_fit bs r)

words_drop : (n : ℕ) (ws : List ℕ) → Words ws → Words (drop n ws)
words_drop zero ws h = h
words_drop (suc n) [] h = none
words_drop (suc n) (w ∷ ws) (also p h) = words_drop n ws h

records_narrow : (f : ℕ) (fs : List ℕ) → Words fs → All Narrow (records_for f fs)
unfolding records_for
records_narrow zero fs h = none
records_narrow (suc f) [] h = none
records_narrow (suc f) (n ∷ []) h = none
records_narrow (suc f) (n ∷ count ∷ ws) (also p (also q r)) = go (all_there count ws) (records_narrow f (drop count ws) (words_drop count ws r))
  where
    go : (b : Bool) → All Narrow (records_for f (drop count ws))
        → All Narrow (elim b as (λ y. List Record) [ true ↦ record { number = n; words = take count ws } ∷ records_for f (drop count ws) | false ↦ [] ])
    go true ih = also {x = record { number = n; words = take count ws }} (p, all_take count r) ih
    go false ih = none

pub input_narrow : (input : List ℕ) → Bytes input → All Narrow (records_of input)
unfolding records_of
input_narrow input h = records_narrow (length (fields input)) (fields input) (fields_fit input h)

pub input_fits : (input : List ℕ) → Bytes input → All FitRecord (records_of input)
input_fits input h = all-weaken (λ x n. (n.1, omega (arith, n.0))) (input_narrow input h)

-- ---- how many they are

fields_few : (bs : List ℕ) → length (fields bs) ≤ length bs
fields_few [] = omega arith
fields_few (a ∷ []) = omega arith
fields_few (a ∷ b ∷ bs) = omega (arith, fields_few bs)

records_fewer : (xs : List Record) → length xs ≤ length (all_fields xs)
records_fewer [] = omega arith
records_fewer (x ∷ xs) = omega (arith, records_fewer xs, length-append x.words (all_fields xs))

-- at most as many as bytes
pub records_few : (input : List ℕ) → length (records_of input) ≤ length input
records_few input =
    let c = complete input in
    omega (arith, fields_few input, records_fewer (records_of input), ap length c.whole, length-append (all_fields (records_of input)) c.rest)
