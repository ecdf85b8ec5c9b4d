-- A well-laid slice taken apart: its header, its used words.
use mathlib.Core.Path.{◌≡◌, refl, sym, ap, ap₂, ◌∙◌}
use mathlib.Core.Bool.{true, and-eq-true_iff}
use mathlib.Core.Option.{none}
use mathlib.Core.List.{List, ◌∷◌, ◌++◌}
use Prim.Native.Nat.{ℕ, suc, ◌+◌, ◌-◌, ◌^◌, ◌≤◌, ◌<◌}
use native.Mathlib.Omega.{arith}
use lib.Dec.{leb}
use lib.ListN.{length, get_or, take, drop, replicate}
use lib.Seq.{drop-cons, take_at}
use borrow.Author.Tests.{leb-true}
use Rattle.tree.specs.Keys.{first_key}
use Rattle.tree.specs.Forest.{Forest, size, encode, layout, find}
use Rattle.tree.specs.Laid.{least_words, most_words, sized, used_of, well_laid, region, row, decode}
use Rattle.tree.specs.Laws.{Stands}
use Rattle.tree.specs.Inner.Cut.{locate}
use Rattle.merging.specs.Inner.Inserting.{Nested}
use Rattle.tree.proofs.Words.{length_encode, header_layout, region_layout, row_whole, rows_whole}
use Rattle.tree.proofs.Grow.{laid_decode}
use Rattle.tree.proofs.RemoveWords.{locate_none}

pub record Parts (T : List ℕ) : Type 0 where
  pub short : length T ≤ most_words
  pub room : used_of (get_or T 0 0) < length T
  pub split : get_or T 0 0 ∷ drop 1 T ≡ T
  pub part : take (used_of (get_or T 0 0) + 1 - 1) (drop 1 T) ≡ region T
  pub many : length (region T) ≡ used_of (get_or T 0 0)
  pub rows : Nested (region T)

-- the words after the header, of the slice of a forest
drop_header : (len : ℕ) (F : Forest) → drop 1 (layout len F) ≡ encode F ++ replicate (len - suc (size F)) 0
unfolding layout
drop_header len F = refl

module _ (T : List ℕ) (s : sized T ≡ true) (w : well_laid T ≡ true) where
  low : length T ≤ most_words
  low = leb-true (length T) most_words ((and-eq-true_iff (leb least_words (length T)) (leb (length T) most_words)).0 s).1

  F : Forest
  F = decode T

  stands : Stands T F
  unfolding F
  stands = laid_decode T (omega (arith, low)) (rw w tt)

  small : size F < 2 ^ 28
  small = omega (arith, low, stands.room)

  Z : List ℕ
  Z = replicate (length T - suc (size F)) 0

  used : used_of (get_or T 0 0) ≡ size F
  used = ap (λ (l : List ℕ). used_of (get_or l 0 0)) stands.words ∙ header_layout (length T) F small

  whole : region T ≡ encode F
  whole = ap region stands.words ∙ region_layout (length T) F small

  tail : drop 1 T ≡ encode F ++ Z
  unfolding Z
  tail = ap (drop 1) stands.words ∙ drop_header (length T) F

  long : length (region T) ≡ size F
  long = ap length whole ∙ length_encode F

  -- where the part of the used words ends
  past : used_of (get_or T 0 0) + 1 - 1 ≡ size F
  past = omega (arith, used)

  pub parts : Parts T
  parts =
      record {
        short = low;
        room = omega (arith, used, stands.room);
        split = sym (drop-cons T 0 0 (omega (arith, stands.room)));
        part = ap₂ take past tail ∙ take_at (encode F) Z (size F) (length_encode F) ∙ sym whole;
        many = long ∙ sym used;
        rows =
            record {
              top = rw (ap₂ (λ (l : List ℕ) (k : ℕ). row l 0 0 k) whole long ∙ row_whole F small stands.formed) tt;
              inside = rw (whole, rows_whole F small stands.formed) tt;
            };
      }

  -- a number that the forest does not have stands nowhere in the used words
  pub number_free : (n : ℕ) → n < first_key → find n (decode T) ≡ none → locate (region T) n 0 0 0 ≡ none
  unfolding F
  number_free n l e = ap (λ (l : List ℕ). locate l n 0 0 0) whole ∙ locate_none n F l stands.formed small e
