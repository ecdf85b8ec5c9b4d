-- How long the sequence of a clause can be.
use mathlib.Core.Path.{◌≡◌, refl, sym, ◌∙◌}
use mathlib.Core.Logic.{◌≢◌}
use mathlib.Core.Bool.{Bool, true, false, cond}
use mathlib.Core.List.{List, [], ◌∷◌, ◌++◌, flat_map, append_assoc, append-nil}
use Prim.Native.Nat.{ℕ, zero, suc, ◌+◌, ◌-◌, ◌*◌, ◌≤◌, ◌<◌}
use native.Mathlib.Omega.{arith}
use native.Mathlib.Decide.{ℕ_discrete, dec_le}
use lib.ListN.{length, get_or, length-append, length-map}
use Rattle.clause.specs.Word.{arity}
use Rattle.machine.specs.Instr.{Step, Compare}
use Rattle.machine.specs.Compiled.{max_keys}
use Rattle.machine.specs.Compile.{Saved, Place, ended, inside, way, way_from, first, repeats, compares, opening, begun, closing, puts_after}
use Rattle.machine.specs.Compile.{sequence_from, sequence}
use Rattle.clause.proofs.Literals.{Clause}
use Rattle.machine.proofs.Compares.{repeats_true}
use Rattle.machine.proofs.Codes.{length_puts}
use Rattle.clause.specs.Lists.{numbers_below}

-- one number more
pub flat_map_numbers_below : {A : Type 0} (f : ℕ → List A) (n : ℕ) → flat_map f (numbers_below (suc n)) ≡ flat_map f (numbers_below n) ++ f n
unfolding numbers_below flat_map
flat_map_numbers_below f n = go (numbers_below n)
  where
    go : (l : List ℕ) → flat_map f (l ++ (n ∷ [])) ≡ flat_map f l ++ f n
    go [] = append-nil (f n)
    go (x ∷ l) = rw (go l) (sym (append_assoc (f x) (flat_map f l) (f n)))

module _ (puts : List ℕ) (from : ℕ) where
  -- the Compares of the first M puts with the first N
  abbrev one : ℕ → ℕ → List Step
  one m k = cond (repeats puts from m k) (Compare m k ∷ []) []

  abbrev row : ℕ → ℕ → List Step
  row N m = flat_map (one m) (numbers_below N)

  abbrev table : ℕ → ℕ → List Step
  table M N = flat_map (row N) (numbers_below M)

  -- one more column
  column : ℕ → ℕ → ℕ
  column zero k = 0
  column (suc m) k = column m k + length (one m k)

  table_suc : (M N : ℕ) → length (table M (suc N)) ≡ length (table M N) + column M N
  unfolding column numbers_below flat_map
  table_suc zero N = refl
  table_suc (suc M) N =
      rw (flat_map_numbers_below (row (suc N)) M, flat_map_numbers_below (row N) M, flat_map_numbers_below (one M) N)
      (simp length-append (omega (arith, table_suc M N)))

  -- a put has one first put, and only those of this literal count
  column_none : (M k : ℕ) → ((m : ℕ) → m < M → repeats puts from m k ≡ false) → column M k ≡ 0
  unfolding column
  column_none zero k h = refl
  column_none (suc M) k h = rw (h M (omega arith)) (omega (arith, column_none M k (λ m l. h m (omega arith))))

  other_false : (m k : ℕ) → (first (get_or puts k 0) puts ≢ m) → repeats puts from m k ≡ false
  other_false m k n = go (repeats puts from m k) refl
    where
      go : (t : Bool) → repeats puts from m k ≡ t → repeats puts from m k ≡ false
      go true e = absurd (n (repeats_true puts from m k e).2)
      go false e = e

  early_false : (m k : ℕ) → k < from → repeats puts from m k ≡ false
  early_false m k h = go (repeats puts from m k) refl
    where
      go : (t : Bool) → repeats puts from m k ≡ t → repeats puts from m k ≡ false
      go true e = absurd (omega (arith, (repeats_true puts from m k e).0))
      go false e = e

  one_le : (m k : ℕ) → length (one m k) ≤ 1
  one_le m k = go (repeats puts from m k)
    where
      go : (t : Bool) → length (cond t (Compare m k ∷ []) []) ≤ 1
      go true = omega arith
      go false = omega arith

  column_le : (M k : ℕ) → column M k ≤ 1
  unfolding column
  column_le zero k = omega arith
  column_le (suc M) k = go (ℕ_discrete (first (get_or puts k 0) puts) M) (column_le M k)
    where
      go : Dec (first (get_or puts k 0) puts ≡ M) → column M k ≤ 1 → column M k + length (one M k) ≤ 1
      go (yes e) ih = omega (arith, one_le M k, column_none M k (λ m l. other_false m k (omega arith)))
      go (no n) ih = rw (other_false M k n) (omega arith)

  table_none : (M : ℕ) → table M 0 ≡ []
  unfolding numbers_below flat_map
  table_none zero = refl
  table_none (suc M) = flat_map_numbers_below (row 0) M ∙ rw (table_none M)

  table_le : (M N : ℕ) → length (table M N) ≤ N - from
  table_le M zero = rw (table_none M) (omega arith)
  table_le M (suc N) = go (dec_le from N) (table_le M N)
    where
      go : Dec (from ≤ N) → length (table M N) ≤ N - from → length (table M (suc N)) ≤ suc N - from
      go (yes l) ih = omega (arith, table_suc M N, column_le M N)
      go (no l) ih = omega (arith, table_suc M N, column_none M N (λ m i. early_false m N (omega arith)))

  -- no more Compares than puts in the literal
  pub compares_length : length (compares puts from) ≤ length puts - from
  unfolding compares
  compares_length = table_le (length puts) (length puts)

-- the puts of a literal so far
abbrev own : Place → (puts : List ℕ) (from : ℕ) → ℕ
own ended puts from = 0
own (inside l saved) puts from = length puts - from

steps_length : (place : Place) (a n : ℕ) → length (way_from place a n).steps ≤ 2
unfolding way_from way
steps_length ended zero n = omega arith
steps_length ended (suc a) n = omega arith
steps_length (inside l saved) a n = go a l saved
  where
    go : (a l : ℕ) (saved : List Saved) → length (way a l saved n).steps ≤ 2
    go (suc a) (suc l) saved = omega arith
    go (suc a) zero saved = omega arith
    go zero (suc l) saved = omega arith
    go zero zero [] = omega arith
    go zero zero (v ∷ saved) = omega arith

opening_length : (place : Place) → length (opening place) ≤ 1
unfolding opening
opening_length ended = omega arith
opening_length (inside l saved) = omega arith

-- what the end of a literal takes, and what is left for later
closing_length : (place : Place) (puts : List ℕ) (from : ℕ) → length (closing place puts from) + own place puts from ≤ length puts - from
unfolding closing
closing_length ended puts from = omega (arith, compares_length puts from)
closing_length (inside l saved) puts from = omega arith

begun_length : (place : Place) (puts : List ℕ) (from w : ℕ) → length (puts_after puts w) - begun place puts from ≤ suc (own place puts from)
unfolding begun
begun_length ended puts from w = omega (arith, length_puts puts w)
begun_length (inside l saved) puts from w = omega (arith, length_puts puts w)

from_length : (ws : List ℕ) (place : Place) (puts : List ℕ) (from n : ℕ)
    → length (sequence_from ws place puts from n) ≤ 5 * length ws + own place puts from
unfolding sequence_from
from_length [] place puts from n = omega arith
from_length (w ∷ ws) place puts from n =
    let t = way_from place (arity w) n in
    let puts' = puts_after puts w in
    let from' = begun place puts from in
    simp (length-append, length-map)
    (omega (
      arith,
      opening_length place,
      steps_length place (arity w) n,
      closing_length t.place puts' from',
      begun_length place puts from w,
      from_length ws t.place puts' from' t.pushed,
    ))

-- at most 5 instructions for each word, the Success left out
pub sequence_few : (c : List ℕ) → length (sequence c) ≤ 5 * length c
unfolding sequence
sequence_few c = omega (arith, from_length c ended [] 0 0)

-- at most max_keys instructions for a clause
pub sequence_length : (c : List ℕ) → Clause c → length (sequence c) ≤ max_keys
sequence_length c C = omega (arith, sequence_few c, C.fits)
