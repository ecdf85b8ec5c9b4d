-- The calls that words stand for, read one after another.
use mathlib.Core.Path.{◌≡◌, refl, sym, ap, ◌∙◌}
use mathlib.Core.List.{List, [], ◌∷◌, ◌++◌}
use Prim.Native.Nat.{ℕ, zero, suc, ◌-◌, ◌/◌, ◌%◌, ◌^◌, ◌≤◌, ◌<◌, min}
use native.Mathlib.Nat.{le_refl}
use native.Mathlib.Decide.{dec_le}
use native.Mathlib.Omega.{arith}
use lib.ListN.{length, get_or, take, drop, length-drop, length-append, drop_of_length-le}
use lib.Seq.{take_all, take-append_seam, drop-append_seam}
use Rattle.clause.specs.Lists.{All, none, also}
use Rattle.clause.specs.Word.{Words}
use Rattle.clause.proofs.Lists.{all_append}
use Rattle.book.specs.Book.{Call, insert, remove, AllFit, after}
use Rattle.book.specs.Encoding.{whole, calls_within, calls_of, Short, HasWords, Ran}

-- more fuel than words makes no difference
pub calls_fuel : (f g : ℕ) (ws : List ℕ) → length ws ≤ f → length ws ≤ g → calls_within f ws ≡ calls_within g ws
unfolding calls_within
calls_fuel zero zero ws h i = refl
calls_fuel zero (suc g) [] h i = refl
calls_fuel zero (suc g) (k ∷ ws) h i = absurd (omega arith)
calls_fuel (suc f) zero [] h i = refl
calls_fuel (suc f) zero (k ∷ ws) h i = absurd (omega arith)
calls_fuel (suc f) (suc g) [] h i = refl
calls_fuel (suc f) (suc g) (k ∷ []) h i = refl
calls_fuel (suc f) (suc g) (k ∷ u ∷ []) h i = refl
calls_fuel (suc f) (suc g) (zero ∷ u ∷ l ∷ ws) h i = ap (λ xs. remove (whole u l) ∷ xs) (calls_fuel f g ws (omega arith) (omega arith))
calls_fuel (suc f) (suc g) (suc n ∷ u ∷ l ∷ ws) h i =
    ap (λ xs. insert (take n ws) (whole u l) ∷ xs) (calls_fuel f g (drop n ws) (simp length-drop (omega arith)) (simp length-drop (omega arith)))

-- fewer than three words are no call
pub calls_short : (f : ℕ) (ws : List ℕ) → length ws < 3 → calls_within f ws ≡ []
unfolding calls_within
calls_short zero ws h = refl
calls_short (suc f) [] h = refl
calls_short (suc f) (k ∷ []) h = refl
calls_short (suc f) (k ∷ u ∷ []) h = refl
calls_short (suc f) (k ∷ u ∷ l ∷ ws) h = absurd (omega arith)

-- no further than the words go
pub drop_min : (k : ℕ) (ws : List ℕ) → drop (min (length ws) k) ws ≡ drop k ws
drop_min k ws = go (dec_le k (length ws))
  where
    go : Dec (k ≤ length ws) → drop (min (length ws) k) ws ≡ drop k ws
    go (yes h) = let e : min (length ws) k ≡ k = omega arith in rw e
    go (no h) =
        let e : min (length ws) k ≡ length ws = omega arith in
        let f : length ws ≤ k = omega arith in
        rw e (drop_of_length-le ws (le_refl (length ws)) ∙ sym (drop_of_length-le ws f))

pub take_min : (k : ℕ) (ws : List ℕ) → take (min (length ws) k) ws ≡ take k ws
take_min k ws = go (dec_le k (length ws))
  where
    go : Dec (k ≤ length ws) → take (min (length ws) k) ws ≡ take k ws
    go (yes h) = let e : min (length ws) k ≡ k = omega arith in rw e
    go (no h) = take_all (min (length ws) k) ws (omega arith) ∙ sym (take_all k ws (omega arith))

-- the first three words, and what follows them
pub three_first : (ws : List ℕ) → 3 ≤ length ws → get_or ws 0 0 ∷ get_or ws 1 0 ∷ get_or ws 2 0 ∷ take (length ws - 3) (drop 3 ws) ≡ ws
three_first [] h = absurd (omega arith)
three_first (k ∷ []) h = absurd (omega arith)
three_first (k ∷ u ∷ []) h = absurd (omega arith)
three_first (k ∷ u ∷ l ∷ ws) h = ap (λ xs. k ∷ u ∷ l ∷ xs) (take_all (length (k ∷ u ∷ l ∷ ws) - 3) ws (omega arith))

-- the first three words of a removal, and of an insertion
pub step_remove : (f h l : ℕ) (ws : List ℕ) → calls_within (suc f) (0 ∷ h ∷ l ∷ ws) ≡ remove (whole h l) ∷ calls_within f ws
unfolding calls_within
step_remove f h l ws = refl

pub step_insert : (f n h l : ℕ) (ws : List ℕ) → calls_within (suc f) (suc n ∷ h ∷ l ∷ ws) ≡ insert (take n ws) (whole h l) ∷ calls_within f (drop n ws)
unfolding calls_within
step_insert f n h l ws = refl

module _ {T U words rest : List ℕ} (R : Ran T words rest U) where
  -- one call, and those after it
  pub ran_calls : calls_of words ≡ R.first ∷ calls_of rest
  ran_calls =
      let e : length words ≡ suc (length words - 1) = omega (arith, R.shorter) in
      ap (λ n. calls_within n words) e ∙ R.reads (length words - 1)
      ∙ ap (λ xs. R.first ∷ xs) (calls_fuel _ _ rest (omega (arith, R.shorter)) (omega arith))

  pub ran_after : after T (calls_of words) ≡ after U (calls_of rest)
  ran_after = rw (ran_calls, R.slice)

  -- where the calls after it fit, all do
  pub ran_fit : AllFit (calls_of rest) → AllFit (calls_of words)
  ran_fit f = rw ran_calls (R.fit, f)

-- ---- the words of a list

words_of : List Call → List ℕ
words_of [] = []
words_of (insert c n ∷ xs) = suc (length c) ∷ n / 2 ^ 16 ∷ n % 2 ^ 16 ∷ (c ++ words_of xs)
words_of (remove n ∷ xs) = 0 ∷ n / 2 ^ 16 ∷ n % 2 ^ 16 ∷ words_of xs

whole_halves : (n : ℕ) → whole (n / 2 ^ 16) (n % 2 ^ 16) ≡ n
whole_halves n = omega arith

-- a call's first three words
three_fit : (k n : ℕ) {ws : List ℕ} → k < 2 ^ 16 → n < 2 ^ 32 → Words ws → Words (k ∷ n / 2 ^ 16 ∷ n % 2 ^ 16 ∷ ws)
three_fit k n h l w =
    let u : n / 2 ^ 16 < 2 ^ 16 = omega arith in
    let v : n % 2 ^ 16 < 2 ^ 16 = omega arith in
    also h (also u (also v w))

words_fit : (xs : List Call) → AllFit xs → All Short xs → Words (words_of xs)
unfolding words_of
words_fit [] fit none = none
words_fit (insert c n ∷ xs) fit (also h s) = three_fit (suc (length c)) n (omega (arith, h)) fit.0.1 (all_append fit.0.0 (words_fit xs fit.1 s))
words_fit (remove n ∷ xs) fit (also h s) = three_fit 0 n (omega arith) fit.0 (words_fit xs fit.1 s)

words_calls : (xs : List Call) → calls_of (words_of xs) ≡ xs
unfolding words_of
words_calls [] = calls_short 0 [] (omega arith)
words_calls (insert c n ∷ xs) =
    let ws : List ℕ = words_of xs in
    let fuel : ℕ = suc (suc (length (c ++ ws))) in
    let more : length ws ≤ fuel = simp length-append (omega arith) in
    step_insert fuel (length c) (n / 2 ^ 16) (n % 2 ^ 16) (c ++ ws)
    ∙ rw (whole_halves n, take-append_seam c ws, drop-append_seam c ws) (ap (insert c n ∷◌) (calls_fuel fuel (length ws) ws more (omega arith) ∙ words_calls xs))
words_calls (remove n ∷ xs) =
    let ws : List ℕ = words_of xs in
    step_remove (suc (suc (length ws))) (n / 2 ^ 16) (n % 2 ^ 16) ws
    ∙ rw (whole_halves n) (ap (remove n ∷◌) (calls_fuel (suc (suc (length ws))) (length ws) ws (omega arith) (omega arith) ∙ words_calls xs))

pub has_words : HasWords
has_words xs fit s = (words_of xs, words_fit xs fit s, words_calls xs)
