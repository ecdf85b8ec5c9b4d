-- The words that keys stand for, written one after another.
use Rattle.std.specs.Prelude.{Err, Ok, Result, ℕ}
use mathlib.Core.Path.{◌≡◌, refl, sym, ap, ◌∙◌}
use mathlib.Core.Logic.{◌≢◌}
use mathlib.Core.Bool.{Bool, true, false, ◌&&◌}
use mathlib.Core.List.{List, [], ◌∷◌, ◌++◌, append-nil}
use Prim.Native.Nat.{ℕ, suc, ◌+◌, ◌/◌, ◌%◌, ◌^◌, ◌≤◌, ◌<◌}
use native.Mathlib.Nat.{zero-add}
use native.Mathlib.Numerals.{add-one}
use native.Mathlib.Omega.{arith}
use lib.ListN.{length, get_or, take, drop, set, length-append}
use lib.Seq.{take_all, take-append_seam, sets, sets-eq}
use borrow.Author.Tests.{lt-ltb}
use Rattle.clause.specs.Lists.{alike}
use Rattle.clause.specs.declared.Fault.{Fault}
use Rattle.clause.specs.Clause.{shape, max_words}
use Rattle.machine.specs.Instr.{Down, Right, Put, Push, Pop, Check, Compare, Instr, First, Do, Success, instr_of}
use Rattle.machine.specs.Compile.{keys}
use Rattle.compiling.specs.Inner.Compiling.{Stored}
use Rattle.machine.specs.Machine.{slots}
use Rattle.compiling.proofs.Stores.{stored_none, stored_snoc}
use Rattle.std.specs.Prelude.{Some, None, Ok, Err}
use Rattle.decompiling.specs.declared.Foreign.{Foreign}
use Rattle.readback.specs.Readback.{variable_word, new_below, instructions, origin, word_of, words_of, put_number, read_off, clause_of}
use Rattle.decompiling.specs.Inner.Reader.{word_in, Small, Modest, Origins, Counts, numbers_by, origin_by, Names, Written}
use Rattle.readback.specs.Saved.{narrow, has_keys, readable}
use Rattle.readback.proofs.Saved.{readable_iff}
use Rattle.readback.proofs.Lists.{new_below_le, new_below_same}
use Rattle.decompiling.proofs.Reader.{readable_modest, words_turn, words_begin, at_key, key_put, key_check, no_word}

-- ---- one key

module _ (os cs : List ℕ) (x : ℕ) where
  pub names_check : x / 2 ^ 32 ≡ 7 → x % 2 ^ 32 < 2 ^ 16 → Names os cs x (Ok (Some (x % 2 ^ 32)))
  unfolding word_of
  names_check e h = (Do (Check (x % 2 ^ 32)), key_check x e, h, refl)

  pub outside_check : {f : Foreign} → x / 2 ^ 32 ≡ 7 → 2 ^ 16 ≤ x % 2 ^ 32 → Names os cs x (Err f)
  outside_check e h = (Do (Check (x % 2 ^ 32)), key_check x e, λ g. omega arith)

  pub outside_put : {f : Foreign} → x / 2 ^ 32 ≡ 4 → slots ≤ x % 2 ^ 32 → Names os cs x (Err f)
  outside_put e h = (Do (Put (x % 2 ^ 32)), key_put x e, λ g. omega (arith, g.0))

  pub outside_origin : {f : Foreign} → x / 2 ^ 32 ≡ 4 → slots ≤ get_or os (x % 2 ^ 32) 0 → Names os cs x (Err f)
  outside_origin e h = (Do (Put (x % 2 ^ 32)), key_put x e, λ g. omega (arith, g.1))

  pub names_put : x / 2 ^ 32 ≡ 4 → x % 2 ^ 32 < slots → get_or os (x % 2 ^ 32) 0 < slots → Names os cs x (Ok (Some (variable_word (get_or cs (get_or os (x % 2 ^ 32) 0) 0))))
  unfolding word_of variable_word
  names_put e h g = (Do (Put (x % 2 ^ 32)), key_put x e, (h, g), refl)

  pub names_none : x / 2 ^ 32 ≢ 7 → x / 2 ^ 32 ≢ 4 → Names os cs x (Ok None)
  names_none m n = λ ν. no_word x n m ν

pub number_low : (os cs : List ℕ) (m : ℕ) → Counts os cs → m < slots → get_or cs m 0 ≤ slots
number_low os cs m C h = omega (arith, C m (omega arith), new_below_le (λ j. get_or os j 0) m)

-- ---- all keys

module _ (p os cs : List ℕ) (O : Origins (instructions p) os) (C : Counts os cs) where
  same_number : (k : ℕ) → k < slots → get_or os k 0 < slots → numbers_by os cs k ≡ put_number (instructions p) k
  same_number k h g =
      C (get_or os k 0) (omega arith) ∙ new_below_same (λ j. get_or os j 0) (origin (instructions p)) (get_or os k 0) (λ j i. O j (omega arith))
      ∙ ap (new_below (origin (instructions p))) (O k h)

  same_word : (i : Instr) → Small (origin_by os) i → word_of (numbers_by os cs) i ≡ word_of (put_number (instructions p)) i
  unfolding word_of
  same_word First h = refl
  same_word (Success n) h = refl
  same_word (Do Down) h = refl
  same_word (Do Right) h = refl
  same_word (Do (Put k)) h = ap (λ n. variable_word n ∷ []) (same_number k h.0 h.1)
  same_word (Do (Push n)) h = refl
  same_word (Do (Pop n)) h = refl
  same_word (Do (Check w)) h = refl
  same_word (Do (Compare m k)) h = refl

  by_table : (i : Instr) → Small (origin (instructions p)) i → Small (origin_by os) i
  by_table First h = tt
  by_table (Success n) h = tt
  by_table (Do Down) h = tt
  by_table (Do Right) h = tt
  by_table (Do (Put k)) h = (h.0, omega (arith, O k h.0, h.1))
  by_table (Do (Push n)) h = tt
  by_table (Do (Pop n)) h = tt
  by_table (Do (Check w)) h = h
  by_table (Do (Compare m k)) h = tt

  -- the words of the first i keys
  abbrev words_to : ℕ → List ℕ
  words_to i = words_of (put_number (instructions p)) (instructions (take i p))

  clause_is : clause_of p ≡ words_of (put_number (instructions p)) (instructions p)
  unfolding clause_of read_off
  clause_is = refl

  module _ (i : ℕ) (h : i < length p) where
    to_word : (w : ℕ) → Names os cs (get_or p i 0) (Ok (Some w)) → words_to (i + 1) ≡ words_to i ++ (w ∷ [])
    to_word w (j, e, s, q) =
        let f : word_in (put_number (instructions p)) (instr_of (get_or p i 0)) ≡ w ∷ [] = rw e (sym (same_word j s) ∙ q) in
        rw add-one (words_turn (put_number (instructions p)) p i h ∙ ap (λ (l : List ℕ). words_to i ++ l) f)

    to_silent : Names os cs (get_or p i 0) (Ok None) → words_to (i + 1) ≡ words_to i
    to_silent n =
        rw add-one (words_turn (put_number (instructions p)) p i h ∙ ap (λ (l : List ℕ). words_to i ++ l) (n (put_number (instructions p))) ∙ append-nil (words_to i))

    module _ (before now : List ℕ) (count : ℕ) (S : Stored (words_to i) before 0 now count) where
      store_word : (w : ℕ) → Names os cs (get_or p i 0) (Ok (Some w)) → Stored (words_to (i + 1)) before 0 (set now count w) (count + 1)
      store_word w n = rw (to_word w n) (stored_snoc w S)

      store_none : Names os cs (get_or p i 0) (Ok None) → Stored (words_to (i + 1)) before 0 now count
      store_none n = rw (to_silent n) S

      -- no room for a 65th word
      too_many : (w : ℕ) → Names os cs (get_or p i 0) (Ok (Some w)) → max_words ≤ count → Modest p → ⊥
      too_many w n l M =
          let e : length (words_to (i + 1)) ≡ length (words_to i) + 1 = ap length (to_word w n) ∙ length-append (words_to i) (w ∷ []) in
          omega (arith, S.end_is, words_begin (put_number (instructions p)) p (i + 1), M.few_words, ap length clause_is)

    too_big : {f : Foreign} → Names os cs (get_or p i 0) (Err f) → Modest p → ⊥
    too_big (j, e, n) M = n (by_table j (at_key p M.small i h j e))

  all_stored : (before now : List ℕ) (count i : ℕ) → length p ≤ i → count ≤ max_words → max_words ≤ length before → Stored (words_to i) before 0 now count
      → Written p before (Ok count) now
  all_stored before now count i h few room S =
      let e : words_to i ≡ clause_of p = ap (λ (l : List ℕ). words_of (put_number (instructions p)) (instructions l)) (take_all i p h) ∙ sym clause_is in
      let n : count ≡ length (clause_of p) = omega (arith, S.end_is, ap length e) in
      (n, few, rw n (S.after_is ∙ ap (λ (l : List ℕ). sets before 0 l) e ∙ sets-eq (clause_of p) before 0 (omega arith) ∙ rw zero-add))

-- ---- turn by turn

-- the words of the first i keys are written over the lent words, with the two tables of the keys
pub record Writing (p os cs before now : List ℕ) (count i : ℕ) : Type 0 where
  pub origins : Origins (instructions p) os
  pub counts : Counts os cs
  pub inside : i ≤ length p
  pub few : count ≤ max_words
  pub room : max_words ≤ length before
  pub stored : Stored (words_of (put_number (instructions p)) (instructions (take i p))) before 0 now count

pub writing_first : (p os cs before : List ℕ) → Origins (instructions p) os → Counts os cs → max_words ≤ length before → Writing p os cs before before 0 0
unfolding instructions words_of
writing_first p os cs before O C h = record { origins = O; counts = C; inside = omega arith; few = omega arith; room = h; stored = stored_none before 0 }

module _ {p os cs before now : List ℕ} {count i : ℕ} (w : Writing p os cs before now count i) where
  pub writing_end : length p ≤ i → Written p before (Ok count) now
  writing_end h = all_stored p os cs w.origins w.counts before now count i h w.few w.room w.stored

  module _ (h : i < length p) where
    pub writing_word : (x : ℕ) → Names os cs (get_or p i 0) (Ok (Some x)) → count < max_words → Writing p os cs before (set now count x) (count + 1) (i + 1)
    writing_word x n l =
        record {
          origins = w.origins;
          counts = w.counts;
          inside = omega arith;
          few = omega arith;
          room = w.room;
          stored = store_word p os cs w.origins w.counts i h before now count w.stored x n;
        }

    pub writing_silent : Names os cs (get_or p i 0) (Ok None) → Writing p os cs before now count (i + 1)
    writing_silent n =
        record {
          origins = w.origins;
          counts = w.counts;
          inside = omega arith;
          few = w.few;
          room = w.room;
          stored = store_none p os cs w.origins w.counts i h before now count w.stored n;
        }

    -- no clause has one word more, nor what stands for no word of a clause
    pub writing_many : (x : ℕ) → Names os cs (get_or p i 0) (Ok (Some x)) → max_words ≤ count → Modest p → ⊥
    writing_many x n l = too_many p os cs w.origins w.counts i h before now count w.stored x n l

    pub writing_outside : {f : Foreign} → Names os cs (get_or p i 0) (Err f) → Modest p → ⊥
    writing_outside n = too_big p os cs w.origins w.counts i h n

-- ---- the test

-- keys that are not modest are not readable
pub unreadable : (p : List ℕ) → (Modest p → ⊥) → readable p ≡ false
unreadable p h = go (readable p) refl
  where
    go : (b : Bool) → readable p ≡ b → b ≡ false
    go true e = absurd (h (readable_modest p ((readable_iff p).0 e)))
    go false e = refl

module _ (p out before : List ℕ) (n : ℕ) (W : Written p before (Ok n) out) where
  written_words : take n out ≡ clause_of p
  written_words = ap (λ (l : List ℕ). take n l) W.2 ∙ ap (λ k. take k (clause_of p ++ drop n before)) W.0 ∙ take-append_seam (clause_of p) (drop n before)

  -- the clause decides
  pub written_test : has_keys (take n out) p ≡ readable p
  unfolding readable
  written_test = rw written_words

-- words of 16 bits
narrow_given : (l : List ℕ) → ((i : ℕ) → get_or l i 0 < 2 ^ 16) → narrow l ≡ true
narrow_given [] h = refl
narrow_given (x ∷ l) h = rw (lt-ltb x (2 ^ 16) (h 0)) (narrow_given l (λ i. h (suc i)))

module _ (c p : List ℕ) where
  pub keys_faulty : (s : Result ℕ Fault) (f : Fault) → s ≡ shape c → s ≡ Err f → false ≡ has_keys c p
  unfolding has_keys
  keys_faulty s f e g = rw (← e, g) (go (narrow c))
    where
      go : (b : Bool) → false ≡ (b && (false && alike (keys c) p))
      go true = refl
      go false = refl

  pub keys_whole : (s : Result ℕ Fault) (q : ℕ) → s ≡ shape c → s ≡ Ok q → ((i : ℕ) → get_or c i 0 < 2 ^ 16) → alike (keys c) p ≡ has_keys c p
  unfolding has_keys
  keys_whole s q e g h = rw (← e, g, narrow_given c h)
