-- Reading off keys one by one; and keys that no clause can have.
use mathlib.Core.Path.{◌≡◌, refl, sym, ap, ◌∙◌}
use mathlib.Core.Logic.{◌≢◌}
use mathlib.Core.Option.{Option, none, some}
use mathlib.Core.List.{List, [], ◌∷◌, ◌++◌, append_assoc, append-nil}
use Prim.Native.Nat.{ℕ, zero, suc, ◌/◌, ◌%◌, ◌^◌, ◌≤◌, ◌<◌}
use native.Mathlib.Omega.{arith}
use lib.ListN.{length, get_or, take, drop, length-append}
use Rattle.clause.specs.Lists.{All}
use Rattle.clause.specs.Word.{Words}
use Rattle.clause.specs.Clause.{vars}
use Rattle.clause.proofs.Lists.{all_head, all_tail, all-weaken}
use Rattle.clause.proofs.Literals.{Clause, accepted}
use Rattle.machine.specs.Instr.{Down, Right, Put, Push, Pop, Check, Compare, Instr, First, Do, Success, instruction, instr_of}
use Rattle.machine.specs.Compile.{ended, sequence}
use Rattle.machine.proofs.Replace.{length_vars}
use Rattle.machine.proofs.Codes.{sequence_plain}
use Rattle.machine.proofs.Compares.{first_le}
use Rattle.readback.specs.Readback.{instructions, compared_by, origin, word_of, words_of, clause_of}
use Rattle.readback.specs.Laws.{Readable}
use Rattle.decompiling.specs.Inner.Reader.{compared_in, word_in, Small, Modest}
use Rattle.readback.proofs.Read.{instructions_keys}
use Rattle.readback.proofs.Origin.{Of, all_of, origin_first}

-- ---- a path that a clause has is modest

-- a word of 16 bits
abbrev Narrow : ℕ → Type 0
Narrow w = w < 2 ^ 16

module _ (c : List ℕ) (C : Clause c) where
  of_small : (i : Instr) → Of Narrow (vars c) i → Small (origin (sequence c)) i
  of_small First h = tt
  of_small (Success n) h = tt
  of_small (Do Down) h = tt
  of_small (Do Right) h = tt
  of_small (Do (Put k)) h = (omega (arith, length_vars c, C.fits), omega (arith, length_vars c, C.fits, origin_first c C k h, first_le (vars c) k h))
  of_small (Do (Push n)) h = tt
  of_small (Do (Pop n)) h = tt
  of_small (Do (Check w)) h = h
  of_small (Do (Compare m k)) h = tt

  sequence_small : Words c → All (Small (origin (sequence c))) (sequence c)
  unfolding sequence
  sequence_small h = all-weaken of_small (all_of Narrow (vars c) c h ended [] 0 0 refl)

pub readable_modest : (p : List ℕ) → Readable p → Modest p
readable_modest p R =
    let c : List ℕ = clause_of p in
    let C : Clause c = accepted c R.good.accepted in
    let e : instructions p ≡ sequence c = ap instructions (sym R.is) ∙ instructions_keys (sequence_plain c C R.good.words) in
    record {
      small = rw e (sequence_small c C R.good.words);
      few_words = C.fits;
    }

-- ---- key by key

instructions_cons : (x : ℕ) (p : List ℕ) → (o : Option Instr) → instr_of x ≡ o → instructions (x ∷ p) ≡ elim o [ none ↦ instructions p | some i ↦ i ∷ instructions p ]
unfolding instructions
instructions_cons x p o e = rw (e, instructions)

pub origin_turn : (p : List ℕ) (i k : ℕ) → i < length p
    → origin (instructions (drop i p)) k ≡ compared_in (instr_of (get_or p i 0)) k (origin (instructions (drop (suc i) p)) k)
unfolding instructions origin
origin_turn [] i k h = absurd (omega arith)
origin_turn (x ∷ p) (suc i) k h = origin_turn p i k (omega arith)
origin_turn (x ∷ p) zero k h = go (instr_of x) refl
  where
    go : (o : Option Instr) → instr_of x ≡ o → origin (instructions (x ∷ p)) k ≡ compared_in (instr_of x) k (origin (instructions p) k)
    go none e = rw (instructions_cons x p none e, e)
    go (some i) e = rw (instructions_cons x p (some i) e, e)

module _ (ν : ℕ → ℕ) where
  words_cons : (x : ℕ) (p : List ℕ) → words_of ν (instructions (x ∷ p)) ≡ word_in ν (instr_of x) ++ words_of ν (instructions p)
  unfolding words_of
  words_cons x p = go (instr_of x) refl
    where
      go : (o : Option Instr) → instr_of x ≡ o → words_of ν (instructions (x ∷ p)) ≡ word_in ν (instr_of x) ++ words_of ν (instructions p)
      go none e = rw (instructions_cons x p none e, e)
      go (some i) e = rw (instructions_cons x p (some i) e, e)

  pub words_turn : (p : List ℕ) (i : ℕ) → i < length p
      → words_of ν (instructions (take (suc i) p)) ≡ words_of ν (instructions (take i p)) ++ word_in ν (instr_of (get_or p i 0))
  unfolding instructions words_of
  words_turn [] i h = absurd (omega arith)
  words_turn (x ∷ p) zero h = words_cons x [] ∙ append-nil (word_in ν (instr_of x))
  words_turn (x ∷ p) (suc i) h =
      words_cons x (take (suc i) p) ∙ ap (λ (l : List ℕ). word_in ν (instr_of x) ++ l) (words_turn p i (omega arith))
      ∙ sym (append_assoc (word_in ν (instr_of x)) (words_of ν (instructions (take i p))) (word_in ν (instr_of (get_or p i 0))))
      ∙ ap (λ (l : List ℕ). l ++ word_in ν (instr_of (get_or p i 0))) (sym (words_cons x (take i p)))

  -- a beginning has no more words
  pub words_begin : (p : List ℕ) (i : ℕ) → length (words_of ν (instructions (take i p))) ≤ length (words_of ν (instructions p))
  unfolding instructions words_of
  words_begin p zero = omega arith
  words_begin [] (suc i) = omega arith
  words_begin (x ∷ p) (suc i) = rw (words_cons x (take i p), words_cons x p) (simp length-append (omega (arith, words_begin p i)))

-- what holds of all instructions holds of a key's
pub at_key : {P : Instr → Type 0} (p : List ℕ) → All P (instructions p) → (i : ℕ) → i < length p → (j : Instr) → instr_of (get_or p i 0) ≡ some j → P j
at_key {P} [] h i l j e = absurd (omega arith)
at_key {P} (x ∷ p) h i l j e = go (instr_of x) refl i l e (at_key p)
  where
    go : (o : Option Instr) → instr_of x ≡ o → (i : ℕ) → i < suc (length p) → instr_of (get_or (x ∷ p) i 0) ≡ some j
        → (All P (instructions p) → (i : ℕ) → i < length p → (j : Instr) → instr_of (get_or p i 0) ≡ some j → P j) → P j
    go none q zero l e ih = cc
    go none q (suc i) l e ih = ih (rw (instructions_cons x p none q) at h) i (omega arith) j e
    go (some k) q zero l e ih = let f : k ≡ j = cc in rw f at (all_head (rw (instructions_cons x p (some k) q) at h))
    go (some k) q (suc i) l e ih = ih (all_tail (rw (instructions_cons x p (some k) q) at h)) i (omega arith) j e

-- ---- a key by its numbers

module _ (x : ℕ) where
  pub key_put : x / 2 ^ 32 ≡ 4 → instr_of x ≡ some (Do (Put (x % 2 ^ 32)))
  unfolding instr_of instruction
  key_put e = rw e

  pub key_check : x / 2 ^ 32 ≡ 7 → instr_of x ≡ some (Do (Check (x % 2 ^ 32)))
  unfolding instr_of instruction
  key_check e = rw e

  pub key_compare : x / 2 ^ 32 ≡ 8 → instr_of x ≡ some (Do (Compare (x % 2 ^ 32 / 2 ^ 16) (x % 2 ^ 32 % 2 ^ 16)))
  unfolding instr_of instruction
  key_compare e = rw e

  pub no_compare : x / 2 ^ 32 ≢ 8 → (k e : ℕ) → compared_in (instr_of x) k e ≡ e
  unfolding instr_of instruction compared_by
  no_compare n k e = go (x / 2 ^ 32) (x % 2 ^ 32) n
    where
      go : (op y : ℕ) → op ≢ 8 → compared_in (instruction op y) k e ≡ e
      go zero y n = refl
      go (suc zero) y n = refl
      go (suc (suc zero)) y n = refl
      go (suc (suc (suc zero))) y n = refl
      go (suc (suc (suc (suc zero)))) y n = refl
      go (suc (suc (suc (suc (suc zero))))) y n = refl
      go (suc (suc (suc (suc (suc (suc zero)))))) y n = refl
      go (suc (suc (suc (suc (suc (suc (suc zero))))))) y n = refl
      go (suc (suc (suc (suc (suc (suc (suc (suc zero)))))))) y n = absurd (n refl)
      go (suc (suc (suc (suc (suc (suc (suc (suc (suc op))))))))) y n = refl

  pub no_word : x / 2 ^ 32 ≢ 4 → x / 2 ^ 32 ≢ 7 → (ν : ℕ → ℕ) → word_in ν (instr_of x) ≡ []
  unfolding instr_of instruction word_of
  no_word n m ν = go (x / 2 ^ 32) (x % 2 ^ 32) n m
    where
      go : (op y : ℕ) → op ≢ 4 → op ≢ 7 → word_in ν (instruction op y) ≡ []
      go zero y n m = refl
      go (suc zero) y n m = refl
      go (suc (suc zero)) y n m = refl
      go (suc (suc (suc zero))) y n m = refl
      go (suc (suc (suc (suc zero)))) y n m = absurd (n refl)
      go (suc (suc (suc (suc (suc zero))))) y n m = refl
      go (suc (suc (suc (suc (suc (suc zero)))))) y n m = refl
      go (suc (suc (suc (suc (suc (suc (suc zero))))))) y n m = absurd (m refl)
      go (suc (suc (suc (suc (suc (suc (suc (suc zero)))))))) y n m = refl
      go (suc (suc (suc (suc (suc (suc (suc (suc (suc op))))))))) y n m = refl
