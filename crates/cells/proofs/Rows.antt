-- The walk at a place of a row, in the terms of the loop over siblings: the words from that place on.
use Rattle.std.proofs.Common.{◌≡◌, ℕ, suc, pred, ◌+◌, ◌-◌, ◌*◌, ◌/◌, ◌%◌, ◌^◌, ◌<◌, ◌≤◌, Bool, true, false, eqb, List, ◌∷◌, length, get_or, take, drop, sym, refl, ◌∙◌, add-one, arith, length-drop, drop_of_length-le, drop-cons, drop-drop, eq-eqb, ne_eqb, le-leb}
use mathlib.Core.Option.{some}
use native.Mathlib.Decide.{ℕ_discrete}
use borrow.Author.Tests.{lt-leb}
use Rattle.machine.specs.Instr.{instruction}
use Rattle.machine.specs.Machine.{State, step, step_from, step_at, require}
use Rattle.tree.specs.Laid.{key_of, extent_of}
use Rattle.walk.specs.Walk.{Machine, not_covered, broken, and_then, visit}
use Rattle.walk.specs.Words.{extends, walk_words}
use Rattle.walk.specs.Query.{machine}
use Rattle.cells.specs.Inner.Cells.{Skipped}
use Rattle.walk.proofs.Fuel.{walk_words_cons}
use Rattle.cells.proofs.Region.{instr_of_word, success_word}

-- the extent of a word, by the tests of the code
module _ (w room : ℕ) (some-room : 1 ≤ room) where
  pub extends_zero : extent_of w ≡ 0 → extends w (room - 1) ≡ false
  unfolding extends
  extends_zero e = rw (lt-leb 1 (extent_of w) (omega arith))

  pub extends_long : 1 ≤ extent_of w → room < extent_of w → extends w (room - 1) ≡ false
  unfolding extends
  extends_long l h = rw (le-leb 1 (extent_of w) l, lt-leb (extent_of w) (suc (room - 1)) (omega arith))

  pub extends_inner : 1 ≤ extent_of w → extent_of w ≤ room → (w / 2 ^ 60 ≡ 0 → ⊥) → extends w (room - 1) ≡ true
  unfolding extends
  extends_inner l h n =
      rw (le-leb 1 (extent_of w) l, le-leb (extent_of w) (suc (room - 1)) (omega arith), success_word w, ne_eqb (w / 2 ^ 60) 0 n)

  pub extends_success : 1 ≤ extent_of w → extent_of w ≤ room → w / 2 ^ 60 ≡ 0 → extends w (room - 1) ≡ eqb (extent_of w) 1
  unfolding extends
  extends_success l h e =
      rw (le-leb 1 (extent_of w) l, le-leb (extent_of w) (suc (room - 1)) (omega arith), success_word w, eq-eqb (w / 2 ^ 60) 0 e)

-- the same, as `meet` tests it: an extent in the row is right, but on a Success only where it is 1
module _ (w room : ℕ) (some-room : 1 ≤ room) {x : ℕ} (e : x ≡ extent_of w) (some_words : x ≡ 0 → ⊥) (inside : x ≤ room) where
  pub extends_in : (w / 2 ^ 60 ≡ 0 → x ≡ 1) → extends w (room - 1) ≡ true
  extends_in one = go (ℕ_discrete (w / 2 ^ 60) 0)
    where
      go : Dec (w / 2 ^ 60 ≡ 0) → extends w (room - 1) ≡ true
      go (yes z) = extends_success w room some-room (omega arith) (omega arith) z ∙ eq-eqb (extent_of w) 1 (sym e ∙ one z)
      go (no n) = extends_inner w room some-room (omega arith) (omega arith) n

  pub extends_more : w / 2 ^ 60 ≡ 0 → (x ≡ 1 → ⊥) → extends w (room - 1) ≡ false
  extends_more z n = extends_success w room some-room (omega arith) (omega arith) z ∙ ne_eqb (extent_of w) 1 (λ o. n (e ∙ o))

-- past the last word of a row
pub row_end : (M : Machine) (allow : ℕ → Bool) (T : List ℕ) (at : ℕ) (s : M.State) (c : ℕ) → length T ≤ at → walk_words M allow (drop at T) s c ≡ not_covered c
row_end M allow T at s c h = rw (drop_of_length-le T h)

module _ (M : Machine) (allow : ℕ → Bool) (T : List ℕ) (at : ℕ) (h : at < length T) (s : M.State) (c : ℕ) where
  split : drop at T ≡ get_or T at 0 ∷ drop (at + 1) T
  split = rw (add-one, drop-cons T at 0)

  after : length (drop (at + 1) T) ≡ length T - at - 1
  after = simp length-drop (omega arith)

  -- at a word with a wrong extent
  pub row_broken : extends (get_or T at 0) (length T - at - 1) ≡ false → walk_words M allow (drop at T) s c ≡ broken
  row_broken e = rw (split, walk_words_cons M allow (get_or T at 0) (drop (at + 1) T) s c, after, e)

  -- at any other word: what stands below it, then its siblings
  pub row_node :
      (x : ℕ) → x ≡ extent_of (get_or T at 0) → 1 ≤ x → extends (get_or T at 0) (length T - at - 1) ≡ true
      → walk_words M allow (drop at T) s c
      ≡ and_then (visit M allow (key_of (get_or T at 0)) (walk_words M allow (take (at + x - (at + 1)) (drop (at + 1) T))) s c) (walk_words M allow (drop (at + x) T) s)
  row_node x e l ok =
      let n : pred (extent_of (get_or T at 0)) ≡ at + x - (at + 1) = omega arith in
      let m : at + 1 + (at + x - (at + 1)) ≡ at + x = omega arith in
      rw (split, walk_words_cons M allow (get_or T at 0) (drop (at + 1) T) s c, after, ok, n, drop-drop (at + x - (at + 1)) (at + 1) T, m)

-- a Check that fails
pub fails_there :
    (d : List ℕ) (allow : ℕ → Bool) (T : List ℕ) (at : ℕ) → at < length T → (s : State) (p c wanted : ℕ) → s.head ≡ some p → wanted ≡ 7 * 2 ^ 32 + get_or d p 0
    → get_or T at 0 / 2 ^ 60 ≡ 7 → (get_or T at 0 / 2 ^ 28 ≡ wanted → ⊥) → (x : ℕ) → x ≡ extent_of (get_or T at 0) → 1 ≤ x → x ≤ length T - at
    → walk_words (machine d) allow (drop at T) s c ≡ walk_words (machine d) allow (drop (at + x) T) s c
unfolding step step_from step_at require instruction
fails_there d allow T at h s p c wanted e f op ne x g l fit =
    let w = get_or T at 0 in
    let ok = extends_inner w (length T - at) (omega arith) (rw g at l) (rw g at fit) (λ z. omega arith) in
    let miss : get_or d p 0 ≡ w / 2 ^ 28 % 2 ^ 32 → ⊥ = λ z. ne (omega arith) in
    row_node (machine d) allow T at h s c x g l ok ∙ rw (instr_of_word w, op, e, ne_eqb (get_or d p 0) (w / 2 ^ 28 % 2 ^ 32) miss)

-- the place where the passing begins, and one more Check that fails
pub skipped_none : (T : List ℕ) (at key : ℕ) → at ≤ length T → Skipped T at key at
skipped_none T at key h = record { inside = h; further = omega arith; same = λ d allow s p c e f. refl }

pub skipped_more :
    (T : List ℕ) (at key i : ℕ) → Skipped T at key i → i < length T → get_or T i 0 / 2 ^ 60 ≡ 7 → (get_or T i 0 / 2 ^ 28 ≡ key → ⊥)
    → (x : ℕ) → x ≡ extent_of (get_or T i 0) → (x ≡ 0 → ⊥) → i + x ≤ length T → Skipped T at key (i + x)
skipped_more T at key i P h op ne x e z fit =
    record {
      inside = omega arith;
      further = omega arith;
      same = λ d allow s p c g f. P.same d allow s p c g f ∙ fails_there d allow T i h s p c key g f op ne x e (omega arith) (omega arith);
    }

-- by how many words are left
pub skipped_left : {T : List ℕ} {at key i : ℕ} → Skipped T at key i → (length T - i ≤ length T) × Skipped T at key (length T - (length T - i))
skipped_left {T} {i = i} P = let e : length T - (length T - i) ≡ i = omega (arith, P.inside) in (omega arith, rw e P)
