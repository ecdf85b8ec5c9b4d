-- The words of keys one below the other, then a Success: written one after another.
use mathlib.Core.Path.{◌≡◌, refl, ap, ◌∙◌}
use mathlib.Core.List.{List, [], ◌∷◌, ◌++◌, append-nil}
use Prim.Native.Nat.{ℕ, zero, suc, ◌+◌, ◌-◌, ◌*◌, ◌^◌, ◌≤◌, ◌<◌}
use native.Mathlib.Nat.{zero-add}
use native.Mathlib.Omega.{arith}
use lib.ListN.{length, get_or, take, drop, set, length-drop}
use lib.Seq.{take_all}
use Rattle.std.proofs.lemmas.List.Edits.{paste_more}
use Rattle.std.proofs.lemmas.Grind.{common_steps}
use Rattle.machine.specs.Compiled.{max_keys}
use Rattle.tree.specs.Forest.{size, encode, chain, Body}
use Rattle.tree.specs.Inner.Merge.{new_words}
use Rattle.merging.specs.Inner.Inserting.{Writable}
use Rattle.tree.proofs.Keys.{lawful_small}
use Rattle.tree.proofs.Words.{length_encode}
use Rattle.tree.proofs.InsertWords.{chain_size}

-- ---- the keys of a sequence

pub body_small : (cs : List ℕ) → Body cs → (i : ℕ) → get_or cs i 0 < 9 * 2 ^ 32
body_small [] b i = omega arith
body_small (c ∷ cs) b zero = lawful_small c b.legal
body_small (c ∷ cs) b (suc i) = body_small cs b.rest i

pub body_drop : (k : ℕ) (cs : List ℕ) → Body cs → Body (drop k cs)
body_drop zero cs b = b
body_drop (suc k) [] b = b
body_drop (suc k) (c ∷ cs) b = body_drop k cs b.rest

-- the last keys, lent as a part
pub tail_writable : (cs : List ℕ) (k : ℕ) → k ≤ length cs → Body cs → length cs ≤ max_keys → Writable (take (length cs - k) (drop k cs))
tail_writable cs k h b f =
    rw (take_all (length cs - k) (drop k cs) (omega (arith, length-drop k cs))) (record { body = body_drop k cs b; few = omega (arith, length-drop k cs) })

-- ---- the new words

pub new_length : (cs : List ℕ) (n : ℕ) → length (new_words cs n) ≡ suc (length cs)
new_length cs n = length_encode (chain cs n) ∙ chain_size cs n

-- the word of a key
pub new_key : (cs : List ℕ) (n i : ℕ) → i < length cs → get_or (new_words cs n) i 0 ≡ get_or cs i 0 * 2 ^ 28 + (length cs + 1 - i)
new_key [] n i h = absurd (omega arith)
new_key (c ∷ cs) n zero h = let e : suc (size (chain cs n)) ≡ length (c ∷ cs) + 1 - 0 = omega (arith, chain_size cs n) in ap (λ (x : ℕ). c * 2 ^ 28 + x) e
new_key (c ∷ cs) n (suc i) h =
    let e : length cs + 1 - i ≡ length (c ∷ cs) + 1 - suc i = omega arith in
    rw (append-nil (encode (chain cs n))) (new_key cs n i (omega arith) ∙ ap (λ (x : ℕ). get_or cs i 0 * 2 ^ 28 + x) e)

-- the word of the Success
pub new_last : (cs : List ℕ) (n : ℕ) → get_or (new_words cs n) (length cs) 0 ≡ n * 2 ^ 28 + 1
new_last [] n = refl
new_last (c ∷ cs) n = rw (append-nil (encode (chain cs n))) (new_last cs n)

-- ---- written up to a position

-- the first i words of N over those of s
abbrev pub over : (N s : List ℕ) → ℕ → List ℕ
over N s i = take i N ++ drop i s

pub over_set : (N s : List ℕ) (i : ℕ) → length N ≡ length s → i < length s → set (over N s i) i (get_or N i 0) ≡ over N s (i + 1)
over_set N s i e h = simp zero-add at (paste_more s 0 N i 0 (omega arith) (omega arith))

over_all : (N s : List ℕ) (i : ℕ) → length N ≡ i → length s ≡ i → over N s i ≡ N
over_all N s i e h = grind (arith, common_steps)

-- the Success is written last
pub written : (cs s U : List ℕ) (n i : ℕ) → i ≡ length cs → length s ≡ length cs + 1 → U ≡ over (new_words cs n) s i
    → set U (length cs) (n * 2 ^ 28 + 1) ≡ new_words cs n
written cs s U n i e h u =
    let N = new_words cs n in
    let l : length N ≡ length s = omega (arith, new_length cs n) in
    rw (u, e, ← new_last cs n) (over_set N s (length cs) l (omega arith) ∙ over_all N s (length cs + 1) (omega arith) h)
