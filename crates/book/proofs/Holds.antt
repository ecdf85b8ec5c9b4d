-- What holds of the tree and the book after every call.
use mathlib.Core.Path.{◌≡◌, refl, sym, ap, ◌∙◌}
use mathlib.Core.Logic.{◌≢◌, inl, inr}
use mathlib.Core.Bool.{Bool, true, false, cond}
use mathlib.Core.List.{List, [], ◌∷◌, map}
use Prim.Native.Nat.{ℕ, zero, suc, ◌-◌, ◌≤◌, ◌<◌}
use native.Mathlib.Nat.{le_trans, mul-le-mul}
use native.Mathlib.Omega.{arith}
use native.Mathlib.Decide.{ℕ_discrete}
use lib.Dec.{eqb}
use lib.ListN.{length, length-map, replicate}
use borrow.Author.Tests.{eq-eqb, ne_eqb}
use Rattle.clause.specs.Lists.{All, none, also, Each, nobody, besides}
use Rattle.clause.specs.Clause.{max_literals, Accepted, literals}
use Rattle.clause.proofs.Literals.{accepted}
use Rattle.machine.specs.Instr.{key}
use Rattle.machine.specs.Compile.{Variants, keys}
use Rattle.tree.specs.Forest.{Forest, empty, size, leaves, layout}
use Rattle.tree.specs.Laid.{max_kept, well_laid, decode}
use Rattle.tree.specs.Entries.{Listed, build, Pair, Sound, entry}
use Rattle.tree.specs.Inner.Books.{without_entry, Apart}
use Rattle.tree.specs.Changes.{numbered}
use Rattle.walk.specs.Ceiling.{enough_budget}
use Rattle.walk.specs.Covering.{most, candidates}
use Rattle.book.specs.Book.{without, tree_of}
use Rattle.walk.proofs.Bound.{arrangements_le}
use Rattle.walk.proofs.Covering.{kept_arranged}
use Rattle.tree.proofs.Words.{laid_layout, decode_layout}
use Rattle.tree.proofs.Mirror.{same_book, mirrors_build, without_entry_same, without_entry_other}
use Rattle.tree.proofs.Changes.{Once, Keeps, keeps_empty}

-- the tree F of a slice of len words keeps the pairs K
pub record Holds (len : ℕ) (K : List Pair) (F : Forest) : Type 0 where
  pub sound : All Sound K
  pub keeps : Keeps F (map entry K)
  pub apart : Apart (map entry K)
  pub room : size F < len
  pub few : length K ≤ max_kept

pub holds_empty : (len : ℕ) → 2 ≤ len → Holds len [] empty
holds_empty len h = record { sound = none; keeps = keeps_empty; apart = tt; room = omega arith; few = omega arith }

-- fresh is the slice of the empty tree
pub fresh_layout : (len : ℕ) → 2 ≤ len → replicate len 0 ≡ layout len empty
unfolding layout
fresh_layout len h = go len h
  where
    go : (n : ℕ) → 2 ≤ n → replicate n 0 ≡ layout n empty
    go zero h = elim h [ ]
    go (suc n) h = let e : suc n - 1 ≡ n = omega arith in rw e

-- kept clauses have at most max_literals literals
most_few : {K : List Pair} → All Sound K → most K ≤ max_literals
most_few none = omega arith
most_few (also {x = p} s S) = omega (arith, (accepted p.clause s.accepted).few, most_few S)

-- a test of every kept pair
all_kept : {P : Pair → Type 0} (K : List Pair) → ((q : Pair) → Listed (map entry K) (keys q.clause) q.number → P q) → All P K
all_kept [] f = none
all_kept (p ∷ K) f = also (f p (inl (refl, refl))) (all_kept K (λ q k. f q (inr k)))

-- the numbers differ
once_numbers : (K : List Pair) → Once (map entry K) → Each (λ p q. p.number ≢ q.number) K
once_numbers [] o = nobody
once_numbers (p ∷ K) o =
    besides (all_kept K (λ q k e. o.0 (keys q.clause) (rw (sym e) at k))) (once_numbers K o.1)

-- no two are variants
apart_clauses : (K : List Pair) → Apart (map entry K) → Each (λ p q. Variants p.clause q.clause → ⊥) K
apart_clauses [] a = nobody
apart_clauses (p ∷ K) a =
    besides (all_kept K (λ q k e. a.new q.number (rw (← ap (map key) e) at k))) (apart_clauses K a.rest)

module _ {len : ℕ} {K : List Pair} {F : Forest} (h : Holds len K F) where
  pub holds_numbers : Each (λ p q. p.number ≢ q.number) K
  holds_numbers = once_numbers K h.keeps.once

  pub holds_clauses : Each (λ p q. Variants p.clause q.clause → ⊥) K
  holds_clauses = apart_clauses K h.apart

  -- it is the tree of the book
  pub holds_tree : tree_of K ≡ F
  unfolding tree_of
  holds_tree =
      sym (same_book F (build (map entry K)) (map entry K) (map entry K) h.keeps.mirrors (mirrors_build (map entry K) h.apart) (λ cs n. (λ p. p, λ p. p)))

  -- as many leaves as pairs
  pub holds_leaves : leaves F ≡ length K
  holds_leaves = h.keeps.count ∙ length-map K entry

  -- no query takes more candidates than `enough_budget`
  pub holds_enough : (d : List ℕ) → Accepted d → candidates F d ≤ enough_budget
  holds_enough d D =
      let q = length (literals d) in
      le_trans (kept_arranged K F h.sound h.keeps.mirrors holds_leaves d D)
      (mul-le-mul h.few (arrangements_le q max_literals (most K) max_literals (accepted d D).few (most_few h.sound)))

  -- its slice is well laid and holds it
  pub holds_laid : len ≤ 65_536 → well_laid (layout len F) ≡ true
  holds_laid u = laid_layout len F h.room (omega arith) h.keeps.mirrors.formed (omega (arith, holds_leaves, h.few))

  pub holds_decode : len ≤ 65_536 → decode (layout len F) ≡ F
  holds_decode u = decode_layout len F (omega (arith, h.room))

-- ---- pairs without a number

module _ (n : ℕ) where
  without_entry_lem : (p : Pair) (K : List Pair) → Dec (p.number ≡ n) → map entry (without n K) ≡ without_entry n (map entry K)
      → map entry (without n (p ∷ K)) ≡ without_entry n (map entry (p ∷ K))
  without_entry_lem p K (yes e) ih = rw (eq-eqb p.number n e, without_entry_same n (entry p) (map entry K) e) ih
  without_entry_lem p K (no e) ih = rw (ne_eqb p.number n e, without_entry_other n (entry p) (map entry K) e) (ap (λ l. entry p ∷ l) ih)

  pub entries_without : (K : List Pair) → map entry (without n K) ≡ without_entry n (map entry K)
  unfolding without_entry
  entries_without [] = refl
  entries_without (p ∷ K) = without_entry_lem p K (ℕ_discrete p.number n) (entries_without K)

  pub numbered_without : (K : List Pair) → numbered n (map entry (without n K)) ≡ false
  numbered_without [] = refl
  numbered_without (p ∷ K) = go (ℕ_discrete p.number n) (numbered_without K)
    where
      go : Dec (p.number ≡ n) → numbered n (map entry (without n K)) ≡ false → numbered n (map entry (without n (p ∷ K))) ≡ false
      go (yes e) ih = rw (eq-eqb p.number n e) ih
      go (no e) ih = rw (ne_eqb p.number n e, ne_eqb n p.number (λ u. e (sym u))) ih

  pub without_missing : (K : List Pair) → numbered n (map entry K) ≡ false → without n K ≡ K
  without_missing [] h = refl
  without_missing (p ∷ K) h = go (ℕ_discrete p.number n) (without_missing K)
    where
      go : Dec (p.number ≡ n) → (numbered n (map entry K) ≡ false → without n K ≡ K) → without n (p ∷ K) ≡ p ∷ K
      go (yes e) ih = cc (rw (eq-eqb n p.number (sym e)) at h)
      go (no e) ih = rw (ne_eqb p.number n e) (ap (λ l. p ∷ l) (ih (rw (ne_eqb n p.number (λ u. e (sym u))) at h)))

  pub sound_without : {K : List Pair} → All Sound K → All Sound (without n K)
  sound_without none = none
  sound_without (also {x = p} {xs = K} s S) = go (eqb p.number n) (sound_without S)
    where
      go : (b : Bool) → All Sound (without n K) → All Sound (cond b (without n K) (p ∷ without n K))
      go true ih = ih
      go false ih = also s ih

  pub length_without : (K : List Pair) → length (without n K) ≤ length K
  length_without [] = omega arith
  length_without (p ∷ K) = go (eqb p.number n) (length_without K)
    where
      go : (b : Bool) → length (without n K) ≤ length K → length (cond b (without n K) (p ∷ without n K)) ≤ suc (length K)
      go true ih = omega arith
      go false ih = omega arith
