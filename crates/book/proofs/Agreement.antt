-- Two lists of calls.
use mathlib.Core.Path.{◌≡◌, refl, sym, ap, ◌∙◌, subst₂}
use mathlib.Core.Logic.{◌↔◌, ◌⊎◌}
use mathlib.Core.Option.{Option}
use mathlib.Core.List.{List, [], map, Memᴰ}
use Prim.Native.Nat.{ℕ, ◌≤◌}
use native.Mathlib.Nat.{le_trans}
use native.Mathlib.Omega.{arith}
use lib.ListN.{length, replicate, length-replicate}
use Rattle.clause.specs.Clause.{Accepted}
use Rattle.machine.specs.Instr.{key}
use Rattle.machine.specs.Machine.{State, initial}
use Rattle.tree.specs.Entries.{Listed, Pair, entry}
use Rattle.walk.specs.Walk.{Answer, covered, not_covered, spent, broken, up_to, walk}
use Rattle.walk.specs.Ceiling.{full_budget, enough_budget}
use Rattle.walk.specs.Query.{machine, witness_words, shown, with_shown, answer_by, query}
use Rattle.walk.specs.Covering.{Subsumed, candidates, IsCovered, IsNotCovered, Answers}
use Rattle.book.specs.Book.{Call, slice_of, book_of, tree_of}
use Rattle.book.specs.Claims.{Run, Under, Renamed, Same, Alone, Demand3}
use Rattle.clause.proofs.Lists.{all_mem}
use Rattle.clause.proofs.Order.{subsumes_refl, subsumes_trans}
use Rattle.tree.proofs.Mirror.{build_same}
use Rattle.walk.proofs.Bound.{enough_full}
use Rattle.tree.proofs.Pairs.{kept_pair, pair_kept}
use Rattle.walk.proofs.Covering.{fits_decided}
use Rattle.book.proofs.Holds.{Holds, holds_tree, holds_enough}
use Rattle.book.proofs.Reach.{laid, reach, answered, walked}
use Rattle.clause.specs.Word.{Words}

-- a witness that is long enough
blank : List ℕ
blank = replicate witness_words 0

blank_long : witness_words ≤ length blank
unfolding blank
blank_long = rw (length-replicate {A = ℕ} witness_words 0) (omega arith)

-- ---- one list

module _ (T : List ℕ) (xs : List Call) (R : Run T xs) where
  holds : Holds (length T) (book_of (length T) xs) (laid T xs R).tree
  holds = (laid T xs R).holds

  -- no query takes more candidates than `enough_budget`, and so none more than the full budget
  enough : (d : List ℕ) → Accepted d → candidates (tree_of (book_of (length T) xs)) d ≤ enough_budget
  enough d D = rw (holds_tree holds) (holds_enough holds d D)

  full : (d : List ℕ) → Accepted d → candidates (tree_of (book_of (length T) xs)) d ≤ full_budget
  full d D = le_trans (enough d D) enough_full

  module _ (d : List ℕ) (D : Accepted d) (W : List ℕ) (long : witness_words ≤ length W) where
    at_full : Answers (book_of (length T) xs) (tree_of (book_of (length T) xs)) (slice_of T xs) d full_budget W
    at_full = answered T xs R d D full_budget W long

    -- at the full budget a query is covered or not
    decided : IsCovered (slice_of T xs) d full_budget W ⊎ IsNotCovered (slice_of T xs) d full_budget W
    decided = fits_decided at_full (full d D)

    -- it is covered exactly if a kept clause subsumes it
    is_covered : IsCovered (slice_of T xs) d full_budget W ↔ Subsumed (book_of (length T) xs) d
    is_covered = at_full.decides (full d D)

  alone : Alone (slice_of T xs) (book_of (length T) xs)
  alone = record { enough = enough; decided = decided; walked = walked T xs R }

-- ---- two lists

-- what is subsumed by a clause of K is subsumed by one of L
under_subsumed : (K L : List Pair) → Under K L → (d : List ℕ) → Subsumed K d → Subsumed L d
under_subsumed K L u d (p, m, s) = let (q, n, t) = u p m in (q, n, subsumes_trans q.clause p.clause d t s)

-- a kept clause is subsumed by itself
kept_subsumed : (K : List Pair) (p : Pair) → Memᴰ p K → Subsumed K p.clause
kept_subsumed K p m = (p, m, subsumes_refl p.clause)

-- the same sequences under the same numbers
renamed_kept : (K L : List Pair) → Renamed K L → (cs : List ℕ) (n : ℕ) → Listed (map entry K) cs n → Listed (map entry L) cs n
renamed_kept K L r cs n k =
    let (p, m, e, f) = kept_pair K cs n k in
    let (q, m', g, h) = r p m in
    subst₂ (Listed (map entry L)) (ap (map key) h ∙ sym e) (g ∙ sym f) (pair_kept L q m')

-- what the walk's answer writes into a witness
told_words : (b : ℕ) (a : Answer State) → (os : List (Option ℕ)) × ((W : List ℕ) → (answer_by b W a).witness ≡ with_shown os W)
told_words b (covered n s c) = (shown s, λ W. refl)
told_words b (not_covered c) = ([], λ W. refl)
told_words b spent = ([], λ W. refl)
told_words b broken = ([], λ W. refl)

told_answer : (b : ℕ) (a : Answer State) (U W : List ℕ) → (answer_by b U a).answer ≡ (answer_by b W a).answer
told_answer b (covered n s c) U W = refl
told_answer b (not_covered c) U W = refl
told_answer b spent U W = refl
told_answer b broken U W = refl

module _ (S : List ℕ) (xs : List Call) (T : List ℕ) (ys : List Call) (R : Run S xs) (Q : Run T ys) where
  abbrev Agreed : Type 0
  Agreed =
      (d : List ℕ) → Accepted d → Words d → (U W : List ℕ) → witness_words ≤ length U → witness_words ≤ length W
      → IsCovered (slice_of S xs) d full_budget U ↔ IsCovered (slice_of T ys) d full_budget W

  -- each clause kept by the one is subsumed by one kept by the other where they agree
  agreed_under : Agreed → Under (book_of (length S) xs) (book_of (length T) ys)
  agreed_under a p m =
      let s = all_mem (holds S xs R).sound m in
      let d = p.clause in
      let D = s.accepted in
      let covered = (is_covered S xs R d D blank blank_long).1 (kept_subsumed (book_of (length S) xs) p m) in
      (is_covered T ys Q d D blank blank_long).0 ((a d D s.words blank blank blank_long blank_long).0 covered)

  under_agreed : Under (book_of (length S) xs) (book_of (length T) ys) → Under (book_of (length T) ys) (book_of (length S) xs) → Agreed
  under_agreed u v d D w U W lu lw = (
    λ c. (is_covered T ys Q d D W lw).1 (under_subsumed (book_of (length S) xs) (book_of (length T) ys) u d ((is_covered S xs R d D U lu).0 c)),
    λ c. (is_covered S xs R d D U lu).1 (under_subsumed (book_of (length T) ys) (book_of (length S) xs) v d ((is_covered T ys Q d D W lw).0 c)),
  )

  -- the same clauses up to variable names under the same numbers make the same tree
  same_tree :
      Renamed (book_of (length S) xs) (book_of (length T) ys) → Renamed (book_of (length T) ys) (book_of (length S) xs)
      → tree_of (book_of (length S) xs) ≡ tree_of (book_of (length T) ys)
  unfolding tree_of
  same_tree r s =
      build_same (map entry (book_of (length S) xs)) (map entry (book_of (length T) ys)) (holds S xs R).apart (holds T ys Q).apart
      (λ cs n. (renamed_kept (book_of (length S) xs) (book_of (length T) ys) r cs n, renamed_kept (book_of (length T) ys) (book_of (length S) xs) s cs n))

  same : Renamed (book_of (length S) xs) (book_of (length T) ys) → Renamed (book_of (length T) ys) (book_of (length S) xs) → (d : List ℕ) → Accepted d → (b : ℕ)
      → Same (slice_of S xs) (slice_of T ys) d b
  same r s d D b =
      let a : Answer State = walk (machine d) (up_to b) (tree_of (book_of (length T) ys)) initial 0 in
      let e : (U : List ℕ) → witness_words ≤ length U → query (slice_of S xs) d b U ≡ answer_by b U a =
      λ U lu. walked S xs R d D b U lu ∙ ap (λ F. answer_by b U (walk (machine d) (up_to b) F initial 0)) (same_tree r s) in
      let f : (W : List ℕ) → witness_words ≤ length W → query (slice_of T ys) d b W ≡ answer_by b W a = walked T ys Q d D b in
      let (os, words) = told_words b a in
      record {
        words = os;
        answer = λ U W lu lw. ap (λ x. x.answer) (e U lu) ∙ told_answer b a U W ∙ ap (λ x. x.answer) (sym (f W lw));
        left = λ U lu. ap (λ x. x.witness) (e U lu) ∙ words U;
        right = λ W lw. ap (λ x. x.witness) (f W lw) ∙ words W;
      }

flip : (S : List ℕ) (xs : List Call) (T : List ℕ) (ys : List Call) (R : Run S xs) (Q : Run T ys) → Agreed S xs T ys R Q
    → Agreed T ys S xs Q R
flip S xs T ys R Q a d D w U W lu lw = let e = a d D w W U lw lu in (e.1, e.0)

-- Demand 3
pub demand3 : Demand3
demand3 S xs T ys R Q =
    record {
      reached_one = reach S xs R;
      reached_other = reach T ys Q;
      both =
          record {
            one = alone S xs R;
            other = alone T ys Q;
            agree =
                (λ a. (agreed_under S xs T ys R Q a, agreed_under T ys S xs Q R (flip S xs T ys R Q a)), λ u. under_agreed S xs T ys R Q u.0 u.1);
            same = same S xs T ys R Q;
          };
    }
