-- From record to record: the slice stays the tree of some pairs, and the marks stay those of its numbers.
use Rattle.std.specs.Prelude.{Ok}
use mathlib.Core.Path.{◌≡◌, refl, sym, ap, ◌∙◌}
use mathlib.Core.Logic.{◌↔◌, ◌≢◌}
use mathlib.Core.Bool.{true}
use mathlib.Core.Option.{Option, none as nobody, some}
use mathlib.Core.List.{List, [], ◌∷◌, Memᴰ}
use Prim.Native.Nat.{ℕ, zero, suc, ◌≤◌, ◌<◌}
use native.Mathlib.Omega.{arith}
use native.Mathlib.Decide.{ℕ_discrete}
use lib.ListN.{length, get_or, set, replicate, length-set, length-replicate, get_or-replicate}
use lib.Seq.{get_or-set_same, get_or-set_other}
use Rattle.clause.specs.Lists.{All, none, also}
use Rattle.clause.specs.Clause.{shape}
use Rattle.clause.proofs.Lists.{all_mem, all-weaken}
use Rattle.tree.specs.Forest.{layout, find}
use Rattle.tree.specs.Laid.{max_kept, sized, well_laid, decode}
use Rattle.tree.specs.Entries.{Pair}
use Rattle.tree.proofs.Words.{length_layout}
use Rattle.readback.specs.Saved.{IsTreeOf}
use Rattle.readback.specs.Calls.{check}
use Rattle.readback.proofs.Saved.{right_size, laid as saved-laid}
use Rattle.readback.proofs.Lists.{all_elements}
use Rattle.book.specs.Book.{insert, Fit, AllFit, book_from, tree_of}
use Rattle.book.proofs.Holds.{Holds, holds_empty, holds_tree, holds_leaves, holds_decode, fresh_layout}
use Rattle.book.proofs.Reach.{laid}
use Rattle.book.proofs.Saved.{saved_is_made, passed_saved}
use Rattle.record.specs.Answer.{tree_words, Record, Answered, left, answer_to, calls_for}
use Rattle.record.specs.Marks.{number_count, taken, freed, freeing, marked}
use Rattle.record.specs.Ruled.{pair_of, Numbered, without_all}
use Rattle.tree.specs.declared.Refusal.{Refusal}
use Rattle.record.specs.declared.Setting.{Setting}
use Rattle.record.specs.declared.Outcome.{Outcome}
use Rattle.record.specs.declared.Outcome.TheVariants.{Refused}
use Rattle.record.proofs.Reading.{Narrow}
use Rattle.record.proofs.Clearing.{clear_mem, mem_clear}
use Rattle.record.proofs.Ruling.{Course, refuses, strikes, keeps, Fate, find_numbered, find_new}
use Rattle.record.proofs.Entering.{Standing, standing_after, standing_saved, fate, slice_after}
use Rattle.record.proofs.Counting.{length_freeing, length_marked}
use Rattle.record.proofs.Rows.{clears_numbered, fate_fits, fate_count, fate_few, fate_swap}
use Rattle.answering.specs.Inner.Steady.{kept_in, Steady, GoesOn}

-- ---- the slice

-- a saved slice of the program's length holds the tree of its book
saved_standing : {T : List ℕ} {K : List Pair} → length T ≡ tree_words → IsTreeOf T K → Standing K T
saved_standing {T} {K} l I =
    let r = saved_is_made T K I [] tt in
    let d = laid T _ r.run in
    let h : Holds (length T) K d.tree = rw r.book at d.holds in
    let e = holds_tree h in
    let s : T ≡ layout (length T) d.tree = sym r.slice ∙ d.slice in
    let k : Holds (length T) K (tree_of K) = rw e h in
    record { holds = rw l at k; slice = s ∙ ap (layout (length T)) (sym e) ∙ ap (λ (n : ℕ). layout n (tree_of K)) l }

module _ {K : List Pair} {T : List ℕ} (s : Standing K T) where
  pub standing_words : length T ≡ tree_words
  standing_words = ap length s.slice ∙ length_layout tree_words (tree_of K) s.holds.room

  -- its tree, and how many clauses it keeps
  pub standing_decode : decode T ≡ tree_of K
  standing_decode = ap decode s.slice ∙ holds_decode s.holds (omega arith)

  pub standing_kept : kept_in T ≡ length K
  standing_kept = rw standing_decode (holds_leaves s.holds)

module _ {S m : List ℕ} (h : Steady S m) where
  pub steady_standing : Standing h.pairs S
  steady_standing = saved_standing h.slice_words h.tree

  pub steady_sized : sized S ≡ true
  steady_sized = right_size S h.pairs h.tree

  pub steady_laid : well_laid S ≡ true
  steady_laid = saved-laid S h.pairs h.tree

  -- it keeps at most 1,024 clauses
  pub steady_few : kept_in S ≤ max_kept
  steady_few = omega (arith, standing_kept steady_standing, h.tree.few)

  pub steady_passes : check S ≡ Ok tt
  steady_passes = (passed_saved S).1 (h.pairs, h.tree)

  module _ (x : Record) (f : Fit (insert x.words x.number)) (q : ℕ) (s : shape x.words ≡ Ok q) (l : x.number < number_count) where
    -- a number that is marked as taken has a Success, and no other has
    pub steady_taken : get_or m x.number 0 ≡ taken → (keys : List ℕ) × (find x.number (decode S) ≡ some keys)
    steady_taken e = go (find x.number (tree_of h.pairs)) refl
      where
        g : Standing h.pairs S
        g = steady_standing

        go : (o : Option (List ℕ)) → find x.number (tree_of h.pairs) ≡ o → (keys : List ℕ) × (find x.number (decode S) ≡ some keys)
        go (some cs) i = (cs, rw (standing_decode g) i)
        go nobody i = absurd (find_new h.pairs (tree_of h.pairs) g.holds x f q s i ((h.exactly x.number l).0 e))

    pub steady_free : get_or m x.number 0 ≢ taken → find x.number (decode S) ≡ nobody
    steady_free e = go (find x.number (tree_of h.pairs)) refl
      where
        g : Standing h.pairs S
        g = steady_standing

        go : (o : Option (List ℕ)) → find x.number (tree_of h.pairs) ≡ o → find x.number (decode S) ≡ nobody
        go (some cs) i = absurd (e ((h.exactly x.number l).1 (find_numbered h.pairs (tree_of h.pairs) g.holds x f q s cs i)))
        go nobody i = rw (standing_decode g) i

-- ---- the marks

freed_apart : (k : ℕ) → freed k ≡ taken → ⊥
freed_apart zero e = omega arith
freed_apart (suc k) e = omega arith

-- a number is marked as taken after some are freed exactly if it was and is none of them
pub freeing_taken : (n : ℕ) (ns m : List ℕ) → n < length m → (get_or (freeing ns m) n 0 ≡ taken) ↔ ((get_or m n 0 ≡ taken) × (Memᴰ n ns → ⊥))
freeing_taken n [] m l = (λ e. (e, λ i. elim i [ ]), λ e. e.0)
freeing_taken n (k ∷ ns) m l = go (ℕ_discrete n k) (freeing_taken n ns (set m k (freed (get_or m k 0))) (rw (length-set m k (freed (get_or m k 0))) l))
  where
    M : List ℕ
    M = set m k (freed (get_or m k 0))

    apart : n ≢ k → (Memᴰ n ns → ⊥) → Memᴰ n (k ∷ ns) → ⊥
    apart e f (Memᴰ.head i) = e i
    apart e f (Memᴰ.tail i) = f i

    go : Dec (n ≡ k) → (get_or (freeing ns M) n 0 ≡ taken) ↔ ((get_or M n 0 ≡ taken) × (Memᴰ n ns → ⊥))
        → (get_or (freeing ns M) n 0 ≡ taken) ↔ ((get_or m n 0 ≡ taken) × (Memᴰ n (k ∷ ns) → ⊥))
    go (yes e) ih =
        let same : get_or M n 0 ≡ freed (get_or m k 0) = rw e (get_or-set_same m k (freed (get_or m k 0)) 0 (rw e at l)) in
        (λ i. absurd (freed_apart (get_or m k 0) (sym same ∙ (ih.0 i).0)), λ i. absurd (i.1 (Memᴰ.head e)))
    go (no e) ih =
        let same : get_or M n 0 ≡ get_or m n 0 = get_or-set_other m k n (freed (get_or m k 0)) 0 e in (
          λ i. let (a, b) = ih.0 i in (sym same ∙ a, apart e b),
          λ i. ih.1 (same ∙ i.0, λ j. i.1 (Memᴰ.tail j)),
        )

-- the marks after a record are those of the book after it
course_marks : {K M : List Pair} {x : Record} {ns : List ℕ} {o : Outcome} {ms : List ℕ} (m : List ℕ) → Course K (without_all ns K) x ns o ms M → length m ≡ number_count
    → x.number < number_count
    → ((n : ℕ) → n < number_count → (get_or m n 0 ≡ taken) ↔ Numbered K n)
    → (n : ℕ) → n < number_count → (get_or (marked o x.number ms m) n 0 ≡ taken) ↔ Numbered M n
course_marks m (refuses r) c l h n u = h n u
course_marks m (strikes s) c l h n u = h n u
course_marks {K} {x = x} {ns = ns} m (keeps t) c l h n u = go (ℕ_discrete n x.number)
  where
    long : length (freeing ns m) ≡ number_count
    long = length_freeing ns m ∙ c

    go : Dec (n ≡ x.number) → (get_or (set (freeing ns m) x.number taken) n 0 ≡ taken) ↔ Numbered (pair_of x ∷ without_all ns K) n
    go (yes e) = (
      λ i. (pair_of x, Memᴰ.head refl, sym e),
      λ i. rw e (get_or-set_same (freeing ns m) x.number taken 0 (omega (arith, long))),
    )
    go (no e) =
        let same : get_or (set (freeing ns m) x.number taken) n 0 ≡ get_or (freeing ns m) n 0 = get_or-set_other (freeing ns m) x.number n taken 0 e in
        let free = freeing_taken n ns m (omega (arith, c)) in (
          λ i.
              let (a, b) = free.0 (sym same ∙ i) in
              let (p, k, j) = (h n u).0 a in
              (p, Memᴰ.tail (mem_clear ns K k (λ v. b (rw j at v))), j),
          λ i. same ∙ free.1 (back i),
        )
      where
        back : Numbered (pair_of x ∷ without_all ns K) n → (get_or m n 0 ≡ taken) × (Memᴰ n ns → ⊥)
        back (p, Memᴰ.head k, j) = absurd (e (sym j ∙ ap (λ (y : Pair). y.number) k))
        back (p, Memᴰ.tail k, j) = let (a, b) = clear_mem ns K k in ((h n u).1 (p, a, j), λ v. b (rw j v))

course_small : {K M : List Pair} {x : Record} {ns : List ℕ} {o : Outcome} {ms : List ℕ} → Course K (without_all ns K) x ns o ms M → x.number < number_count
    → All (λ p. p.number < number_count) K → All (λ p. p.number < number_count) M
course_small (refuses r) l a = a
course_small (strikes s) l a = a
course_small {K} {x = x} {ns = ns} (keeps t) l a =
    also {x = pair_of x} l (all-weaken (λ p m. all_mem a (clear_mem ns K m).0) (all_elements (without_all ns K)))

-- ---- a record

module _ (v : Setting) {S m : List ℕ} (h : Steady S m) (x : Record) (w : Narrow x) where
  g : Standing h.pairs S
  g = steady_standing h

  abbrev K : List Pair
  K = h.pairs

  abbrev a : Answered
  a = answer_to v S x

  fit : Fit (insert x.words x.number)
  fit = (w.1, omega (arith, w.0))

  -- what becomes of it
  pub fate_here : Fate v K x a.outcome a.removed (book_from tree_words K (calls_for v S x))
  fate_here = rw (← g.slice) at (fate v K g.holds x fit)

  fits : AllFit (calls_for v S x)
  unfolding calls_for
  fits = fate_fits g.holds fit fate_here

  pub standing_next : Standing (book_from tree_words K (calls_for v S x)) a.slice
  standing_next = rw (slice_after S x v) (standing_after (calls_for v S x) K S g fits)

  removed_small : {M : List Pair} {o : Outcome} {ms : List ℕ} → Fate v K x o ms M → All (λ n. n < number_count) ms
  removed_small t = go t.course
    where
      small : (n : ℕ) → Numbered K n → n < number_count
      small n (p, i, e) = rw e at (all_mem h.small i)

      go : {L M : List Pair} {o : Outcome} {ms : List ℕ} → Course K L x t.cleared o ms M → All (λ n. n < number_count) ms
      go (refuses r) = none
      go (strikes s) = none
      go (keeps k) = all-weaken small (clears_numbered (t.clears k.uncovered.decided.accepted))

  pub goes_on : GoesOn S m x.number a
  goes_on =
      record {
        steady =
            record {
              slice_words = standing_words standing_next;
              mark_count = length_marked a.outcome x.number a.removed m ∙ h.mark_count;
              pairs = book_from tree_words K (calls_for v S x);
              tree = standing_saved standing_next;
              small = course_small fate_here.course w.0 h.small;
              exactly = course_marks m fate_here.course h.mark_count w.0 h.exactly;
            };
        small = removed_small fate_here;
        few = omega (arith, standing_kept g, fate_few g.holds fate_here);
        swap = omega (arith, standing_kept g, standing_kept standing_next, fate_swap g.holds fate_here);
        counts = λ t e. fate_count g.holds t fate_here (e ∙ standing_kept g) ∙ sym (standing_kept standing_next);
      }

-- one that does not go in leaves all as it is
pub goes_left : {S m : List ℕ} → Steady S m → (n : ℕ) (f : Refusal) → GoesOn S m n (left (Refused f) S)
goes_left h n f = record { steady = h; small = none; few = omega arith; swap = omega arith; counts = λ t e. e }

-- the fresh slice is that of no pairs
pub fresh_standing : Standing [] (replicate tree_words 0)
unfolding tree_of
fresh_standing = record { holds = holds_empty tree_words (omega arith); slice = fresh_layout tree_words (omega arith) }

pub fresh_kept : kept_in (replicate tree_words 0) ≡ 0
fresh_kept = standing_kept fresh_standing

-- the fresh slice, and no marks
pub steady_fresh : Steady (replicate tree_words 0) (replicate number_count 0)
steady_fresh =
    record {
      slice_words = length-replicate {A = ℕ} tree_words 0;
      mark_count = length-replicate {A = ℕ} number_count 0;
      pairs = [];
      tree = standing_saved fresh_standing;
      small = none;
      exactly = λ n l. (λ e. absurd (omega (arith, e, get_or-replicate {A = ℕ} number_count n 0 0 l)), λ (p, i, e). elim i [ ]);
    }
