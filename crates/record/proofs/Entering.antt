-- One record: the removals before it, its insertion, and what becomes of it by the book.
use Rattle.std.specs.Prelude.{Err, Ok, Result, ℕ}
use mathlib.Core.Path.{◌≡◌, refl, sym, ap, ◌∙◌}
use mathlib.Core.Logic.{◌⊎◌, inl, inr}
use mathlib.Core.Option.{Option, none as nobody, some}
use mathlib.Core.List.{List, [], ◌∷◌, ◌++◌, map, Memᴰ}
use Prim.Native.Nat.{ℕ, ◌<◌}
use native.Mathlib.Omega.{arith}
use lib.ListN.{length, take, replicate, length-replicate}
use lib.Seq.{take_at}
use Rattle.clause.specs.Lists.{All, none, also}
use Rattle.clause.specs.Clause.{shape}
use Rattle.machine.specs.Machine.{State, initial}
use Rattle.tree.specs.Keys.{first_key}
use Rattle.tree.specs.Forest.{layout, find}
use Rattle.tree.specs.Laid.{decode}
use Rattle.tree.specs.Entries.{Pair, entry}
use Rattle.tree.specs.Changes.{Change, insert_into}
use Rattle.tree.specs.Calls.{Called, changed, insertion}
use Rattle.walk.specs.Walk.{Answer, covered, not_covered, spent, broken, up_to, walk}
use Rattle.walk.specs.Query.{machine, witness_words, answer_by, query}
use Rattle.walk.specs.Covering.{Subsumed, IsCovered, IsNotCovered, IsSpent, Answers}
use Rattle.readback.specs.Saved.{IsTreeOf}
use Rattle.backward.specs.Calls.{backward}
use Rattle.backward.specs.Laws.{tries_of, as_read, ListsKept}
use Rattle.backward.specs.Listing.{rising}
use Rattle.book.specs.Book.{Call, insert, Fit, AllFit, call as call_on, after, book_step, book_from, tree_of}
use Rattle.record.specs.Answer.{budget, tree_words, list_words, Record, Answered, left, removals, entered_as, entered, unless_taken, replaced_as, replaced, goes_in, answer_as}
use Rattle.record.specs.Answer.{answer_to, calls_on, calls_for}
use Rattle.record.specs.Ruled.{pair_of, Numbered, Decided, Uncovered, Strikes, faulty, number_taken, list_full, no_room, over_budget}
use Rattle.record.specs.Ruled.{without_all, Clears, nothing, subsumed}
use Rattle.clause.specs.declared.Fault.{Fault}
use Rattle.tree.specs.declared.Refusal.TheVariants.{BadClause, Spent}
use Rattle.tree.specs.declared.Done.{Done}
use Rattle.tree.specs.declared.Done.TheVariants as call
use Rattle.walk.specs.declared.Verdict.{Verdict}
use Rattle.walk.specs.declared.Verdict.TheVariants.{Covered, NotCovered}
use Rattle.backward.specs.declared.Listed.{Listed}
use Rattle.record.specs.declared.Setting.{Setting}
use Rattle.record.specs.declared.Setting.TheVariants.{Plain, Back}
use Rattle.record.specs.declared.Outcome.{Outcome}
use Rattle.record.specs.declared.Outcome.TheVariants.{Refused}
use Rattle.clause.proofs.Lists.{all_mem}
use Rattle.tree.proofs.Words.{length_layout}
use Rattle.walk.proofs.Covering.{query_tree, answers, decided_fits, shows_subsumes}
use Rattle.backward.proofs.Laws.{backward_laws}
use Rattle.readback.proofs.Lists.{all_elements}
use Rattle.book.proofs.Holds.{Holds, holds_leaves, holds_tree, holds_numbers, holds_clauses, holds_decode}
use Rattle.book.proofs.Step.{Steps, steps, insertion_is}
use Rattle.record.proofs.Clearing.{clear_mem, clear_book}
use Rattle.record.proofs.Ruling.{witness_long, shape_faulty, Course, refuses, strikes, keeps, Fate, Tried, taken, varied, full, crowded, larger}
use Rattle.record.proofs.Ruling.{used_layout, find_numbered, find_new, tried, book_grown}
use Rattle.tree.specs.declared.Refusal.{Refusal}

-- ---- calls one after another

pub after_append : (T : List ℕ) (xs ys : List Call) → after T (xs ++ ys) ≡ after (after T xs) ys
after_append T [] ys = refl
after_append T (x ∷ xs) ys = after_append (call_on T x).slice xs ys

pub book_append : (K : List Pair) (xs ys : List Call) → book_from tree_words K (xs ++ ys) ≡ book_from tree_words (book_from tree_words K xs) ys
book_append K [] ys = refl
book_append K (x ∷ xs) ys = book_append (book_step tree_words K x) xs ys

pub fit_append : (xs ys : List Call) → AllFit xs → AllFit ys → AllFit (xs ++ ys)
fit_append [] ys f g = g
fit_append (x ∷ xs) ys f g = (f.0, fit_append xs ys f.1 g)

-- ---- the removals before it

-- the slice holds the tree of the book
pub record Standing (K : List Pair) (T : List ℕ) : Type 0 where
  pub holds : Holds tree_words K (tree_of K)
  pub slice : T ≡ layout tree_words (tree_of K)

standing_step : (K : List Pair) (x : Call) (T : List ℕ) → Standing K T → Steps tree_words K (tree_of K) x → Standing (book_step tree_words K x) (call_on T x).slice
standing_step K x T s t =
    let e = holds_tree t.holds in
    record { holds = rw e t.holds; slice = ap (λ (U : List ℕ). (call_on U x).slice) s.slice ∙ t.slice ∙ ap (layout tree_words) (sym e) }

-- and does so after calls
pub standing_after : (xs : List Call) (K : List Pair) (T : List ℕ) → Standing K T → AllFit xs → Standing (book_from tree_words K xs) (after T xs)
standing_after [] K T s f = s
standing_after (x ∷ xs) K T s f =
    standing_after xs (book_step tree_words K x) (call_on T x).slice (standing_step K x T s (steps tree_words K (tree_of K) s.holds (omega arith) (omega arith) x f.0)) f.1

-- numbers of 32 bits can be removed
pub removals_fit : {ns : List ℕ} → All (λ n. n < first_key) ns → AllFit (removals ns)
removals_fit none = tt
removals_fit (also h a) = (h, removals_fit a)

-- the book after removals and an insertion
book_entered : (ns : List ℕ) (K : List Pair) (x : Record) → book_from tree_words K (removals ns ++ (insert x.words x.number ∷ []))
    ≡ book_step tree_words (without_all ns K) (insert x.words x.number)
book_entered ns K x =
    book_append K (removals ns) (insert x.words x.number ∷ [])
    ∙ ap (λ (M : List Pair). book_step tree_words M (insert x.words x.number)) (clear_book tree_words ns K)

module _ (K : List Pair) (x : Record) (f : Fit (insert x.words x.number)) (q : ℕ) (s : shape x.words ≡ Ok q) (u : Uncovered K x)
    (ns : List ℕ) (d : Standing (without_all ns K) (after (layout tree_words (tree_of K)) (removals ns))) where
  -- what is left of the book, and its slice
  abbrev M : List Pair
  M = without_all ns K

  abbrev S : List ℕ
  S = after (layout tree_words (tree_of K)) (removals ns)

  -- it has the same pairs, and some fewer
  left_numbered : Numbered M x.number → Numbered K x.number
  left_numbered (p, m, e) = (p, (clear_mem ns K m).0, e)

  left_subsumed : Subsumed M x.words → Subsumed K x.words
  left_subsumed (p, m, v) = (p, (clear_mem ns K m).0, v)

  -- what an insertion makes of the record
  abbrev Enters : Change → Type 0
  Enters y =
      let r : Called = changed (layout tree_words (tree_of M)) (Ok call.Kept) y in
      let a : Answered = entered_as r.answer ns r.slice (layout tree_words (tree_of K)) in
      Course K M x ns a.outcome a.removed (book_from tree_words K (calls_on a.outcome a.removed x))

  course_entered : ((Numbered M x.number → ⊥) → Numbered K x.number → ⊥) → {y : Change} → insert_into tree_words (tree_of M) (entry (pair_of x)) ≡ y
      → Tried M x y → Enters y
  course_entered g e (taken m) = refuses (number_taken u (left_numbered m))
  course_entered g e (varied m k) = absurd (u.unsubsumed (left_subsumed k))
  course_entered g e (full n l) = refuses (list_full u (g n) l)
  course_entered g e (crowded n l r) = refuses (no_room u (g n) l r)
  course_entered g e (larger n l r G i j) =
      rw (book_entered ns K x, book_grown M (tree_of M) d.holds x f q s G e, used_layout (length (layout tree_words (tree_of M))) G j, i)
      (keeps (record { uncovered = u; new = g n; few = l; room = r }))

  -- so much for a record inserted after the removal of some numbers
  pub entered_course : ((Numbered M x.number → ⊥) → Numbered K x.number → ⊥)
      → let a = entered ns (layout tree_words (tree_of K)) x in Course K M x ns a.outcome a.removed (book_from tree_words K (calls_on a.outcome a.removed x))
  unfolding entered
  entered_course g =
      rw (d.slice, insertion_is tree_words M (tree_of M) d.holds (omega arith) (omega arith) x.words x.number q s)
      (course_entered g refl (tried M (tree_of M) d.holds x f q s))

-- ---- backward striking

-- the slice of a book is a saved one
pub standing_saved : {K : List Pair} {T : List ℕ} → Standing K T → IsTreeOf T K
unfolding tree_of
standing_saved {K} {T} s =
    let h = s.holds in
    let l : length T ≡ tree_words = ap length s.slice ∙ length_layout tree_words (tree_of K) h.room in
    record {
      low = omega (arith, l);
      high = omega (arith, l);
      few = h.few;
      sound = h.sound;
      numbers = holds_numbers h;
      clauses = holds_clauses h;
      room = rw l h.room;
      words = rw l s.slice;
    }

module _ (K : List Pair) (h : Holds tree_words K (tree_of K)) (x : Record) (f : Fit (insert x.words x.number)) (q : ℕ) (s : shape x.words ≡ Ok q) where
  abbrev T₀ : List ℕ
  T₀ = layout tree_words (tree_of K)

  abbrev L₀ : List ℕ
  L₀ = replicate list_words 0

  standing : Standing K T₀
  standing = record { holds = h; slice = refl }

  -- what the listing comes to
  pub lists : ListsKept T₀ K x.words budget L₀
  lists = backward_laws T₀ K (standing_saved standing) x.words (q, s) f.0 budget L₀

  -- list and budget are enough
  listed : (backward T₀ x.words budget L₀).answer ≡ Ok (record { count = length lists.numbers; candidates = (tries_of x.words (rising (map as_read K))) })
  listed =
      (lists.answered _ _).1
      (rw (length-replicate {A = ℕ} list_words 0) (omega (arith, lists.few, h.few)), omega (arith, lists.enough), refl, refl)

  -- the numbers stand in the list
  list_is : take (length lists.numbers) (backward T₀ x.words budget L₀).list ≡ lists.numbers
  list_is = ap (take (length lists.numbers)) (lists.list _ _ listed) ∙ take_at lists.numbers _ (length lists.numbers) refl

  -- they are numbers of the book, so they can be removed
  numbers_fit : AllFit (removals lists.numbers)
  numbers_fit = removals_fit (go lists.numbers (all_elements lists.numbers))
    where
      fits : (n : ℕ) → Memᴰ n lists.numbers → n < first_key
      fits n m = let (p, i, e, u) = (lists.exactly n).0 m in rw e at (all_mem h.sound i).number

      go : (ns : List ℕ) → All (λ n. Memᴰ n lists.numbers) ns → All (λ n. n < first_key) ns
      go [] none = none
      go (n ∷ ns) (also m a) = also (fits n m) (go ns a)

  pub standing_left : Standing (without_all lists.numbers K) (after T₀ (removals lists.numbers))
  standing_left = rw (clear_book tree_words lists.numbers K) at (standing_after (removals lists.numbers) K T₀ standing numbers_fit)

  -- what the listing makes of the record
  replaced_is : replaced T₀ x ≡ unless_taken (find x.number (tree_of K)) T₀ (entered lists.numbers T₀ x)
  unfolding replaced
  replaced_is = rw (listed, list_is, holds_decode h (omega arith))

  pub replaced_course : Uncovered K x → let a = replaced T₀ x in
      Course K (without_all lists.numbers K) x lists.numbers a.outcome a.removed (book_from tree_words K (calls_on a.outcome a.removed x))
  replaced_course u = rw replaced_is (go (find x.number (tree_of K)) refl)
    where
      go : (o : Option (List ℕ)) → find x.number (tree_of K) ≡ o → let a = unless_taken o T₀ (entered lists.numbers T₀ x) in
          Course K (without_all lists.numbers K) x lists.numbers a.outcome a.removed (book_from tree_words K (calls_on a.outcome a.removed x))
      go (some cs) e = refuses (number_taken u (find_numbered K (tree_of K) h x f q s cs e))
      go nobody e = entered_course K x f q s u lists.numbers standing_left (λ n. find_new K (tree_of K) h x f q s e)

-- ---- the record

-- what the walk answers where the query is answered covered
told_covered : (b : ℕ) (W : List ℕ) (a : Answer State) (n k : ℕ) → (answer_by b W a).answer ≡ Ok (Covered n k) → (t : State) × (a ≡ covered n t k)
told_covered b W (covered m t l) n k e = let i : m ≡ n = cc in let j : l ≡ k = cc in (t, rw (i, j))
told_covered b W (not_covered c) n k e = cc
told_covered b W spent n k e = cc
told_covered b W broken n k e = cc

module _ (v : Setting) (K : List Pair) (h : Holds tree_words K (tree_of K)) (x : Record) (f : Fit (insert x.words x.number)) where
  abbrev T : List ℕ
  T = layout tree_words (tree_of K)

  abbrev W : List ℕ
  W = replicate witness_words 0

  -- what comes of an answer
  abbrev FateOf : Answered → Type 0
  FateOf a = Fate v K x a.outcome a.removed (book_from tree_words K (calls_on a.outcome a.removed x))

  -- by the query's answer
  fate_as : (a : Result Verdict Refusal) → (query T x.words budget W).answer ≡ a → FateOf (answer_as v a T x) → FateOf (answer_to v T x)
  unfolding answer_to
  fate_as a e r = rw e r

  -- a clause with a fault
  asked_faulty : (g : Fault) → shape x.words ≡ Err g → (query T x.words budget W).answer ≡ Err (BadClause g)
  unfolding query
  asked_faulty g e = rw (length_layout tree_words (tree_of K) h.room, e)

  module _ (q : ℕ) (s : shape x.words ≡ Ok q) where
    asked : Answers K (tree_of K) T x.words budget W
    asked = answers K (tree_of K) h.sound h.keeps.mirrors (holds_leaves h) x.words (q, s) tree_words (omega arith) (omega arith) h.room budget W witness_long

    -- within the budget, where it is covered or not
    within : IsCovered T x.words budget W ⊎ IsNotCovered T x.words budget W → Decided K x
    within u = record { accepted = (q, s); fits = decided_fits asked u }

    fate_covered : (n k : ℕ) → (query T x.words budget W).answer ≡ Ok (Covered n k) → Strikes K x n k
    fate_covered n k e =
        let (p, m, i, shows, spared) = asked.covers n k e in
        let over = query_tree tree_words (tree_of K) (omega arith) (omega arith) h.room x.words (q, s) budget W witness_long h.keeps.mirrors.formed in
        let (t, w) = told_covered budget W (walk (machine x.words) (up_to budget) (tree_of K) initial 0) n k (ap (λ y. y.answer) (sym over) ∙ e) in
        record {
          decided = within (inl (n, k, e));
          state = t;
          walked = w;
          count = asked.counts n k e;
          striking = p;
          kept = m;
          number = i;
          subsumes = shows_subsumes p.clause x.words _ shows;
          shows = rw (ap (λ y. y.witness) over ∙ ap (λ a. (answer_by budget W a).witness) w) at shows;
        }

    fate_new : (k : ℕ) → (query T x.words budget W).answer ≡ Ok (NotCovered k) → Uncovered K x
    fate_new k e = record { decided = within (inr (k, e)); unsubsumed = (asked.spares k e).0 }

    -- the numbers that it would take out
    clearing : (ns : List ℕ) × Clears v K x ns
    clearing = go v
      where
        go : (v : Setting) → (ns : List ℕ) × Clears v K x ns
        go Plain = ([], nothing)
        go Back = let l = lists K h x f q s in (l.numbers, subsumed l.rise l.exactly)

    -- by what becomes of it
    abbrev CourseOf : Answered → (ns : List ℕ) → Type 0
    CourseOf a ns = Course K (without_all ns K) x ns a.outcome a.removed (book_from tree_words K (calls_on a.outcome a.removed x))

    fate_new_in : (k : ℕ) → (query T x.words budget W).answer ≡ Ok (NotCovered k) → FateOf (goes_in v T x)
    fate_new_in k e = go v
      where
        go : (v : Setting) → Fate v K x (goes_in v T x).outcome (goes_in v T x).removed (book_from tree_words K (calls_on (goes_in v T x).outcome (goes_in v T x).removed x))
        go Plain =
            record {
              cleared = [];
              clears = λ a. nothing;
              course = entered_course K x f q s (fate_new k e) [] (record { holds = h; slice = refl }) (λ n. n);
            }
        go Back =
            let l = lists K h x f q s in
            record { cleared = l.numbers; clears = λ a. subsumed l.rise l.exactly; course = replaced_course K h x f q s (fate_new k e) }

    -- where it does not go in
    fate_out : {o : Outcome} → ((ns : List ℕ) → Course K (without_all ns K) x ns o [] K) → Fate v K x o [] K
    fate_out c = record { cleared = clearing.0; clears = λ a. clearing.1; course = c clearing.0 }

    fate_kinds : IsCovered T x.words budget W ⊎ (IsNotCovered T x.words budget W ⊎ IsSpent T x.words budget W) → FateOf (answer_to v T x)
    fate_kinds (inl (n, k, e)) = fate_as (Ok (Covered n k)) e (fate_out (λ ns. strikes (fate_covered n k e)))
    fate_kinds (inr (inl (k, e))) = fate_as (Ok (NotCovered k)) e (fate_new_in k e)
    fate_kinds (inr (inr e)) = fate_as (Err (Spent budget)) e (fate_out (λ ns. refuses (over_budget (q, s) (asked.spends.0 e))))

  -- a clause that is not accepted takes nothing out
  fate_faulty : (g : Fault) → shape x.words ≡ Err g → FateOf (left (Refused (BadClause g)) T)
  fate_faulty g e = record { cleared = []; clears = λ a. absurd (shape_faulty e a.1); course = refuses (faulty g e) }

  pub fate : Fate v K x (answer_to v T x).outcome (answer_to v T x).removed (book_from tree_words K (calls_for v T x))
  unfolding calls_for
  fate = go (shape x.words) refl
    where
      go : (s : Result ℕ Fault) → shape x.words ≡ s → FateOf (answer_to v T x)
      go (Err g) e = fate_as (Err (BadClause g)) (asked_faulty g e) (fate_faulty g e)
      go (Ok q) e = fate_kinds q e (asked q e).kinds

-- ---- the slice and the calls

module _ (T : List ℕ) (x : Record) where
  -- the slice after a record is that after its calls
  abbrev Leaves : Answered → Type 0
  Leaves a = a.slice ≡ after T (calls_on a.outcome a.removed x)

  leaves_entered : (ns : List ℕ) → Leaves (entered ns T x)
  unfolding entered
  leaves_entered ns = go (insertion (after T (removals ns)) x.words x.number).answer
    where
      S : List ℕ
      S = (insertion (after T (removals ns)) x.words x.number).slice

      kept : S ≡ after T (removals ns ++ (insert x.words x.number ∷ []))
      kept = sym (after_append T (removals ns) (insert x.words x.number ∷ []))

      go : (a : Result Done Refusal) → Leaves (entered_as a ns S T)
      go (Err g) = refl
      go (Ok call.Ready) = kept
      go (Ok call.Kept) = kept
      go (Ok call.Removed) = kept

  leaves_taken : (o : Option (List ℕ)) (ns : List ℕ) → Leaves (unless_taken o T (entered ns T x))
  leaves_taken (some cs) ns = refl
  leaves_taken nobody ns = leaves_entered ns

  leaves_listed : (b : Result Listed Refusal) (L : List ℕ) → Leaves (replaced_as b L T x)
  leaves_listed (Err r) L = refl
  leaves_listed (Ok l) L = leaves_taken (find x.number (decode T)) (take l.count L)

  leaves_in : (v : Setting) → Leaves (goes_in v T x)
  unfolding replaced
  leaves_in Plain = leaves_entered []
  leaves_in Back = leaves_listed (backward T x.words budget (replicate list_words 0)).answer (backward T x.words budget (replicate list_words 0)).list

  leaves_as : (v : Setting) (a : Result Verdict Refusal) → Leaves (answer_as v a T x)
  leaves_as v (Err r) = refl
  leaves_as v (Ok (Covered n k)) = refl
  leaves_as v (Ok (NotCovered k)) = leaves_in v

  pub slice_after : (v : Setting) → (answer_to v T x).slice ≡ after T (calls_for v T x)
  unfolding answer_to calls_for
  slice_after v = leaves_as v (query T x.words budget (replicate witness_words 0)).answer
