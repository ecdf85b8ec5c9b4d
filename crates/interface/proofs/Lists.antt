-- Lists of calls that C makes are lists of calls, and its queries and listings say what these answer.
use Rattle.std.specs.Prelude.{Err, Ok, Result, ℕ, ⊤}
use mathlib.Core.Path.{◌≡◌, refl, sym, ap, ap₂, ◌∙◌}
use mathlib.Core.Logic.{◌↔◌, ◌⊎◌, inl, inr}
use mathlib.Core.List.{List, [], ◌∷◌, ◌++◌, map}
use Prim.Native.Nat.{ℕ, ◌≤◌}
use native.Mathlib.Omega.{arith}
use lib.ListN.{length, replicate, length-replicate}
use Rattle.tree.specs.Entries.{Pair}
use Rattle.tree.specs.Calls.{fresh}
use Rattle.tree.specs.declared.Refusal.TheVariants.{Spent, ShortList}
use Rattle.tree.specs.declared.Done.{Done}
use Rattle.tree.specs.declared.Done.TheVariants.{Ready, Kept, Removed}
use Rattle.readback.specs.Calls.{check, read_back}
use Rattle.backward.specs.Calls.{Backed, unlisted, backward}
use Rattle.backward.specs.Laws.{SpentAt, FullAt, ListsKept, queried, tries_of}
use Rattle.backward.specs.declared.Listed.{Listed}
use Rattle.walk.specs.Ceiling.{full_budget, enough_budget}
use Rattle.walk.specs.Query.{witness_words, query}
use Rattle.walk.specs.Covering.{IsCovered, IsNotCovered, IsSpent, Answers}
use Rattle.walk.specs.declared.Verdict.{Verdict}
use Rattle.walk.specs.declared.Verdict.TheVariants.{Covered, NotCovered}
use Rattle.walk.proofs.Covering.{decided_fits}
use Rattle.book.specs.Table.{said_call, said_query, said_check, said_read, given_back, backed}
use Rattle.book.specs.Book.{Call, insert, remove, call, done, after, slice_of, book_of, tree_of}
use Rattle.book.specs.Claims.{Run, Reached, Together, Same, Exact}
use Rattle.book.proofs.Reach.{reach, demand2}
use Rattle.book.proofs.Agreement.{demand3}
use Rattle.book.specs.Saved.{insert_all}
use Rattle.readback.specs.Laws.{ReadsKept}
use Rattle.book.proofs.Exact.{exact_count}
use Rattle.book.proofs.Saved.{reach_saved, passed_saved, saved_is_made, reads_book}
use Rattle.book.proofs.Backward.{lists_book}
use Rattle.interface.specs.Told.{number_of, shown_as, replied}
use Rattle.interface.specs.Calls.{Handed, handed, ct_fresh, ct_insert, ct_remove, ct_query, ct_read_back, ct_check, ct_backward}
use Rattle.interface.specs.Claims.{Made, ct_call, ct_after, ct_tree, calls_made, CtRun, CtReach}
use Rattle.interface.specs.Claims.{Says, SaysCovered, SaysNot, SaysSpent, needed, CtAnswers, CtDemand2, CtSame, CtCovered, CtDemand3, CtExact, CtExactCount}
use Rattle.interface.specs.Claims.{CtChecked, CtReadsBook, CtSavedIsMade, Lists, ListsSpent, ListsFull, CtLists, CtListsBook}
use Rattle.interface.proofs.Differ.{Freshened, ready, bad_slice, Inserted, kept, refusal, Taken, removed, broken, no_such}
use Rattle.interface.proofs.Differ.{fresh_answers, insert_answers, remove_answers, code_some, query_apart}
use Rattle.tree.specs.declared.Refusal.{Refusal}

-- ---- the words, and the numbers returned

call_words : (T : List ℕ) (x : Call) (ts : List ℕ) → (ct_call T x ts).words ≡ (call T x).slice
unfolding ct_insert ct_remove
call_words T (insert c n) ts = refl
call_words T (remove n) ts = refl

after_words : (T : List ℕ) (xs : List Made) → ct_after T xs ≡ after T (calls_made xs)
after_words T [] = refl
after_words T (x ∷ xs) = rw (call_words T x.call x.told) (after_words (call T x.call).slice xs)

tree_words_lem : (T : List ℕ) (xs : List Made) → ct_tree T xs ≡ slice_of T (calls_made xs)
unfolding ct_fresh
tree_words_lem T xs = after_words (fresh T).slice xs

-- 0 is returned where the call is done
returned : Result Done Refusal → ℕ
returned a = number_of (said_call a).title

fresh_done : {a : Result Done Refusal} → Freshened a → returned a ≡ 0 → a ≡ Ok Ready
unfolding returned
fresh_done ready e = refl
fresh_done bad_slice e = absurd (omega arith)

insert_done : {a : Result Done Refusal} → Inserted a → returned a ≡ 0 → a ≡ Ok Kept
unfolding returned
insert_done kept e = refl
insert_done (refusal r) e = absurd (code_some r e)

remove_done : {a : Result Done Refusal} → Taken a → returned a ≡ 0 → a ≡ Ok Removed
unfolding returned
remove_done removed e = refl
remove_done bad_slice e = absurd (omega arith)
remove_done broken e = absurd (omega arith)
remove_done no_such e = absurd (omega arith)

call_done : (T : List ℕ) (x : Call) (ts : List ℕ) → ((ct_call T x ts).number ≡ 0) ↔ ((call T x).answer ≡ done x)
unfolding ct_insert ct_remove returned
call_done T (insert c n) ts = (insert_done (insert_answers T c n), ap returned)
call_done T (remove n) ts = (remove_done (remove_answers T n), ap returned)

-- ---- what is reached

run_of : (T : List ℕ) (xs : List Made) → CtRun T xs → Run T (calls_made xs)
unfolding ct_fresh returned
run_of T xs R = record { ready = fresh_done (fresh_answers T) R.ready; fit = R.fit }

pub ct_reach : CtReach
ct_reach T xs R =
    let h : Reached T (calls_made xs) = reach T (calls_made xs) (run_of T xs R) in
    record {
      words = tree_words_lem T xs ∙ h.slice;
      changes = λ x f ts. rw (tree_words_lem T xs)
          ((λ e. (h.changes x f).0 ((call_done (slice_of T (calls_made xs)) x ts).0 e)), (λ e. (call_done (slice_of T (calls_made xs)) x ts).1 ((h.changes x f).1 e)));
    }

-- ---- what a query says

module _ (T d : List ℕ) (b : ℕ) (W ts : List ℕ) (long : 3 ≤ length ts) where
  says : (a : Result Verdict Refusal)
      → Says (ct_query T d b W ts) ts (replied (said_query a) []).number (shown_as (said_query a).title (said_query a).values) ↔ ((query T d b W).answer ≡ a)
  unfolding ct_query
  says a = (
    λ s. query_apart (query T d b W).answer a ts ts long long s.0 s.1,
    λ e. (ap (λ y. (replied (said_query y) ts).number) e, ap (λ y. (replied (said_query y) ts).told) e),
  )

module _ {K : List Pair} {T d : List ℕ} {b : ℕ} {W : List ℕ} (A : Answers K (tree_of K) T d b W) where
  module _ (ts : List ℕ) (long : 3 ≤ length ts) (enough : needed K d ≤ enough_budget) where
    says_covered : IsCovered T d b W → SaysCovered (ct_query T d b W ts) ts (needed K d)
    says_covered u = let (n, c, e) = u in (n, (says T d b W ts long (Ok (Covered n (needed K d)))).1 (rw (← A.counts n c e) e))

    says_not : IsNotCovered T d b W → SaysNot (ct_query T d b W ts) ts (needed K d)
    says_not u = let (c, e) = u in (says T d b W ts long (Ok (NotCovered (needed K d)))).1 (rw (← A.counts_not c e) e)

    said_covered : (n : ℕ) → Says (ct_query T d b W ts) ts 0 (1 ∷ n ∷ needed K d ∷ []) → (query T d b W).answer ≡ Ok (Covered n (needed K d))
    said_covered n s = (says T d b W ts long (Ok (Covered n (needed K d)))).0 s

    said_not : SaysNot (ct_query T d b W ts) ts (needed K d) → (query T d b W).answer ≡ Ok (NotCovered (needed K d))
    said_not s = (says T d b W ts long (Ok (NotCovered (needed K d)))).0 s

    said_spent : SaysSpent (ct_query T d b W ts) ts b ↔ IsSpent T d b W
    said_spent = says T d b W ts long (Err (Spent b))

    ct_kinds : IsCovered T d b W ⊎ (IsNotCovered T d b W ⊎ IsSpent T d b W)
        → SaysCovered (ct_query T d b W ts) ts (needed K d) ⊎ (SaysNot (ct_query T d b W ts) ts (needed K d) ⊎ SaysSpent (ct_query T d b W ts) ts b)
    ct_kinds (inl u) = inl (says_covered u)
    ct_kinds (inr (inl u)) = inr (inl (says_not u))
    ct_kinds (inr (inr u)) = inr (inr (said_spent.1 u))

    ct_spares : SaysNot (ct_query T d b W ts) ts (needed K d) ⊎ SaysSpent (ct_query T d b W ts) ts b → (query T d b W).witness ≡ W
    ct_spares (inl s) = (A.spares (needed K d) (said_not s)).1
    ct_spares (inr s) = A.untouched (said_spent.0 s)

    ct_answers : CtAnswers K d b W ts (ct_query T d b W ts)
    unfolding ct_query
    ct_answers =
        record {
          kinds = ct_kinds A.kinds;
          covered = (
            λ u. let (n, s) = u in
                let l = decided_fits A (inl (n, needed K d, said_covered n s)) in
                (l, (A.decides l).0 (n, needed K d, said_covered n s)),
            λ h. says_covered ((A.decides h.0).1 h.1),
          );
          not_covered = (
            λ s. let l = decided_fits A (inr (needed K d, said_not s)) in (l, (A.denies l).0 (needed K d, said_not s)),
            λ h. says_not ((A.denies h.0).1 h.1),
          );
          spent = ((λ s. A.spends.0 (said_spent.0 s)), (λ l. said_spent.1 (A.spends.1 l)));
          enough = enough;
          bounded = A.bounded;
          arranged = A.arranged;
          shows = λ n s. A.covers n (needed K d) (said_covered n s);
          spares = ct_spares;
        }

pub ct_demand2 : CtDemand2
ct_demand2 T xs R d W ts P b =
    let ys : List Call = calls_made xs in
    let r : Run T ys = run_of T xs R in
    rw (tree_words_lem T xs) (ct_answers (demand2 T ys r d P.clause b W P.witness) ts P.told ((demand3 T ys T ys r r).both.one.enough d P.clause))

-- ---- two lists

-- covered at the full budget
ct_covered : (T d W ts : List ℕ) → 3 ≤ length ts → CtCovered T d W ts ↔ IsCovered T d full_budget W
ct_covered T d W ts long = (
  λ u. let (c, (n, s)) = u in (n, c, (says T d full_budget W ts long (Ok (Covered n c))).0 s),
  λ u. let (n, c, e) = u in (c, (n, (says T d full_budget W ts long (Ok (Covered n c))).1 e)),
)

ct_same : {S T d : List ℕ} {b : ℕ} → Same S T d b → CtSame S T d b
unfolding ct_query
ct_same {S} {T} {d} {b} s =
    let Z : List ℕ = replicate witness_words 0 in
    let z : witness_words ≤ length Z = omega (arith, length-replicate {A = ℕ} witness_words 0) in
    let a : (Result Verdict Refusal) = (query S d b Z).answer in
    let one : (U : List ℕ) → witness_words ≤ length U → (query S d b U).answer ≡ a = λ U l. s.answer U Z l z ∙ sym (s.answer Z Z z z) in
    let other : (U : List ℕ) → witness_words ≤ length U → (query T d b U).answer ≡ a = λ U l. sym (s.answer Z U z l) in
    record {
      number = number_of (said_query a).title;
      values = shown_as (said_query a).title (said_query a).values;
      words = s.words;
      one = λ U ts l. rw (one U l, s.left U l);
      other = λ U ts l. rw (other U l, s.right U l);
    }

pub ct_demand3 : CtDemand3
ct_demand3 S xs T ys R Q =
    let one = run_of S xs R in
    let other = run_of T ys Q in
    let t : Together S (calls_made xs) T (calls_made ys) = demand3 S (calls_made xs) T (calls_made ys) one other in
    let S' : List ℕ = slice_of S (calls_made xs) in
    let T' : List ℕ = slice_of T (calls_made ys) in
    let O : List ℕ = 0 ∷ 0 ∷ 0 ∷ [] in
    record {
      agree = rw (tree_words_lem S xs, tree_words_lem T ys) (
        λ g. t.both.agree.0 (λ d D w U W l m.
            let i = g d w U O W O (record { clause = D; witness = l; told = omega arith }) (record { clause = D; witness = m; told = omega arith }) in (
              λ u. (ct_covered T' d W O (omega arith)).0 (i.0 ((ct_covered S' d U O (omega arith)).1 u)),
              λ u. (ct_covered S' d U O (omega arith)).0 (i.1 ((ct_covered T' d W O (omega arith)).1 u)),
            )),
        λ h d w U ts W us P N.
            let i = t.both.agree.1 h d P.clause w U W P.witness N.witness in (
              λ u. (ct_covered T' d W us N.told).1 (i.0 ((ct_covered S' d U ts P.told).0 u)),
              λ u. (ct_covered S' d U ts P.told).1 (i.1 ((ct_covered T' d W us N.told).0 u)),
            ),
      );
      same = rw (tree_words_lem S xs, tree_words_lem T ys) (λ f h d D b. ct_same (t.both.same f h d D b));
    }

-- ---- one literal, an exact count

module _ (T : List ℕ) (xs : List Call) (d : List ℕ) (b : ℕ) (W ts : List ℕ) (long : 3 ≤ length ts) (E : Exact T xs d b W) where
  abbrev S : List ℕ
  S = slice_of T xs

  abbrev r : Handed
  r = ct_query S d b W ts

  ct_decided : IsCovered S d b W ⊎ IsNotCovered S d b W → ((c : ℕ) × SaysCovered r ts c) ⊎ ((c : ℕ) × SaysNot r ts c)
  ct_decided (inl (n, c, e)) = inl (c, (n, (says S d b W ts long (Ok (Covered n c))).1 e))
  ct_decided (inr (c, e)) = inr (c, (says S d b W ts long (Ok (NotCovered c))).1 e)

  ct_less : IsSpent S d b W ⊎ ((n : ℕ) × (c : ℕ) × ((query S d b W).answer ≡ Ok (Covered n c)) × (c ≤ b))
      → SaysSpent r ts b ⊎ ((c : ℕ) × (c ≤ b) × SaysCovered r ts c)
  ct_less (inl s) = inl ((says S d b W ts long (Err (Spent b))).1 s)
  ct_less (inr (n, c, e, l)) = inr (c, l, (n, (says S d b W ts long (Ok (Covered n c))).1 e))

  ct_exact : CtExact d b ts r
  ct_exact =
      record {
        exact = λ c s. E.exact c ((says S d b W ts long (Ok (NotCovered c))).0 s);
        at_most = λ c s. E.at_most s.0 c ((says S d b W ts long (Ok (Covered s.0 c))).0 s.1);
        enough = λ h. ct_decided (E.enough h);
        less = λ h. ct_less (E.less h);
      }

pub ct_exact_count : CtExactCount
ct_exact_count T xs R some units d W ts P b =
    let ys : List Call = calls_made xs in
    rw (tree_words_lem T xs) (ct_exact T ys d b W ts P.told (exact_count T ys (run_of T xs R) some units d P.clause b W P.witness))

-- ---- saved trees

check_done : (a : Result ⊤ Refusal) → number_of (said_check a).title ≡ 0 → a ≡ Ok tt
check_done (Err r) e = absurd (code_some r e)
check_done (Ok tt) e = refl

pub ct_checked : CtChecked
unfolding ct_check
ct_checked T = (λ e. (passed_saved T).0 (check_done (check T) e), λ I. ap (λ a. number_of (said_check a).title) ((passed_saved T).1 I))

pub ct_reads_book : CtReadsBook
unfolding ct_read_back
ct_reads_book T xs R W room ts =
    let ys : List Call = calls_made xs in
    let r : Run T ys = run_of T xs R in
    let S : List ℕ = slice_of T ys in
    let B : ReadsKept S (book_of (length T) ys) W = reads_book T ys r W room in
    let number : Result ℕ Refusal → ℕ = λ a. number_of (said_read a).title in
    record {
      passes = rw (tree_words_lem T xs) ((ct_checked S).1 (_, reach_saved T ys r));
      each = λ p m. rw (tree_words_lem T xs) (ap (λ g. handed (given_back g) ts) (B.each p m));
      unknown = λ n l. rw (tree_words_lem T xs) (
        λ e p m q. let z : ◌≡◌ {A = ℕ} 0 9 = sym (ap (λ g. number g.answer) (B.each p m)) ∙ ap (λ k. number (read_back S k W).answer) q ∙ e in absurd (omega arith),
        λ h. ap (λ g. number g.answer) ((B.unknown n l).1 h),
      );
    }

-- calls without words to tell in
silent : List Call → List Made
silent ys = map (λ y. record { call = y; told = [] }) ys

made_append : (ys : List Call) (xs : List Made) → calls_made (silent ys ++ xs) ≡ ys ++ calls_made xs
unfolding silent
made_append [] xs = refl
made_append (y ∷ ys) xs = ap (y ∷◌) (made_append ys xs)

pub ct_saved_is_made : CtSavedIsMade
unfolding ct_fresh returned
ct_saved_is_made T K I xs f =
    let r = saved_is_made T K I (calls_made xs) f in
    let e = made_append (insert_all K) xs in
    record {
      calls = silent (insert_all K) ++ xs;
      run = record { ready = ap returned r.run.ready; fit = rw e r.run.fit };
      words = tree_words_lem T (silent (insert_all K) ++ xs) ∙ ap (slice_of T) e ∙ r.slice ∙ sym (after_words T xs);
      book = ap (book_of (length T)) e ∙ r.book;
    }

-- ---- listing backward

-- the same answer, by other names of its numbers
answer_for : {a : Result Listed Refusal} {m n j k : ℕ} → a ≡ Ok (record { count = m; candidates = j }) → m ≡ n → j ≡ k
    → a ≡ Ok (record { count = n; candidates = k })
answer_for e f g = rw (sym f, sym g) e

module _ {T : List ℕ} {K : List Pair} {c : List ℕ} {b : ℕ} {L : List ℕ} (B : ListsKept T K c b L) (ts : List ℕ) where
  abbrev listing : Backed
  listing = backward T c b L

  abbrev out : Handed
  out = handed (backed listing) ts

  abbrev tries : ℕ
  tries = tries_of c (queried K)

  -- what comes out

  lists : (n k : ℕ) → listing.answer ≡ Ok (record { count = n; candidates = k }) → Lists out L ts B.numbers tries
  lists n k e =
      let (r, m, f, g) = (B.answered n k).0 e in
      ap₂ (λ (a : Result Listed Refusal) (l : List ℕ). handed (backed (record { answer = a; list = l })) ts) (answer_for e f g) (B.list n k e)

  lists_spent : listing ≡ unlisted (Spent b) L → ListsSpent out L ts b
  lists_spent e = ap (λ y. handed (backed y) ts) e

  lists_full : listing ≡ unlisted ShortList L → ListsFull out L ts
  lists_full e = ap (λ y. handed (backed y) ts) e

  -- which of the three it is, by its number

  number_of_lem : {r : Handed} → out ≡ r → out.number ≡ r.number
  number_of_lem e = ap (λ (y : Handed). y.number) e

  abbrev Kinds : Type 0
  Kinds = ((n : ℕ) × (k : ℕ) × (listing.answer ≡ Ok (record { count = n; candidates = k }))) ⊎ ((listing ≡ unlisted (Spent b) L) ⊎ (listing ≡ unlisted ShortList L))

  was_listed : Kinds → out.number ≡ 0 → (length B.numbers ≤ length L) × (tries ≤ b)
  was_listed (inl (n, k, a)) e = let (r, m, f, g) = (B.answered n k).0 a in (r, m)
  was_listed (inr (inl s)) e = absurd (omega (arith, e, number_of_lem (lists_spent s)))
  was_listed (inr (inr u)) e = absurd (omega (arith, e, number_of_lem (lists_full u)))

  was_spent : Kinds → out.number ≡ 12 → SpentAt c b L (queried K)
  was_spent (inl (n, k, a)) e = absurd (omega (arith, e, number_of_lem (lists n k a)))
  was_spent (inr (inl s)) e = B.spent.0 s
  was_spent (inr (inr u)) e = absurd (omega (arith, e, number_of_lem (lists_full u)))

  was_full : Kinds → out.number ≡ 16 → FullAt c b L (queried K)
  was_full (inl (n, k, a)) e = absurd (omega (arith, e, number_of_lem (lists n k a)))
  was_full (inr (inl s)) e = absurd (omega (arith, e, number_of_lem (lists_spent s)))
  was_full (inr (inr u)) e = B.full.0 u

  list_kinds : Kinds → Lists out L ts B.numbers tries ⊎ (ListsSpent out L ts b ⊎ ListsFull out L ts)
  list_kinds (inl (n, k, a)) = inl (lists n k a)
  list_kinds (inr (inl s)) = inr (inl (lists_spent s))
  list_kinds (inr (inr u)) = inr (inr (lists_full u))

  ct_lists : CtLists K c b L ts out
  ct_lists =
      record {
        numbers = B.numbers;
        exactly = B.exactly;
        rise = B.rise;
        listed = (
          λ e. was_listed B.kinds (number_of_lem e),
          λ u. lists (length B.numbers) tries ((B.answered (length B.numbers) tries).1 (u.0, u.1, refl, refl)),
        );
        spent = (λ e. was_spent B.kinds (number_of_lem e), λ s. lists_spent (B.spent.1 s));
        full = (λ e. was_full B.kinds (number_of_lem e), λ u. lists_full (B.full.1 u));
        kinds = list_kinds B.kinds;
        enough = B.enough;
      }

pub ct_lists_book : CtListsBook
unfolding ct_backward
ct_lists_book T xs R c C w b L ts = rw (tree_words_lem T xs) (ct_lists (lists_book T (calls_made xs) (run_of T xs R) c C w b L) ts)
