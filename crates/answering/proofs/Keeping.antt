-- One record: what the query, the listing and the insertion leave is what becomes of the record.
use Rattle.std.specs.Prelude.{Err, Ok, Result, ℕ}
use mathlib.Core.Path.{◌≡◌, refl, sym, ap, ap₂, ◌∙◌}
use mathlib.Core.Logic.{◌≢◌}
use mathlib.Core.Bool.{Bool, true, false, cond}
use mathlib.Core.Option.{none, some}
use mathlib.Core.List.{List, [], ◌∷◌, Memᴰ}
use Prim.Native.Nat.{ℕ, ◌^◌, ◌≤◌, ◌<◌}
use native.Mathlib.Omega.{arith}
use lib.ListN.{length, get_or, take, drop, replicate, length-replicate}
use lib.Seq.{take-take, take_at, length-take-le}
use Rattle.clause.specs.Lists.{All}
use Rattle.clause.specs.Word.{Words}
use Rattle.clause.specs.Clause.{max_words, shape, Accepted}
use Rattle.clause.proofs.Lists.{all_mem, all-weaken, all_below}
use Rattle.clause.proofs.Literals.{accepted}
use Rattle.machine.specs.Compile.{keys}
use Rattle.machine.proofs.Codes.{sequence_plain}
use Rattle.tree.specs.Forest.{find}
use Rattle.tree.specs.Laid.{used_of, sized, well_laid, decode, region}
use Rattle.tree.specs.Inner.Cut.{locate}
use Rattle.tree.specs.Entries.{entry}
use Rattle.tree.specs.Changes.{Change, refuse, change, insert_into}
use Rattle.tree.specs.Calls.{Called, changed, insertion}
use Rattle.tree.specs.Inner.ByWords.{insert_by_words}
use Rattle.tree.specs.declared.Refusal.{Refusal}
use Rattle.tree.specs.declared.Refusal.TheVariants.{BadSlice, Broken, NoSuchTree, NumberTaken}
use Rattle.tree.specs.declared.Done.{Done}
use Rattle.tree.specs.declared.Done.TheVariants as call
use Rattle.tree.proofs.Plain.{plain_body}
use Rattle.tree.proofs.ByWords.{insertion_words}
use Rattle.merging.specs.Inner.Inserting.{Mergeable}
use Rattle.merging.proofs.KeysOf.{keys_few}
use Rattle.merging.proofs.UsedWords.{number_free}
use Rattle.walk.specs.Query.{witness_words, unanswered, query_as, query}
use Rattle.walk.specs.declared.Verdict.{Verdict}
use Rattle.walk.specs.declared.Verdict.TheVariants.{Covered, NotCovered}
use Rattle.readback.specs.Saved.{of_clauses, pairs_of}
use Rattle.readback.proofs.Lists.{all_elements}
use Rattle.backward.specs.Listing.{Listing, listed, overfull, spent, broken, rising, list_from}
use Rattle.backward.specs.Calls.{Backed, unlisted, listed_in, list_into, backward_as, backward}
use Rattle.backward.specs.Laws.{ListsKept}
use Rattle.backward.specs.declared.Listed.{Listed}
use Rattle.backward.proofs.Laws.{backward_laws}
use Rattle.book.specs.Book.{insert, Fit}
use Rattle.record.specs.Answer.{budget, list_words, Record, Answered, entered, unless_taken, replaced_as, replaced, goes_in, answer_to}
use Rattle.record.specs.Marks.{number_count, taken, marked}
use Rattle.record.specs.declared.Setting.{Setting}
use Rattle.record.specs.declared.Setting.TheVariants.{Plain, Back}
use Rattle.record.specs.declared.Outcome.{Outcome}
use Rattle.record.specs.declared.Outcome.TheVariants.{Kept, Struck, Refused}
use Rattle.record.specs.declared.Came.{Came}
use Rattle.replacing.proofs.Copying.{enters_kept, enters_refused}
use Rattle.answering.specs.Inner.Steady.{Steady, CameOut}
use Rattle.answering.proofs.Steady.{steady_sized, steady_laid, steady_taken, steady_free}
use Rattle.clause.specs.declared.Fault.{Fault}

-- ---- the insertion

-- a clause is short
pub clause_short : (c : List ℕ) → Accepted c → length c ≤ max_words
clause_short c a = (accepted c a).fits

-- and has a word
pub clause_some : (c : List ℕ) → Accepted c → 0 < length c
unfolding shape
clause_some [] a = let e = a.1 in cc
clause_some (w ∷ ws) a = omega arith

-- the record of a clause under a number
abbrev pub of : (words : List ℕ) (number : ℕ) → Record
of c n = record { number = n; words = c }

-- what is inserted, and where: slice and marks hold together, the clause is accepted, its words and the number are of 16 bits
pub record Insertable (S K c : List ℕ) (n : ℕ) : Type 0 where
  pub steady : Steady S K
  pub accepts : Accepted c
  pub words : Words c
  pub number : n < number_count

pub insertable : {S K c : List ℕ} (n : ℕ) → Steady S K → Accepted c → ((i : ℕ) → get_or c i 0 < 2 ^ 16) → n < number_count → Insertable S K c n
insertable {c = c} n h a u l = record { steady = h; accepts = a; words = all_below (2 ^ 16) c u; number = l }

-- a refused change leaves the slice
change_left : (S : List ℕ) (y : Change) (f : Refusal) → (changed S (Ok call.Kept) y).answer ≡ Err f → (changed S (Ok call.Kept) y).slice ≡ S
change_left S (refuse r) f e = refl
change_left S (change F) f e = cc

module _ {S K c : List ℕ} {n : ℕ} (g : Insertable S K c n) where
  fit : Fit (insert c n)
  fit = (g.words, omega (arith, g.number))

  -- the number is marked as taken, or not
  pub number_found : get_or K n 0 ≡ taken → (ks : List ℕ) × (find n (decode S) ≡ some ks)
  number_found e = steady_taken g.steady (of c n) fit g.accepts.0 g.accepts.1 g.number e

  pub number_missing : get_or K n 0 ≢ taken → find n (decode S) ≡ none
  number_missing e = steady_free g.steady (of c n) fit g.accepts.0 g.accepts.1 g.number e

  pub ready : {ks : List ℕ} → ks ≡ keys c → Mergeable S ks
  ready e =
      let a = g.accepts in
      rw e (record { size = steady_sized g.steady; laid = steady_laid g.steady; body = plain_body (sequence_plain c (accepted c a) g.words); few = keys_few c a })

  pub number_new : get_or K n 0 ≢ taken → locate (region S) n 0 0 0 ≡ none
  number_new m = number_free S (steady_sized g.steady) (steady_laid g.steady) n (omega (arith, g.number)) (number_missing m)

  -- by what it does to the tree
  by_tree : insertion S c n ≡ changed S (Ok call.Kept) (insert_into (length S) (decode S) (entry (record { number = n; clause = c })))
  unfolding insertion
  by_tree = rw (steady_sized g.steady, g.accepts.1, steady_laid g.steady)

  pub keep_marked : get_or K n 0 ≡ taken → record { outcome = Refused NumberTaken; removed = []; slice = S } ≡ entered [] S (of c n)
  unfolding entered insert_into
  keep_marked m = let (ks, e) = number_found m in rw (by_tree, e, insert_into)

  -- the keys are those of the clause, and they are inserted under a number that is not marked
  module _ {ks R : List ℕ} {r : Result Done Refusal} (e : ks ≡ keys c)
      (w : ◌≡◌ {A = Called} (record { answer = r; slice = R }) (insert_by_words S (record { number = n; keys = ks }))) where
    called : ◌≡◌ {A = Called} (record { answer = r; slice = R }) (insertion S c n)
    called =
        let l : n < 2 ^ 32 = omega (arith, g.number) in
        w ∙ rw e (sym (insertion_words S (steady_sized g.steady) (steady_laid g.steady) c n g.accepts.0 g.accepts.1 g.words l))

    pub keep_refused : (f : Refusal) → r ≡ Err f → record { outcome = Refused f; removed = []; slice = R } ≡ entered [] S (of c n)
    keep_refused f q =
        let t = called ∙ by_tree in
        let y : Change = insert_into (length S) (decode S) (entry (record { number = n; clause = c })) in
        let same : R ≡ S = ap (λ (x : Called). x.slice) t ∙ change_left S y f (sym (ap (λ (x : Called). x.answer) t) ∙ q) in
        ap (λ (T : List ℕ). record { outcome = Refused f; removed = []; slice = T }) same ∙ enters_refused S [] (of c n) refl called f q

    pub keep_kept : {used : ℕ} → ((f : Refusal) → r ≡ Err f → ⊥) → used ≡ used_of (get_or R 0 0)
        → record { outcome = Kept used; removed = []; slice = R } ≡ entered [] S (of c n)
    keep_kept f u = enters_kept S [] (of c n) refl called f refl u

  -- ---- in place of kept clauses

  pub exchange_marked : (ns : List ℕ) → get_or K n 0 ≡ taken
      → record { outcome = Refused NumberTaken; removed = []; slice = S } ≡ unless_taken (find n (decode S)) S (entered ns S (of c n))
  exchange_marked ns m = let (ks, e) = number_found m in rw e

  pub exchange_free : (ns : List ℕ) → get_or K n 0 ≢ taken → entered ns S (of c n) ≡ unless_taken (find n (decode S)) S (entered ns S (of c n))
  exchange_free ns m = rw (number_missing m)

  -- there is none
  pub exchange_none : (ns : List ℕ) → length ns ≤ 0 → entered [] S (of c n) ≡ entered ns S (of c n)
  exchange_none [] h = refl
  exchange_none (k ∷ ns) h = absurd (omega arith)

-- ---- the listing

-- what a listing makes of a record does not depend on the words of the list
module _ (T : List ℕ) (x : Record) (L M : List ℕ) (same : length L ≡ length M) where
  abbrev Made : Backed → Answered
  Made b = replaced_as b.answer b.list T x

  listed_apart : (l : Listing) → Made (listed_in budget L l) ≡ Made (listed_in budget M l)
  unfolding listed_in
  listed_apart (listed ns k) =
      ap (λ (ms : List ℕ). unless_taken (find x.number (decode T)) T (entered ms T x))
      (take_at ns (drop (length ns) L) (length ns) refl ∙ sym (take_at ns (drop (length ns) M) (length ns) refl))
  listed_apart overfull = refl
  listed_apart spent = refl
  listed_apart broken = refl

  made_apart : Made (backward T x.words budget L) ≡ Made (backward T x.words budget M)
  unfolding backward list_into
  made_apart = go (sized T) (shape x.words)
    where
      Of : List ℕ → Backed
      Of N = listed_in budget N (list_from x.words budget (rising (pairs_of (decode T))) (length N) 0)

      inside : Made (Of L) ≡ Made (Of M)
      inside = rw same (listed_apart (list_from x.words budget (rising (pairs_of (decode T))) (length M) 0))

      laid : (w o : Bool) → Made (cond w (cond o (Of L) (unlisted NoSuchTree L)) (unlisted Broken L)) ≡ Made (cond w (cond o (Of M) (unlisted NoSuchTree M)) (unlisted Broken M))
      laid true true = inside
      laid true false = refl
      laid false o = refl

      go : (s : Bool) (h : Result ℕ Fault) → Made (cond s (backward_as h T x.words budget L) (unlisted BadSlice L)) ≡ Made (cond s (backward_as h T x.words budget M) (unlisted BadSlice M))
      go true (Err f) = refl
      go true (Ok q) = laid (well_laid T) (of_clauses (decode T))
      go false h = refl

-- ---- what becomes of a record that is listed

module _ {S K c : List ℕ} {n : ℕ} (g : Insertable S K c n) (L : List ℕ) {M : List ℕ} {r : Result Listed Refusal} (same : length L ≡ list_words)
    (w : ◌≡◌ {A = Backed} (record { answer = r; list = M }) (backward S c budget L)) where
  -- it is what the definition says
  is_replaced : replaced_as r M S (of c n) ≡ replaced S (of c n)
  unfolding replaced
  is_replaced =
      ap (λ (b : Backed). replaced_as b.answer b.list S (of c n)) w
      ∙ made_apart S (of c n) L (replicate list_words 0) (same ∙ sym (length-replicate {A = ℕ} list_words 0))

  pub back_refused : (f : Refusal) → r ≡ Err f
      → CameOut (replaced S (of c n)) n K (record { outcome = Refused f; removed = 0 }) M S K
  back_refused f e =
      record { many = omega arith; answer = sym (ap (λ (b : Result Listed Refusal). replaced_as b M S (of c n)) e) ∙ is_replaced; marking = refl }

  -- the numbers that are listed
  lists : ListsKept S g.steady.pairs c budget L
  lists = backward_laws S g.steady.pairs g.steady.tree c g.accepts g.words budget L

  module _ (m k : ℕ) (e : r ≡ Ok (record { count = m; candidates = k })) where
    says : (backward S c budget L).answer ≡ Ok (record { count = m; candidates = k })
    says = sym (ap (λ (b : Backed). b.answer) w) ∙ e

    numbers_are : take m M ≡ lists.numbers
    numbers_are =
        let l = (lists.answered m k).0 says in
        ap₂ take l.2 (ap (λ (b : Backed). b.list) w ∙ lists.list m k says) ∙ take_at lists.numbers _ (length lists.numbers) refl

    pub listed_inside : length M ≡ length L → m ≤ length M
    listed_inside h = let l = (lists.answered m k).0 says in omega (arith, l.0, l.2)

    pub listed_small : All (λ i. i < number_count) (take m M)
    listed_small = rw numbers_are (all-weaken small (all_elements lists.numbers))
      where
        small : (i : ℕ) → Memᴰ i lists.numbers → i < number_count
        small i j = let (p, q, f, u) = (lists.exactly i).0 j in rw f at (all_mem g.steady.small q)

    pub back_listed : {o : Came} {R Z : List ℕ} → m ≤ length M
        → record { outcome = o.outcome; removed = take o.removed (take m M); slice = R } ≡ unless_taken (find n (decode S)) S (entered (take m M) S (of c n))
        → Z ≡ marked o.outcome n (take o.removed (take m M)) K → o.removed ≤ length (take m M)
        → CameOut (replaced S (of c n)) n K o M R Z
    back_listed {o} {R} h a b l =
        let few : o.removed ≤ m = omega (arith, length-take-le m M h) in
        let t : take o.removed (take m M) ≡ take o.removed M = take-take o.removed m M few in
        record {
          many = omega arith;
          answer =
              ap (λ (ms : List ℕ). record { outcome = o.outcome; removed = ms; slice = R }) (sym t)
              ∙ a ∙ sym (ap (λ (b : Result Listed Refusal). replaced_as b M S (of c n)) e) ∙ is_replaced;
          marking = b ∙ ap (λ (ms : List ℕ). marked o.outcome n ms K) t;
        }

-- ---- the query

-- only an accepted clause is not covered
pub not_covered : (S c : List ℕ) (b : ℕ) (W : List ℕ) (k : ℕ) → (query S c b W).answer ≡ Ok (NotCovered k) → Accepted c
unfolding query
not_covered S c b W k e = go (sized S) (shape c) refl e
  where
    go : (s : Bool) (x : Result ℕ Fault) → shape c ≡ x → (cond s (query_as x S c b W) (unanswered BadSlice W)).answer ≡ Ok (NotCovered k) → Accepted c
    go true (Err f) p e = cc
    go true (Ok q) p e = (q, p)
    go false x p e = cc

module _ (v : Setting) (S c : List ℕ) (n : ℕ) {r : Result Verdict Refusal} (answers : r ≡ (query S c budget (replicate witness_words 0)).answer) where
  pub asked_refused : {K M : List ℕ} (f : Refusal) → r ≡ Err f
      → CameOut (answer_to v S (of c n)) n K (record { outcome = Refused f; removed = 0 }) M S K
  unfolding answer_to
  asked_refused f e = record { many = omega arith; answer = rw (← answers, e); marking = refl }

  pub asked_struck : {K M : List ℕ} (m k : ℕ) → r ≡ Ok (Covered m k) → CameOut (answer_to v S (of c n)) n K (record { outcome = Struck m k; removed = 0 }) M S K
  unfolding answer_to
  asked_struck m k e = record { many = omega arith; answer = rw (← answers, e); marking = refl }

  pub asked_accepted : (k : ℕ) → r ≡ Ok (NotCovered k) → Accepted c
  asked_accepted k e = not_covered S c budget (replicate witness_words 0) k (sym answers ∙ e)

  pub asked_in : (k : ℕ) {o : Came} {K M R Z : List ℕ} → r ≡ Ok (NotCovered k) → CameOut (goes_in v S (of c n)) n K o M R Z
      → CameOut (answer_to v S (of c n)) n K o M R Z
  unfolding answer_to
  asked_in k e x = record { many = x.many; answer = rw (← answers, e) x.answer; marking = x.marking }

-- ---- by the setting

module _ (v : Setting) (S c : List ℕ) (n : ℕ) {K : List ℕ} where
  pub in_plain : v ≡ Plain → {o : Outcome} {M R Z : List ℕ} → record { outcome = o; removed = []; slice = R } ≡ entered [] S (of c n) → Z ≡ marked o n [] K
      → CameOut (goes_in v S (of c n)) n K (record { outcome = o; removed = 0 }) M R Z
  in_plain e a m = record { many = omega arith; answer = rw e a; marking = m }

  pub in_back : v ≡ Back → {o : Came} {M R Z : List ℕ} → CameOut (replaced S (of c n)) n K o M R Z → CameOut (goes_in v S (of c n)) n K o M R Z
  in_back e x = rw e x
