-- The rows of some records: the slice and the book go from row to row by the calls.
use mathlib.Core.Path.{◌≡◌, refl, sym, ap, subst, ◌∙◌}
use mathlib.Core.Logic.{◌⊎◌, inl, inr}
use mathlib.Core.List.{List, [], ◌∷◌, ◌++◌, map, append_assoc}
use mathlib.Core.List.Memᴰ
use mathlib.Core.List.{Memᴰ}
use Prim.Native.Nat.{ℕ, ◌+◌, ◌≤◌, ◌<◌}
use native.Mathlib.Omega.{arith}
use lib.ListN.{length, length-append}
use Rattle.clause.specs.Lists.{All, none, also, Each, nobody, besides}
use Rattle.clause.specs.Clause.{Subsumes}
use Rattle.clause.proofs.Lists.{all_mem, all-weaken}
use Rattle.clause.proofs.Order.{subsumes_refl, subsumes_trans}
use Rattle.tree.specs.Keys.{first_key}
use Rattle.tree.specs.Entries.{Pair}
use Rattle.walk.specs.Covering.{Subsumed}
use Rattle.book.specs.Book.{Call, insert, AllFit, after, book_from, tree_of}
use Rattle.record.specs.Answer.{tree_words, Record, removals, answer_to, calls_on, calls_for}
use Rattle.record.specs.Output.{Row, row_on, rows_from, row_calls, counted, totals_with}
use Rattle.record.specs.Ruled.{pair_of, Numbered, IsKept, IsStruck, without_all, Clears, nothing, subsumed}
use Rattle.record.specs.Antichain.{Antichain}
use Rattle.record.specs.Sheet.{kept_on, taken_out, kept_pairs, Over}
use Rattle.record.specs.declared.Setting.{Setting}
use Rattle.record.specs.declared.Setting.TheVariants.{Plain, Back}
use Rattle.record.specs.declared.Outcome.{Outcome}
use Rattle.record.specs.declared.Outcome.TheVariants.{Kept, Struck, Refused}
use Rattle.record.specs.declared.Totals.{Totals}
use Rattle.readback.proofs.Lists.{all_elements}
use Rattle.book.proofs.Holds.{Holds, holds_numbers}
use Rattle.record.proofs.Reading.{FitRecord}
use Rattle.record.proofs.Clearing.{Differ, same_pair, clear_append, clear_more, clear_mem, mem_clear, clear_each, clear_length, among}
use Rattle.record.proofs.Ruling.{Course, refuses, strikes, keeps, Fate}
use Rattle.record.proofs.Entering.{after_append, book_append, fit_append, Standing, standing_after, removals_fit, fate, slice_after}

-- the slice after the calls for a record and some others
pub slice_more : (v : Setting) (T : List ℕ) (x : Record) (cs : List Call) → after T (calls_for v T x ++ cs) ≡ after (answer_to v T x).slice cs
slice_more v T x cs = after_append T (calls_for v T x) cs ∙ ap (λ (U : List ℕ). after U cs) (sym (slice_after T x v))

-- ---- rows one after another

-- each row is that of its record on the slice that those before it leave
pub data Made (v : Setting) : (slice : List ℕ) → List Row → Type 0 where
  made_none : {T : List ℕ} → Made v T []
  made_more : {T : List ℕ} {r : Row} {rs : List Row} → r ≡ row_on v T r.of → FitRecord r.of → Made v (after T r.calls) rs → Made v T (r ∷ rs)

pub made : (v : Setting) (T : List ℕ) (xs : List Record) → All FitRecord xs → Made v T (rows_from v T xs)
unfolding rows_from row_on
made v T [] none = made_none
made v T (x ∷ xs) (also f h) =
    made_more {T = T} {r = row_on v T x} {rs = rows_from v (answer_to v T x).slice xs} refl f (rw (← slice_after T x v) (made v (answer_to v T x).slice xs h))

pub rows_records : (v : Setting) (T : List ℕ) (xs : List Record) → map (λ r. r.of) (rows_from v T xs) ≡ xs
unfolding rows_from row_on
rows_records v T [] = refl
rows_records v T (x ∷ xs) = ap (λ (l : List Record). x ∷ l) (rows_records v (answer_to v T x).slice xs)

module _ {v : Setting} where
  pub made_first : (rs rest : List Row) (T : List ℕ) → Made v T (rs ++ rest) → Made v T rs
  made_first [] rest T m = made_none
  made_first (r ∷ rs) rest T (made_more e f m) = made_more e f (made_first rs rest (after T r.calls) m)

  pub made_last : (rs rest : List Row) (T : List ℕ) → Made v T (rs ++ rest) → Made v (after T (row_calls rs)) rest
  made_last [] rest T m = m
  made_last (r ∷ rs) rest T (made_more e f m) = rw (after_append T r.calls (row_calls rs)) (made_last rs rest (after T r.calls) m)

  pub made_row : {T : List ℕ} {r : Row} {rs : List Row} → Made v T (r ∷ rs) → r ≡ row_on v T r.of
  made_row (made_more e f m) = e

-- ---- one row, by the book before it

-- the numbers that it takes out are those of pairs of the book, and they differ
pub clears_numbered : {v : Setting} {K : List Pair} {x : Record} {ns : List ℕ} → Clears v K x ns → All (Numbered K) ns
clears_numbered nothing = none
clears_numbered {ns = ns} (subsumed r e) = all-weaken (λ n m. let (p, i, j, u) = (e n).0 m in (p, i, j)) (all_elements ns)

pub clears_rise : {v : Setting} {K : List Pair} {x : Record} {ns : List ℕ} → Clears v K x ns → Each ◌<◌ ns
clears_rise nothing = nobody
clears_rise (subsumed r e) = r

-- a pair of the book with one of them is subsumed by the record's clause
clears_subsumed : {v : Setting} {K : List Pair} {x : Record} {ns : List ℕ} → Clears v K x ns → Differ K → (p : Pair) → Memᴰ p K → Memᴰ p.number ns
    → Subsumes x.words p.clause
clears_subsumed nothing d p m i = elim i [ ]
clears_subsumed {x = x} (subsumed r e) d p m i =
    let (q, j, f, u) = (e p.number).0 i in
    subst (λ (y : Pair). Subsumes x.words y.clause) (same_pair d j m f) u

module _ {v : Setting} {K : List Pair} (h : Holds tree_words K (tree_of K)) {x : Record} where
  -- its calls fit
  pub fate_fits : FitRecord x → {o : Outcome} {ms : List ℕ} {M : List Pair} → Fate v K x o ms M → AllFit (calls_on o ms x)
  fate_fits f t = go t.course
    where
      small : (n : ℕ) → Numbered K n → n < first_key
      small n (p, m, e) = rw e at (all_mem h.sound m).number

      go : {L : List Pair} {o : Outcome} {ms : List ℕ} {M : List Pair} → Course K L x t.cleared o ms M → AllFit (calls_on o ms x)
      go (refuses r) = tt
      go (strikes s) = tt
      go (keeps k) =
          fit_append (removals t.cleared) (insert x.words x.number ∷ []) (removals_fit (all-weaken small (clears_numbered (t.clears k.uncovered.decided.accepted)))) (f, tt)

  -- what the book before it covers the book after it covers
  pub fate_covers : {o : Outcome} {ms : List ℕ} {M : List Pair} → Fate v K x o ms M → (w : List ℕ) → Subsumed K w → Subsumed M w
  fate_covers t w (p, m, u) = go t.course
    where
      go : {o : Outcome} {ms : List ℕ} {M : List Pair} → Course K (without_all t.cleared K) x t.cleared o ms M → Subsumed M w
      go (refuses r) = (p, m, u)
      go (strikes s) = (p, m, u)
      go (keeps k) = by (among p.number t.cleared)
        where
          by : Dec (Memᴰ p.number t.cleared) → Subsumed (pair_of x ∷ without_all t.cleared K) w
          by (yes i) =
              let c = clears_subsumed (t.clears k.uncovered.decided.accepted) (holds_numbers h) p m i in
              (pair_of x, Memᴰ.head refl, subsumes_trans x.words p.clause w c u)
          by (no i) = (p, Memᴰ.tail (mem_clear t.cleared K m i), u)

  -- and the record itself, where it is kept or struck
  fate_covered : {o : Outcome} {ms : List ℕ} {M : List Pair} → Fate v K x o ms M → IsKept o ⊎ IsStruck o → Subsumed M x.words
  fate_covered t w = go t.course w
    where
      go : {L : List Pair} {o : Outcome} {ms : List ℕ} {M : List Pair} → Course K L x t.cleared o ms M → IsKept o ⊎ IsStruck o → Subsumed M x.words
      go (refuses r) (inl (n, e)) = cc
      go (refuses r) (inr (n, k, e)) = cc
      go (strikes s) o = (s.striking, s.kept, s.subsumes)
      go (keeps k) o = (pair_of x, Memᴰ.head refl, subsumes_refl x.words)

  -- as many pairs as are counted
  pub fate_count : {o : Outcome} {ms : List ℕ} {M : List Pair} (u : Totals) → Fate v K x o ms M → u.kept ≡ length K → (counted o (length ms) u).kept ≡ length M
  fate_count u t e = go t.course
    where
      go : {o : Outcome} {ms : List ℕ} {M : List Pair} → Course K (without_all t.cleared K) x t.cleared o ms M → (counted o (length ms) u).kept ≡ length M
      go (refuses r) = e
      go (strikes s) = e
      go (keeps k) =
          let c = t.clears k.uncovered.decided.accepted in
          omega (arith, e, clear_length t.cleared K (clears_rise c) (holds_numbers h) (clears_numbered c))

  -- at most as many are taken out as there are
  pub fate_few : {o : Outcome} {ms : List ℕ} {M : List Pair} → Fate v K x o ms M → length ms ≤ length K
  fate_few t = go t.course
    where
      go : {o : Outcome} {ms : List ℕ} {M : List Pair} → Course K (without_all t.cleared K) x t.cleared o ms M → length ms ≤ length K
      go (refuses r) = omega arith
      go (strikes s) = omega arith
      go (keeps k) =
          let c = t.clears k.uncovered.decided.accepted in
          omega (arith, clear_length t.cleared K (clears_rise c) (holds_numbers h) (clears_numbered c))

  -- it takes the place of those that it takes out
  pub fate_swap : {o : Outcome} {ms : List ℕ} {M : List Pair} → Fate v K x o ms M → length M + length ms ≤ length K + 1
  fate_swap t = go t.course
    where
      go : {o : Outcome} {ms : List ℕ} {M : List Pair} → Course K (without_all t.cleared K) x t.cleared o ms M → length M + length ms ≤ length K + 1
      go (refuses r) = omega arith
      go (strikes s) = omega arith
      go (keeps k) =
          let c = t.clears k.uncovered.decided.accepted in
          omega (arith, clear_length t.cleared K (clears_rise c) (holds_numbers h) (clears_numbered c))

-- the book after it has the record's pair, if it is kept, and what is left
fate_book : {v : Setting} {K M : List Pair} {x : Record} {o : Outcome} {ms : List ℕ} → Fate v K x o ms M → M ≡ kept_on o x ++ without_all ms K
fate_book {K = K} {x = x} t = go t.course
  where
    go : {o : Outcome} {ms : List ℕ} {M : List Pair} → Course K (without_all t.cleared K) x t.cleared o ms M → M ≡ kept_on o x ++ without_all ms K
    go (refuses r) = refl
    go (strikes s) = refl
    go (keeps k) = refl

-- with backward striking no clause of it subsumes another one, where it was so before
fate_apart : {K M : List Pair} {x : Record} {o : Outcome} {ms : List ℕ} → Fate Back K x o ms M → Antichain Over K → Antichain Over M
fate_apart {K} {x = x} t a = go t.course
  where
    beside : {ns : List ℕ} → ((p : Pair) → Memᴰ p K → Subsumes p.clause x.words → ⊥) → Clears Back K x ns → (p : Pair) → Memᴰ p (without_all ns K)
        → (Subsumes x.words p.clause → ⊥) × (Subsumes p.clause x.words → ⊥)
    beside {ns} free (subsumed r e) p m =
        let (i, j) = clear_mem ns K m in
        (λ u. j ((e p.number).1 (p, i, refl, u)), free p i)

    go : {o : Outcome} {ms : List ℕ} {M : List Pair} → Course K (without_all t.cleared K) x t.cleared o ms M → Antichain Over M
    go (refuses r) = a
    go (strikes s) = a
    go (keeps k) =
        besides {x = pair_of x}
        (all-weaken (beside (λ p m u. k.uncovered.unsubsumed (p, m, u)) (t.clears k.uncovered.decided.accepted)) (all_elements (without_all t.cleared K)))
        (clear_each t.cleared a)

-- without it nothing is taken out
fate_plain : {K M : List Pair} {x : Record} {o : Outcome} {ms : List ℕ} → Fate Plain K x o ms M → ms ≡ []
fate_plain {K} {x = x} t = go t.course
  where
    empty : {ns : List ℕ} → Clears Plain K x ns → ns ≡ []
    empty nothing = refl

    go : {L : List Pair} {o : Outcome} {ms : List ℕ} {M : List Pair} → Course K L x t.cleared o ms M → ms ≡ []
    go (refuses r) = refl
    go (strikes s) = refl
    go (keeps k) = empty (t.clears k.uncovered.decided.accepted)

-- ---- what becomes of each row

-- each row is as the book before it says
pub data Fated (v : Setting) : List Pair → List Row → Type 0 where
  fated_none : {K : List Pair} → Fated v K []
  fated_more : {K : List Pair} {r : Row} {rs : List Row} → Holds tree_words K (tree_of K)
      → Fate v K r.of r.outcome r.removed (book_from tree_words K r.calls) → Fated v (book_from tree_words K r.calls) rs → Fated v K (r ∷ rs)

module _ (v : Setting) where
  fate_row : (K : List Pair) (T : List ℕ) (r : Row) → Standing K T → r ≡ row_on v T r.of → FitRecord r.of
      → Fate v K r.of r.outcome r.removed (book_from tree_words K r.calls)
  unfolding row_on
  fate_row K T r s e f =
      let o : r.outcome ≡ (answer_to v T r.of).outcome = ap (λ (y : Row). y.outcome) e in
      let n : r.removed ≡ (answer_to v T r.of).removed = ap (λ (y : Row). y.removed) e in
      let c : r.calls ≡ calls_for v T r.of = ap (λ (y : Row). y.calls) e in
      rw (o, n, c, s.slice) (fate v K s.holds r.of f)

  -- its calls are those of its outcome
  pub row_calls_lem : (T : List ℕ) (r : Row) → r ≡ row_on v T r.of → r.calls ≡ calls_on r.outcome r.removed r.of
  unfolding row_on calls_for
  row_calls_lem T r e =
      ap (λ (y : Row). y.calls) e ∙ sym (ap (λ (y : Row). calls_on y.outcome y.removed r.of) e)

  row_fits : (K : List Pair) (T : List ℕ) (r : Row) → Standing K T → r ≡ row_on v T r.of → FitRecord r.of → AllFit r.calls
  row_fits K T r s e f = rw (row_calls_lem T r e) (fate_fits s.holds f (fate_row K T r s e f))

module _ {v : Setting} where
  pub fated : {T : List ℕ} {rs : List Row} (K : List Pair) → Standing K T → Made v T rs → Fated v K rs
  fated K s made_none = fated_none
  fated {T} K s (made_more {r = r} e f m) =
      fated_more s.holds (fate_row v K T r s e f) (fated (book_from tree_words K r.calls) (standing_after r.calls K T s (row_fits v K T r s e f)) m)

  pub made_fit : {T : List ℕ} {rs : List Row} (K : List Pair) → Standing K T → Made v T rs → AllFit (row_calls rs)
  made_fit K s made_none = tt
  made_fit {T} K s (made_more {r = r} {rs = rs} e f m) =
      let g = row_fits v K T r s e f in
      fit_append r.calls (row_calls rs) g (made_fit (book_from tree_words K r.calls) (standing_after r.calls K T s g) m)

  pub fated_first : (rs rest : List Row) (K : List Pair) → Fated v K (rs ++ rest) → Fated v K rs
  fated_first [] rest K f = fated_none
  fated_first (r ∷ rs) rest K (fated_more h e f) = fated_more h e (fated_first rs rest (book_from tree_words K r.calls) f)

  pub fated_last : (rs rest : List Row) (K : List Pair) → Fated v K (rs ++ rest) → Fated v (book_from tree_words K (row_calls rs)) rest
  fated_last [] rest K f = f
  fated_last (r ∷ rs) rest K (fated_more h e f) = rw (book_append K r.calls (row_calls rs)) (fated_last rs rest (book_from tree_words K r.calls) f)

  pub fated_row : {K : List Pair} {r : Row} {rs : List Row} → Fated v K (r ∷ rs) → Fate v K r.of r.outcome r.removed (book_from tree_words K r.calls)
  fated_row (fated_more h e f) = e

  -- ---- the book is what the `kept` and `removed` lines say

  pub kept_book : {K : List Pair} {rs : List Row} → Fated v K rs → book_from tree_words K (row_calls rs) ≡ kept_pairs rs ++ without_all (taken_out rs) K
  kept_book fated_none = refl
  kept_book {K} (fated_more {r = r} {rs = rs} h e f) =
      let ms = taken_out rs in
      let new = kept_on r.outcome r.of in
      book_append K r.calls (row_calls rs) ∙ kept_book f ∙ ap (λ (l : List Pair). kept_pairs rs ++ without_all ms l) (fate_book e)
      ∙ ap (λ (l : List Pair). kept_pairs rs ++ l) (clear_append ms new (without_all r.removed K))
      ∙ sym (append_assoc (kept_pairs rs) (without_all ms new) (without_all ms (without_all r.removed K)))
      ∙ ap (λ (l : List Pair). (kept_pairs rs ++ without_all ms new) ++ l) (sym (clear_more r.removed ms K))

  -- as many as are counted
  pub kept_count : {K : List Pair} {rs : List Row} (t : Totals) → Fated v K rs → t.kept ≡ length K → (totals_with t rs).kept ≡ length (book_from tree_words K (row_calls rs))
  kept_count t fated_none h = h
  kept_count {K} t (fated_more {r = r} {rs = rs} g e f) h =
      rw (book_append K r.calls (row_calls rs)) (kept_count (counted r.outcome (length r.removed) t) f (fate_count g t e h))

-- each row is counted once, by the four totals together and by the records
abbrev pub four_of : Totals → ℕ
four_of t = t.kept + t.struck + t.refused + t.removed

counted_four : (o : Outcome) (m : ℕ) (t : Totals) → m ≤ t.kept → four_of (counted o m t) ≡ four_of t + 1
counted_four (Kept used) m t h = omega arith
counted_four (Struck n c) m t h = omega arith
counted_four (Refused r) m t h = omega arith

pub rows_four : {v : Setting} {K : List Pair} {rs : List Row} (t : Totals) → Fated v K rs → t.kept ≡ length K → four_of (totals_with t rs) ≡ four_of t + length rs
rows_four t fated_none e = omega arith
rows_four t (fated_more {r = r} h d f) e =
    omega (arith, rows_four (counted r.outcome (length r.removed) t) f (fate_count h t d e), counted_four r.outcome (length r.removed) t (omega (arith, fate_few h d)))

counted_read : (o : Outcome) (m : ℕ) (t : Totals) → (counted o m t).records ≡ t.records + 1
counted_read (Kept used) m t = refl
counted_read (Struck n c) m t = refl
counted_read (Refused r) m t = refl

pub rows_read : (rs : List Row) (t : Totals) → (totals_with t rs).records ≡ t.records + length rs
rows_read [] t = omega arith
rows_read (r ∷ rs) t = omega (arith, rows_read rs (counted r.outcome (length r.removed) t), counted_read r.outcome (length r.removed) t)

-- the removed ones are as many as there are `removed` lines
pub rows_removed : {v : Setting} {K : List Pair} {rs : List Row} (t : Totals) → Fated v K rs → (totals_with t rs).removed ≡ t.removed + length (taken_out rs)
rows_removed t fated_none = omega arith
rows_removed t (fated_more {r = r} {rs = rs} h d f) =
    omega (arith, rows_removed (counted r.outcome (length r.removed) t) f, length-append r.removed (taken_out rs), go d.course)
  where
    go : {K L M : List Pair} {x : Record} {ns : List ℕ} {o : Outcome} {ms : List ℕ} → Course K L x ns o ms M → (counted o (length ms) t).removed ≡ t.removed + length ms
    go (refuses q) = omega arith
    go (strikes s) = omega arith
    go (keeps k) = refl

-- ---- rows with a `kept` line

-- such a row, and this is its pair
pub record KeptRow (rs : List Row) (p : Pair) : Type 0 where
  pub row : Row
  pub among : Memᴰ row rs
  pub kept : IsKept row.outcome
  pub pair : p ≡ pair_of row.of

pub mem_one : (o : Outcome) (x : Record) (p : Pair) → Memᴰ p (kept_on o x) → IsKept o × (p ≡ pair_of x)
mem_one (Kept u) x p m = ((u, refl), Memᴰ.eq_of_singleton m)
mem_one (Struck n k) x p m = elim m [ ]
mem_one (Refused r) x p m = elim m [ ]

pub mem_kept : (rs : List Row) (p : Pair) → Memᴰ p (kept_pairs rs) → KeptRow rs p
mem_kept [] p m = elim m [ ]
mem_kept (r ∷ rs) p m = go (Memᴰ.append_cases (kept_pairs rs) m) (mem_kept rs p)
  where
    go : Memᴰ p (kept_pairs rs) ⊎ Memᴰ p (without_all (taken_out rs) (kept_on r.outcome r.of)) → (Memᴰ p (kept_pairs rs) → KeptRow rs p) → KeptRow (r ∷ rs) p
    go (inl n) ih = let k = ih n in record { row = k.row; among = Memᴰ.tail k.among; kept = k.kept; pair = k.pair }
    go (inr n) ih =
        let (k, e) = mem_one r.outcome r.of p (clear_mem (taken_out rs) (kept_on r.outcome r.of) n).0 in
        record { row = r; among = Memᴰ.head refl; kept = k; pair = e }

-- the pair of such a row, where nothing is taken out
pub kept_one : {o : Outcome} {x : Record} → IsKept o → Memᴰ (pair_of x) (kept_on o x)
kept_one (u, e) = rw e (Memᴰ.head refl)

pub kept_mem : (rs : List Row) → taken_out rs ≡ [] → (r : Row) → Memᴰ r rs → IsKept r.outcome → Memᴰ (pair_of r.of) (kept_pairs rs)
kept_mem [] e r m k = elim m [ ]
kept_mem (s ∷ rs) e r m k = go (later s.removed e) m (λ i n. kept_mem rs i r n k)
  where
    later : (ms : List ℕ) → ms ++ taken_out rs ≡ [] → taken_out rs ≡ []
    later [] i = i
    later (n ∷ ms) i = cc

    go : taken_out rs ≡ [] → Memᴰ r (s ∷ rs) → (taken_out rs ≡ [] → Memᴰ r rs → Memᴰ (pair_of r.of) (kept_pairs rs))
        → Memᴰ (pair_of r.of) (kept_pairs (s ∷ rs))
    go i (Memᴰ.head j) ih =
        Memᴰ.append_right (kept_pairs rs) (rw i (subst (λ (y : Row). Memᴰ (pair_of r.of) (kept_on y.outcome y.of)) j (kept_one k)))
    go i (Memᴰ.tail n) ih = Memᴰ.append_left _ (ih i n)

-- ---- the book covers what was kept or struck

module _ {v : Setting} where
  fated_covers : {K : List Pair} {rs : List Row} → Fated v K rs → (w : List ℕ) → Subsumed K w → Subsumed (book_from tree_words K (row_calls rs)) w
  fated_covers fated_none w s = s
  fated_covers {K} (fated_more {r = r} {rs = rs} h e f) w s = rw (book_append K r.calls (row_calls rs)) (fated_covers f w (fate_covers h e w s))

  pub rows_covered : {K : List Pair} {rs : List Row} → Fated v K rs → (r : Row) → Memᴰ r rs → IsKept r.outcome ⊎ IsStruck r.outcome
      → Subsumed (book_from tree_words K (row_calls rs)) r.of.words
  rows_covered fated_none r m o = elim m [ ]
  rows_covered {K} (fated_more {r = q} {rs = rs} h e f) r (Memᴰ.head i) o =
      rw (book_append K q.calls (row_calls rs))
      (fated_covers f r.of.words
      (subst (λ (y : Row). Subsumed (book_from tree_words K q.calls) y.of.words) (sym i)
      (fate_covered h e (subst (λ (y : Row). IsKept y.outcome ⊎ IsStruck y.outcome) i o))))
  rows_covered {K} (fated_more {r = q} {rs = rs} h e f) r (Memᴰ.tail m) o = rw (book_append K q.calls (row_calls rs)) (rows_covered f r m o)

-- with backward striking it stays an antichain
pub rows_apart : {K : List Pair} {rs : List Row} → Fated Back K rs → Antichain Over K → Antichain Over (book_from tree_words K (row_calls rs))
rows_apart fated_none a = a
rows_apart {K} (fated_more {r = r} {rs = rs} h e f) a = rw (book_append K r.calls (row_calls rs)) (rows_apart f (fate_apart e a))

-- without it nothing is taken out
pub rows_plain : {K : List Pair} {rs : List Row} → Fated Plain K rs → taken_out rs ≡ []
rows_plain fated_none = refl
rows_plain (fated_more {r = r} {rs = rs} h e f) = rw (fate_plain e, rows_plain f)

-- ---- what is struck

-- a clause of the book with that number subsumes the record's
abbrev pub StruckBy : List Pair → Record → (number : ℕ) → Type 0
StruckBy K x n = (p : Pair) × Memᴰ p K × (p.number ≡ n) × Subsumes p.clause x.words

pub fate_struck : {v : Setting} {K M : List Pair} {x : Record} {o : Outcome} {ms : List ℕ} → Fate v K x o ms M → (n k : ℕ) → o ≡ Struck n k → StruckBy K x n
fate_struck {K = K} {x = x} t n k e = go t.course e
  where
    go : {L : List Pair} {o : Outcome} {ms : List ℕ} {M : List Pair} → Course K L x t.cleared o ms M → o ≡ Struck n k → StruckBy K x n
    go (refuses r) e = cc
    go (strikes {n = m} s) e = let i : m ≡ n = cc in (s.striking, s.kept, s.number ∙ i, s.subsumes)
    go (keeps u) e = cc

-- without backward striking what was in the book stays in it
stays : {K : List Pair} {rs : List Row} {p : Pair} → Fated Plain K rs → Memᴰ p K → Memᴰ p (book_from tree_words K (row_calls rs))
stays {rs = rs} f m = rw (kept_book f, rows_plain f) (Memᴰ.append_right (kept_pairs rs) m)

pub struck_book : {K : List Pair} {rs : List Row} → Fated Plain K rs → (r : Row) → Memᴰ r rs → (n k : ℕ) → r.outcome ≡ Struck n k
    → StruckBy (book_from tree_words K (row_calls rs)) r.of n
struck_book fated_none r m n k e = elim m [ ]
struck_book {K} (fated_more {r = s} {rs = rs} h d f) r (Memᴰ.head i) n k e =
    let (p, j, u, v) = fate_struck d n k (ap (λ (y : Row). y.outcome) (sym i) ∙ e) in
    subst (λ (y : Row). StruckBy (book_from tree_words K (row_calls (s ∷ rs))) y.of n) (sym i) (p, stays {rs = s ∷ rs} (fated_more {r = s} h d f) j, u, v)
struck_book {K} (fated_more {r = s} {rs = rs} h d f) r (Memᴰ.tail m) n k e = rw (book_append K s.calls (row_calls rs)) (struck_book f r m n k e)
