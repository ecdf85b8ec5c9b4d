-- The promise holds: the rows of an input, without their calls, are its rulings.
use mathlib.Core.Path.{◌≡◌, refl, sym, ap, ap₂, subst, ◌∙◌}
use mathlib.Core.Logic.{◌⊎◌, inl, inr}
use mathlib.Core.List.{List, [], ◌∷◌, ◌++◌, map}
use mathlib.Core.List.Memᴰ
use mathlib.Core.List.{Memᴰ}
use Prim.Native.Nat.{ℕ}
use native.Mathlib.Omega.{arith}
use lib.ListN.{length}
use Rattle.clause.specs.Lists.{Each, nobody, besides}
use Rattle.clause.specs.Clause.{Accepted, Subsumes}
use Rattle.clause.proofs.Lists.{all_mem}
use Rattle.tree.specs.Entries.{Pair}
use Rattle.record.specs.Line.{lines_for, totals_line}
use Rattle.record.specs.Answer.{Record}
use Rattle.record.specs.Output.{Row, rows_of, lines_of, counted, totals_with, none, listing_of}
use Rattle.record.specs.Ruled.{pair_of, IsKept, IsStruck, without_all}
use Rattle.record.specs.Sheet.{kept_on, taken_out, kept_pairs, RowAt}
use Rattle.record.specs.Promise.{Ruling, lines_printed, totals_printed, all_removed, OnSheet, here, later, Promise}
use Rattle.record.specs.declared.Totals.{Totals}
use Rattle.record.proofs.Clearing.{same_pair, clear_mem, mem_clear}
use Rattle.record.proofs.Rows.{mem_one, kept_one}
use Rattle.record.proofs.Sheets.{sheets}

abbrev ruling : Row → Ruling
ruling r = record { of = r.of; outcome = r.outcome; removed = r.removed }

same_lines : (rs : List Row) → lines_of rs ≡ lines_printed (map ruling rs)
same_lines [] = refl
same_lines (r ∷ rs) = ap (λ (l : List ℕ). lines_for r.of.number r.removed r.outcome ++ l) (same_lines rs)

same_totals : (rs : List Row) (t : Totals) → totals_with t rs ≡ totals_printed t (map ruling rs)
same_totals [] t = refl
same_totals (r ∷ rs) t = same_totals rs (counted r.outcome (length r.removed) t)

same_removed : (rs : List Row) → taken_out rs ≡ all_removed (map ruling rs)
same_removed [] = refl
same_removed (r ∷ rs) = ap (λ (l : List ℕ). r.removed ++ l) (same_removed rs)

same_records : (rs : List Row) → map (λ r. r.of) (map ruling rs) ≡ map (λ r. r.of) rs
same_records [] = refl
same_records (r ∷ rs) = ap (λ (l : List Record). r.of ∷ l) (same_records rs)

-- a pair of the book is on the sheet
on_sheet : (rs : List Row) (p : Pair) → Memᴰ p (kept_pairs rs) → (x : Record) × OnSheet x (map ruling rs) × (p.clause ≡ x.words)
on_sheet [] p m = elim m [ ]
on_sheet (r ∷ rs) p m = go (Memᴰ.append_cases (kept_pairs rs) m) (on_sheet rs p)
  where
    go : Memᴰ p (kept_pairs rs) ⊎ Memᴰ p (without_all (taken_out rs) (kept_on r.outcome r.of)) → (Memᴰ p (kept_pairs rs) → (x : Record) × OnSheet x (map ruling rs) × (p.clause ≡ x.words))
        → (x : Record) × OnSheet x (map ruling (r ∷ rs)) × (p.clause ≡ x.words)
    go (inl n) ih = let (x, o, e) = ih n in (x, later o, e)
    go (inr n) ih =
        let (i, j) = clear_mem (taken_out rs) (kept_on r.outcome r.of) n in
        let (k, e) = mem_one r.outcome r.of p i in
        (r.of, here refl k (λ q. j (subst (λ (l : List ℕ). Memᴰ p.number l) (sym (same_removed rs)) (subst (λ (n : ℕ). Memᴰ n (all_removed (map ruling rs))) (sym (ap (λ (y : Pair). y.number) e)) q))), ap (λ (y : Pair). y.clause) e)

-- and a record on the sheet has its pair in the book
sheet_pair : (rs : List Row) (x : Record) → OnSheet x (map ruling rs) → Memᴰ (pair_of x) (kept_pairs rs)
sheet_pair [] x o = elim o [ ]
sheet_pair (r ∷ rs) x (here e k h) =
    let n = subst (λ (l : List ℕ). Memᴰ x.number l → ⊥) (sym (same_removed rs)) h in
    let m = subst (λ (y : Record). Memᴰ (pair_of y) (kept_on r.outcome r.of)) e (kept_one k) in
    Memᴰ.append_right (kept_pairs rs) (mem_clear (taken_out rs) (kept_on r.outcome r.of) m n)
sheet_pair (r ∷ rs) x (later o) = Memᴰ.append_left (without_all (taken_out rs) (kept_on r.outcome r.of)) (sheet_pair rs x o)

-- its `kept` line
sheet_row : (rs : List Row) (x : Record) → OnSheet x (map ruling rs) → (r : Row) × Memᴰ r rs × (r.of ≡ x) × IsKept r.outcome
sheet_row [] x o = elim o [ ]
sheet_row (r ∷ rs) x (here e k h) = (r, Memᴰ.head refl, e, k)
sheet_row (r ∷ rs) x (later o) = let (q, m, e, k) = sheet_row rs x o in (q, Memᴰ.tail m, e, k)

-- of two elements of such a list each is related to the other, or they are the same
each_two : {A : Type 0} {R : A → A → Type 0} → ((a b : A) → R a b → R b a) → {xs : List A} → Each R xs → {a b : A} → Memᴰ a xs → Memᴰ b xs
    → (a ≡ b) ⊎ R a b
each_two s nobody m n = elim m [ ]
each_two s (besides h e) (Memᴰ.head i) (Memᴰ.head j) = inl (i ∙ sym j)
each_two {R = R} s (besides h e) {b = b} (Memᴰ.head i) (Memᴰ.tail n) = inr (subst (λ c. R c b) (sym i) (all_mem h n))
each_two {R = R} s (besides h e) {a = a} (Memᴰ.tail m) (Memᴰ.head j) = inr (subst (λ c. R a c) (sym j) (s _ _ (all_mem h m)))
each_two s (besides h e) (Memᴰ.tail m) (Memᴰ.tail n) = each_two s e m n

-- a list of no length
none_left : (l : List ℕ) → length l ≡ 0 → l ≡ []
none_left [] e = refl
none_left (x ∷ l) e = absurd (omega (arith, e))

-- a record by its pair
pair_record : {x y : Record} → pair_of x ≡ pair_of y → x ≡ y
pair_record e = ap record_of e
  where
    record_of : Pair → Record
    record_of p = record { number = p.number; words = p.clause }

-- a row in its place
row_at : (rs : List Row) {r : Row} → Memᴰ r rs → (a : RowAt rs) × (a.this ≡ r)
row_at [] m = elim m [ ]
row_at (x ∷ rs) (Memᴰ.head e) = (record { before = []; this = x; after = rs; whole = refl }, sym e)
row_at (x ∷ rs) (Memᴰ.tail m) =
    let (a, e) = row_at rs m in
    (record { before = x ∷ a.before; this = a.this; after = a.after; whole = ap (λ (l : List Row). x ∷ l) a.whole }, e)

before_mem : {rs : List Row} {q : Row} (a : RowAt rs) → Memᴰ q a.before → Memᴰ q rs
before_mem {q = q} a m = subst (λ (l : List Row). Memᴰ q l) (sym a.whole) (Memᴰ.append_left (a.this ∷ a.after) m)

pub promise : Promise
unfolding listing_of
promise s input b =
    let S = sheets s input b in
    let rs = rows_of s input in
    record {
      rulings = map ruling rs;
      reads = same_records rs ∙ S.rows;
      prints = ap₂ (λ (l : List ℕ) (t : Totals). l ++ totals_line s t) (same_lines rs) (same_totals rs none);
      covered = λ r m o.
          let (w, n, e) = Memᴰ.of_map ruling rs m in
          let (p, i, u) = S.covers.covered w n (subst (λ (y : Ruling). IsKept y.outcome ⊎ IsStruck y.outcome) (sym e) o) in
          let (x, j, f) = on_sheet rs p (rw S.covers.pairs at i) in
          (x, j, subst (λ (y : Ruling). Subsumes x.words y.of.words) e (rw f at u));
      struck = λ r m n k h.
          let (w, i, e) = Memᴰ.of_map ruling rs m in
          let (a, f) = row_at rs i in
          let (q, j, g, t, u) = (S.placed a).earlier n k (ap (λ (y : Row). y.outcome) f ∙ ap (λ (y : Ruling). y.outcome) e ∙ h) in (
            ruling q,
            Memᴰ.map ruling (before_mem a j),
            g,
            t,
            subst (λ (y : Ruling). Subsumes q.of.words y.of.words) (ap ruling f ∙ e) u,
          );
      accepted = λ x o.
          let (w, i, e, k) = sheet_row rs x o in
          let (a, f) = row_at rs i in
          let (u, g) = subst (λ (y : Row). IsKept y.outcome) (sym f) k in
          subst (λ (y : Record). Accepted y.words) (ap (λ (y : Row). y.of) f ∙ e) (((S.placed a).ruled.kept u).0 g).0.uncovered.decided.accepted;
      numbers = λ x y o q e.
          let d = S.stands.numbers in
          pair_record (same_pair d (rw S.covers.pairs (sheet_pair rs x o)) (rw S.covers.pairs (sheet_pair rs y q)) e);
      plain = λ b.
          sym (same_removed rs) ∙ none_left (taken_out rs) (sym S.covers.removed ∙ (S.plain b).0);
      apart = λ b x y o q u.
          let d = rw S.covers.pairs at (S.covers.apart b) in
          alone (each_two (λ _ _ h. (h.1, h.0)) d (sheet_pair rs x o) (sheet_pair rs y q)) u;
    }
  where
    alone : {x y : Record} → (pair_of x ≡ pair_of y) ⊎ ((Subsumes x.words y.words → ⊥) × (Subsumes y.words x.words → ⊥)) → Subsumes x.words y.words → x ≡ y
    alone (inl e) u = pair_record e
    alone (inr h) u = absurd (h.0 u)
