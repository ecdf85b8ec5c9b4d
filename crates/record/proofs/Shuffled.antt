-- Pages shuffled: the proof of the claims about two inputs with the same records.
use mathlib.Core.Path.{◌≡◌, refl, sym, ap, subst, ◌∙◌}
use mathlib.Core.Logic.{◌⊎◌, inl, inr}
use mathlib.Core.List.Memᴰ
use mathlib.Core.List.Permᴰ
use mathlib.Core.List.{List, [], ◌∷◌}
use mathlib.Core.List.{Memᴰ, Permᴰ}
use Prim.Native.Nat.{ℕ, ◌≤◌}
use native.Mathlib.Omega.{arith}
use lib.ListN.{length}
use Rattle.clause.proofs.Order.{subsumes_trans}
use Rattle.tree.specs.Entries.{Pair}
use Rattle.walk.specs.Covering.{Subsumed}
use Rattle.book.specs.Claims.{Under}
use Rattle.record.specs.Answer.{Record}
use Rattle.record.specs.Output.{records_of, Row, rows_of, counted, totals_with, none}
use Rattle.record.specs.Ruled.{pair_of, IsKept, IsStruck}
use Rattle.record.specs.Sheet.{Bytes, Over, Covers, Sheet}
use Rattle.record.specs.Shuffled.{kept_by, NoneRefused, AllCovered, KeepAlike, PagesShuffled, ClausesAmong, SameClausesKept}
use Rattle.record.specs.declared.Setting.{Setting}
use Rattle.record.specs.declared.Setting.TheVariants.{Back}
use Rattle.record.specs.declared.Outcome.{Outcome}
use Rattle.record.specs.declared.Outcome.TheVariants.{Kept, Struck, Refused}
use Rattle.record.specs.declared.Totals.{Totals}
use Rattle.record.proofs.Antichain.{both_ways, equally_long}
use Rattle.record.proofs.Rows.{mem_kept}
use Rattle.record.proofs.Sheets.{sheets}

-- ---- a run that refuses none

-- the total of the refused never falls
refused_rises : (rs : List Row) (t : Totals) → t.refused ≤ (totals_with t rs).refused
refused_rises [] t = omega arith
refused_rises (r ∷ rs) t = omega (arith, one r.outcome, refused_rises rs (counted r.outcome (length r.removed) t))
  where
    one : (o : Outcome) → t.refused ≤ (counted o (length r.removed) t).refused
    one (Kept u) = omega arith
    one (Struck n k) = omega arith
    one (Refused r) = omega arith

-- so each row is kept or struck where it ends at 0
not_refused : (rs : List Row) (t : Totals) → (totals_with t rs).refused ≡ 0 → (r : Row) → Memᴰ r rs → IsKept r.outcome ⊎ IsStruck r.outcome
not_refused [] t e r m = elim m [ ]
not_refused (q ∷ rs) t e r (Memᴰ.tail m) = not_refused rs (counted q.outcome (length q.removed) t) e r m
not_refused (q ∷ rs) t e r (Memᴰ.head i) =
    subst (λ (y : Row). IsKept y.outcome ⊎ IsStruck y.outcome) (sym i)
    (go q.outcome (omega (arith, e, refused_rises rs (counted q.outcome (length q.removed) t))))
  where
    go : (o : Outcome) → (counted o (length q.removed) t).refused ≤ 0 → IsKept o ⊎ IsStruck o
    go (Kept u) h = inl (u, refl)
    go (Struck n k) h = inr (n, k, refl)
    go (Refused r) h = absurd (omega (arith, h))

pub all_covered : AllCovered
all_covered s input b e x m =
    let t : Sheet s input = sheets s input b in
    let (r, n, i) = Memᴰ.of_map (λ (y : Row). y.of) (rows_of s input) (rw (sym t.rows) at m) in
    rw (sym i) (t.covers.covered r n (not_refused (rows_of s input) none e r n))

-- what it keeps are records of the input
kept_record : (s : Setting) (input : List ℕ) → Bytes input → (p : Pair) → Memᴰ p (kept_by s input)
    → (x : Record) × Memᴰ x (records_of input) × (p ≡ pair_of x)
kept_record s input b p m =
    let t : Sheet s input = sheets s input b in
    let k = mem_kept (rows_of s input) p (rw t.covers.pairs at m) in
    (k.row.of, rw (sym t.rows) (Memᴰ.map (λ (y : Row). y.of) k.among), k.pair)

-- ---- two of them

kept_under : (a b : List ℕ) → Bytes a → Bytes b → ClausesAmong (records_of a) (records_of b) → NoneRefused Back b → Under (kept_by Back a) (kept_by Back b)
kept_under a b h k c e p m =
    let (x, i, f) = kept_record Back a h p m in
    let (y, j, g) = c x i in
    subst (λ (w : List ℕ). Subsumed (kept_by Back b) w) (g ∙ sym (ap (λ (q : Pair). q.clause) f)) (all_covered Back b k e y j)

over_trans : (p q r : Pair) → Over p q → Over q r → Over p r
over_trans p q r s t = subsumes_trans p.clause q.clause r.clause s t

pub same_clauses_kept : SameClausesKept
same_clauses_kept a b h k c d e f = alike (sheets Back a h).covers (sheets Back b k).covers (kept_under a b h k c f) (kept_under b a k h d e)
  where
    alike : Covers Back a → Covers Back b → Under (kept_by Back a) (kept_by Back b) → Under (kept_by Back b) (kept_by Back a) → KeepAlike a b
    alike s t u v =
        let m = s.apart refl in
        let n = t.apart refl in
        let l = equally_long Over over_trans (kept_by Back a) (kept_by Back b) m n u v in
        record {
          apart = (m, n);
          under = (u, v);
          many = l;
          totals = s.many ∙ l ∙ sym t.many;
          alike = (both_ways Over over_trans (kept_by Back a) (kept_by Back b) m u v, both_ways Over over_trans (kept_by Back b) (kept_by Back a) n v u);
        }

-- ---- in two orders

perm_mem : {A : Type 0} {x : A} {xs ys : List A} → Permᴰ xs ys → Memᴰ x xs → Memᴰ x ys
perm_mem Permᴰ.nil m = elim m [ ]
perm_mem (Permᴰ.cons e d) (Memᴰ.head i) = Memᴰ.head (i ∙ e)
perm_mem (Permᴰ.cons e d) (Memᴰ.tail m) = Memᴰ.tail (perm_mem d m)
perm_mem (Permᴰ.swap e f) (Memᴰ.head i) = Memᴰ.tail (Memᴰ.head (i ∙ e))
perm_mem (Permᴰ.swap e f) (Memᴰ.tail (Memᴰ.head i)) = Memᴰ.head (i ∙ f)
perm_mem (Permᴰ.swap e f) (Memᴰ.tail (Memᴰ.tail m)) = Memᴰ.tail (Memᴰ.tail m)
perm_mem (Permᴰ.trans d e) m = perm_mem e (perm_mem d m)

perm_clauses : {xs ys : List Record} → Permᴰ xs ys → ClausesAmong xs ys
perm_clauses d x m = (x, perm_mem d m, refl)

pub pages_shuffled : PagesShuffled
pages_shuffled a b h k d numbers = same_clauses_kept a b h k (perm_clauses d) (perm_clauses (Permᴰ.symm d))
