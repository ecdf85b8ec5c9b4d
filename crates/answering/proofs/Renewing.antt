-- From record to record the index is that of the slice: it stays, or it is made anew.
use mathlib.Core.Path.{◌≡◌, refl, sym, ap, subst, ◌∙◌}
use mathlib.Core.Bool.{true}
use mathlib.Core.List.{List, [], Memᴰ}
use Prim.Native.Nat.{ℕ, ◌≤◌}
use lib.ListN.{length, get_or, take, replicate, length-replicate, get_or-replicate}
use Rattle.clause.specs.Clause.{Accepted}
use Rattle.clause.specs.Word.{Words}
use Rattle.machine.specs.Compile.{keys}
use Rattle.tree.specs.Forest.{Has}
use Rattle.tree.specs.Laid.{sized, well_laid, decode, region}
use Rattle.tree.specs.Entries.{Pair}
use Rattle.tree.proofs.Pairs.{kept_pair, pair_kept}
use Rattle.index.specs.Inner.Heads.{entry_count, place_of, top_row, head_at, Headed, Indexed, Renewable}
use Rattle.index.proofs.Paths.{begins, more_heads}
use Rattle.index.proofs.Rows.{kept_headed}
use Rattle.index.specs.Inner.Following.{Leading}
use Rattle.index.proofs.Below.{entry_leads}
use Rattle.book.specs.Book.{book_from, tree_of}
use Rattle.record.specs.Answer.{tree_words, Record, answer_to, calls_for}
use Rattle.record.specs.Ruled.{without_all}
use Rattle.record.specs.declared.Setting.{Setting}
use Rattle.record.specs.declared.Came.{Came}
use Rattle.record.specs.declared.Outcome.{Outcome}
use Rattle.record.specs.declared.Outcome.TheVariants.{Kept}
use Rattle.record.proofs.Reading.{Narrow}
use Rattle.record.proofs.Clearing.{mem_clear}
use Rattle.record.proofs.Ruling.{Course, refuses, strikes, keeps, Fate}
use Rattle.readback.proofs.Saved.{right_size, laid as saved-laid}
use Rattle.record.proofs.Entering.{Standing, standing_saved}
use Rattle.answering.specs.Inner.Steady.{Steady, Outdated, CameOut}
use Rattle.answering.proofs.Steady.{standing_decode, fresh_standing, steady_standing, steady_sized, steady_laid, fate_here, standing_next}

-- ---- slices of books

module _ {K : List Pair} {T : List ℕ} (s : Standing K T) where
  pub standing_headed : Headed (decode T)
  standing_headed = rw (standing_decode s) (kept_headed K (tree_of K) s.holds.sound s.holds.keeps.mirrors)

-- with more pairs there are more paths
module _ {K M : List Pair} {S T : List ℕ} (s : Standing K S) (t : Standing M T) (more : (p : Pair) → Memᴰ p K → Memᴰ p M) where
  paths_more : (cs : List ℕ) (n : ℕ) → Has (tree_of K) cs n → Has (tree_of M) cs n
  paths_more cs n u =
      let (p, m, is, at) = kept_pair K cs n ((s.holds.keeps.mirrors.paths cs n).0 u) in
      subst (λ ds. Has (tree_of M) ds n) (sym is)
      (subst (Has (tree_of M) (keys p.clause)) (sym at) ((t.holds.keeps.mirrors.paths (keys p.clause) p.number).1 (pair_kept M p (more p m))))

  -- so no head is lost
  pub heads_more : (h : ℕ) → head_at (decode T) h ≡ 0 → head_at (decode S) h ≡ 0
  heads_more h z =
      let H : Headed (tree_of K) = rw (standing_decode s) at (standing_headed s) in
      let G : Headed (tree_of M) = rw (standing_decode t) at (standing_headed t) in
      rw (standing_decode s) (more_heads H G s.holds.keeps.mirrors.formed t.holds.keeps.mirrors.formed paths_more h (rw (standing_decode t) at z))

pub standing_same : {K : List Pair} {S T : List ℕ} → Standing K S → Standing K T → T ≡ S
standing_same s t = t.slice ∙ sym s.slice

-- the entry of a clause's first word leads to where its sequence begins
pub entry_begins : {S m H c ks : List ℕ} {p : ℕ} → Steady S m → Indexed S H → Accepted c → Words c → ks ≡ keys c → p ≡ get_or H (get_or c 0 0) 0 → 1 ≤ p
    → Leading (region S) ks p
entry_begins {S} {H = H} {c} {p = p} h I A W e f l =
    let b = begins c A W in
    let w : get_or c 0 0 ≡ b.word = ap (λ (x : List ℕ). get_or x 0 0) b.first.1 in
    entry_leads S b.word (steady_sized h) (steady_laid h) I b.small (e ∙ b.same) (rw w at f) l

-- ---- what becomes of a record

-- where it takes nothing out, all pairs are kept
course_more : {K M : List Pair} {x : Record} {ns : List ℕ} {o : Outcome} {ms : List ℕ} → Course K (without_all ns K) x ns o ms M
    → ms ≡ [] → (p : Pair) → Memᴰ p K → Memᴰ p M
course_more (refuses r) e p m = m
course_more (strikes s) e p m = m
course_more {K} {ns = ns} (keeps t) e p m = Memᴰ.tail (mem_clear ns K m (λ v. elim (rw e at v) [ ]))

-- where it does not go in, they are the same
course_same : {K M : List Pair} {x : Record} {ns : List ℕ} {o : Outcome} {ms : List ℕ} → Course K (without_all ns K) x ns o ms M
    → ((u : ℕ) → o ≡ Kept u → ⊥) → M ≡ K
course_same (refuses r) n = refl
course_same (strikes s) n = refl
course_same (keeps t) n = absurd (n _ refl)

-- the index before a record, beside the slice after it
pub outdated : (v : Setting) {S m : List ℕ} (h : Steady S m) (x : Record) (w : Narrow x) {H : List ℕ} → Indexed S H
    → {came : Came} {list T Z : List ℕ} → CameOut (answer_to v S x) x.number m came list T Z
    → (sized T ≡ true) × (well_laid T ≡ true) × Outdated came.outcome came.removed T H
outdated v {S} {m} h x w {H} I {came} {list} {T} c = (
  right_size T M (standing_saved t),
  saved-laid T M (standing_saved t),
  record {
    tree = standing_headed t;
    long = I.long;
    stays = λ n. rw (standing_same s (rw (course_same f.course n) at t)) I;
    more = λ z. record {
      tree = standing_headed t;
      long = I.long;
      spare = λ k l y. I.place k l ∙ heads_more s t (course_more f.course (ap (λ (i : ℕ). take i list) z)) k y;
    };
  },
)
  where
    M : List Pair
    M = book_from tree_words h.pairs (calls_for v S x)

    s : Standing h.pairs S
    s = steady_standing h

    t : Standing M T
    t = let n = standing_next v h x w in rw (sym c.answer) at n

    f : Fate v h.pairs x came.outcome (take came.removed list) M
    f = let g = fate_here v h x w in rw (sym c.answer) at g

-- entries that are all 0 are for no head
pub cleared_spare : (T : List ℕ) {H : List ℕ} → Headed (decode T) → H ≡ replicate entry_count 0 → Renewable T H
cleared_spare T t e =
    record {
      tree = t;
      long = ap length e ∙ length-replicate {A = ℕ} entry_count 0;
      spare = λ h l z. ap (λ (x : List ℕ). get_or x h 0) e ∙ get_or-replicate {A = ℕ} entry_count h 0 0 l;
    }

-- of a fresh slice the index is 0 throughout
pub indexed_fresh : Indexed (replicate tree_words 0) (replicate entry_count 0)
unfolding tree_of top_row place_of
indexed_fresh =
    record {
      tree = standing_headed fresh_standing;
      long = length-replicate {A = ℕ} entry_count 0;
      place = λ h l. get_or-replicate {A = ℕ} entry_count h 0 0 l ∙ sym (ap (λ F. head_at F h) (standing_decode fresh_standing));
    }
