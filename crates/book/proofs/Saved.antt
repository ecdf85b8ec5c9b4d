-- Saved slices: the claims of specs/Saved.
use Rattle.std.specs.Prelude.{Ok}
use mathlib.Core.Path.{◌≡◌, refl, sym, ap, ◌∙◌}
use mathlib.Core.Bool.{false}
use mathlib.Core.List.{List, [], ◌∷◌, ◌++◌, map}
use Prim.Native.Nat.{ℕ, ◌≤◌, ◌<◌}
use native.Mathlib.Omega.{arith}
use lib.ListN.{length, length-map}
use borrow.Author.Tests.{lt-leb}
use Rattle.clause.specs.Lists.{All, none, also}
use Rattle.clause.proofs.Lists.{all_head, all_mem, each-head}
use Rattle.clause.proofs.Tests.{T_false}
use Rattle.machine.specs.Compile.{keys}
use Rattle.tree.specs.Forest.{size, layout}
use Rattle.tree.specs.Laid.{max_kept}
use Rattle.tree.specs.Entries.{Pair, Sound, entry, build}
use Rattle.tree.specs.Changes.{numbered, varied, refuses}
use Rattle.tree.specs.Inner.Books.{Apart}
use Rattle.tree.specs.Calls.{fresh}
use Rattle.tree.specs.declared.Done.TheVariants.{Ready}
use Rattle.tree.proofs.Pairs.{kept_pair}
use Rattle.tree.proofs.Words.{length_layout}
use Rattle.tree.proofs.Count.{book_size}
use Rattle.tree.proofs.Mirror.{mirrors_build}
use Rattle.tree.proofs.InsertWords.{ins_grows}
use Rattle.tree.proofs.Changes.{numbered_kept, varied_kept}
use Rattle.readback.specs.Saved.{IsTreeOf}
use Rattle.readback.proofs.Saved.{Kept, kept_tail, apart_pairs, right_size}
use Rattle.readback.proofs.Laws.{readback_laws, passed_saved as check-saved}
use Rattle.book.specs.Book.{Call, insert, AllFit, after, slice_of, book_step, book_from, book_of, tree_of}
use Rattle.book.specs.Claims.{Run}
use Rattle.book.specs.Saved.{ReachSaved, PassedSaved, insert_all, Resumed, SavedIsMade, SavedDemand2, SavedDemand3, ReadsBook}
use Rattle.book.proofs.Holds.{holds_tree, holds_numbers, holds_clauses}
use Rattle.book.proofs.Reach.{start, laid, reach, demand2}
use Rattle.book.proofs.Agreement.{demand3}

-- ---- what calls make

pub reach_saved : ReachSaved
unfolding tree_of
reach_saved T xs R =
    let h = (laid T xs R).holds in
    let F = (laid T xs R).tree in
    let s : slice_of T xs ≡ layout (length T) F = (laid T xs R).slice in
    let l : length (slice_of T xs) ≡ length T = ap length s ∙ length_layout (length T) F h.room in
    record {
      low = rw l (start T xs R).low;
      high = rw l (start T xs R).high;
      few = h.few;
      sound = h.sound;
      numbers = holds_numbers h;
      clauses = holds_clauses h;
      room = rw (l, holds_tree h) h.room;
      words = rw (l, holds_tree h) s;
    }

pub passed_saved : PassedSaved
passed_saved = check-saved

-- ---- calls one after the other

after_append : (xs ys : List Call) (T : List ℕ) → after T (xs ++ ys) ≡ after (after T xs) ys
after_append [] ys T = refl
after_append (x ∷ xs) ys T = after_append xs ys _

book_append : (len : ℕ) (xs ys : List Call) (K : List Pair) → book_from len K (xs ++ ys) ≡ book_from len (book_from len K xs) ys
book_append len [] ys K = refl
book_append len (x ∷ xs) ys K = book_append len xs ys _

fit_append : (xs ys : List Call) → AllFit xs → AllFit ys → AllFit (xs ++ ys)
fit_append [] ys f g = g
fit_append (x ∷ xs) ys f g = (f.0, fit_append xs ys f.1 g)

fit_pairs : {K : List Pair} → All Sound K → AllFit (insert_all K)
fit_pairs none = tt
fit_pairs (also {x = p} {xs = K} s S) = fit_append (insert_all K) _ (fit_pairs S) ((s.words, s.number), tt)

-- ---- the insertions of pairs make their book

module _ (len : ℕ) where
  -- one more pair is not refused where there is room for it
  accepts : (p : Pair) (K : List Pair) → Kept (p ∷ K) → length K < max_kept → size (build (map entry (p ∷ K))) < len
      → refuses len (map entry K) (entry p) ≡ false
  unfolding refuses
  accepts p K k few room =
      let A : Apart (map entry (p ∷ K)) = apart_pairs (p ∷ K) k in
      let new : numbered p.number (map entry K) ≡ false =
      T_false _ (λ t. let (cs, l) = numbered_kept p.number (map entry K) t in
      let (q, m, e, f) = kept_pair K cs p.number l in
      all_mem (each-head k.numbers) m f) in
      let other : varied (keys p.clause) (map entry K) ≡ false =
      T_false _ (λ t. let (n, l) = varied_kept (keys p.clause) (map entry K) t in A.new n l) in
      let fewer : length (map entry K) < max_kept = rw (length-map K entry) few in
      rw (new, other, lt-leb max_kept (length (map entry K)) fewer, ← book_size _ _ (mirrors_build (map entry (p ∷ K)) A)) (lt-leb len _ room)

  book_step_lem : (p : Pair) (K : List Pair) → Sound p → refuses len (map entry K) (entry p) ≡ false → book_step len K (insert p.clause p.number) ≡ p ∷ K
  unfolding book_step
  book_step_lem p K s e = rw (s.accepted.1, e)

  book_made : (K : List Pair) → Kept K → length K ≤ max_kept → size (build (map entry K)) < len → book_of len (insert_all K) ≡ K
  book_made [] k few room = refl
  book_made (p ∷ K) k few room =
      let ih = book_made K (kept_tail k) (omega arith) (omega (arith, ins_grows (keys p.clause) p.number (build (map entry K)))) in
      book_append len (insert_all K) _ [] ∙ rw ih (book_step_lem p K (all_head k.sound) (accepts p K k (omega arith) room))

module _ (T : List ℕ) (K : List Pair) (I : IsTreeOf T K) where
  made : book_of (length T) (insert_all K) ≡ K
  made = book_made (length T) K (record { sound = I.sound; numbers = I.numbers; clauses = I.clauses }) I.few I.room

  ready : (fresh T).answer ≡ Ok Ready
  unfolding fresh
  ready = rw (right_size T K I)

  runs : (xs : List Call) → AllFit xs → Run T (insert_all K ++ xs)
  runs xs f = record { ready = ready; fit = fit_append (insert_all K) xs (fit_pairs I.sound) f }

  slice_made : slice_of T (insert_all K) ≡ T
  unfolding tree_of
  slice_made = (reach T (insert_all K) (record { ready = ready; fit = fit_pairs I.sound })).slice ∙ rw made (sym I.words)

  resumed : (xs : List Call) → AllFit xs → Resumed T K xs
  resumed xs f =
      let slice : slice_of T (insert_all K ++ xs) ≡ after T xs = after_append (insert_all K) xs (fresh T).slice ∙ ap (λ S. after S xs) slice_made in
      let book : book_of (length T) (insert_all K ++ xs) ≡ book_from (length T) K xs =
      book_append (length T) (insert_all K) xs [] ∙ ap (λ L. book_from (length T) L xs) made in
      record { run = runs xs f; slice = slice; book = book; tree = rw (slice, book) at (reach_saved T (insert_all K ++ xs) (runs xs f)) }

pub saved_is_made : SavedIsMade
saved_is_made = resumed

pub saved_demand2 : SavedDemand2
saved_demand2 T K I xs f d D b W long =
    let r = resumed T K I xs f in
    rw (r.slice, r.book) at (demand2 T (insert_all K ++ xs) r.run d D b W long)

pub saved_demand3 : SavedDemand3
saved_demand3 S K xs T L ys I f J g =
    let r = resumed S K I xs f in
    let q = resumed T L J ys g in
    rw (r.slice, r.book, q.slice, q.book) at (demand3 S (insert_all K ++ xs) T (insert_all L ++ ys) r.run q.run).both

-- ---- clauses read back

pub reads_book : ReadsBook
reads_book T xs R W room = readback_laws.kept _ _ (reach_saved T xs R) W room
