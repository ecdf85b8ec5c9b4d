-- A slice passes exactly if it is the tree of some clauses.
use Rattle.std.specs.Prelude.{Err, Ok, Result, ℕ}
use mathlib.Core.Path.{◌≡◌, refl, sym, ap, ap₂, ◌∙◌}
use mathlib.Core.Logic.{◌↔◌, ◌≢◌, inl, inr}
use mathlib.Core.Bool.{true, false, ◌&&◌, not, true≢false, and-eq-true_iff}
use mathlib.Core.Option.{Option, none, some}
use mathlib.Core.List.{List, [], ◌∷◌, map, Memᴰ}
use Prim.Native.Nat.{ℕ, suc, ◌^◌, ◌≤◌, ◌<◌}
use native.Mathlib.Omega.{arith}
use lib.Dec.{leb, ltb, eqb}
use lib.ListN.{length, length-map}
use borrow.Author.Tests.{lt-ltb, ltb-true, le-leb, leb-true, ne_eqb, eq-eqb}
use Rattle.clause.specs.Lists.{All, none as All-none, also, Each, nobody, besides, alike}
use Rattle.clause.specs.Word.{Words}
use Rattle.clause.specs.Clause.{shape, Accepted}
use Rattle.clause.proofs.Lists.{alike_same, alike_refl, all_head, all_tail, all_mem, all_map, each-head, each_tail}
use Rattle.clause.proofs.Literals.{accepted}
use Rattle.machine.specs.Instr.{key}
use Rattle.machine.specs.Compile.{Variants, keys}
use Rattle.machine.proofs.Keys.{keys_same}
use Rattle.machine.proofs.Codes.{sequence_plain}
use Rattle.tree.specs.Keys.{first_key}
use Rattle.tree.specs.Forest.{Forest, leaves, find}
use Rattle.tree.specs.Laid.{least_words, most_words, sized, well_laid, decode}
use Rattle.tree.specs.Entries.{Entry, Pair, Sound, entry, Listed, build, Mirrors}
use Rattle.tree.specs.Inner.Books.{Apart, Single}
use Rattle.tree.proofs.Pairs.{kept_pair, pair_kept}
use Rattle.tree.specs.Laws.{Stands, Slices, paths_of}
use Rattle.tree.proofs.Paths.{same_paths}
use Rattle.tree.proofs.Plain.{plain_body}
use Rattle.tree.proofs.InsertWords.{ins_leaves}
use Rattle.tree.proofs.Delete.{find_none, find_some}
use Rattle.tree.proofs.Mirror.{mirrors_build}
use Rattle.tree.proofs.Laws.{tree_laws}
use Rattle.readback.specs.Readback.{clause_of}
use Rattle.readback.specs.Laws.{Good, IsPath, Readable}
use Rattle.readback.specs.Saved.{IsTreeOf, pairs_of, narrow, is_whole, has_keys, readable, all_readable, is_new, all_differ, numbers_of, of_clauses}
use Rattle.readback.proofs.Listed.{all_listed, has_listed, listed_has, apart_paths, length_paths}
use Rattle.readback.proofs.Normal.{path_readable}
use Rattle.clause.specs.declared.Fault.{Fault}

-- ---- the tests

narrow_words : (ws : List ℕ) → narrow ws ≡ true → Words ws
narrow_words [] e = All-none
narrow_words (w ∷ ws) e = let (a, b) = (and-eq-true_iff (ltb w (2 ^ 16)) (narrow ws)).0 e in also (ltb-true w (2 ^ 16) a) (narrow_words ws b)

words_narrow : {ws : List ℕ} → Words ws → narrow ws ≡ true
words_narrow All-none = refl
words_narrow (also {x = w} h p) = rw (lt-ltb w (2 ^ 16) h) (words_narrow p)

whole_accepted : (c : List ℕ) → is_whole (shape c) ≡ true → Accepted c
whole_accepted c e = go (shape c) refl e
  where
    go : (s : Result ℕ Fault) → shape c ≡ s → is_whole s ≡ true → Accepted c
    go (Err f) q e = absurd (true≢false (sym e))
    go (Ok n) q e = (n, q)

pub readable_iff : (p : List ℕ) → (readable p ≡ true) ↔ Readable p
unfolding readable has_keys
readable_iff p = (to, from)
  where
    to : narrow (clause_of p) && (is_whole (shape (clause_of p)) && alike (keys (clause_of p)) p) ≡ true → Readable p
    to e =
        let (a, b) = (and-eq-true_iff (narrow (clause_of p)) _).0 e in
        let (b, c) = (and-eq-true_iff (is_whole (shape (clause_of p))) _).0 b in
        record { good = record { accepted = whole_accepted (clause_of p) b; words = narrow_words (clause_of p) a }; is = alike_same (keys (clause_of p)) p c }

    from : Readable p → narrow (clause_of p) && (is_whole (shape (clause_of p)) && alike (keys (clause_of p)) p) ≡ true
    from R =
        let a : alike (keys (clause_of p)) p ≡ true = ap (λ l. alike l p) R.is ∙ alike_refl p in
        rw (words_narrow R.good.words, R.good.accepted.1) a

all_readable_lem : (es : List Entry) → (all_readable es ≡ true) ↔ All (λ e. Readable e.keys) es
all_readable_lem es = (to es, from)
  where
    to : (es : List Entry) → all_readable es ≡ true → All (λ e. Readable e.keys) es
    to [] e = All-none
    to (d ∷ es) e = let (a, b) = (and-eq-true_iff (readable d.keys) (all_readable es)).0 e in also {x = d} ((readable_iff d.keys).0 a) (to es b)

    from : {es : List Entry} → All (λ e. Readable e.keys) es → all_readable es ≡ true
    from All-none = refl
    from (also {x = d} h p) = rw ((readable_iff d.keys).1 h) (from p)

abbrev Differ : Entry → Entry → Type 0
Differ e f = e.number ≢ f.number

all_new : (d : Entry) (es : List Entry) → (is_new d.number (numbers_of es) ≡ true) ↔ All (Differ d) es
all_new d es = (to es, from)
  where
    differs : (a b : ℕ) → not (eqb a b) ≡ true → a ≢ b
    differs a b e f = let z : not (eqb a b) ≡ false = rw (eq-eqb a b f) in true≢false (sym e ∙ z)

    to : (es : List Entry) → is_new d.number (numbers_of es) ≡ true → All (Differ d) es
    to [] e = All-none
    to (f ∷ es) e =
        let (a, b) = (and-eq-true_iff (not (eqb d.number f.number)) (is_new d.number (numbers_of es))).0 e in
        also {x = f} (differs d.number f.number a) (to es b)

    from : {es : List Entry} → All (Differ d) es → is_new d.number (numbers_of es) ≡ true
    from All-none = refl
    from (also {x = f} h p) = rw (ne_eqb d.number f.number h) (from p)

all_differ_lem : (es : List Entry) → (all_differ (numbers_of es) ≡ true) ↔ Each Differ es
all_differ_lem es = (to es, from)
  where
    to : (es : List Entry) → all_differ (numbers_of es) ≡ true → Each Differ es
    to [] e = nobody
    to (d ∷ es) e = let (a, b) = (and-eq-true_iff (is_new d.number (numbers_of es)) (all_differ (numbers_of es))).0 e in besides {x = d} ((all_new d es).0 a) (to es b)

    from : {es : List Entry} → Each Differ es → all_differ (numbers_of es) ≡ true
    from nobody = refl
    from (besides {x = d} {xs = es} h p) = rw ((all_new d es).1 h) (from p)

-- ---- pairs and entries

-- sound pairs with different numbers, no two of them variants
pub record Kept (K : List Pair) : Type 0 where
  pub sound : All Sound K
  pub numbers : Each (λ p q. p.number ≢ q.number) K
  pub clauses : Each (λ p q. Variants p.clause q.clause → ⊥) K

pub kept_tail : {p : Pair} {K : List Pair} → Kept (p ∷ K) → Kept K
kept_tail {p} {K} k = record { sound = all_tail k.sound; numbers = each_tail k.numbers; clauses = each_tail k.clauses }

-- the clause of a sound pair
pub sound_good : (p : Pair) → Sound p → Good p.clause
sound_good p s = record { accepted = s.accepted; words = s.words }

sound_path : (p : Pair) → Sound p → IsPath (keys p.clause)
sound_path p s = record { clause = p.clause; good = sound_good p s; is = refl }

-- clauses with the same keys are variants
pub same_keys : (c d : List ℕ) → Good c → Good d → keys c ≡ keys d → Variants c d
same_keys c d g h e = keys_same (sequence_plain c (accepted c g.accepted) g.words) (sequence_plain d (accepted d h.accepted) h.words) e

pub apart_pairs : (K : List Pair) → Kept K → Apart (map entry K)
apart_pairs [] k = tt
apart_pairs (p ∷ K) k =
    let s : Sound p = all_head k.sound in
    record {
      body = plain_body (sequence_plain p.clause (accepted p.clause s.accepted) s.words);
      number = s.number;
      new =
          λ m l.
          let (q, i, e, r) = kept_pair K (keys p.clause) m l in
          all_mem (each-head k.clauses) i (same_keys p.clause q.clause (sound_good p s) (sound_good q (all_mem (all_tail k.sound) i)) e);
      rest = apart_pairs K (kept_tail k);
    }

single_pairs : (K : List Pair) → Each (λ p q. p.number ≢ q.number) K → Single (map entry K)
single_pairs [] k cs ds n l m = absurd l
single_pairs (p ∷ K) k cs ds n (inl (a, b)) (inl (c, d)) = a ∙ sym c
single_pairs (p ∷ K) k cs ds n (inl (a, b)) (inr m) = let (q, i, e, r) = kept_pair K ds n m in absurd (all_mem (each-head k) i (sym b ∙ r))
single_pairs (p ∷ K) k cs ds n (inr l) (inl (c, d)) = let (q, i, e, r) = kept_pair K cs n l in absurd (all_mem (each-head k) i (sym d ∙ r))
single_pairs (p ∷ K) k cs ds n (inr l) (inr m) = single_pairs K (each_tail k) cs ds n l m

leaves_build : (K : List Entry) → Apart K → leaves (build K) ≡ length K
leaves_build [] a = refl
leaves_build (e ∷ K) a = ins_leaves e.keys e.number (build K) a.body a.number ∙ ap suc (leaves_build K a.rest)

-- ---- the tree of some pairs passes

module _ (s : List ℕ) (K : List Pair) (I : IsTreeOf s K) where
  abbrev tree : Forest
  tree = build (map entry K)

  kept : Kept K
  kept = record { sound = I.sound; numbers = I.numbers; clauses = I.clauses }

  mirrors : Mirrors tree (map entry K)
  mirrors = mirrors_build (map entry K) (apart_pairs K kept)

  stands : Stands s tree
  stands =
      record {
        formed = mirrors.formed;
        room = I.room;
        small = omega (arith, leaves_build (map entry K) (apart_pairs K kept), length-map K entry, I.few);
        words = I.words;
      }

  slices : Slices s
  slices = tree_laws.slices s (omega (arith, I.high))

  pub laid : well_laid s ≡ true
  laid = slices.laid.1 (tree, stands)

  decoded : decode s ≡ tree
  decoded = slices.decoded tree stands

  path_listed : (e : Entry) → Listed (paths_of tree) e.keys e.number → Listed (map entry K) e.keys e.number
  path_listed e l = (mirrors.paths e.keys e.number).0 (listed_has tree e.keys e.number l)

  paths_readable : All (λ e. Readable e.keys) (paths_of tree)
  paths_readable = all_listed (paths_of tree) λ e l.
      let (p, m, q, r) = kept_pair K e.keys e.number (path_listed e l) in
      (path_readable e.keys).0 (rw q (sound_path p (all_mem I.sound m)))

  -- listed paths with one number have the same keys, but each stands there once
  numbers_differ : (es : List Entry) → Apart es → ((e : Entry) → Listed es e.keys e.number → Listed (map entry K) e.keys e.number) → Each Differ es
  numbers_differ [] a f = nobody
  numbers_differ (e ∷ es) a f =
      besides {x = e}
      (all_listed es λ d l g.
      a.new d.number (rw (single_pairs K I.numbers e.keys d.keys e.number (f e (inl (refl, refl))) (rw g (f d (inr l)))) l))
      (numbers_differ es a.rest (λ d l. f d (inr l)))

  pub of_clauses_lem : of_clauses (decode s) ≡ true
  unfolding of_clauses
  of_clauses_lem =
      rw (decoded, (all_readable_lem (paths_of tree)).1 paths_readable, (all_differ_lem (paths_of tree)).1 (numbers_differ (paths_of tree) (apart_paths 0 tree mirrors.formed) path_listed))

  pub right_size : sized s ≡ true
  right_size = rw (le-leb least_words (length s) I.low, le-leb (length s) most_words I.high)

-- ---- a slice that passes is the tree of the clauses read off its paths

abbrev pair_of : Entry → Pair
pair_of e = record { number = e.number; clause = clause_of e.keys }

entries : {es : List Entry} → All (λ e. Readable e.keys) es → map entry (map pair_of es) ≡ es
entries All-none = refl
entries (also {x = e} h p) = ap₂ ◌∷◌ (ap (λ (k : List ℕ). record { number = e.number; keys = k }) h.is) (entries p)

sound_pairs : (es : List Entry) → Apart es → All (λ e. Readable e.keys) es → All Sound (map pair_of es)
sound_pairs [] a r = All-none
sound_pairs (e ∷ es) a (also h p) =
    also {x = pair_of e} (record { accepted = h.good.accepted; words = h.good.words; number = a.number }) (sound_pairs es a.rest p)

number_pairs : {es : List Entry} → Each Differ es → Each (λ p q. p.number ≢ q.number) (map pair_of es)
number_pairs nobody = nobody
number_pairs (besides {x = e} h p) = besides {x = pair_of e} (all_map pair_of h) (number_pairs p)

-- paths with different keys are no variants
clause_pairs : (es : List Entry) → Apart es → All (λ e. Readable e.keys) es → Each (λ p q. Variants p.clause q.clause → ⊥) (map pair_of es)
clause_pairs [] a r = nobody
clause_pairs (e ∷ es) a (also h p) = besides {x = pair_of e} (all_map pair_of (go es p (λ d l. l))) (clause_pairs es a.rest p)
  where
    go : (ds : List Entry) → All (λ e. Readable e.keys) ds → ((d : Entry) → Listed ds d.keys d.number → Listed es d.keys d.number)
        → All (λ d. Variants (clause_of e.keys) (clause_of d.keys) → ⊥) ds
    go [] r f = All-none
    go (d ∷ ds) (also r rs) f =
        also {x = d}
        (λ v. let same : e.keys ≡ d.keys = sym h.is ∙ ap (map key) v ∙ r.is in a.new d.number (rw same (f d (inl (refl, refl)))))
        (go ds rs (λ c l. f c (inr l)))

module _ (s : List ℕ) (F : Forest) (S : Stands s F) (R : All (λ e. Readable e.keys) (paths_of F)) where
  paths_apart : Apart (paths_of F)
  paths_apart = apart_paths 0 F S.formed

  rebuilt : build (map entry (map pair_of (paths_of F))) ≡ F
  rebuilt =
      let M = mirrors_build (paths_of F) paths_apart in
      ap build (entries R)
      ∙ same_paths 0 0 (build (paths_of F)) F M.formed S.formed (λ cs n h. listed_has F cs n ((M.paths cs n).0 h)) (λ cs n h. (M.paths cs n).1 (has_listed h))

  tree_of : least_words ≤ length s → length s ≤ most_words → Each Differ (paths_of F) → IsTreeOf s (map pair_of (paths_of F))
  tree_of low high D =
      record {
        low = low;
        high = high;
        few = omega (arith, length-map (paths_of F) pair_of, length_paths 0 F S.formed, S.small);
        sound = sound_pairs (paths_of F) paths_apart R;
        numbers = number_pairs D;
        clauses = clause_pairs (paths_of F) paths_apart R;
        room = rw rebuilt S.room;
        words = rw rebuilt S.words;
      }

pub is_tree : (s : List ℕ) → sized s ≡ true → well_laid s ≡ true → of_clauses (decode s) ≡ true → IsTreeOf s (pairs_of (decode s))
unfolding of_clauses
is_tree s a laid c =
    let (low, high) = (and-eq-true_iff (leb least_words (length s)) (leb (length s) most_words)).0 a in
    let (r, d) = (and-eq-true_iff (all_readable (paths_of (decode s))) _).0 c in
    let top : length s ≤ most_words = leb-true (length s) most_words high in
    let slices : Slices s = tree_laws.slices s (omega arith) in
    let (F, S) = slices.laid.0 laid in
    let q : decode s ≡ F = slices.decoded F S in
    let R : All (λ e. Readable e.keys) (paths_of F) = rw q at ((all_readable_lem (paths_of (decode s))).0 r) in
    let D : Each Differ (paths_of F) = rw q at ((all_differ_lem (paths_of (decode s))).0 d) in
    rw q (tree_of s F S R (leb-true least_words (length s) low) top D)

-- ---- clauses in the tree

module _ (s : List ℕ) (K : List Pair) (I : IsTreeOf s K) where
  -- what is found by a number is a clause of the tree
  pub only : (n : ℕ) → n < first_key → (cs : List ℕ) → find n (decode s) ≡ some cs → (p : Pair) × Memᴰ p K × (cs ≡ keys p.clause) × (n ≡ p.number)
  only n l cs e =
      let f : find n (tree s K I) ≡ some cs = rw (decoded s K I) at e in
      kept_pair K cs n (((mirrors s K I).paths cs n).0 (find_some n (tree s K I) l (mirrors s K I).formed cs f))

  -- a clause of the tree is found by its number
  pub finds : (p : Pair) → Memᴰ p K → find p.number (decode s) ≡ some (keys p.clause)
  finds p m = rw (decoded s K I) (go (find p.number (tree s K I)) refl)
    where
      l : p.number < first_key
      l = (all_mem I.sound m).number

      go : (o : Option (List ℕ)) → find p.number (tree s K I) ≡ o → o ≡ some (keys p.clause)
      go none e =
          absurd (find_none p.number (tree s K I) l (mirrors s K I).formed e (keys p.clause) (((mirrors s K I).paths _ _).1 (pair_kept K p m)))
      go (some cs) e =
          ap some
          (single_pairs K I.numbers cs (keys p.clause) p.number
          (((mirrors s K I).paths cs p.number).0 (find_some p.number (tree s K I) l (mirrors s K I).formed cs e)) (pair_kept K p m))
