-- The claims of specs/Laws.
use Rattle.std.specs.Prelude.{Err, Ok, Result, ⊤}
use mathlib.Core.Path.{◌≡◌, refl, sym, ap, ◌∙◌}
use mathlib.Core.Logic.{◌↔◌, ◌≢◌}
use mathlib.Core.Bool.{Bool, true, false, cond}
use mathlib.Core.Option.{Option, none, some}
use mathlib.Core.List.{List, map, Memᴰ}
use Prim.Native.Nat.{ℕ, ◌≤◌, ◌<◌}
use native.Mathlib.Omega.{arith}
use lib.Dec.{leb}
use lib.ListN.{length, length-map}
use borrow.Author.Tests.{le-leb, lt-leb}
use Rattle.clause.specs.Clause.{max_words}
use Rattle.clause.proofs.Lists.{all_mem}
use Rattle.clause.proofs.Literals.{accepted}
use Rattle.machine.specs.Instr.{key}
use Rattle.machine.specs.Compile.{sequence, Variants, keys}
use Rattle.machine.specs.Compiled.{max_keys}
use Rattle.machine.proofs.Length.{sequence_length}
use Rattle.tree.specs.Keys.{first_key}
use Rattle.tree.specs.Forest.{find}
use Rattle.tree.specs.Laid.{sized, well_laid, decode}
use Rattle.tree.specs.Entries.{Pair}
use Rattle.tree.specs.declared.Refusal.{Refusal}
use Rattle.tree.specs.declared.Refusal.TheVariants.{BadSlice, Broken, NoSuchNumber, NoSuchTree, ShortOutput}
use Rattle.readback.specs.Readback.{normal, clause_of}
use Rattle.readback.specs.Saved.{IsTreeOf, IsSaved, pairs_of, readable, of_clauses}
use Rattle.readback.specs.Calls.{Given, check, over, unread, written_out, read_back}
use Rattle.readback.specs.Laws.{Good, ReadsBack, IsRead, ReadsKept, ReadbackLaws}
use Rattle.readback.proofs.Normal.{reads_back, path_readable}
use Rattle.readback.proofs.Saved.{readable_iff, sound_good, same_keys, right_size, laid, of_clauses_lem, is_tree, only, finds}

back : (c : List ℕ) → Good c → ReadsBack c
back c g = reads_back c g.accepted g.words

variants : (c d : List ℕ) → Good c → Good d → Variants c d ↔ (normal c ≡ normal d)
variants c d g h = (
  λ v. sym (back c g).read ∙ ap (λ s. clause_of (map key s)) v ∙ (back d h).read,
  λ e. same_keys c d g h (sym (back c g).same_keys ∙ ap keys e ∙ (back d h).same_keys),
)

length_normal : (c : List ℕ) → length (normal c) ≡ length c
unfolding normal
length_normal c = length-map c _

-- no clause has more than `max_keys` keys
pub deep_unreadable : (p : List ℕ) → max_keys < length p → readable p ≡ false
deep_unreadable p h = go (readable p) refl
  where
    go : (b : Bool) → readable p ≡ b → b ≡ false
    go false e = refl
    go true e =
        let R = (readable_iff p).0 e in
        let l = sequence_length (clause_of p) (accepted (clause_of p) R.good.accepted) in
        absurd (omega (arith, ap length R.is, length-map (sequence (clause_of p)) key))

-- ---- checking

-- a slice that is not refused passes the three tests
pub record Passing (T : List ℕ) : Type 0 where
  pub right_size : sized T ≡ true
  pub laid : well_laid T ≡ true
  pub of_clauses_lem : of_clauses (decode T) ≡ true

-- what a check answers that refuses nothing
abbrev pub passes : Result ⊤ Refusal
passes = Ok tt

pub check_passing : (T : List ℕ) → check T ≡ Ok tt → Passing T
unfolding check
check_passing T e = go (sized T) refl (well_laid T) refl (of_clauses (decode T)) refl e
  where
    go : (a : Bool) → sized T ≡ a → (b : Bool) → well_laid T ≡ b → (c : Bool) → of_clauses (decode T) ≡ c
        → cond a (cond b (cond c passes (Err NoSuchTree)) (Err Broken)) (Err BadSlice) ≡ Ok tt → Passing T
    go false a b l c k e = cc
    go true a false l c k e = cc
    go true a true l false k e = cc
    go true a true l true k e = record { right_size = a; laid = l; of_clauses_lem = k }

pub passing_check : (T : List ℕ) → Passing T → check T ≡ Ok tt
unfolding check
passing_check T p = rw (p.right_size, p.laid, p.of_clauses_lem)

-- and one that is refused fails one of them
pub check_bad : (T : List ℕ) → sized T ≡ false → check T ≡ Err BadSlice
unfolding check
check_bad T e = rw e

pub check_broken : (T : List ℕ) → sized T ≡ true → well_laid T ≡ false → check T ≡ Err Broken
unfolding check
check_broken T e f = rw (e, f)

pub check_foreign : (T : List ℕ) → sized T ≡ true → well_laid T ≡ true → of_clauses (decode T) ≡ false → check T ≡ Err NoSuchTree
unfolding check
check_foreign T e f g = rw (e, f, g)

passing_tree : (T : List ℕ) → Passing T → IsTreeOf T (pairs_of (decode T))
passing_tree T p = is_tree T p.right_size p.laid p.of_clauses_lem

saved_passing : (T : List ℕ) (K : List Pair) → IsTreeOf T K → Passing T
saved_passing T K I = record { right_size = right_size T K I; laid = laid T K I; of_clauses_lem = of_clauses_lem T K I }

-- ---- reading back

-- where all tests pass, it is the clause of the path to the number
pub written_is : (T : List ℕ) (n : ℕ) (W : List ℕ) → Passing T → max_words ≤ length W → read_back T n W ≡ written_out (find n (decode T)) W
unfolding read_back
written_is T n W p room = rw (p.right_size, le-leb max_words (length W) room, p.laid, p.of_clauses_lem)

-- else it is refused, with the words left
pub read_bad : (T : List ℕ) (n : ℕ) (W : List ℕ) → sized T ≡ false → read_back T n W ≡ unread BadSlice W
unfolding read_back
read_bad T n W e = rw e

pub read_short : (T : List ℕ) (n : ℕ) (W : List ℕ) → sized T ≡ true → length W < max_words → read_back T n W ≡ unread ShortOutput W
unfolding read_back
read_short T n W e h = rw (e, lt-leb max_words (length W) h)

pub read_failed : (T : List ℕ) (n : ℕ) (W : List ℕ) (r : Refusal) → sized T ≡ true → max_words ≤ length W → check T ≡ Err r → read_back T n W ≡ unread r W
unfolding check read_back
read_failed T n W r e room f = rw (e, le-leb max_words (length W) room) (go (well_laid T) (of_clauses (decode T)) (rw e at f))
  where
    go : (b c : Bool) → cond b (cond c passes (Err NoSuchTree)) (Err Broken) ≡ Err r
        → cond b (cond c (written_out (find n (decode T)) W) (unread NoSuchTree W)) (unread Broken W) ≡ unread r W
    go false c q = let s : Broken ≡ r = cc in rw s
    go true false q = let s : NoSuchTree ≡ r = cc in rw s
    go true true q = cc

module _ (T : List ℕ) (K : List Pair) (I : IsTreeOf T K) (W : List ℕ) (room : max_words ≤ length W) where
  passing : Passing T
  passing = saved_passing T K I

  each : (p : Pair) → Memᴰ p K → read_back T p.number W ≡ record { answer = Ok (length p.clause); output = over (normal p.clause) W }
  unfolding written_out
  each p m =
      let t = all_mem I.sound m in
      let r = (reads_back p.clause t.accepted t.words).read in
      written_is T p.number W passing room ∙ rw (finds T K I p m, r, length_normal p.clause)

  unknown : (n : ℕ) → n < first_key → (read_back T n W ≡ unread NoSuchNumber W) ↔ ((p : Pair) → Memᴰ p K → p.number ≢ n)
  unfolding written_out
  unknown n l = (to, from)
    where
      to : read_back T n W ≡ unread NoSuchNumber W → (p : Pair) → Memᴰ p K → p.number ≢ n
      to e p m q = let f = ap (λ (r : Given). r.answer) (sym (each p m) ∙ ap (λ k. read_back T k W) q ∙ e) in cc

      from : ((p : Pair) → Memᴰ p K → p.number ≢ n) → read_back T n W ≡ unread NoSuchNumber W
      from h = written_is T n W passing room ∙ go (find n (decode T)) refl
        where
          go : (o : Option (List ℕ)) → find n (decode T) ≡ o → written_out o W ≡ unread NoSuchNumber W
          go none e = refl
          go (some cs) e = let (p, m, q, r) = only T K I n l cs e in absurd (h p m (sym r))

-- what is read is the clause of a path of the tree
reads : (T : List ℕ) (n : ℕ) (W : List ℕ) (k : ℕ) → n < first_key → (read_back T n W).answer ≡ Ok k → IsRead T n W k
unfolding read_back written_out
reads T n W k l e = go (sized T) refl (leb max_words (length W)) refl (well_laid T) refl (of_clauses (decode T)) refl (find n (decode T)) refl e
  where
    tested : sized T ≡ true → leb max_words (length W) ≡ true → well_laid T ≡ true → of_clauses (decode T) ≡ true → (cs : List ℕ) → find n (decode T) ≡ some cs
        → (written_out (some cs) W).answer ≡ Ok k → IsRead T n W k
    tested a b c d cs f e =
        let K = pairs_of (decode T) in
        let I = is_tree T a c d in
        let (p, m, q, r) = only T K I n l cs f in
        let t = all_mem I.sound m in
        let B = reads_back p.clause t.accepted t.words in
        let is : clause_of cs ≡ normal p.clause = ap clause_of q ∙ B.read in
        record {
          clause = normal p.clause;
          good = B.good;
          length_is = rw (sym is) cc;
          output = rw (a, b, c, d, f, is);
          path = f ∙ ap some (q ∙ sym B.same_keys);
          numbered = B.numbered;
        }

    go : (a : Bool) → sized T ≡ a → (b : Bool) → leb max_words (length W) ≡ b → (c : Bool) → well_laid T ≡ c → (d : Bool) → of_clauses (decode T) ≡ d
        → (o : Option (List ℕ)) → find n (decode T) ≡ o
        → (cond a (cond b (cond c (cond d (written_out o W) (unread NoSuchTree W)) (unread Broken W)) (unread ShortOutput W)) (unread BadSlice W)).answer ≡ Ok k
        → IsRead T n W k
    go false a b l c k d m o f e = cc
    go true a false l c k d m o f e = cc
    go true a true l false k d m o f e = cc
    go true a true l true k false m o f e = cc
    go true a true l true k true m none f e = cc
    go true a true l true k true m (some cs) f e = tested a l k m cs f e

-- ---- the claims

kept : (T : List ℕ) (K : List Pair) → IsTreeOf T K → (W : List ℕ) → max_words ≤ length W → ReadsKept T K W
kept T K I W room =
    let good : (p : Pair) → Memᴰ p K → Good p.clause = λ p m. sound_good p (all_mem I.sound m) in
    record {
      each = each T K I W room;
      variant = λ p m. let B = back p.clause (good p m) in same_keys (normal p.clause) p.clause B.good (good p m) B.same_keys;
      same = λ p m n. let B = back p.clause (good p m) in sym B.read ∙ B.same n;
      unknown = unknown T K I W room;
    }

pub readback_laws : ReadbackLaws
readback_laws =
    record {
      back = back;
      paths = path_readable;
      tested = λ p. (λ e. (path_readable p).1 ((readable_iff p).0 e), λ I. (readable_iff p).1 ((path_readable p).0 I));
      variants = variants;
      tested_tree = λ T a l. (λ e. (pairs_of (decode T), is_tree T a l e), λ I. of_clauses_lem T I.0 I.1);
      pairs = λ T I. passing_tree T (saved_passing T I.0 I.1);
      reads = reads;
      kept = kept;
    }

-- a slice passes exactly if it is the tree of some clauses, or of none
pub passed_saved : (T : List ℕ) → (check T ≡ Ok tt) ↔ IsSaved T
passed_saved T = (λ e. (pairs_of (decode T), passing_tree T (check_passing T e)), λ I. passing_check T (saved_passing T I.0 I.1))
