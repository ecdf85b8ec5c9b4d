-- One record, by the clauses of the book before it.
use Rattle.std.specs.Prelude.{Err, Ok, Result, ℕ}
use mathlib.Core.Path.{◌≡◌, refl, sym, ap, ap₂, ◌∙◌}
use mathlib.Core.Bool.{Bool, true, false}
use mathlib.Core.Option.{Option, none as nobody, some}
use mathlib.Core.List.{List, [], ◌∷◌, map, Memᴰ}
use Prim.Native.Nat.{ℕ, ◌≤◌, ◌<◌}
use native.Mathlib.Omega.{arith}
use lib.Dec.{leb}
use lib.ListN.{length, get_or, replicate, length-replicate}
use borrow.Author.Tests.{leb-true, leb-false}
use Rattle.clause.specs.Clause.{shape, Accepted}
use Rattle.machine.specs.Compile.{keys}
use Rattle.tree.specs.Forest.{Forest, size, leaves, layout, ins, find, holder, Has, Body, Free}
use Rattle.tree.specs.Laid.{max_kept, used_of}
use Rattle.tree.specs.Entries.{Pair, entry}
use Rattle.tree.specs.Changes.{Change, refuse, change, insert_into}
use Rattle.tree.specs.Refusal.{code_of}
use Rattle.walk.specs.Query.{witness_words}
use Rattle.walk.specs.Covering.{Units, Subsumed, candidates}
use Rattle.book.specs.Book.{insert, Fit, book_step, tree_of}
use Rattle.record.specs.Answer.{budget, tree_words, Record}
use Rattle.record.specs.Ruled.{pair_of, Numbered, words_of, Decided, Uncovered, Takes, Strikes, Reason, faulty, number_taken, list_full, no_room, over_budget}
use Rattle.record.specs.Ruled.{without_all, Clears, Ruled, RuledByUnits}
use Rattle.clause.specs.declared.Fault.{Fault}
use Rattle.clause.specs.declared.Fault.TheVariants.{BadLength, Bad, Ninth}
use Rattle.tree.specs.declared.Refusal.{Refusal}
use Rattle.tree.specs.declared.Refusal.TheVariants.{BadClause, NumberTaken, Held, ListFull, NoRoom}
use Rattle.record.specs.declared.Setting.{Setting}
use Rattle.record.specs.declared.Outcome.{Outcome}
use Rattle.record.specs.declared.Outcome.TheVariants.{Kept, Struck, Refused}
use Rattle.clause.proofs.Literals.{accepted}
use Rattle.clause.proofs.Lists.{all_mem}
use Rattle.machine.proofs.Codes.{sequence_plain}
use Rattle.tree.proofs.Plain.{plain_body}
use Rattle.tree.proofs.Delete.{find_none, find_some}
use Rattle.tree.proofs.Held.{Holding, holding}
use Rattle.tree.proofs.Count.{book_size}
use Rattle.tree.proofs.InsertWords.{ins_leaves}
use Rattle.tree.proofs.Mirror.{mirrors_ins}
use Rattle.tree.proofs.Changes.{Inserts, refused, grown, inserts}
use Rattle.tree.proofs.Pairs.{kept_pair, pair_kept}
use Rattle.book.proofs.Holds.{Holds, holds_leaves, holds_enough}
use Rattle.book.proofs.Exact.{holds_few, holds_exact}
use Rattle.readback.proofs.Saved.{sound_good, same_keys}
use Rattle.machine.proofs.Matching.{variants_subsume}

-- the witness of every query is long enough
pub witness_long : witness_words ≤ length {A = ℕ} (replicate witness_words 0)
witness_long = rw (length-replicate {A = ℕ} witness_words 0) (omega arith)

-- ---- the cases exclude each other

pub shape_faulty : {s : Result ℕ Fault} {n : ℕ} {f : Fault} → s ≡ Err f → s ≡ Ok n → ⊥
shape_faulty e i = let j = sym e ∙ i in cc

module _ {K L : List Pair} {x : Record} where
  reason_subsumed : {r : Refusal} → Reason K L x r → Decided K x → Subsumed K x.words → ⊥
  reason_subsumed (faulty f e) d s = shape_faulty e d.accepted.1
  reason_subsumed (number_taken u m) d s = u.unsubsumed s
  reason_subsumed (list_full u m l) d s = u.unsubsumed s
  reason_subsumed (no_room u m l r) d s = u.unsubsumed s
  reason_subsumed (over_budget a b) d s = omega (arith, d.fits)

  reason_takes : {r : Refusal} → Reason K L x r → Takes K L x → ⊥
  reason_takes (faulty f e) t = shape_faulty e t.uncovered.decided.accepted.1
  reason_takes (number_taken u m) t = t.new m
  reason_takes (list_full u m l) t = omega (arith, t.few)
  reason_takes (no_room u m l r) t = omega (arith, t.room)
  reason_takes (over_budget a b) t = omega (arith, t.uncovered.decided.fits)

  reason_only : {p r : Refusal} → Reason K L x p → Reason K L x r → p ≡ r
  reason_only (faulty f e) (faulty g i) = let j = sym e ∙ i in let k : f ≡ g = cc in ap BadClause k
  reason_only (faulty f e) (number_taken u m) = absurd (shape_faulty e u.decided.accepted.1)
  reason_only (faulty f e) (list_full u m l) = absurd (shape_faulty e u.decided.accepted.1)
  reason_only (faulty f e) (no_room u m l r) = absurd (shape_faulty e u.decided.accepted.1)
  reason_only (faulty f e) (over_budget a b) = absurd (shape_faulty e a.1)
  reason_only (number_taken u m) (faulty f e) = absurd (shape_faulty e u.decided.accepted.1)
  reason_only (number_taken u m) (number_taken v n) = refl
  reason_only (number_taken u m) (list_full v n l) = absurd (n m)
  reason_only (number_taken u m) (no_room v n l r) = absurd (n m)
  reason_only (number_taken u m) (over_budget a b) = absurd (omega (arith, u.decided.fits))
  reason_only (list_full u m l) (faulty f e) = absurd (shape_faulty e u.decided.accepted.1)
  reason_only (list_full u m l) (number_taken v n) = absurd (m n)
  reason_only (list_full u m l) (list_full v n k) = refl
  reason_only (list_full u m l) (no_room v n k r) = absurd (omega arith)
  reason_only (list_full u m l) (over_budget a b) = absurd (omega (arith, u.decided.fits))
  reason_only (no_room u m l r) (faulty f e) = absurd (shape_faulty e u.decided.accepted.1)
  reason_only (no_room u m l r) (number_taken v n) = absurd (m n)
  reason_only (no_room u m l r) (list_full v n k) = absurd (omega arith)
  reason_only (no_room u m l r) (no_room v n k s) = refl
  reason_only (no_room u m l r) (over_budget a b) = absurd (omega (arith, u.decided.fits))
  reason_only (over_budget a b) (faulty f e) = absurd (shape_faulty e a.1)
  reason_only (over_budget a b) (number_taken v n) = absurd (omega (arith, v.decided.fits))
  reason_only (over_budget a b) (list_full v n k) = absurd (omega (arith, v.decided.fits))
  reason_only (over_budget a b) (no_room v n k s) = absurd (omega (arith, v.decided.fits))
  reason_only (over_budget a b) (over_budget c d) = refl

  -- where the budget is enough, the other codes are left
  reason_code : (Accepted x.words → candidates (tree_of K) x.words ≤ budget) → {r : Refusal} → Reason K L x r → Memᴰ (code_of r) (3 ∷ 4 ∷ 5 ∷ 7 ∷ 10 ∷ 11 ∷ [])
  reason_code f (faulty BadLength e) = Memᴰ.head refl
  reason_code f (faulty (Bad at) e) = Memᴰ.tail (Memᴰ.head refl)
  reason_code f (faulty (Ninth at) e) = Memᴰ.tail (Memᴰ.tail (Memᴰ.head refl))
  reason_code f (number_taken u m) = Memᴰ.tail (Memᴰ.tail (Memᴰ.tail (Memᴰ.head refl)))
  reason_code f (list_full u m l) = Memᴰ.tail (Memᴰ.tail (Memᴰ.tail (Memᴰ.tail (Memᴰ.head refl))))
  reason_code f (no_room u m l r) = Memᴰ.tail (Memᴰ.tail (Memᴰ.tail (Memᴰ.tail (Memᴰ.tail (Memᴰ.head refl)))))
  reason_code f (over_budget a b) = absurd (omega (arith, f a))

  -- 12 comes from an accepted clause with more candidates than the budget
  reason_spent : {r : Refusal} → Reason K L x r → code_of r ≡ 12 → Accepted x.words × (budget < candidates (tree_of K) x.words)
  reason_spent (faulty BadLength e) i = absurd (omega arith)
  reason_spent (faulty (Bad at) e) i = absurd (omega arith)
  reason_spent (faulty (Ninth at) e) i = absurd (omega arith)
  reason_spent (number_taken u m) i = absurd (omega arith)
  reason_spent (list_full u m l) i = absurd (omega arith)
  reason_spent (no_room u m l r) i = absurd (omega arith)
  reason_spent (over_budget a b) i = (a, b)

striking : {K : List Pair} {x : Record} {n k : ℕ} → Strikes K x n k → Subsumed K x.words
striking s = (s.striking, s.kept, s.subsumes)

-- ---- what becomes of a record

-- by the book K, what is left of it without the numbers that the record would take out, and these numbers
pub data Course (K L : List Pair) (x : Record) (ns : List ℕ) : Outcome → (removed : List ℕ) → List Pair → Type 0 where
  refuses : {r : Refusal} → Reason K L x r → Course K L x ns (Refused r) [] K
  strikes : {n k : ℕ} → Strikes K x n k → Course K L x ns (Struck n k) [] K
  keeps : Takes K L x → Course K L x ns (Kept (words_of (pair_of x ∷ L))) ns (pair_of x ∷ L)

-- by the setting and the book
pub record Fate (s : Setting) (K : List Pair) (x : Record) (o : Outcome) (removed : List ℕ) (M : List Pair) : Type 0 where
  pub cleared : List ℕ
  pub clears : Accepted x.words → Clears s K x cleared
  pub course : Course K (without_all cleared K) x cleared o removed M

kept_refused : (u : ℕ) (r : Refusal) → Kept u ≡ Refused r → ⊥
kept_refused u r e = cc

kept_struck : (u n k : ℕ) → Kept u ≡ Struck n k → ⊥
kept_struck u n k e = cc

struck_refused : (n k : ℕ) (r : Refusal) → Struck n k ≡ Refused r → ⊥
struck_refused n k r e = cc

module _ {s : Setting} {K : List Pair} {x : Record} (ns : List ℕ) (a : Accepted x.words → Clears s K x ns) where
  -- what is left of the book
  abbrev Left : List Pair
  Left = without_all ns K

  ruled_by : {o : Outcome} {ms : List ℕ} {M : List Pair} → Course K Left x ns o ms M → Ruled s K x o ms M
  ruled_by (refuses {r = c} r) =
      record {
        struck = (λ s. absurd (struck_refused s.0 s.1 c (sym s.2)), λ d. absurd (reason_subsumed r d.0 d.1));
        strikes = λ n k. (λ e. absurd (struck_refused n k c (sym e)), λ s. absurd (reason_subsumed r s.decided (striking s)));
        cleared = ns;
        clears = a;
        kept = λ u. (λ e. absurd (kept_refused u c (sym e)), λ t. absurd (reason_takes r t.0));
        refused = λ d. (λ e. let i : c ≡ d = cc in rw i at r, λ q. ap Refused (reason_only r q));
        grows = λ k. absurd (kept_refused k.0 c (sym k.1));
        stays = λ n. (refl, refl);
      }
  ruled_by (strikes {n = n} {k = k} s) =
      record {
        struck = (λ e. (s.decided, striking s), λ d. (n, k, refl));
        strikes = λ m l. (
          λ e. let i : n ≡ m = cc in let j : k ≡ l = cc in rw (i, j) at s,
          λ t. let w = sym s.walked ∙ t.walked in let i : n ≡ m = cc in let j : k ≡ l = cc in ap₂ Struck i j,
        );
        cleared = ns;
        clears = a;
        kept = λ u. (λ e. absurd (kept_struck u n k (sym e)), λ t. absurd (t.0.uncovered.unsubsumed (striking s)));
        refused = λ d. (λ e. absurd (struck_refused n k d e), λ q. absurd (reason_subsumed q s.decided (striking s)));
        grows = λ h. absurd (kept_struck h.0 n k (sym h.1));
        stays = λ m. (refl, refl);
      }
  ruled_by (keeps t) =
      record {
        struck = (λ s. absurd (kept_struck (words_of (pair_of x ∷ Left)) s.0 s.1 s.2), λ d. absurd (t.uncovered.unsubsumed d.1));
        strikes = λ n k. (λ e. absurd (kept_struck (words_of (pair_of x ∷ Left)) n k e), λ s. absurd (t.uncovered.unsubsumed (striking s)));
        cleared = ns;
        clears = a;
        kept = λ u. (λ e. let i : words_of (pair_of x ∷ Left) ≡ u = cc in (t, sym i), λ s. ap Kept (sym s.1));
        refused = λ d. (λ e. absurd (kept_refused (words_of (pair_of x ∷ Left)) d e), λ q. absurd (reason_takes q t));
        grows = λ h. (refl, refl);
        stays = λ n. absurd (n (words_of (pair_of x ∷ Left), refl));
      }

pub ruled : {s : Setting} {K : List Pair} {x : Record} {o : Outcome} {ms : List ℕ} {M : List Pair} → Fate s K x o ms M → Ruled s K x o ms M
ruled f = ruled_by f.cleared f.clears f.course

-- the codes; the budget is enough
pub ruled_codes : {s : Setting} {K M : List Pair} {x : Record} {o : Outcome} {ms : List ℕ} → Holds tree_words K (tree_of K) → Ruled s K x o ms M
    → (r : Refusal) → o ≡ Refused r → Memᴰ (code_of r) (3 ∷ 4 ∷ 5 ∷ 7 ∷ 10 ∷ 11 ∷ [])
ruled_codes {x = x} h u r e = reason_code (λ D. omega (arith, holds_enough h x.words D)) ((u.refused r).0 e)

-- over a book of units
pub ruled_by_units : {s : Setting} {K M : List Pair} {x : Record} {o : Outcome} {ms : List ℕ} → Holds tree_words K (tree_of K) → Units K → Ruled s K x o ms M
    → RuledByUnits K x o
ruled_by_units {x = x} h u r =
    record {
      exact = λ some (used, e).
          let free : Uncovered _ x = ((r.kept used).0 e).0.uncovered in
          holds_exact h u x.words some free.decided.accepted free.unsubsumed;
      at_most = λ n k e. omega (arith, holds_few h u x.words, ((r.strikes n k).0 e).count);
      enough = λ f e i. let (D, over) = reason_spent ((r.refused f).0 e) i in omega (arith, holds_few h u x.words, (accepted x.words D).few);
    }

-- ---- the insertion

-- what an insertion does to the tree of the book, by the book
pub data Tried (K : List Pair) (x : Record) : Change → Type 0 where
  taken : Numbered K x.number → Tried K x (refuse NumberTaken)
  varied : (m : ℕ) → Subsumed K x.words → Tried K x (refuse (Held m))
  full : (Numbered K x.number → ⊥) → max_kept ≤ length K → Tried K x (refuse ListFull)
  crowded : (Numbered K x.number → ⊥) → length K < max_kept → tree_words ≤ words_of (pair_of x ∷ K) → Tried K x (refuse NoRoom)
  larger : (Numbered K x.number → ⊥) → length K < max_kept → words_of (pair_of x ∷ K) < tree_words → (G : Forest) → size G ≡ words_of (pair_of x ∷ K) → leaves G ≤ max_kept
      → Tried K x (change G)

-- the used words stand in the first word
pub used_layout : (len : ℕ) (F : Forest) → leaves F ≤ max_kept → used_of (get_or (layout len F) 0 0) ≡ size F
unfolding layout
used_layout len F h = omega arith

refuse≢change : (r : Refusal) (G : Forest) → refuse r ≡ change G → ⊥
refuse≢change r G e = cc

module _ (K : List Pair) (F : Forest) (h : Holds tree_words K F) (x : Record) (f : Fit (insert x.words x.number)) (q : ℕ) (s : shape x.words ≡ Ok q) where
  body : Body (keys x.words)
  body = plain_body (sequence_plain x.words (accepted x.words (q, s)) f.0)

  -- a number that a Success has is in the book
  pub find_numbered : (cs : List ℕ) → find x.number F ≡ some cs → Numbered K x.number
  find_numbered cs u =
      let (p, m, i, j) = kept_pair K cs x.number ((h.keeps.mirrors.paths cs x.number).0 (find_some x.number F f.1 h.keeps.mirrors.formed cs u)) in
      (p, m, sym j)

  pub find_new : find x.number F ≡ nobody → Numbered K x.number → ⊥
  find_new u (p, m, e) =
      find_none x.number F f.1 h.keeps.mirrors.formed u (keys p.clause)
      ((h.keeps.mirrors.paths (keys p.clause) x.number).1 (rw e at (pair_kept K p m)))

  -- a sequence that is held is that of a clause that subsumes the record's
  held_subsumed : (m : ℕ) → Has F (keys x.words) m → Subsumed K x.words
  held_subsumed m w =
      let (p, k, i, j) = kept_pair K (keys x.words) m ((h.keeps.mirrors.paths (keys x.words) m).0 w) in
      let t = all_mem h.sound k in
      let v = same_keys x.words p.clause (record { accepted = (q, s); words = f.0 }) (sound_good p t) i in
      (p, k, variants_subsume p.clause x.words t.accepted (q, s) (sym v))

  -- the larger tree has as many words as there are beginnings
  larger_size : Free (keys x.words) F → size (ins (keys x.words) x.number F) ≡ words_of (pair_of x ∷ K)
  larger_size w =
      book_size (ins (keys x.words) x.number F) (map entry (pair_of x ∷ K))
      (mirrors_ins F (map entry K) (entry (pair_of x)) h.keeps.mirrors body f.1 (λ m p. w m ((h.keeps.mirrors.paths (keys x.words) m).1 p)))

  pub tried : Tried K x (insert_into tree_words F (entry (pair_of x)))
  unfolding insert_into
  tried =
      go (find x.number F) refl (holder (keys x.words) F) refl (holding 0 (keys x.words) F h.keeps.mirrors.formed) (leb max_kept (leaves F)) refl
      (leb tree_words (size (ins (keys x.words) x.number F))) refl
    where
      go : (o : Option (List ℕ)) → find x.number F ≡ o → (k : Option ℕ) → holder (keys x.words) F ≡ k → Holding (keys x.words) F k
          → (a : Bool) → leb max_kept (leaves F) ≡ a → (b : Bool) → leb tree_words (size (ins (keys x.words) x.number F)) ≡ b
          → Tried K x (insert_into tree_words F (entry (pair_of x)))
      go (some cs) u k v w a i b j = rw (u, insert_into) (taken (find_numbered cs u))
      go nobody u (some m) v w a i b j = rw (u, v, insert_into) (varied m (held_subsumed m w))
      go nobody u nobody v w true i b j =
          rw (u, v, i, insert_into) (full (find_new u) (omega (arith, holds_leaves h, leb-true max_kept (leaves F) i)))
      go nobody u nobody v w false i true j =
          let few = leb-false max_kept (leaves F) i in
          let many = leb-true tree_words (size (ins (keys x.words) x.number F)) j in
          rw (u, v, i, j, insert_into) (crowded (find_new u) (omega (arith, holds_leaves h, few)) (omega (arith, larger_size w, many)))
      go nobody u nobody v w false i false j =
          let few = leb-false max_kept (leaves F) i in
          let room = leb-false tree_words (size (ins (keys x.words) x.number F)) j in
          let more = ins_leaves (keys x.words) x.number F body f.1 in
          rw (u, v, i, j, insert_into)
          (larger (find_new u) (omega (arith, holds_leaves h, few)) (omega (arith, larger_size w, room)) (ins (keys x.words) x.number F) (larger_size w)
          (omega (arith, more, few)))

  -- the book after the insertion
  inserting : Inserts tree_words F (map entry K) (entry (pair_of x))
  inserting = inserts tree_words (entry (pair_of x)) F (map entry K) body f.1 h.keeps

  pub book_grown : (G : Forest) → insert_into tree_words F (entry (pair_of x)) ≡ change G → book_step tree_words K (insert x.words x.number) ≡ pair_of x ∷ K
  unfolding book_step
  book_grown G e = go inserting
    where
      go : Inserts tree_words F (map entry K) (entry (pair_of x)) → book_step tree_words K (insert x.words x.number) ≡ pair_of x ∷ K
      go (refused r i b) = absurd (refuse≢change r G (sym i ∙ e))
      go (grown i b k new room few) = rw (s, b)
