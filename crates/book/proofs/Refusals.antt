-- Demand 1 holds: each call by the cases of its rows.
use Rattle.std.specs.Prelude.{Err, Ok, Result, ℕ}
use mathlib.Core.Path.{◌≡◌, refl}
use mathlib.Core.Bool.{Bool, true, false, not, ◌&&◌, and-eq-true_iff}
use mathlib.Core.Option.{Option, none, some}
use mathlib.Core.List.{List, [], ◌∷◌}
use Prim.Native.Nat.{ℕ, ◌-◌, ◌≤◌}
use native.Mathlib.Omega.{arith}
use lib.Dec.{leb, ltb}
use lib.ListN.{length, get_or, replicate}
use borrow.Author.Tests.{leb-true, leb-false, lt-ltb, le-ltb}
use Rattle.clause.specs.Clause.{shape, max_words, max_literals}
use Rattle.machine.specs.Machine.{State}
use Rattle.tree.specs.Forest.{size, leaves, layout, ins, del, find, holder}
use Rattle.tree.specs.Laid.{max_kept, sized, used_of, well_laid, decode}
use Rattle.tree.specs.Changes.{insert_into, remove_from}
use Rattle.walk.specs.Walk.{Answer, covered, not_covered, spent, broken}
use Rattle.walk.specs.Ceiling.{ceiling, ceiling_call}
use Rattle.walk.specs.Query.{witness_words, walk_slice, query}
use Rattle.tree.specs.Calls.{fresh, insertion, removal}
use Rattle.readback.specs.Readback.{clause_at}
use Rattle.readback.specs.Saved.{of_clauses, pairs_of}
use Rattle.readback.specs.Calls.{check, written_out, read_back}
use Rattle.backward.specs.Listing.{Listing, rising, list_from}
use Rattle.backward.specs.Listing as listing
use Rattle.backward.specs.Calls.{listed_in, list_into, backward}
use Rattle.book.specs.Table.{ready, kept, removed, returned, passed, said_ceiling, said_check, called, asked, given_back, backed}
use Rattle.book.specs.Refusals.{first_of, fresh_rows, ceiling_rows, insert_rows, remove_rows, query_rows, check_rows, read_rows, back_rows, finished, unless_refused, unless_said, walk_result, read_result, list_result}
use Rattle.book.specs.Claims.{Demand1}
use Rattle.clause.specs.declared.Fault.TheVariants.{BadLength, Bad, Ninth}
use Rattle.machine.specs.Compile.{keys}
use Rattle.clause.specs.declared.Fault.{Fault}

-- no room, as the call tests it and as the table has it
room_test : (len n : ℕ) → leb 2 len ≡ true → ltb (len - 1) n ≡ leb len n
room_test len n h = go (leb len n) refl
  where
    low : 2 ≤ len
    low = leb-true 2 len h

    go : (b : Bool) → leb len n ≡ b → ltb (len - 1) n ≡ b
    go true e = lt-ltb (len - 1) n (omega (arith, low, leb-true len n e))
    go false e = le-ltb (len - 1) n (omega (arith, low, leb-false len n e))

removes : (T : List ℕ) (n : ℕ) (s w : Bool) → sized T ≡ s → well_laid T ≡ w → (o : Option (List ℕ)) → find n (decode T) ≡ o
    → called (removal T n) ≡ unless_refused (first_of (remove_rows T n)) T (finished removed (layout (length T) (del n (decode T))))
unfolding removal remove_from
removes T n false w es ew o eo = rw es
removes T n true false es ew o eo = rw (es, ew)
removes T n true true es ew none eo = rw (es, ew, remove_from, eo)
removes T n true true es ew (some cs) eo = rw (es, ew, remove_from, eo)

inserts : (T c : List ℕ) (n : ℕ) (s w l r : Bool) (h : Result ℕ Fault) (o : Option (List ℕ)) (m : Option ℕ)
    → sized T ≡ s → well_laid T ≡ w → leb max_kept (leaves (decode T)) ≡ l → leb (length T) (size (ins (keys c) n (decode T))) ≡ r
    → shape c ≡ h → find n (decode T) ≡ o → holder (keys c) (decode T) ≡ m
    → called (insertion T c n) ≡ unless_refused (first_of (insert_rows T c n)) T (finished kept (layout (length T) (ins (keys c) n (decode T))))
unfolding insertion insert_into
inserts T c n false w l r h o m es ew el er eh eo em = rw es
inserts T c n true w l r (Err BadLength) o m es ew el er eh eo em = rw (es, eh)
inserts T c n true w l r (Err (Bad at)) o m es ew el er eh eo em = rw (es, eh)
inserts T c n true w l r (Err (Ninth at)) o m es ew el er eh eo em = rw (es, eh)
inserts T c n true false l r (Ok q) o m es ew el er eh eo em = rw (es, eh, ew)
inserts T c n true true l r (Ok q) (some cs) m es ew el er eh eo em = rw (es, eh, ew, insert_into, eo)
inserts T c n true true l r (Ok q) none (some k) es ew el er eh eo em = rw (es, eh, ew, insert_into, eo, em)
inserts T c n true true true r (Ok q) none none es ew el er eh eo em = rw (es, eh, ew, insert_into, eo, em, el)
inserts T c n true true false r (Ok q) none none es ew el er eh eo em =
    go r er
  where
    same : ltb (length T - 1) (size (ins (keys c) n (decode T))) ≡ leb (length T) (size (ins (keys c) n (decode T)))
    same = room_test (length T) (size (ins (keys c) n (decode T))) ((and-eq-true_iff (leb 2 (length T)) (leb (length T) 65_536)).0 es).0

    go : (r : Bool) → leb (length T) (size (ins (keys c) n (decode T))) ≡ r
        → called (insertion T c n) ≡ unless_refused (first_of (insert_rows T c n)) T (finished kept (layout (length T) (ins (keys c) n (decode T))))
    go true er = rw (es, eh, ew, insert_into, eo, em, el, same, er)
    go false er = rw (es, eh, ew, insert_into, eo, em, el, same, er)

asks : (T d : List ℕ) (b : ℕ) (W : List ℕ) (s u v : Bool) (h : Result ℕ Fault) (a : Answer State)
    → sized T ≡ s → ltb (length W) witness_words ≡ u → ltb (length T - 1) (used_of (get_or T 0 0)) ≡ v → shape d ≡ h → walk_slice T d b ≡ a
    → asked (query T d b W) ≡ unless_refused (first_of (query_rows T d W)) W (walk_result b W (walk_slice T d b))
unfolding query
asks T d b W false u v h a es eu ev eh ea = rw es
asks T d b W true u v (Err BadLength) a es eu ev eh ea = rw (es, eh)
asks T d b W true u v (Err (Bad at)) a es eu ev eh ea = rw (es, eh)
asks T d b W true u v (Err (Ninth at)) a es eu ev eh ea = rw (es, eh)
asks T d b W true true v (Ok q) a es eu ev eh ea = rw (es, eh, eu)
asks T d b W true false true (Ok q) a es eu ev eh ea = rw (es, eh, eu, ev)
asks T d b W true false false (Ok q) (covered n s c) es eu ev eh ea = rw (es, eh, eu, ev, ea)
asks T d b W true false false (Ok q) (not_covered c) es eu ev eh ea = rw (es, eh, eu, ev, ea)
asks T d b W true false false (Ok q) spent es eu ev eh ea = rw (es, eh, eu, ev, ea)
asks T d b W true false false (Ok q) broken es eu ev eh ea = rw (es, eh, eu, ev, ea)

starts : (T : List ℕ) (s : Bool) → sized T ≡ s
    → called (fresh T) ≡ unless_refused (first_of (fresh_rows T)) T (finished ready (replicate (length T) 0))
unfolding fresh
starts T true e = rw e
starts T false e = rw e

bounds : (k q m : ℕ) (s : Bool) → (leb k max_kept && leb 1 q && leb q max_literals && leb 1 m && leb m max_literals) ≡ s
    → said_ceiling (ceiling_call k q m) ≡ unless_said (first_of (ceiling_rows k q m)) (record { title = returned; values = ceiling k q m ∷ [] })
bounds k q m true e = rw e
bounds k q m false e = rw e

checks : (T : List ℕ) (s w c : Bool) → sized T ≡ s → well_laid T ≡ w → of_clauses (decode T) ≡ c
    → said_check (check T) ≡ unless_said (first_of (check_rows T)) (record { title = passed; values = [] })
unfolding check
checks T false w c es ew ec = rw es
checks T true false c es ew ec = rw (es, ew)
checks T true true false es ew ec = rw (es, ew, ec)
checks T true true true es ew ec = rw (es, ew, ec)

-- too short an output, as the call tests it and as the table has it
short_test : (a b : ℕ) → ltb a b ≡ not (leb b a)
short_test a b = go (leb b a) refl
  where
    go : (t : Bool) → leb b a ≡ t → ltb a b ≡ not t
    go true e = le-ltb a b (leb-true b a e)
    go false e = lt-ltb a b (leb-false b a e)

reads : (T : List ℕ) (n : ℕ) (W : List ℕ) (s l w c : Bool) (o : Option (List ℕ))
    → sized T ≡ s → leb max_words (length W) ≡ l → well_laid T ≡ w → of_clauses (decode T) ≡ c → find n (decode T) ≡ o
    → given_back (read_back T n W) ≡ unless_refused (first_of (read_rows T n W)) W (read_result (clause_at (find n (decode T))) W)
unfolding read_back written_out
reads T n W false l w c o es el ew ec eo = rw es
reads T n W true false w c o es el ew ec eo = rw (es, short_test (length W) max_words, el)
reads T n W true true false c o es el ew ec eo = rw (es, short_test (length W) max_words, el, ew)
reads T n W true true true false o es el ew ec eo = rw (es, short_test (length W) max_words, el, ew, ec)
reads T n W true true true true none es el ew ec eo = rw (es, short_test (length W) max_words, el, ew, ec, eo)
reads T n W true true true true (some p) es el ew ec eo = rw (es, short_test (length W) max_words, el, ew, ec, eo)

lists : (T c : List ℕ) (b : ℕ) (L : List ℕ) (s w o : Bool) (h : Result ℕ Fault) (l : Listing)
    → sized T ≡ s → well_laid T ≡ w → of_clauses (decode T) ≡ o → shape c ≡ h → list_from c b (rising (pairs_of (decode T))) (length L) 0 ≡ l
    → backed (backward T c b L) ≡ unless_refused (first_of (back_rows T c)) L (list_result b L (list_from c b (rising (pairs_of (decode T))) (length L) 0))
unfolding listed_in list_into backward
lists T c b L false w o h l es ew eo eh el = rw es
lists T c b L true w o (Err BadLength) l es ew eo eh el = rw (es, eh)
lists T c b L true w o (Err (Bad at)) l es ew eo eh el = rw (es, eh)
lists T c b L true w o (Err (Ninth at)) l es ew eo eh el = rw (es, eh)
lists T c b L true false o (Ok q) l es ew eo eh el = rw (es, eh, ew)
lists T c b L true true false (Ok q) l es ew eo eh el = rw (es, eh, ew, eo)
lists T c b L true true true (Ok q) (listing.listed ns k) es ew eo eh el = rw (es, eh, ew, eo, el)
lists T c b L true true true (Ok q) listing.overfull es ew eo eh el = rw (es, eh, ew, eo, el)
lists T c b L true true true (Ok q) listing.spent es ew eo eh el = rw (es, eh, ew, eo, el)
lists T c b L true true true (Ok q) listing.broken es ew eo eh el = rw (es, eh, ew, eo, el)

-- Demand 1
pub demand1 : Demand1
demand1 =
    record {
      freshening = λ T. starts T (sized T) refl;
      inserting =
          λ T c n.
          let F = decode T in
          inserts T c n (sized T) (well_laid T) (leb max_kept (leaves F)) (leb (length T) (size (ins (keys c) n F)))
          (shape c) (find n F) (holder (keys c) F) refl refl refl refl refl refl refl;
      removing = λ T n. removes T n (sized T) (well_laid T) refl refl (find n (decode T)) refl;
      asking =
          λ T d b W. asks T d b W (sized T) (ltb (length W) witness_words) (ltb (length T - 1) (used_of (get_or T 0 0))) (shape d) (walk_slice T d b) refl refl refl refl refl;
      bounding = λ k q m. bounds k q m (leb k max_kept && leb 1 q && leb q max_literals && leb 1 m && leb m max_literals) refl;
      checking = λ T. checks T (sized T) (well_laid T) (of_clauses (decode T)) refl refl refl;
      reading_back =
          λ T n W. reads T n W (sized T) (leb max_words (length W)) (well_laid T) (of_clauses (decode T)) (find n (decode T)) refl refl refl refl refl;
      listing =
          λ T c b L.
          lists T c b L (sized T) (well_laid T) (of_clauses (decode T)) (shape c) (list_from c b (rising (pairs_of (decode T))) (length L) 0)
          refl refl refl refl refl;
    }
