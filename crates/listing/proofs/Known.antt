-- The listing in a slice: what its refusals are, and what it is where the slice passes the check.
use mathlib.Core.Path.{◌≡◌, refl, sym}
use mathlib.Core.Logic.{inl, inr}
use mathlib.Core.Bool.{Bool, true, false, cond, and-eq-true_iff}
use mathlib.Core.List.{List, [], ◌∷◌, ◌++◌, map}
use Prim.Native.Nat.{ℕ}
use lib.ListN.{length, take, drop}
use lib.Seq.{length-take-le}
use Rattle.std.specs.Prelude.{Ok, Err}
use Rattle.clause.specs.Lists.{All, none, also}
use Rattle.clause.specs.Clause.{Accepted, shape}
use Rattle.clause.specs.declared.Fault.{Fault}
use Rattle.tree.specs.Laid.{sized, well_laid, decode}
use Rattle.tree.specs.declared.Refusal.{Refusal}
use Rattle.tree.specs.declared.Refusal.TheVariants.{BadSlice, Broken, BadClause, NoSuchTree}
use Rattle.tree.specs.Entries.{Entry}
use Rattle.tree.specs.Laws.{paths_of}
use Rattle.readback.specs.Readback.{clause_of}
use Rattle.readback.specs.Saved.{readable, all_readable, of_clauses, pairs_of}
use Rattle.readback.proofs.Saved.{readable_iff}
use Rattle.checking.proofs.Slices.{passed_clauses}
use Rattle.readback.specs.Calls.{check}
use Rattle.readback.proofs.Laws.{passes, check_passing}
use Rattle.backward.specs.declared.Listed.{Listed}
use Rattle.backward.specs.Listing.{Listing, rising, list_from}
use Rattle.backward.specs.Calls.{unlisted, listed_in, list_into, backward}
use Rattle.backward.proofs.Rising.{rising_all}
use Rattle.shelving.specs.Inner.Shelf.{AcceptedPair}
use Rattle.listing.specs.Inner.Queries.{CameTo}

-- ---- what the queries came to

module _ (b : ℕ) (L : List ℕ) {l : Listing} where
  pub came_found : (ns : List ℕ) (r : Listed) → CameTo b (length L) l (Ok r) ns → (M : List ℕ) → M ≡ take r.count ns
      → record { answer = Ok r; list = M ++ drop r.count L } ≡ listed_in b L l
  unfolding listed_in
  came_found ns r (h, f, e) M q = sym (rw (e, q, length-take-le r.count ns h) refl)

  pub came_refused : (ns : List ℕ) (r : Refusal) → CameTo b (length L) l (Err r) ns → unlisted r L ≡ listed_in b L l
  unfolding listed_in
  came_refused ns r (inl (e, q)) = sym (rw (e, q))
  came_refused ns r (inr (e, q)) = sym (rw (e, q))

-- ---- a slice that passes the check

-- the clauses that are read off paths of clauses are accepted
read_accepted : (es : List Entry) → all_readable es ≡ true → All AcceptedPair (map (λ (e : Entry). record { number = e.number; clause = clause_of e.keys }) es)
read_accepted [] e = none
read_accepted (d ∷ es) e =
    let (a, b) = (and-eq-true_iff (readable d.keys) (all_readable es)).0 e in
    also {x = record { number = d.number; clause = clause_of d.keys }} ((readable_iff d.keys).0 a).good.accepted (read_accepted es b)

pub accepted : (T : List ℕ) → check T ≡ Ok tt → All AcceptedPair (rising (pairs_of (decode T)))
accepted T passed = rising_all (read_accepted (paths_of (decode T)) (passed_clauses T passed))

pub known : (T : List ℕ) → check T ≡ Ok tt → (c : List ℕ) → Accepted c → (b : ℕ) (L : List ℕ)
    → listed_in b L (list_from c b (rising (pairs_of (decode T))) (length L) 0) ≡ backward T c b L
unfolding backward list_into
known T passed c C b L = let p = check_passing T passed in sym (rw (p.right_size, C.1, p.laid, p.of_clauses_lem) refl)

-- ---- the refusals

module _ (T c : List ℕ) (b : ℕ) (L : List ℕ) where
  pub back_bad : sized T ≡ false → backward T c b L ≡ unlisted BadSlice L
  unfolding backward
  back_bad e = rw e

  pub back_faulty : sized T ≡ true → (f : Fault) → shape c ≡ Err f → backward T c b L ≡ unlisted (BadClause f) L
  unfolding backward
  back_faulty e f s = rw (e, s)

  pub back_failed : sized T ≡ true → (q : ℕ) → shape c ≡ Ok q → (r : Refusal) → check T ≡ Err r → backward T c b L ≡ unlisted r L
  unfolding backward check
  back_failed e q s r k = rw (e, s) (go (well_laid T) (of_clauses (decode T)) (rw e at k))
    where
      go : (x y : Bool) → cond x (cond y passes (Err NoSuchTree)) (Err Broken) ≡ Err r
          → cond x (cond y (list_into c b L (pairs_of (decode T))) (unlisted NoSuchTree L)) (unlisted Broken L) ≡ unlisted r L
      go false y k = let t : Broken ≡ r = cc in rw t
      go true false k = let t : NoSuchTree ≡ r = cc in rw t
      go true true k = cc
