-- The pairs read off a slice are those that are kept, as they are read back.
use mathlib.Core.Path.{◌≡◌, sym, ap, ◌∙◌}
use mathlib.Core.Logic.{◌↔◌}
use mathlib.Core.Bool.{true, and-eq-true_iff}
use mathlib.Core.List.Memᴰ
use mathlib.Core.List.{List, [], ◌∷◌, map, Memᴰ}
use Prim.Native.Nat.{ℕ, ◌≤◌}
use lib.ListN.{length, length-map}
use Rattle.clause.specs.Lists.{All, none, also, Each, nobody, besides}
use Rattle.clause.specs.Clause.{Accepted, Subsumes}
use Rattle.clause.proofs.Lists.{all_mem, all_map}
use Rattle.clause.proofs.Order.{subsumes_trans}
use Rattle.machine.specs.Compile.{keys}
use Rattle.machine.proofs.Matching.{variants_subsume}
use Rattle.tree.specs.Entries.{Entry, Pair, Sound}
use Rattle.tree.specs.Laid.{max_kept, decode}
use Rattle.tree.specs.Laws.{paths_of}
use Rattle.readback.specs.Readback.{normal, clause_of}
use Rattle.readback.specs.Saved.{IsTreeOf, pairs_of, readable, all_readable, of_clauses}
use Rattle.readback.specs.Laws.{Good, ReadsBack}
use Rattle.readback.proofs.Saved.{readable_iff, sound_good, same_keys, of_clauses_lem, only, finds}
use Rattle.readback.proofs.Laws.{readback_laws}
use Rattle.backward.specs.Listing.{rising}
use Rattle.backward.specs.Laws.{as_read}
use Rattle.backward.proofs.Rising.{Differ, Below, Same, rising_all, rising_same, rising_length, rising_rises, rising_only}

-- ---- the numbers

-- pairs as they are read back have the same numbers
differ_read : {K : List Pair} → Each Differ K → Each Differ (map as_read K)
differ_read nobody = nobody
differ_read (besides {x = p} a e) = besides {x = as_read p} (all_map as_read a) (differ_read e)

-- ---- a clause and what is read back of it

module _ (d : List ℕ) (D : Good d) where
  -- what is read back
  back : ReadsBack d
  back = readback_laws.back d D

  -- a clause subsumes the one if it subsumes the other
  pub subsumes_read : (c : List ℕ) → Subsumes c (normal d) ↔ Subsumes c d
  subsumes_read c = (
    λ u. subsumes_trans c (normal d) d u (variants_subsume (normal d) d back.good.accepted D.accepted (same_keys (normal d) d back.good D back.same_keys)),
    λ u. subsumes_trans c d (normal d) u (variants_subsume d (normal d) D.accepted back.good.accepted (same_keys d (normal d) D back.good (sym back.same_keys))),
  )

-- what is read back of sound pairs is accepted
accepted_read : {K : List Pair} → All Sound K → All (λ p. Accepted p.clause) (map as_read K)
accepted_read none = none
accepted_read (also {x = p} s S) = also {x = as_read p} (back p.clause (sound_good p s)).good.accepted (accepted_read S)

-- a pair whose clause comes back equal
abbrev ComesBack : Pair → Type 0
ComesBack p = clause_of (keys p.clause) ≡ p.clause

-- one that is read off a path does
abbrev pair_of : Entry → Pair
pair_of e = record { number = e.number; clause = clause_of e.keys }

reread : (es : List Entry) → all_readable es ≡ true → All ComesBack (map pair_of es)
reread [] h = none
reread (e ∷ es) h =
    let (a, b) = (and-eq-true_iff (readable e.keys) (all_readable es)).0 h in
    also {x = pair_of e} (ap clause_of ((readable_iff e.keys).0 a).is) (reread es b)

-- ---- a slice where the pairs K are kept

module _ (T : List ℕ) (K : List Pair) (I : IsTreeOf T K) where
  -- kept clauses are accepted
  good : {p : Pair} → Memᴰ p K → Good p.clause
  good {p} m = sound_good p (all_mem I.sound m)

  -- the pairs read off it are kept too
  off : IsTreeOf T (pairs_of (decode T))
  off = readback_laws.pairs T (K, I)

  -- and come back equal
  off_reread : All ComesBack (pairs_of (decode T))
  unfolding of_clauses
  off_reread = reread (paths_of (decode T)) ((and-eq-true_iff (all_readable (paths_of (decode T))) _).0 (of_clauses_lem T K I)).0

  -- a pair with a kept one's number and keys, whose clause comes back equal, is that one as it is read back
  as_read_lem : (p q : Pair) → Good p.clause → p.number ≡ q.number → keys p.clause ≡ keys q.clause → ComesBack q → as_read p ≡ q
  as_read_lem p q g n k r =
      let same : normal p.clause ≡ q.clause = sym (back p.clause g).read ∙ ap clause_of k ∙ r in
      ap (λ x. record { number = x; clause = normal p.clause }) n ∙ ap (λ x. record { number = q.number; clause = x }) same

  -- so they are the kept ones as they are read back
  off_same : Same (pairs_of (decode T)) (map as_read K)
  off_same q = (to, from)
    where
      to : Memᴰ q (pairs_of (decode T)) → Memᴰ q (map as_read K)
      to m =
          let (p, n, k, e) = only T K I q.number (all_mem off.sound m).number (keys q.clause) (finds T (pairs_of (decode T)) off q m) in
          Memᴰ.cast (sym (as_read_lem p q (good n) (sym e) (sym k) (all_mem off_reread m))) (Memᴰ.map as_read n)

      from : Memᴰ q (map as_read K) → Memᴰ q (pairs_of (decode T))
      from m =
          let (p, n, e) = Memᴰ.of_map as_read K m in
          let (r, i, k, f) = only T (pairs_of (decode T)) off p.number (all_mem I.sound n).number (keys p.clause) (finds T K I p n) in
          Memᴰ.cast (sym e ∙ as_read_lem p r (good n) f k (all_mem off_reread i)) i

  -- so they are listed in the same order
  pub rising_read : rising (pairs_of (decode T)) ≡ rising (map as_read K)
  rising_read = rising_only (pairs_of (decode T)) (map as_read K) off.numbers (differ_read I.numbers) off_same

  -- as many as are kept
  pub read_many : length (rising (map as_read K)) ≡ length K
  read_many = rising_length (map as_read K) ∙ length-map K as_read

  -- they are accepted, at most max_kept, and their numbers rise
  pub read_accepted : All (λ p. Accepted p.clause) (rising (map as_read K))
  read_accepted = rising_all (accepted_read I.sound)

  pub read_few : length (rising (map as_read K)) ≤ max_kept
  read_few = rw read_many I.few

  pub read_rises : Each Below (rising (map as_read K))
  read_rises = rising_rises (map as_read K) (differ_read I.numbers)

  -- c subsumes one of them under a number exactly if it subsumes a kept clause under that number
  pub read_subsumed : (c : List ℕ) (n : ℕ)
      → ((q : Pair) × Memᴰ q (rising (map as_read K)) × (q.number ≡ n) × Subsumes c q.clause)
      ↔ ((p : Pair) × Memᴰ p K × (p.number ≡ n) × Subsumes c p.clause)
  read_subsumed c n = (to, from)
    where
      to : (q : Pair) × Memᴰ q (rising (map as_read K)) × (q.number ≡ n) × Subsumes c q.clause
          → (p : Pair) × Memᴰ p K × (p.number ≡ n) × Subsumes c p.clause
      to (q, m, e, u) =
          let (p, i, f) = Memᴰ.of_map as_read K ((rising_same (map as_read K) q).0 m) in
          let v : Subsumes c (normal p.clause) = rw (sym f) at u in
          (p, i, ap (λ x. x.number) f ∙ e, (subsumes_read p.clause (good i) c).0 v)

      from : (p : Pair) × Memᴰ p K × (p.number ≡ n) × Subsumes c p.clause
          → (q : Pair) × Memᴰ q (rising (map as_read K)) × (q.number ≡ n) × Subsumes c q.clause
      from (p, m, e, u) =
          (as_read p, (rising_same (map as_read K) (as_read p)).1 (Memᴰ.map as_read m), e, (subsumes_read p.clause (good m) c).1 u)
