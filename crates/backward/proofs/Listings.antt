-- What a listing comes to on each way.
use mathlib.Core.Path.{◌≡◌, refl, ap, ◌∙◌}
use mathlib.Core.Logic.{◌⊎◌, inl, inr}
use mathlib.Core.List.{List, ◌∷◌, ◌++◌}
use Prim.Native.Nat.{ℕ, zero, suc, ◌+◌, ◌-◌, ◌≤◌, ◌<◌}
use native.Mathlib.Nat.{add-zero, zero-add, add_assoc}
use native.Mathlib.Omega.{arith}
use lib.ListN.{length}
use Rattle.clause.specs.Lists.{also}
use Rattle.clause.specs.Word.{Words}
use Rattle.clause.specs.Clause.{Accepted, Subsumes}
use Rattle.clause.proofs.Lists.{all_first, all_last, all_head}
use Rattle.machine.specs.Machine.{State}
use Rattle.tree.specs.Entries.{Pair}
use Rattle.walk.specs.Walk.{Answer}
use Rattle.backward.specs.Listing.{tried, Listing, listed, overfull, spent, with_number, goes_on, list_from}
use Rattle.backward.specs.Laws.{tries_of, Picks, done, picked, passed, Met, SpentAt, FullAt}
use Rattle.backward.proofs.Lone.{Tries, subsuming, other, beyond, lone_tries}
use Rattle.backward.proofs.Picking.{AllAccepted}
use Rattle.backward.proofs.Ways.{tries, Way, enough, spends, fills, way}

module _ (c : List ℕ) (C : Accepted c) (w : Words c) (b : ℕ) where
  module _ (p : Pair) (A : Accepted p.clause) (R : List Pair) (r k : ℕ) where
    -- what the first query comes to
    after : Tries c p.clause (b - k) (tried c (b - k) p.clause)
    after = lone_tries c C w p.clause A (b - k)

    -- a pair that is listed
    pub step_picked : Subsumes c p.clause → k + tries c p ≤ b → list_from c b (p ∷ R) (suc r) k ≡ with_number p.number (list_from c b R r (k + tries c p))
    unfolding list_from
    step_picked u l = go after
      where
        go : {x : Answer State} → Tries c p.clause (b - k) x
            → goes_on p.number (suc r) k x (list_from c b R) ≡ with_number p.number (list_from c b R r (k + tries c p))
        go (subsuming v e h) = rw e
        go (other v e h) = absurd (v u)
        go (beyond h) = absurd (omega arith)

    -- one for which there is no room
    pub step_full : Subsumes c p.clause → k + tries c p ≤ b → list_from c b (p ∷ R) 0 k ≡ overfull
    unfolding list_from
    step_full u l = go after
      where
        go : {x : Answer State} → Tries c p.clause (b - k) x → goes_on p.number 0 k x (list_from c b R) ≡ overfull
        go (subsuming v e h) = refl
        go (other v e h) = absurd (v u)
        go (beyond h) = absurd (omega arith)

    -- one that is not listed
    pub step_passed : (Subsumes c p.clause → ⊥) → k + tries c p ≤ b → list_from c b (p ∷ R) r k ≡ list_from c b R r (k + tries c p)
    unfolding list_from
    step_passed u l = go after
      where
        go : {x : Answer State} → Tries c p.clause (b - k) x → goes_on p.number r k x (list_from c b R) ≡ list_from c b R r (k + tries c p)
        go (subsuming v e h) = absurd (u v)
        go (other v e h) = rw e
        go (beyond h) = absurd (omega arith)

    -- one for which the budget is not enough
    pub step_spent : k ≤ b → b < k + tries c p → list_from c b (p ∷ R) r k ≡ spent
    unfolding list_from
    step_spent h l = go after
      where
        go : {x : Answer State} → Tries c p.clause (b - k) x → goes_on p.number r k x (list_from c b R) ≡ spent
        go (subsuming v e h') = absurd (omega arith)
        go (other v e h') = absurd (omega arith)
        go (beyond h') = refl

  -- all are gone over
  list_all : {R : List Pair} {ns : List ℕ} → Picks c R ns → AllAccepted R → (r k : ℕ) → length ns ≤ r → k + tries_of c R ≤ b
      → list_from c b R r k ≡ listed ns (k + tries_of c R)
  unfolding list_from
  list_all done a r k h g = rw (add-zero k)
  list_all (picked {p = p} {K = R} u P) (also A a) zero k h g = absurd (omega arith)
  list_all (picked {p = p} {K = R} u P) (also A a) (suc r) k h g =
      step_picked p A R r k u (omega arith) ∙ rw (list_all P a r (k + tries c p) (omega arith) (omega arith), add_assoc k (tries c p) (tries_of c R))
  list_all (passed {p = p} {K = R} u P) (also A a) r k h g =
      step_passed p A R r k u (omega arith) ∙ rw (list_all P a r (k + tries c p) (omega arith) (omega arith), add_assoc k (tries c p) (tries_of c R))

  -- some are gone over, and then it ends without numbers
  list_part : {F : List Pair} {ns : List ℕ} → Picks c F ns → AllAccepted F → (R : List Pair) (r k : ℕ) → length ns ≤ r → k + tries_of c F ≤ b
      → (x : Listing) → ((n : ℕ) → with_number n x ≡ x) → list_from c b R (r - length ns) (k + tries_of c F) ≡ x → list_from c b (F ++ R) r k ≡ x
  list_part done a R r k h g x s e =
      let q : r - 0 ≡ r = omega arith in
      let t : k + 0 ≡ k = omega arith in
      rw (q, t) at e
  list_part (picked {p = p} {K = F} {ns = ns} u P) (also A a) R zero k h g x s e = absurd (omega arith)
  list_part (picked {p = p} {K = F} {ns = ns} u P) (also A a) R (suc r) k h g x s e =
      let q : suc r - suc (length ns) ≡ r - length ns = omega arith in
      let t : k + (tries c p + tries_of c F) ≡ k + tries c p + tries_of c F = omega arith in
      step_picked p A (F ++ R) r k u (omega arith)
      ∙ ap (with_number p.number) (list_part P a R r (k + tries c p) (omega arith) (omega arith) x s (rw (q, t) at e)) ∙ s p.number
  list_part (passed {p = p} {K = F} u P) (also A a) R r k h g x s e =
      let t : k + (tries c p + tries_of c F) ≡ k + tries c p + tries_of c F = omega arith in
      step_passed p A (F ++ R) r k u (omega arith) ∙ list_part P a R r (k + tries c p) h (omega arith) x s (rw t at e)

  module _ (R : List Pair) (A : AllAccepted R) where
    -- the pairs before one that is met, and that one
    met_before : (m : Met c R) → AllAccepted m.before
    met_before m = all_first m.before (m.this ∷ m.after) (rw m.whole at A)

    met_this : (m : Met c R) → Accepted m.this.clause
    met_this m = all_head (all_last m.before (m.this ∷ m.after) (rw m.whole at A))

    module _ (L : List ℕ) where
      -- list and budget are enough
      pub listed_is : (ns : List ℕ) → Picks c R ns → length ns ≤ length L → tries_of c R ≤ b → list_from c b R (length L) 0 ≡ listed ns (tries_of c R)
      listed_is ns P h g = list_all P A (length L) 0 h (omega arith) ∙ ap (listed ns) (zero-add (tries_of c R))

      -- the budget is spent at a pair
      pub spent_is : SpentAt c b L R → list_from c b R (length L) 0 ≡ spent
      spent_is s =
          let m = s.met in
          let r = length L - length m.numbers in
          let k = 0 + tries_of c m.before in
          let here = step_spent m.this (met_this m) m.after r k (omega (arith, s.before)) (omega (arith, s.over)) in
          ap (λ l. list_from c b l (length L) 0) m.whole
          ∙ list_part m.picks (met_before m) (m.this ∷ m.after) (length L) 0 s.room (omega (arith, s.before)) spent (λ n. refl) here

      -- the list is full at a pair
      pub full_is : FullAt c b L R → list_from c b R (length L) 0 ≡ overfull
      full_is s =
          let m = s.met in
          let left : length L - length m.numbers ≡ 0 = omega (arith, s.full) in
          let here = step_full m.this (met_this m) m.after 0 (0 + tries_of c m.before) s.subsumes (omega (arith, s.fits)) in
          ap (λ l. list_from c b l (length L) 0) m.whole
          ∙ list_part m.picks (met_before m) (m.this ∷ m.after) (length L) 0 (omega (arith, s.full)) (omega (arith, s.fits)) overfull (λ n. refl) (rw left here)

      -- one of them is so
      pub ways : (ns : List ℕ) → Picks c R ns → ((length ns ≤ length L) × (tries_of c R ≤ b)) ⊎ (SpentAt c b L R ⊎ FullAt c b L R)
      ways ns P = go (way P (length L) 0 (omega arith))
        where
          go : Way c b R ns (length L) 0 → ((length ns ≤ length L) × (tries_of c R ≤ b)) ⊎ (SpentAt c b L R ⊎ FullAt c b L R)
          go (enough h g) = inl (h, omega arith)
          go (spends s) = inr (inl record { met = s.met; room = s.room; before = omega (arith, s.before); over = omega (arith, s.over) })
          go (fills s) = inr (inr record { met = s.met; full = s.full; fits = omega (arith, s.fits); subsumes = s.subsumes })
