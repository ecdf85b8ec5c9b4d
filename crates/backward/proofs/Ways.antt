-- The ways that a listing can go, by the room in the list and the candidates of the budget that are left.
use mathlib.Core.Path.{◌≡◌, refl, ap}
use mathlib.Core.List.{List, [], ◌∷◌}
use Prim.Native.Nat.{ℕ, zero, suc, ◌+◌, ◌≤◌, ◌<◌}
use native.Mathlib.Omega.{arith}
use native.Mathlib.Decide.{dec_le}
use lib.ListN.{length}
use Rattle.clause.specs.Clause.{Subsumes}
use Rattle.tree.specs.Entries.{Pair}
use Rattle.walk.specs.Covering.{candidates}
use Rattle.backward.specs.Listing.{lone}
use Rattle.backward.specs.Laws.{tries_of, Picks, done, picked, passed, Met}

-- the candidates of one pair's query
abbrev pub tries : (c : List ℕ) → Pair → ℕ
tries c p = candidates (lone c) p.clause

-- ---- what is met from where the list has room for r more, and k candidates are tried

-- the budget is not enough for one of the pairs
pub record SpentFrom (c : List ℕ) (b r k : ℕ) (R : List Pair) : Type 0 where
  pub met : Met c R
  pub room : length met.numbers ≤ r
  pub before : k + tries_of c met.before ≤ b
  pub over : b < k + tries_of c met.before + tries c met.this

-- the list has no room for one of them
pub record FullFrom (c : List ℕ) (b r k : ℕ) (R : List Pair) : Type 0 where
  pub met : Met c R
  pub full : length met.numbers ≡ r
  pub fits : k + tries_of c met.before + tries c met.this ≤ b
  pub subsumes : Subsumes c met.this.clause

-- room and budget are enough for all of them, whose numbers to be listed are ns; or not
pub data Way (c : List ℕ) (b : ℕ) (R : List Pair) (ns : List ℕ) (r k : ℕ) : Type 0 where
  enough : length ns ≤ r → k + tries_of c R ≤ b → Way c b R ns r k
  spends : SpentFrom c b r k R → Way c b R ns r k
  fills : FullFrom c b r k R → Way c b R ns r k

module _ {c : List ℕ} where
  -- the first pair is met first
  abbrev first_met : (p : Pair) (R : List Pair) → Met c (p ∷ R)
  first_met p R = record { before = []; this = p; after = R; whole = refl; numbers = []; picks = done }

  -- one is met after the first
  abbrev picked_met : {p : Pair} {R : List Pair} → Subsumes c p.clause → Met c R → Met c (p ∷ R)
  picked_met {p} u m =
      record {
        before = p ∷ m.before;
        this = m.this;
        after = m.after;
        whole = ap (λ (l : List Pair). p ∷ l) m.whole;
        numbers = p.number ∷ m.numbers;
        picks = picked u m.picks;
      }

  abbrev passed_met : {p : Pair} {R : List Pair} → (Subsumes c p.clause → ⊥) → Met c R → Met c (p ∷ R)
  passed_met {p} u m =
      record {
        before = p ∷ m.before;
        this = m.this;
        after = m.after;
        whole = ap (λ (l : List Pair). p ∷ l) m.whole;
        numbers = m.numbers;
        picks = passed u m.picks;
      }

  module _ {b : ℕ} {p : Pair} {R : List Pair} {ns : List ℕ} {r k : ℕ} where
    -- the way after a pair that is listed
    picked_way : Subsumes c p.clause → Way c b R ns r (k + tries c p) → Way c b (p ∷ R) (p.number ∷ ns) (suc r) k
    picked_way u (enough h g) = enough (omega arith) (omega arith)
    picked_way u (spends s) = spends record { met = picked_met u s.met; room = omega (arith, s.room); before = omega (arith, s.before); over = omega (arith, s.over) }
    picked_way u (fills s) = fills record { met = picked_met u s.met; full = omega (arith, s.full); fits = omega (arith, s.fits); subsumes = s.subsumes }

    -- the way after one that is not
    passed_way : (Subsumes c p.clause → ⊥) → Way c b R ns r (k + tries c p) → Way c b (p ∷ R) ns r k
    passed_way u (enough h g) = enough (omega arith) (omega arith)
    passed_way u (spends s) = spends record { met = passed_met u s.met; room = s.room; before = omega (arith, s.before); over = omega (arith, s.over) }
    passed_way u (fills s) = fills record { met = passed_met u s.met; full = s.full; fits = omega (arith, s.fits); subsumes = s.subsumes }

  -- a pair for which the budget is not enough
  spent_way : {b : ℕ} {ns : List ℕ} (p : Pair) (R : List Pair) (r k : ℕ) → k ≤ b → b < k + tries c p → Way c b (p ∷ R) ns r k
  spent_way p R r k h g = spends record { met = first_met p R; room = omega arith; before = omega arith; over = omega arith }

  -- every listing goes one of these ways
  pub way : {b : ℕ} {R : List Pair} {ns : List ℕ} → Picks c R ns → (r k : ℕ) → k ≤ b → Way c b R ns r k
  way done r k h = enough (omega arith) (omega arith)
  way {b} (picked {p = p} {K = R} {ns = ns} u P) r k h = go r (dec_le (k + tries c p) b) (λ r k h. way P r k h)
    where
      go : (r : ℕ) → Dec (k + tries c p ≤ b) → ((r k : ℕ) → k ≤ b → Way c b R ns r k) → Way c b (p ∷ R) (p.number ∷ ns) r k
      go r (no l) ih = spent_way p R r k h (omega arith)
      go zero (yes l) ih = fills record { met = first_met p R; full = refl; fits = omega arith; subsumes = u }
      go (suc r) (yes l) ih = picked_way u (ih r (k + tries c p) l)
  way {b} (passed {p = p} {K = R} {ns = ns} u P) r k h = go (dec_le (k + tries c p) b) (λ r k h. way P r k h)
    where
      go : Dec (k + tries c p ≤ b) → ((r k : ℕ) → k ≤ b → Way c b R ns r k) → Way c b (p ∷ R) ns r k
      go (no l) ih = spent_way p R r k h (omega arith)
      go (yes l) ih = passed_way u (ih r (k + tries c p) l)
