-- The records that a number struck, and whether it was ever kept.
use mathlib.Core.Path.{◌≡◌, refl, sym, ap, subst, ◌∙◌}
use mathlib.Core.Bool.{Bool, true, false, cond, ◌&&◌, ◌||◌, false≢true, and-eq-true_iff}
use mathlib.Core.List.{List, [], ◌∷◌, map, Memᴰ}
use Prim.Native.Nat.{ℕ, ◌+◌, ◌<◌}
use native.Mathlib.Omega.{arith}
use native.Mathlib.Decide.{ℕ_discrete}
use lib.Dec.{eqb}
use lib.ListN.{length}
use borrow.Author.Tests.{eq-eqb, ne_eqb, eqb-true}
use Rattle.clause.specs.Lists.{Each}
use Rattle.record.specs.Output.{Row, counted, totals_with}
use Rattle.record.specs.Ruled.{IsKept}
use Rattle.record.specs.Tally.{was_kept, was_struck_by, spent_on, ever_kept, struck_by, total, spent}
use Rattle.record.specs.Sheet.{KeptLine}
use Rattle.record.specs.declared.Outcome.{Outcome}
use Rattle.record.specs.declared.Outcome.TheVariants.{Kept, Struck, Refused}
use Rattle.record.specs.declared.Totals.{Totals}
use Rattle.record.proofs.Passing.{one_more}

-- ---- one more record

-- with a strike of this number, and with anything else
pub struck_more : (n k : ℕ) (r : Row) (rs : List Row) → r.outcome ≡ Struck n k → struck_by n (r ∷ rs) ≡ r ∷ struck_by n rs
struck_more n k r rs e = rw (e, eq-eqb n n refl)

pub struck_same : (n : ℕ) (r : Row) (rs : List Row) → ((k : ℕ) → r.outcome ≡ Struck n k → ⊥) → struck_by n (r ∷ rs) ≡ struck_by n rs
struck_same n r rs h = go r.outcome refl
  where
    go : (o : Outcome) → r.outcome ≡ o → cond (was_struck_by n o) (r ∷ struck_by n rs) (struck_by n rs) ≡ struck_by n rs
    go (Kept used) e = refl
    go (Refused r) e = refl
    go (Struck m k) e = rw (ne_eqb m n (λ i. h k (rw i at e)))

-- whether it is a strike of this number
pub data Strike (n : ℕ) (o : Outcome) : Type 0 where
  struck : (k : ℕ) → o ≡ Struck n k → Strike n o
  other : ((k : ℕ) → o ≡ Struck n k → ⊥) → Strike n o

pub strike : (n : ℕ) (o : Outcome) → Strike n o
strike n (Kept used) = other (λ k e. cc)
strike n (Refused r) = other (λ k e. cc)
strike n (Struck m k) = go (ℕ_discrete m n)
  where
    go : Dec (m ≡ n) → Strike n (Struck m k)
    go (yes e) = struck k (ap (λ (i : ℕ). Struck i k) e)
    go (no e) = other (λ l i. e cc)

-- ---- which records they are

pub struck_among : (n : ℕ) (rs : List Row) (r : Row) → Memᴰ r (struck_by n rs) → Memᴰ r rs × ((k : ℕ) × (r.outcome ≡ Struck n k))
struck_among n [] r m = elim m [ ]
struck_among n (s ∷ rs) r m = go (strike n s.outcome) (struck_among n rs r)
  where
    Out : Type 0
    Out = Memᴰ r (s ∷ rs) × ((k : ℕ) × (r.outcome ≡ Struck n k))

    further : Memᴰ r rs × ((k : ℕ) × (r.outcome ≡ Struck n k)) → Out
    further x = (Memᴰ.tail x.0, x.1)

    here : (k : ℕ) → s.outcome ≡ Struck n k → (Memᴰ r (struck_by n rs) → Out) → Memᴰ r (s ∷ struck_by n rs) → Out
    here k e ih (Memᴰ.head i) = (Memᴰ.head i, (k, ap (λ (y : Row). y.outcome) i ∙ e))
    here k e ih (Memᴰ.tail i) = ih i

    go : Strike n s.outcome → (Memᴰ r (struck_by n rs) → Memᴰ r rs × ((k : ℕ) × (r.outcome ≡ Struck n k))) → Out
    go (struck k e) ih = here k e (λ i. further (ih i)) (subst (Memᴰ r) (struck_more n k s rs e) m)
    go (other h) ih = further (ih (subst (Memᴰ r) (struck_same n s rs h) m))

pub among_struck : (n : ℕ) (rs : List Row) (r : Row) (k : ℕ) → Memᴰ r rs → r.outcome ≡ Struck n k → Memᴰ r (struck_by n rs)
among_struck n [] r k m e = elim m [ ]
among_struck n (s ∷ rs) r k (Memᴰ.head i) e =
    subst (Memᴰ r) (sym (struck_more n k s rs (ap (λ (y : Row). y.outcome) (sym i) ∙ e))) (Memᴰ.head i)
among_struck n (s ∷ rs) r k (Memᴰ.tail m) e = go (strike n s.outcome) (among_struck n rs r k m e)
  where
    go : Strike n s.outcome → Memᴰ r (struck_by n rs) → Memᴰ r (struck_by n (s ∷ rs))
    go (struck l i) ih = subst (Memᴰ r) (sym (struck_more n l s rs i)) (Memᴰ.tail ih)
    go (other h) ih = subst (Memᴰ r) (sym (struck_same n s rs h)) ih

-- ---- ever kept

-- a record that was kept under a number
kept_here : (n : ℕ) (r : Row) → (was_kept r.outcome && eqb r.of.number n) ≡ true → IsKept r.outcome × (r.of.number ≡ n)
kept_here n r e = let (p, q) = (and-eq-true_iff (was_kept r.outcome) (eqb r.of.number n)).0 e in (go r.outcome p, eqb-true r.of.number n q)
  where
    go : (o : Outcome) → was_kept o ≡ true → IsKept o
    go (Kept used) h = (used, refl)
    go (Struck m k) h = absurd (false≢true h)
    go (Refused r) h = absurd (false≢true h)

pub ever_line : (n : ℕ) (rs : List Row) → ever_kept n rs ≡ true → KeptLine rs n
ever_line n [] e = absurd (false≢true e)
ever_line n (r ∷ rs) e = go (was_kept r.outcome && eqb r.of.number n) refl (ever_line n rs) e
  where
    go : (b : Bool) → (was_kept r.outcome && eqb r.of.number n) ≡ b → (ever_kept n rs ≡ true → KeptLine rs n) → (b || ever_kept n rs) ≡ true → KeptLine (r ∷ rs) n
    go true i ih h = let (k, j) = kept_here n r i in (r, Memᴰ.head refl, k, j)
    go false i ih h = let (s, m, k, j) = ih h in (s, Memᴰ.tail m, k, j)

pub line_ever : (n : ℕ) (rs : List Row) → KeptLine rs n → ever_kept n rs ≡ true
line_ever n [] (r, m, k, j) = elim m [ ]
line_ever n (s ∷ rs) (r, Memᴰ.head i, (u, e), j) =
    let o : s.outcome ≡ Kept u = ap (λ (y : Row). y.outcome) (sym i) ∙ e in
    let l : s.of.number ≡ n = ap (λ (y : Row). y.of.number) (sym i) ∙ j in
    rw (o, eq-eqb s.of.number n l)
line_ever n (s ∷ rs) (r, Memᴰ.tail m, k, j) = go (was_kept s.outcome && eqb s.of.number n) (line_ever n rs (r, m, k, j))
  where
    go : (b : Bool) → ever_kept n rs ≡ true → (b || ever_kept n rs) ≡ true
    go true h = refl
    go false h = h

-- ---- sums

-- what the strikes of some rows weigh
abbrev weighed : (Row → ℕ) → Row → Outcome → ℕ
weighed w r (Kept used) = 0
weighed w r (Struck n k) = w r
weighed w r (Refused f) = 0

abbrev weight : (Row → ℕ) → List Row → ℕ
weight w [] = 0
weight w (r ∷ rs) = weighed w r r.outcome + weight w rs

-- what those of one number weigh
abbrev pub weight_by : (Row → ℕ) → List Row → (number : ℕ) → ℕ
weight_by w rs n = total (map w (struck_by n rs))

total_zero : (f : ℕ → ℕ) (l : List ℕ) → ((n : ℕ) → f n ≡ 0) → total (map f l) ≡ 0
total_zero f [] h = refl
total_zero f (n ∷ l) h = omega (arith, h n, total_zero f l h)

total_same : (f g : ℕ → ℕ) (l : List ℕ) → ((n : ℕ) → f n ≡ g n) → total (map f l) ≡ total (map g l)
total_same f g [] h = refl
total_same f g (n ∷ l) h = omega (arith, h n, total_same f g l h)

-- where each striking number is among some rising ones, those of these numbers weigh as much as all
pub weights : (w : Row → ℕ) (l : List ℕ) → Each ◌<◌ l → (rs : List Row) → ((r : Row) → Memᴰ r rs → (n k : ℕ) → r.outcome ≡ Struck n k → Memᴰ n l)
    → total (map (weight_by w rs) l) ≡ weight w rs
weights w l d [] h = total_zero (weight_by w []) l (λ n. refl)
weights w l d (r ∷ rs) h = go r.outcome refl (weights w l d rs (λ s m. h s (Memᴰ.tail m)))
  where
    plain : ((n k : ℕ) → r.outcome ≡ Struck n k → ⊥) → total (map (weight_by w (r ∷ rs)) l) ≡ total (map (weight_by w rs) l)
    plain e = total_same (weight_by w (r ∷ rs)) (weight_by w rs) l (λ n. ap (λ (s : List Row). total (map w s)) (struck_same n r rs (e n)))

    go : (o : Outcome) → r.outcome ≡ o → total (map (weight_by w rs) l) ≡ weight w rs → total (map (weight_by w (r ∷ rs)) l) ≡ weighed w r o + weight w rs
    go (Kept used) e ih = omega (arith, ih, plain (λ n k i. let j = sym e ∙ i in cc))
    go (Refused r) e ih = omega (arith, ih, plain (λ n k i. let j = sym e ∙ i in cc))
    go (Struck m k) e ih =
        omega (
          arith,
          ih,
          one_more m (w r) (weight_by w rs) (weight_by w (r ∷ rs))
              (λ n i. ap (λ (s : List Row). total (map w s)) (struck_same n r rs (λ j u. i (let v = sym e ∙ u in cc))))
              d (h r (Memᴰ.head refl) m k e) (ap (λ (s : List Row). total (map w s)) (struck_more m k r rs e)),
        )

-- as many as there are
pub weigh_one : (rs : List Row) → total (map (λ r. 1) rs) ≡ length rs
weigh_one [] = refl
weigh_one (r ∷ rs) = omega (arith, weigh_one rs)

-- the strikes are as many as are counted
pub weight_struck : (rs : List Row) (t : Totals) → (totals_with t rs).struck ≡ t.struck + weight (λ r. 1) rs
weight_struck [] t = omega arith
weight_struck (r ∷ rs) t = go r.outcome (weight_struck rs)
  where
    m : ℕ
    m = length r.removed

    go : (o : Outcome) → ((u : Totals) → (totals_with u rs).struck ≡ u.struck + weight (λ r. 1) rs)
        → (totals_with (counted o m t) rs).struck ≡ t.struck + (weighed (λ r. 1) r o + weight (λ r. 1) rs)
    go (Kept used) ih = omega (arith, ih (counted (Kept used) m t))
    go (Struck n k) ih = omega (arith, ih (counted (Struck n k) m t))
    go (Refused r) ih = omega (arith, ih (counted (Refused r) m t))

-- the candidates of the strikes are all that were spent so
pub weight_spent : (rs : List Row) → weight (λ r. spent_on r.outcome) rs ≡ spent rs
weight_spent [] = refl
weight_spent (r ∷ rs) = go r.outcome refl (weight_spent rs)
  where
    go : (o : Outcome) → r.outcome ≡ o → weight (λ r. spent_on r.outcome) rs ≡ spent rs
        → weighed (λ r. spent_on r.outcome) r o + weight (λ r. spent_on r.outcome) rs ≡ spent_on o + spent rs
    go (Kept used) e ih = omega (arith, ih)
    go (Struck n k) e ih = let j : spent_on r.outcome ≡ k = rw e in omega (arith, ih, j)
    go (Refused r) e ih = omega (arith, ih)
