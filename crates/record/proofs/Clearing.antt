-- The book without the pairs of some numbers.
use mathlib.Core.Path.{◌≡◌, refl, sym, ap, ◌∙◌}
use mathlib.Core.Logic.{◌≢◌}
use mathlib.Core.Bool.{Bool, true, false, cond}
use mathlib.Core.List.{List, [], ◌∷◌, ◌++◌, Memᴰ}
use Prim.Native.Nat.{ℕ, suc, ◌+◌, ◌<◌}
use native.Mathlib.Omega.{arith}
use native.Mathlib.Decide.{ℕ_discrete}
use lib.Dec.{eqb}
use lib.ListN.{length}
use borrow.Author.Tests.{eq-eqb, ne_eqb}
use Rattle.clause.specs.Lists.{All, none, also, Each, nobody, besides}
use Rattle.clause.proofs.Lists.{all_mem, all-weaken}
use Rattle.tree.specs.Entries.{Pair}
use Rattle.book.specs.Book.{without, book_step, book_from}
use Rattle.record.specs.Answer.{removals}
use Rattle.record.specs.Ruled.{Numbered, without_all}

-- numbers that differ
abbrev pub Differ : List Pair → Type 0
Differ K = Each (λ p q. p.number ≢ q.number) K

-- two pairs of such a book with the same number are one
pub same_pair : {p q : Pair} {K : List Pair} → Differ K → Memᴰ p K → Memᴰ q K → p.number ≡ q.number → p ≡ q
same_pair d (Memᴰ.head i) (Memᴰ.head j) e = i ∙ sym j
same_pair (besides h d) (Memᴰ.head i) (Memᴰ.tail n) e = absurd (all_mem h n (ap (λ (x : Pair). x.number) (sym i) ∙ e))
same_pair (besides h d) (Memᴰ.tail m) (Memᴰ.head j) e = absurd (all_mem h m (ap (λ (x : Pair). x.number) (sym j) ∙ sym e))
same_pair (besides h d) (Memᴰ.tail m) (Memᴰ.tail n) e = same_pair d m n e

-- ---- one number

module _ (n : ℕ) where
  -- the first pair goes, or stays
  without_same : (p : Pair) (K : List Pair) → p.number ≡ n → without n (p ∷ K) ≡ without n K
  without_same p K e = rw (eq-eqb p.number n e)

  without_other : (p : Pair) (K : List Pair) → p.number ≢ n → without n (p ∷ K) ≡ p ∷ without n K
  without_other p K e = rw (ne_eqb p.number n e)

  without_append : (K L : List Pair) → without n (K ++ L) ≡ without n K ++ without n L
  without_append [] L = refl
  without_append (p ∷ K) L = go (eqb p.number n) (without_append K L)
    where
      go : (b : Bool) → without n (K ++ L) ≡ without n K ++ without n L
          → cond b (without n (K ++ L)) (p ∷ without n (K ++ L)) ≡ cond b (without n K) (p ∷ without n K) ++ without n L
      go true ih = ih
      go false ih = ap (λ (l : List Pair). p ∷ l) ih

  -- a pair that is left was there, with another number
  without_mem : {p : Pair} (K : List Pair) → Memᴰ p (without n K) → Memᴰ p K × (p.number ≢ n)
  without_mem {p} [] m = elim m [ ]
  without_mem {p} (q ∷ K) m = go (ℕ_discrete q.number n) (without_mem K)
    where
      here : q.number ≢ n → (Memᴰ p (without n K) → Memᴰ p K × (p.number ≢ n)) → Memᴰ p (q ∷ without n K) → Memᴰ p (q ∷ K) × (p.number ≢ n)
      here e ih (Memᴰ.head i) = (Memᴰ.head i, λ j. e (ap (λ (x : Pair). x.number) (sym i) ∙ j))
      here e ih (Memᴰ.tail i) = let (a, b) = ih i in (Memᴰ.tail a, b)

      go : Dec (q.number ≡ n) → (Memᴰ p (without n K) → Memᴰ p K × (p.number ≢ n)) → Memᴰ p (q ∷ K) × (p.number ≢ n)
      go (yes e) ih = let (a, b) = ih (rw (without_same q K e) at m) in (Memᴰ.tail a, b)
      go (no e) ih = here e ih (rw (without_other q K e) at m)

  -- and such a pair is left
  mem_without : {p : Pair} (K : List Pair) → Memᴰ p K → p.number ≢ n → Memᴰ p (without n K)
  mem_without {p} [] m e = elim m [ ]
  mem_without {p} (q ∷ K) (Memᴰ.head i) e = rw (without_other q K (λ j. e (ap (λ (x : Pair). x.number) i ∙ j))) (Memᴰ.head i)
  mem_without {p} (q ∷ K) (Memᴰ.tail m) e = go (ℕ_discrete q.number n) (mem_without K m e)
    where
      go : Dec (q.number ≡ n) → Memᴰ p (without n K) → Memᴰ p (without n (q ∷ K))
      go (yes j) ih = rw (without_same q K j) ih
      go (no j) ih = rw (without_other q K j) (Memᴰ.tail ih)

  -- what holds of all pairs, and of each two, holds of those left
  module _ {P : Pair → Type 0} where
    all_without : {K : List Pair} → All P K → All P (without n K)
    all_without none = none
    all_without (also {x = p} {xs = K} h a) = go (eqb p.number n) (all_without a)
      where
        go : (b : Bool) → All P (without n K) → All P (cond b (without n K) (p ∷ without n K))
        go true ih = ih
        go false ih = also {x = p} h ih

  module _ {R : Pair → Pair → Type 0} where
    each_without : {K : List Pair} → Each R K → Each R (without n K)
    each_without nobody = nobody
    each_without (besides {x = p} {xs = K} h e) = go (eqb p.number n) (each_without e)
      where
        go : (b : Bool) → Each R (without n K) → Each R (cond b (without n K) (p ∷ without n K))
        go true ih = ih
        go false ih = besides {x = p} (all_without h) ih

  -- where none has it all are left
  without_none : (K : List Pair) → All (λ p. p.number ≢ n) K → without n K ≡ K
  without_none [] none = refl
  without_none (p ∷ K) (also h a) = without_other p K h ∙ ap (λ (l : List Pair). p ∷ l) (without_none K a)

  -- one fewer, where one has it
  without_length : (K : List Pair) → Differ K → Numbered K n → suc (length (without n K)) ≡ length K
  without_length [] d (q, m, e) = elim m [ ]
  without_length (p ∷ K) (besides h d) (q, Memᴰ.head i, e) =
      let j : p.number ≡ n = ap (λ (x : Pair). x.number) (sym i) ∙ e in
      ap (λ (l : List Pair). suc (length l)) (without_same p K j ∙ without_none K (all-weaken (λ x u v. u (j ∙ sym v)) h))
  without_length (p ∷ K) (besides h d) (q, Memᴰ.tail m, e) =
      let other : p.number ≢ n = λ j. all_mem h m (j ∙ sym e) in
      ap (λ (l : List Pair). suc (length l)) (without_other p K other) ∙ ap suc (without_length K d (q, m, e))

-- ---- some numbers

pub clear_append : (ns : List ℕ) (K L : List Pair) → without_all ns (K ++ L) ≡ without_all ns K ++ without_all ns L
clear_append [] K L = refl
clear_append (n ∷ ns) K L = ap (without_all ns) (without_append n K L) ∙ clear_append ns (without n K) (without n L)

pub clear_more : (ns ms : List ℕ) (K : List Pair) → without_all (ns ++ ms) K ≡ without_all ms (without_all ns K)
clear_more [] ms K = refl
clear_more (n ∷ ns) ms K = clear_more ns ms (without n K)

pub clear_empty : (ns : List ℕ) → without_all ns [] ≡ []
clear_empty [] = refl
clear_empty (n ∷ ns) = clear_empty ns

-- they are what removals take out of a book
pub clear_book : (len : ℕ) (ns : List ℕ) (K : List Pair) → book_from len K (removals ns) ≡ without_all ns K
unfolding book_step
clear_book len [] K = refl
clear_book len (n ∷ ns) K = clear_book len ns (without n K)

-- a pair that is left was there, and none of the numbers is its own
pub clear_mem : {p : Pair} (ns : List ℕ) (K : List Pair) → Memᴰ p (without_all ns K) → Memᴰ p K × (Memᴰ p.number ns → ⊥)
clear_mem [] K m = (m, λ i. elim i [ ])
clear_mem {p} (n ∷ ns) K m =
    let (a, b) = clear_mem ns (without n K) m in
    let (c, d) = without_mem n K a in
    (c, apart d b)
  where
    apart : p.number ≢ n → (Memᴰ p.number ns → ⊥) → Memᴰ p.number (n ∷ ns) → ⊥
    apart d b (Memᴰ.head i) = d i
    apart d b (Memᴰ.tail i) = b i

-- such a pair is left
pub mem_clear : {p : Pair} (ns : List ℕ) (K : List Pair) → Memᴰ p K → (Memᴰ p.number ns → ⊥) → Memᴰ p (without_all ns K)
mem_clear [] K m h = m
mem_clear (n ∷ ns) K m h = mem_clear ns (without n K) (mem_without n K m (λ e. h (Memᴰ.head e))) (λ i. h (Memᴰ.tail i))

-- each two of those left are as they were
pub clear_each : {R : Pair → Pair → Type 0} (ns : List ℕ) {K : List Pair} → Each R K → Each R (without_all ns K)
clear_each [] e = e
clear_each (n ∷ ns) e = clear_each ns (each_without n e)

-- of different numbers each is that of one pair: so many fewer are left
pub clear_length : (ns : List ℕ) (K : List Pair) → Each ◌<◌ ns → Differ K → All (Numbered K) ns → length (without_all ns K) + length ns ≡ length K
clear_length [] K r d a = omega arith
clear_length (n ∷ ns) K (besides l r) d (also h a) =
    omega (arith, clear_length ns (without n K) r (each_without n d) (still ns l a), without_length n K d h)
  where
    still : (ms : List ℕ) → All (λ m. n < m) ms → All (Numbered K) ms → All (Numbered (without n K)) ms
    still [] none none = none
    still (m ∷ ms) (also u us) (also (p, i, e) vs) = also (p, mem_without n K i (λ j. omega arith), e) (still ms us vs)

-- whether a number is among some
pub among : (n : ℕ) (ns : List ℕ) → Dec (Memᴰ n ns)
among n [] = no (λ i. elim i [ ])
among n (m ∷ ns) = go (ℕ_discrete n m) (among n ns)
  where
    neither : n ≢ m → (Memᴰ n ns → ⊥) → Memᴰ n (m ∷ ns) → ⊥
    neither e f (Memᴰ.head i) = e i
    neither e f (Memᴰ.tail i) = f i

    go : Dec (n ≡ m) → Dec (Memᴰ n ns) → Dec (Memᴰ n (m ∷ ns))
    go (yes e) d = yes (Memᴰ.head e)
    go (no e) (yes i) = yes (Memᴰ.tail i)
    go (no e) (no f) = no (neither e f)
