-- The marks and the counters after some records show the tally of these records.
use mathlib.Core.Path.{◌≡◌, refl, sym, ap, ap₂, ◌∙◌}
use mathlib.Core.Bool.{Bool, true, false, ◌&&◌, ◌||◌}
use mathlib.Core.List.{List, [], ◌∷◌, map}
use Prim.Native.Nat.{ℕ, zero, suc, ◌+◌, ◌*◌, ◌≤◌, ◌<◌}
use native.Mathlib.Omega.{arith}
use native.Mathlib.Decide.{ℕ_discrete, dec_lt}
use native.Mathlib.Nat.{min-eq_left, suc-mul}
use lib.Dec.{ltb, eqb}
use lib.ListN.{length, get_or, set, replicate, length-set, length-replicate, get_or-replicate}
use lib.Seq.{get_or-set_same, get_or-set_other, set_out}
use borrow.Author.Tests.{eq-eqb, ne_eqb, lt-ltb}
use Rattle.clause.specs.Lists.{All, none, also}
use Rattle.tree.specs.Entries.{Pair}
use Rattle.record.specs.Answer.{budget, Record}
use Rattle.record.specs.Marks.{number_count, freed, freeing, marked}
use Rattle.record.specs.Output.{Row}
use Rattle.record.specs.Tally.{was_kept, spent_on, ever_kept, struck_by, total, spent, tally_row, tally_from}
use Rattle.record.specs.Counters.{counter_words, most_counted, strikes_at, candidates_at, raised, counters_after, row_shown, shown_from}
use Rattle.record.specs.Tallies.{most_bytes}
use Rattle.record.specs.declared.Setting.{Setting}
use Rattle.record.specs.declared.Outcome.{Outcome}
use Rattle.record.specs.declared.Outcome.TheVariants.{Kept, Struck, Refused}
use Rattle.record.proofs.Ruling.{Course, refuses, strikes, keeps}
use Rattle.record.proofs.Rows.{Fated, fated_none, fated_more}
use Rattle.record.proofs.Passing.{passing_same}
use Rattle.record.proofs.Striking.{Strike, struck, other, strike, struck_more, struck_same, weight_by, weigh_one}

-- the marks and the counters after some rows
abbrev pub marks_with : List ℕ → List Row → List ℕ
marks_with m [] = m
marks_with m (r ∷ rs) = marks_with (marked r.outcome r.of.number r.removed m) rs

abbrev pub counters_with : List ℕ → List Row → List ℕ
counters_with c [] = c
counters_with c (r ∷ rs) = counters_with (counters_after r.outcome c) rs

-- ---- one counter

raise_same : (c : List ℕ) (i k : ℕ) → i < length c → get_or c i 0 + k ≤ most_counted → get_or (raised c i k) i 0 ≡ get_or c i 0 + k
unfolding raised
raise_same c i k h l = get_or-set_same c i _ 0 h ∙ min-eq_left l

raise_other : (c : List ℕ) (i j k : ℕ) → (j ≡ i → ⊥) → get_or (raised c i k) j 0 ≡ get_or c j 0
unfolding raised
raise_other c i j k h = get_or-set_other c i j _ 0 h

length_raised : (c : List ℕ) (i k : ℕ) → length (raised c i k) ≡ length c
unfolding raised
length_raised c i k = length-set c i _

-- ---- one record

-- a strike of this number
one_strike : (n k : ℕ) (c : List ℕ) {o : Outcome} → o ≡ Struck n k → strikes_at n < length c → get_or c (strikes_at n) 0 + 1 ≤ most_counted
    → get_or (counters_after o c) (strikes_at n) 0 ≡ get_or c (strikes_at n) 0 + 1
one_strike n k c e h l =
    rw e (raise_other (raised c (strikes_at n) 1) (candidates_at n) (strikes_at n) k (λ i. omega arith) ∙ raise_same c (strikes_at n) 1 h l)

its_candidates : (n k : ℕ) (c : List ℕ) {o : Outcome} → o ≡ Struck n k → candidates_at n < length c → get_or c (candidates_at n) 0 + k ≤ most_counted
    → get_or (counters_after o c) (candidates_at n) 0 ≡ get_or c (candidates_at n) 0 + k
its_candidates n k c e h l =
    let s = raise_other c (strikes_at n) (candidates_at n) 1 (λ i. omega arith) in
    let m : candidates_at n < length (raised c (strikes_at n) 1) = omega (arith, length_raised c (strikes_at n) 1) in
    rw e (raise_same (raised c (strikes_at n) 1) (candidates_at n) k m (omega (arith, s)) ∙ ap (λ (x : ℕ). x + k) s)

-- anything else
untouched : (n : ℕ) (o : Outcome) (c : List ℕ) (i : ℕ) → ((k : ℕ) → o ≡ Struck n k → ⊥)
    → ((m : ℕ) → (m ≡ n → ⊥) → (i ≡ strikes_at m → ⊥) × (i ≡ candidates_at m → ⊥)) → get_or (counters_after o c) i 0 ≡ get_or c i 0
untouched n (Kept used) c i h a = refl
untouched n (Struck m k) c i h a =
    let b = a m (λ e. h k (ap (λ (j : ℕ). Struck j k) e)) in
    raise_other (raised c (strikes_at m) 1) (candidates_at m) i k b.1 ∙ raise_other c (strikes_at m) i 1 b.0
untouched n (Refused r) c i h a = refl

length_after : (o : Outcome) (c : List ℕ) → length (counters_after o c) ≡ length c
length_after (Kept used) c = refl
length_after (Struck n k) c = length_raised (raised c (strikes_at n) 1) (candidates_at n) k ∙ length_raised c (strikes_at n) 1
length_after (Refused r) c = refl

or_none : (b : Bool) → b ≡ (b || false)
or_none true = refl
or_none false = refl

-- ---- one mark

-- what a removal leaves of the marks: each is above 0 as before
free_one : (n k : ℕ) (m : List ℕ) → ltb 0 (get_or (set m k (freed (get_or m k 0))) n 0) ≡ ltb 0 (get_or m n 0)
free_one n k m = go (ℕ_discrete n k) (dec_lt k (length m))
  where
    above : (i : ℕ) → ltb 0 (freed i) ≡ ltb 0 i
    above zero = refl
    above (suc i) = sym (lt-ltb 0 (suc i) (omega arith))

    go : Dec (n ≡ k) → Dec (k < length m) → ltb 0 (get_or (set m k (freed (get_or m k 0))) n 0) ≡ ltb 0 (get_or m n 0)
    go (no e) d = ap (ltb 0) (get_or-set_other m k n _ 0 e)
    go (yes e) (yes l) = rw (e, get_or-set_same m k (freed (get_or m k 0)) 0 l) (above (get_or m k 0))
    go (yes e) (no l) = ap (λ (c : List ℕ). ltb 0 (get_or c n 0)) (set_out m k (freed (get_or m k 0)) (omega arith))

pub free_marked : (n : ℕ) (ns m : List ℕ) → ltb 0 (get_or (freeing ns m) n 0) ≡ ltb 0 (get_or m n 0)
free_marked n [] m = refl
free_marked n (k ∷ ns) m = free_marked n ns (set m k (freed (get_or m k 0))) ∙ free_one n k m

pub length_freeing : (ns m : List ℕ) → length (freeing ns m) ≡ length m
length_freeing [] m = refl
length_freeing (n ∷ ns) m = length_freeing ns (set m n (freed (get_or m n 0))) ∙ length-set m n _

one_mark : (n x : ℕ) (ns : List ℕ) (o : Outcome) (m : List ℕ) → n < length m → ltb 0 (get_or (marked o x ns m) n 0) ≡ (ltb 0 (get_or m n 0) || (was_kept o && eqb x n))
one_mark n x ns (Struck i k) m h = or_none (ltb 0 (get_or m n 0))
one_mark n x ns (Refused r) m h = or_none (ltb 0 (get_or m n 0))
one_mark n x ns (Kept used) m h = go (ℕ_discrete x n)
  where
    or_all : (b : Bool) → true ≡ (b || true)
    or_all true = refl
    or_all false = refl

    go : Dec (x ≡ n) → ltb 0 (get_or (set (freeing ns m) x 1) n 0) ≡ (ltb 0 (get_or m n 0) || eqb x n)
    go (yes e) = rw (eq-eqb x n e, e, get_or-set_same (freeing ns m) n 1 0 (omega (arith, length_freeing ns m))) (or_all (ltb 0 (get_or m n 0)))
    go (no e) =
        rw (ne_eqb x n e, get_or-set_other (freeing ns m) x n 1 0 (λ i. e (sym i))) (free_marked n ns m ∙ or_none (ltb 0 (get_or m n 0)))

pub length_marked : (o : Outcome) (x : ℕ) (ns m : List ℕ) → length (marked o x ns m) ≡ length m
length_marked (Kept used) x ns m = length-set (freeing ns m) x 1 ∙ length_freeing ns m
length_marked (Struck n k) x ns m = refl
length_marked (Refused r) x ns m = refl

-- ---- some records

-- a counter of a number, which a strike of it raises by some weight and nothing else touches
record Weighs (n i : ℕ) (w : Row → ℕ) : Type 0 where
  strikes : (r : Row) (k : ℕ) (c : List ℕ) → r.outcome ≡ Struck n k → i < length c → get_or c i 0 + w r ≤ most_counted
      → get_or (counters_after r.outcome c) i 0 ≡ get_or c i 0 + w r
  others : (r : Row) (c : List ℕ) → ((k : ℕ) → r.outcome ≡ Struck n k → ⊥) → get_or (counters_after r.outcome c) i 0 ≡ get_or c i 0

-- it counts what all strikes of the number weigh, as long as it is not full
weight_counted : {n i : ℕ} {w : Row → ℕ} → Weighs n i w → (rs : List Row) (c : List ℕ) → i < length c → get_or c i 0 + weight_by w rs n ≤ most_counted
    → get_or (counters_with c rs) i 0 ≡ get_or c i 0 + weight_by w rs n
weight_counted g [] c h l = omega arith
weight_counted {n} {i} {w} g (r ∷ rs) c h l = go (strike n r.outcome) (weight_counted g rs (counters_after r.outcome c))
  where
    here : i < length (counters_after r.outcome c)
    here = omega (arith, length_after r.outcome c)

    weigh : List Row → ℕ
    weigh ss = total (map w ss)

    go : Strike n r.outcome
        → (i < length (counters_after r.outcome c) → get_or (counters_after r.outcome c) i 0 + weight_by w rs n ≤ most_counted
        → get_or (counters_with c (r ∷ rs)) i 0 ≡ get_or (counters_after r.outcome c) i 0 + weight_by w rs n)
        → get_or (counters_with c (r ∷ rs)) i 0 ≡ get_or c i 0 + weight_by w (r ∷ rs) n
    go (struck k e) ih =
        let q : weight_by w (r ∷ rs) n ≡ w r + weight_by w rs n = ap weigh (struck_more n k r rs e) in
        let s = g.strikes r k c e h (omega (arith, l, q)) in
        omega (arith, ih here (omega (arith, l, q, s)), q, s)
    go (other d) ih =
        let q : weight_by w (r ∷ rs) n ≡ weight_by w rs n = ap weigh (struck_same n r rs d) in
        let s = g.others r c d in
        omega (arith, ih here (omega (arith, l, q, s)), q, s)

-- the two counters of a number
strikes_weigh : (n : ℕ) → Weighs n (strikes_at n) (λ r. 1)
strikes_weigh n =
    record {
      strikes = λ r k c e h l. one_strike n k c e h l;
      others = λ r c d. untouched n r.outcome c (strikes_at n) d (λ m i. (λ e. i (omega arith), λ e. omega arith));
    }

candidates_weigh : (n : ℕ) → Weighs n (candidates_at n) (λ r. spent_on r.outcome)
candidates_weigh n =
    record {
      strikes = λ r k c e h l. let p : spent_on r.outcome ≡ k = rw e in rw p (its_candidates n k c e h (omega (arith, l, p)));
      others = λ r c d. untouched n r.outcome c (candidates_at n) d (λ m i. (λ e. omega arith, λ e. i (omega arith)));
    }

-- a number is marked exactly if it was before, or was kept since
marks_kept : (n : ℕ) (rs : List Row) (m : List ℕ) → n < length m → ltb 0 (get_or (marks_with m rs) n 0) ≡ (ltb 0 (get_or m n 0) || ever_kept n rs)
marks_kept n [] m h = or_none (ltb 0 (get_or m n 0))
marks_kept n (r ∷ rs) m h =
    marks_kept n rs (marked r.outcome r.of.number r.removed m) (omega (arith, length_marked r.outcome r.of.number r.removed m))
    ∙ ap (λ (b : Bool). b || ever_kept n rs) (one_mark n r.of.number r.removed r.outcome m h)
    ∙ or_assoc (ltb 0 (get_or m n 0)) (was_kept r.outcome && eqb r.of.number n) (ever_kept n rs)
  where
    or_assoc : (a b c : Bool) → ((a || b) || c) ≡ (a || (b || c))
    or_assoc true b c = refl
    or_assoc false b c = refl

-- ---- no counter reaches its end

-- a strike takes no more candidates than the budget
course_spent : {K L M : List Pair} {x : Record} {ns : List ℕ} {o : Outcome} {ms : List ℕ} → Course K L x ns o ms M → spent_on o ≤ budget
course_spent (refuses r) = omega arith
course_spent (strikes s) = omega (arith, s.count, s.decided.fits)
course_spent (keeps t) = omega arith

pub fated_spent : {v : Setting} {K : List Pair} {rs : List Row} → Fated v K rs → All (λ r. spent_on r.outcome ≤ budget) rs
fated_spent fated_none = none
fated_spent (fated_more {r = r} h e f) = also {x = r} (course_spent e.course) (fated_spent f)

-- the strikes of a number weigh no more than as many of the heaviest as there are records
weight_few : (n b : ℕ) (w : Row → ℕ) {rs : List Row} → All (λ r. w r ≤ b) rs → weight_by w rs n ≤ length rs * b
weight_few n b w none = omega arith
weight_few n b w (also {x = r} {xs = rs} h a) = go (strike n r.outcome) (weight_few n b w a)
  where
    more : suc (length rs) * b ≡ length rs * b + b
    more = suc-mul (length rs) b

    go : Strike n r.outcome → weight_by w rs n ≤ length rs * b → weight_by w (r ∷ rs) n ≤ suc (length rs) * b
    go (struck k e) ih = omega (arith, ap (λ (ss : List Row). total (map w ss)) (struck_more n k r rs e), h, more)
    go (other d) ih = omega (arith, ap (λ (ss : List Row). total (map w ss)) (struck_same n r rs d), more)

ones : (rs : List Row) → All (λ r. 1 ≤ 1) rs
ones [] = none
ones (r ∷ rs) = also {x = r} (omega arith) (ones rs)

-- ---- what is shown

-- the row of a number, where its counters were 0
row_counted : (k : ℕ) (c : List ℕ) (rs : List Row) → get_or c (strikes_at k) 0 ≡ 0 → get_or c (candidates_at k) 0 ≡ 0 → candidates_at k < length c
    → length (struck_by k rs) ≤ most_counted → spent (struck_by k rs) ≤ most_counted → row_shown (counters_with c rs) k ≡ tally_row rs k
row_counted k c rs z y l few less =
    let n = weigh_one (struck_by k rs) in
    let s = weight_counted (strikes_weigh k) rs c (omega arith) (omega (arith, z, n)) in
    let t = weight_counted (candidates_weigh k) rs c l (omega (arith, y)) in
    let s0 : get_or (counters_with c rs) (strikes_at k) 0 ≡ length (struck_by k rs) = omega (arith, s, z, n) in
    let t0 : get_or (counters_with c rs) (candidates_at k) 0 ≡ spent (struck_by k rs) = omega (arith, t, y) in
    ap₂ (λ (x w : ℕ). record { number = k; strikes = x; candidates = w }) s0 t0

zero_row : (rs : List Row) → All (λ r. spent_on r.outcome ≤ budget) rs → length rs < most_bytes → (k : ℕ) → k < number_count
    → row_shown (counters_with (replicate counter_words 0) rs) k ≡ tally_row rs k
zero_row rs a few k l =
    row_counted k (replicate counter_words 0) rs (get_or-replicate {A = ℕ} counter_words (strikes_at k) 0 0 (omega arith))
    (get_or-replicate {A = ℕ} counter_words (candidates_at k) 0 0 (omega arith)) (rw (length-replicate {A = ℕ} counter_words 0) (omega arith))
    (omega (arith, weight_few k 1 (λ r. 1) (ones rs), weigh_one (struck_by k rs))) (omega (arith, weight_few k budget (λ r. spent_on r.outcome) a))

zero_mark : (rs : List Row) (k : ℕ) → k < number_count → ltb 0 (get_or (marks_with (replicate number_count 0) rs) k 0) ≡ ever_kept k rs
zero_mark rs k l =
    marks_kept k rs (replicate number_count 0) (rw (length-replicate {A = ℕ} number_count 0) l)
    ∙ ap (λ (x : ℕ). ltb 0 x || ever_kept k rs) (get_or-replicate {A = ℕ} number_count k 0 0 l)

-- from zeros on, the marks and the counters show the tally
pub shown_tally : (rs : List Row) → All (λ r. spent_on r.outcome ≤ budget) rs → length rs < most_bytes → (n c : ℕ) → n + c ≤ number_count
    → shown_from (marks_with (replicate number_count 0) rs) (counters_with (replicate counter_words 0) rs) n c ≡ tally_from rs n c
unfolding shown_from tally_from
shown_tally rs a few n c h =
    passing_same (λ i. ltb 0 (get_or (marks_with (replicate number_count 0) rs) i 0)) (λ i. ever_kept i rs)
    (row_shown (counters_with (replicate counter_words 0) rs)) (tally_row rs) c n
    (λ k i j. (zero_mark rs k (omega arith), λ t. zero_row rs a few k (omega arith)))
