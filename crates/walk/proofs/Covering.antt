-- What the queries of a tree answer, in terms of the clauses that it keeps.
use Rattle.std.specs.Prelude.{Ok}
use mathlib.Core.Path.{◌≡◌, refl, sym, ap, ◌∙◌}
use mathlib.Core.Logic.{◌⊎◌, inl, inr}
use mathlib.Core.List.{List, map}
use Prim.Native.Nat.{ℕ, ◌-◌, ◌*◌, ◌≤◌, ◌<◌}
use native.Mathlib.Nat.{mul-le-mul_left}
use native.Mathlib.Omega.{arith}
use native.Mathlib.Decide.{dec_le}
use lib.ListN.{length, get_or, replicate, length-replicate}
use borrow.Author.Tests.{le-leb, le-ltb}
use Rattle.clause.specs.Lists.{All}
use Rattle.clause.specs.Clause.{Accepted, literals, Subsumes}
use Rattle.machine.specs.Machine.{State, initial}
use Rattle.tree.specs.Forest.{Forest, size, leaves, layout, Formed}
use Rattle.tree.specs.Entries.{Mirrors, Pair, Sound, entry}
use Rattle.walk.specs.Walk.{Answer, covered, not_covered, spent, broken, up_to, always, walk}
use Rattle.walk.specs.Ceiling.{ceiling, arrangements}
use Rattle.walk.specs.Query.{machine, witness_words, shown, with_shown, unanswered, answer_by, query}
use Rattle.walk.specs.Covering.{most, Subsumed, Shows, count_of, candidates, IsCovered, IsNotCovered, IsSpent, Answers}
use Rattle.tree.proofs.Words.{length_layout, header_layout, region_layout}
use Rattle.walk.proofs.Paths.{Finds}
use Rattle.walk.proofs.Search.{Decides, found, nothing}
use Rattle.walk.proofs.Found.{decides}
use Rattle.walk.proofs.Smooth.{smooth}
use Rattle.walk.proofs.Count.{Counts, of_covered, of_not_covered, of_spent, of_broken}
use Rattle.walk.proofs.Budget.{Capped, as_covered, as_not_covered, over, capped}
use Rattle.walk.proofs.Bound.{arrangements_powers, count_bound}
use Rattle.walk.proofs.Spare.{spares}
use Rattle.walk.proofs.Encoded.{walk_words_encode}
use Rattle.walk.proofs.Formed.{formed_full}
use Rattle.walk.proofs.Kept.{kept_steady, kept_short, finds_shows, subsumes_finds}
use Rattle.tree.specs.declared.Refusal.TheVariants.{Spent}
use Rattle.walk.specs.declared.Verdict.TheVariants.{Covered, NotCovered}

-- what a witness shows is so
pub shows_subsumes : (c d W : List ℕ) → Shows c d W → Subsumes c d
shows_subsumes c d W S =
    record {
      replace = S.replace;
      terms = S.terms;
      place = λ i. get_or W i 0;
      inside = λ i h. (S.literal i h).0;
      apart = S.apart;
      covered = λ i h. (S.literal i h).1;
    }

-- a bound on the count, where there is one, bounds what `count_of` gives
pub counted_le : {x : ℕ} {a : Answer State} → Counts (λ c. c ≤ x) a → count_of a ≤ x
counted_le (of_covered h) = h
counted_le (of_not_covered h) = h
counted_le of_spent = omega arith
counted_le of_broken = omega arith

-- the query of an accepted clause on the slice of a tree is the walk over the tree
module _ (len : ℕ) (F : Forest) (low : 2 ≤ len) (high : len ≤ 65_536) (room : size F < len)
    (d : List ℕ) (D : Accepted d) (b : ℕ) (W : List ℕ) (long : witness_words ≤ length W) where
  pub query_tree : (f : Formed 0 F) → query (layout len F) d b W ≡ answer_by b W (walk (machine d) (up_to b) F initial 0)
  unfolding query
  query_tree f =
      rw (
        length_layout len F room,
        le-leb 2 len low,
        le-leb len 65_536 high,
        D.1,
        le-ltb (length W) witness_words long,
        length_layout len F room,
        header_layout len F (omega arith),
        le-ltb (len - 1) (size F) (omega arith),
        region_layout len F (omega arith),
        walk_words_encode (machine d) (up_to b) 0 F f (omega arith),
      )

module _ (K : List Pair) (F : Forest) (S : All Sound K) (R : Mirrors F (map entry K)) (d : List ℕ) (D : Accepted d) where
  -- the walk without a budget decides what is kept
  pub walk_decides : Decides (Finds (machine d) F initial) (walk (machine d) always F initial 0)
  walk_decides = decides (machine d) F initial 0 (smooth (machine d) F initial (formed_full 0 F R.formed) (kept_steady K F S R d D))

  -- where it finds something, some kept clause subsumes d
  pub finds_subsumed : (n : ℕ) (t : State) → Finds (machine d) F initial n t → Subsumed K d
  finds_subsumed n t f =
      let W : List ℕ = replicate witness_words 0 in
      let long : witness_words ≤ length W = omega (arith, length-replicate {A = ℕ} witness_words 0) in
      let (p, m, at, shows, spared) = finds_shows K F S R d D n t f W long in
      (p, m, shows_subsumes p.clause d (with_shown (shown t) W) shows)

module _ (K : List Pair) (F : Forest) (S : All Sound K) (R : Mirrors F (map entry K)) (n : leaves F ≡ length K) (d : List ℕ) (D : Accepted d) where
  -- the walk without a budget takes no more candidates than the arrangements of literals, for each kept clause, and so no more than the ceiling
  pub kept_arranged : candidates F d ≤ length K * arrangements (length (literals d)) (most K)
  kept_arranged =
      rw (← n)
      (counted_le (count_bound (machine d) (spares d) always F (most K) R.formed (formed_full 0 F R.formed) (kept_short K F S R) initial))

  kept_bounded : candidates F d ≤ ceiling (length K) (length (literals d)) (most K)
  kept_bounded = omega (arith, kept_arranged, mul-le-mul_left (length K) (arrangements_powers (length (literals d)) (length (literals d)) (most K) (omega arith)))

  module _ (b : ℕ) (W : List ℕ) (long : witness_words ≤ length W) (T : List ℕ) where
    -- the walk would take more candidates than the budget
    over_budget : query T d b W ≡ unanswered (Spent b) W → b < candidates F d → Answers K F T d b W
    over_budget u h =
        let is : IsSpent T d b W = ap (λ x. x.answer) u in
        record {
          kinds = inr (inr is);
          covers = λ n' c' v. cc;
          spares = λ c' v. cc;
          counts = λ n' c' v. cc;
          counts_not = λ c' v. cc;
          spends = (λ v. h, λ l. is);
          untouched = λ v. ap (λ x. x.witness) u;
          decides = λ l. absurd (omega arith);
          denies = λ l. absurd (omega arith);
          bounded = kept_bounded;
          arranged = kept_arranged;
        }

    -- the answer from the walk's answer without a budget and within it
    answers_from : (a a' : Answer State) → walk (machine d) always F initial 0 ≡ a → Decides (Finds (machine d) F initial) a → Capped b a a'
        → query T d b W ≡ answer_by b W a' → Answers K F T d b W
    answers_from (covered n t c) a' e (found g) (as_covered h) u =
        let is : (query T d b W).answer ≡ (Ok (Covered n c)) = ap (λ x. x.answer) u in
        let words : (query T d b W).witness ≡ with_shown (shown t) W = ap (λ x. x.witness) u in
        let all : candidates F d ≡ c = ap count_of e in
        let (p, m, at, S', spared) = finds_shows K F S R d D n t g W long in
        record {
          kinds = inl (n, c, is);
          covers = λ n' c' v. let same : n ≡ n' = cc in (p, m, at ∙ same, rw words S', rw words spared);
          spares = λ c' v. cc;
          counts = λ n' c' v. let same : c ≡ c' = cc in sym same ∙ sym all;
          counts_not = λ c' v. cc;
          spends = (λ v. cc, λ l. absurd (omega arith));
          untouched = λ v. cc;
          decides = λ l. (λ v. finds_subsumed K F S R d D n t g, λ v. (n, c, is));
          denies = λ l. (λ v. let f = v.1 in cc, λ none. absurd (none (finds_subsumed K F S R d D n t g)));
          bounded = kept_bounded;
          arranged = kept_arranged;
        }
    answers_from (covered n t c) a' e (found g) (over (of_covered h)) u =
        let all : candidates F d ≡ c = ap count_of e in
        over_budget u (omega arith)
    answers_from (not_covered c) a' e (nothing g) (as_not_covered h) u =
        let is : (query T d b W).answer ≡ (Ok (NotCovered c)) = ap (λ x. x.answer) u in
        let words : (query T d b W).witness ≡ W = ap (λ x. x.witness) u in
        let all : candidates F d ≡ c = ap count_of e in
        let none : Subsumed K d → ⊥ = λ v. let (t, f) = subsumes_finds K F S R d D v.0 v.1 v.2 in g v.0.number t f in
        record {
          kinds = inr (inl (c, is));
          covers = λ n' c' v. cc;
          spares = λ c' v. (none, words);
          counts = λ n' c' v. cc;
          counts_not = λ c' v. let same : c ≡ c' = cc in sym same ∙ sym all;
          spends = (λ v. cc, λ l. absurd (omega arith));
          untouched = λ v. cc;
          decides = λ l. (λ v. let f = v.2 in cc, λ v. absurd (none v));
          denies = λ l. (λ v. none, λ v. (c, is));
          bounded = kept_bounded;
          arranged = kept_arranged;
        }
    answers_from (not_covered c) a' e (nothing g) (over (of_not_covered h)) u =
        let all : candidates F d ≡ c = ap count_of e in
        over_budget u (omega arith)
    answers_from spent a' e right _ u = elim right [ ]
    answers_from broken a' e right _ u = elim right [ ]

  -- the queries of a tree that keeps some clauses
  pub answers : (len : ℕ) → 2 ≤ len → len ≤ 65_536 → size F < len → (b : ℕ) (W : List ℕ) → witness_words ≤ length W → Answers K F (layout len F) d b W
  answers len low high room b W long =
      answers_from b W long (layout len F) (walk (machine d) always F initial 0) (walk (machine d) (up_to b) F initial 0) refl (walk_decides K F S R d D)
      (capped (machine d) b F initial 0 (omega arith))
      (query_tree len F low high room d D b W long R.formed)

module _ {K : List Pair} {F : Forest} {T d : List ℕ} {b : ℕ} {W : List ℕ} (A : Answers K F T d b W) where
  -- where the walk fits the budget, d is covered or not
  pub fits_decided : candidates F d ≤ b → IsCovered T d b W ⊎ IsNotCovered T d b W
  fits_decided h = go A.kinds
    where
      go : IsCovered T d b W ⊎ (IsNotCovered T d b W ⊎ IsSpent T d b W) → IsCovered T d b W ⊎ IsNotCovered T d b W
      go (inl u) = inl u
      go (inr (inl u)) = inr u
      go (inr (inr s)) = absurd (omega (arith, A.spends.0 s))

  -- and only there
  pub decided_fits : IsCovered T d b W ⊎ IsNotCovered T d b W → candidates F d ≤ b
  decided_fits u = go (dec_le (candidates F d) b) u
    where
      go : Dec (candidates F d ≤ b) → IsCovered T d b W ⊎ IsNotCovered T d b W → candidates F d ≤ b
      go (yes l) u = l
      go (no l) (inl (n, c, e)) = let s : IsSpent T d b W = A.spends.1 (omega arith) in cc
      go (no l) (inr (c, e)) = let s : IsSpent T d b W = A.spends.1 (omega arith) in cc
