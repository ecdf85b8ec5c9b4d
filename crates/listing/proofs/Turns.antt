-- The turns of the loop over the clauses on the shelf: each is queried in the tree of the given one alone.
use mathlib.Core.Path.{◌≡◌, refl, sym, ap, ◌∙◌}
use mathlib.Core.Logic.{inl, inr}
use mathlib.Core.Bool.{true}
use mathlib.Core.List.{List, [], ◌∷◌, ◌++◌}
use Prim.Native.Nat.{ℕ, suc, ◌+◌, ◌-◌, ◌≤◌, ◌<◌}
use native.Mathlib.Omega.{arith}
use native.Mathlib.Numerals.{add-one}
use lib.ListN.{length, get_or, take, drop, set, replicate, length-set, length-replicate, drop_of_length-le}
use lib.Seq.{drop-cons, take-suc-set}
use Rattle.std.specs.Prelude.{Some, Ok, Err, slice_get, Result}
use Rattle.std.proofs.lemmas.Option.{slice_get_within, get_or_from_slice_get}
use Rattle.clause.specs.Lists.{All}
use Rattle.clause.specs.Word.{Words}
use Rattle.clause.specs.Clause.{Accepted}
use Rattle.clause.proofs.Lists.{all_get}
use Rattle.machine.specs.Machine.{State}
use Rattle.tree.specs.Forest.{size, layout}
use Rattle.tree.specs.Laid.{max_kept, sized, well_laid}
use Rattle.tree.proofs.Words.{length_layout, laid_layout}
use Rattle.tree.specs.Calls.{Called, insertion}
use Rattle.tree.specs.Entries.{Pair}
use Rattle.tree.specs.declared.Refusal.{Refusal}
use Rattle.tree.specs.declared.Refusal.TheVariants.{Spent, ShortList}
use Rattle.tree.specs.declared.Done.{Done}
use Rattle.walk.specs.Walk.{Answer, covered, not_covered}
use Rattle.walk.specs.Walk as walk
use Rattle.walk.specs.Query.{witness_words, Asked, answer_by, query}
use Rattle.walk.specs.declared.Verdict.{Verdict}
use Rattle.walk.specs.declared.Verdict.TheVariants.{NotCovered, Covered}
use Rattle.backward.specs.Listing.{lone, tried, Listing, listed, overfull, spent, with_number, found, goes_on, list_from}
use Rattle.backward.proofs.Lone.{Tries, subsuming, other, beyond, lone_mirrors, lone_leaves, lone_size, lone_insertion, lone_query, lone_tries}
use Rattle.shelving.specs.Inner.Shelf.{AcceptedPair}
use Rattle.listing.specs.Inner.Queries.{CameTo}

-- ---- numbers before those of a listing

abbrev pub with_numbers : List ℕ → Listing → Listing
with_numbers [] l = l
with_numbers (n ∷ ns) l = with_number n (with_numbers ns l)

more_numbers : (ns : List ℕ) (n : ℕ) (l : Listing) → with_numbers (ns ++ (n ∷ [])) l ≡ with_numbers ns (with_number n l)
more_numbers [] n l = refl
more_numbers (m ∷ ns) n l = ap (with_number m) (more_numbers ns n l)

all_numbers : (ns : List ℕ) (k : ℕ) → with_numbers ns (listed [] k) ≡ listed ns k
all_numbers [] k = refl
all_numbers (m ∷ ns) k = ap (with_number m) (all_numbers ns k)

no_numbers : (ns : List ℕ) (l : Listing) → ((n : ℕ) → with_number n l ≡ l) → with_numbers ns l ≡ l
no_numbers [] l f = refl
no_numbers (m ∷ ns) l f = ap (with_number m) (no_numbers ns l f) ∙ f m

-- ---- the answer to a query, and the walk's

covered_is : (b : ℕ) (W : List ℕ) (x : Answer State) {n k : ℕ} → Ok (Covered n k) ≡ (answer_by b W x).answer → (s : State) × (x ≡ covered n s k)
covered_is b W (covered m s j) {n = n} {k = k} e = let p : m ≡ n = cc in let q : j ≡ k = cc in (s, rw (p, q))
covered_is b W (not_covered j) e = cc
covered_is b W walk.spent e = cc
covered_is b W walk.broken e = cc

not_covered_is : (b : ℕ) (W : List ℕ) (x : Answer State) {k : ℕ} → Ok (NotCovered k) ≡ (answer_by b W x).answer → x ≡ not_covered k
not_covered_is b W (covered m s j) e = cc
not_covered_is b W (not_covered j) {k = k} e = let q : j ≡ k = cc in rw q
not_covered_is b W walk.spent e = cc
not_covered_is b W walk.broken e = cc

unanswered_is : {c d : List ℕ} (b : ℕ) (W : List ℕ) {x : Answer State} → Tries c d b x → {r : Refusal} → Err r ≡ (answer_by b W x).answer → x ≡ walk.spent
unanswered_is b W (subsuming u p h) e = cc
unanswered_is b W (other u p h) e = cc
unanswered_is b W (beyond h) e = refl

-- no more candidates than the budget
covered_few : {c d : List ℕ} {b : ℕ} {x : Answer State} → Tries c d b x → {n : ℕ} {s : State} {k : ℕ} → x ≡ covered n s k → k ≤ b
covered_few (subsuming {k = j} u p h) {k = k} e = let q : j ≡ k = cc in rw q at h
covered_few (other u p h) e = cc
covered_few (beyond h) e = cc

not_covered_few : {c d : List ℕ} {b : ℕ} {x : Answer State} → Tries c d b x → {k : ℕ} → x ≡ not_covered k → k ≤ b
not_covered_few (subsuming u p h) e = cc
not_covered_few (other {k = j} u p h) {k = k} e = let q : j ≡ k = cc in rw q at h
not_covered_few (beyond h) e = cc

-- ---- one clause after another

-- the clause is accepted, so are those on the shelf, and its tree is made
pub record Asking (c : List ℕ) (K : List Pair) (T : List ℕ) : Type 0 where
  pub accepts : Accepted c
  pub words : Words c
  pub pairs : All AcceptedPair K
  pub few : length K ≤ max_kept
  pub tree : T ≡ layout 322 (lone c)

-- the tree that the insertion makes
pub lone_made : (c : List ℕ) → Accepted c → Words c → {r : Result Done Refusal} {T : List ℕ}
    → ◌≡◌ {A = Called} (record { answer = r; slice = T }) (insertion (replicate 322 0) c 0) → T ≡ layout 322 (lone c)
lone_made c C w e = ap (λ (x : Called). x.slice) (e ∙ lone_insertion c C w 322 (omega arith) (omega arith) (omega (arith, lone_size c C w)))

-- the clauses before the i-th are gone over: so many numbers are noted, after so many candidates
pub record Trying (c : List ℕ) (b : ℕ) (K : List Pair) (T : List ℕ) (room : ℕ) (ns : List ℕ) (many k i : ℕ) : Type 0 where
  pub asking : Asking c K T
  pub places : length ns ≡ max_kept
  pub fewer : many ≤ i
  pub fits : many ≤ room
  pub left : k ≤ b
  pub gone : list_from c b K room 0 ≡ with_numbers (take many ns) (list_from c b (drop i K) (room - many) k)

pub trying_first : {c : List ℕ} (b : ℕ) {K : List Pair} {T : List ℕ} (room : ℕ) (ns : List ℕ) → length ns ≡ max_kept → Asking c K T
    → Trying c b K T room ns 0 0 0
trying_first b room ns l a =
    record {
      asking = a;
      places = l;
      fewer = omega arith;
      fits = omega arith;
      left = omega arith;
      gone = let e : room - 0 ≡ room = omega arith in rw e;
    }

module _ {c : List ℕ} {b : ℕ} {K : List Pair} {T : List ℕ} {room : ℕ} {ns : List ℕ} {many k i : ℕ} (g : Trying c b K T room ns many k i) where
  -- none is left
  pub trying_end : i ≤ length K → length K ≤ i → CameTo b room (list_from c b K room 0) (Ok (record { count = many; candidates = k })) ns
  unfolding list_from
  trying_end l h = (
    omega (arith, g.fewer, g.places, g.asking.few),
    g.fits,
    g.gone ∙ ap (λ (xs : List Pair). with_numbers (take many ns) (list_from c b xs (room - many) k)) (drop_of_length-le K h)
        ∙ all_numbers (take many ns) k,
  )

  module _ {p : Pair} (f : slice_get K i ≡ Some p) where
    inside : i < length K
    inside = slice_get_within K i p f

    here : get_or K i p ≡ p
    here = get_or_from_slice_get K i p p f

    -- its clause is accepted
    clause_accepted : Accepted p.clause
    clause_accepted = rw here at (all_get K g.asking.pairs i p inside)

    -- what it comes to
    outcome : Answer State
    outcome = tried c (b - k) p.clause

    outcome_tries : Tries c p.clause (b - k) outcome
    unfolding outcome
    outcome_tries = lone_tries c g.asking.accepts g.asking.words p.clause clause_accepted (b - k)

    -- the tree is well laid, and the clause is accepted
    pub trying_ready : (sized T ≡ true) × (well_laid T ≡ true) × Accepted p.clause
    trying_ready =
        let a = g.asking in
        let room : size (lone c) < 322 = omega (arith, lone_size c a.accepts a.words) in (
          rw (a.tree, length_layout 322 (lone c) room),
          rw a.tree (laid_layout 322 (lone c) room (omega arith) (lone_mirrors c a.accepts a.words).formed (omega (arith, lone_leaves c a.accepts a.words))),
          clause_accepted,
        )

    module _ {r : Result Verdict Refusal} (q : r ≡ (query T p.clause (b - k) (replicate witness_words 0)).answer) where
      answered : r ≡ (answer_by (b - k) (replicate witness_words 0) outcome).answer
      unfolding outcome
      answered =
          let a = g.asking in
          let long : witness_words ≤ length (replicate {A = ℕ} witness_words 0) = rw length-replicate (omega arith) in
          q ∙ rw a.tree
          (ap (λ (x : Asked). x.answer)
          (lone_query c a.accepts a.words p.clause clause_accepted (b - k) 322 (omega arith) (omega arith)
          (omega (arith, lone_size c a.accepts a.words)) (replicate witness_words 0) long))

      -- the listing goes on with it
      goes : list_from c b K room 0 ≡ with_numbers (take many ns) (goes_on p.number (room - many) k outcome (list_from c b (drop (i + 1) K)))
      unfolding list_from outcome
      goes = g.gone
          ∙ simp add-one (ap (λ (xs : List Pair). with_numbers (take many ns) (list_from c b xs (room - many) k))
          (drop-cons K i p inside ∙ ap (λ (x : Pair). x ∷ drop (suc i) K) here))

      goes_as : {x : Answer State} → outcome ≡ x
          → list_from c b K room 0 ≡ with_numbers (take many ns) (goes_on p.number (room - many) k x (list_from c b (drop (i + 1) K)))
      goes_as e = goes ∙ ap (λ x. with_numbers (take many ns) (goes_on p.number (room - many) k x (list_from c b (drop (i + 1) K)))) e

      -- the budget is not enough
      pub trying_spent : {e : Refusal} → r ≡ Err e → CameTo b room (list_from c b K room 0) (Err (Spent b)) ns
      trying_spent u =
          inr (
            goes_as (unanswered_is (b - k) (replicate witness_words 0) outcome_tries (sym u ∙ answered)) ∙ no_numbers (take many ns) spent (λ n. refl),
            refl,
          )

      -- it is not subsumed
      module _ {j : ℕ} (u : r ≡ Ok (NotCovered j)) where
        is_other : outcome ≡ not_covered j
        is_other = not_covered_is (b - k) (replicate witness_words 0) outcome (sym u ∙ answered)

        pub other_few : k + j ≤ b
        other_few = omega (arith, not_covered_few outcome_tries is_other, g.left)

        pub trying_other : Trying c b K T room ns many (k + j) (i + 1)
        trying_other =
            record {
              asking = g.asking;
              places = g.places;
              fewer = omega (arith, g.fewer);
              fits = g.fits;
              left = other_few;
              gone = goes_as is_other;
            }

      -- it is
      module _ {m j : ℕ} (u : r ≡ Ok (Covered m j)) where
        is_found : (s : State) × (outcome ≡ covered m s j)
        is_found = covered_is (b - k) (replicate witness_words 0) outcome (sym u ∙ answered)

        pub found_few : k + j ≤ b
        found_few = omega (arith, covered_few outcome_tries is_found.1, g.left)

        -- the list is full
        pub trying_full : room ≤ many → CameTo b room (list_from c b K room 0) (Err ShortList) ns
        trying_full l =
            let z : room - many ≡ 0 = omega arith in
            inl (
              goes_as is_found.1
                  ∙ ap (λ (n : ℕ). with_numbers (take many ns) (found p.number n (λ r'. list_from c b (drop (i + 1) K) r' (k + j)))) z
                  ∙ no_numbers (take many ns) overfull (λ n. refl),
              refl,
            )

        -- there is a place for its number
        pub found_room : many < length ns
        found_room = omega (arith, g.fewer, g.places, g.asking.few, inside)

        -- its number is noted
        pub trying_found : many < room → Trying c b K T room (set ns many p.number) (many + 1) (k + j) (i + 1)
        trying_found l =
            let n = p.number in
            let z : room - many ≡ suc (room - (many + 1)) = omega arith in
            let rest = list_from c b (drop (i + 1) K) (room - (many + 1)) (k + j) in
            let t : take (many + 1) (set ns many n) ≡ take many ns ++ (n ∷ []) = simp add-one (take-suc-set ns many n found_room) in
            record {
              asking = g.asking;
              places = length-set ns many n ∙ g.places;
              fewer = omega (arith, g.fewer);
              fits = omega arith;
              left = found_few;
              gone = goes_as is_found.1
                  ∙ ap (λ (a : ℕ). with_numbers (take many ns) (found n a (λ r'. list_from c b (drop (i + 1) K) r' (k + j)))) z
                  ∙ sym (ap (λ (l : List ℕ). with_numbers l rest) t ∙ more_numbers (take many ns) n rest);
            }
