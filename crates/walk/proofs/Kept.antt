-- The runs along the paths of a tree that keeps some clauses.
use mathlib.Core.Path.{◌≡◌, sym, ◌∙◌}
use mathlib.Core.Logic.{◌≢◌}
use mathlib.Core.Option.{none, some}
use mathlib.Core.List.{List, [], ◌∷◌, ◌++◌, map, Memᴰ}
use Prim.Native.Nat.{ℕ, ◌+◌, ◌≤◌, ◌<◌}
use native.Mathlib.Omega.{arith}
use lib.ListN.{length, get_or, take, replicate, length-append, length-replicate, drop_of_length-le}
use lib.Seq.{length-take-le}
use native.Mathlib.Decide.{dec_lt}
use Rattle.clause.specs.Lists.{All, Injective}
use Rattle.clause.specs.Clause.{max_literals, Accepted, literals, vars, term, term_at, skip, Shaped, inst, Subsumes}
use Rattle.machine.specs.Instr.{First, key}
use Rattle.machine.specs.Compile.{sequence, keys}
use Rattle.machine.specs.Machine.{State, initial, next, stuck, run as run_code}
use Rattle.machine.specs.Matching.{Choice, Matched}
use Rattle.tree.specs.Forest.{Forest, empty, node, Has}
use Rattle.tree.specs.Entries.{Mirrors, Pair, Sound, entry}
use Rattle.walk.specs.Query.{machine, witness_words, shown, with_shown}
use Rattle.walk.specs.Covering.{most, Shows, Untouched}
use Rattle.clause.proofs.Lists.{all_append, all_take, all_replicate, all_mem, all_get, some-mem}
use Rattle.clause.proofs.Literals.{Clause, accepted, some_literal}
use Rattle.machine.proofs.Agree.{agree_get, agree_length}
use Rattle.machine.proofs.Table.{filled_get, filled_none}
use Rattle.machine.proofs.Matching.{Result, covers, misses, made_at, runs, subsumes_matched}
use Rattle.machine.proofs.Codes.{firsts as firsts_of, sequence_plain, sequence_firsts, sequence_begins}
use Rattle.machine.proofs.Effects.{fails≢next, stuck≢next, fails≢stuck}
use Rattle.machine.proofs.Candidates.{run_enough, run_take, run_stuck}
use Rattle.machine.proofs.Replace.{length_vars}
use Rattle.tree.proofs.Paths.{front, one_node}
use Rattle.tree.proofs.Pairs.{kept_pair, pair_kept}
use Rattle.walk.proofs.Paths.{Leads, firsts, run, Candidates, Finds, NeverStuck}
use Rattle.walk.proofs.Formed.{leads_has, has_leads}
use Rattle.walk.proofs.Runs.{run_keys, firsts_keys}
use Rattle.walk.proofs.Witnessed.{with_shown_there, with_shown_elsewhere, length_with_shown, shown_literal, shown_none, shown_position}
use Rattle.clause.specs.Word.{Words}

-- ---- one clause against a query

-- a position with a term is one of the query's
term_inside : (d : List ℕ) (p : ℕ) → Shaped 1 (term_at d p) → p < length d
unfolding term skip
term_inside d p h = go (dec_lt p (length d))
  where
    none_left : Shaped 1 [] → ⊥
    none_left s = elim s [ ]

    go : Dec (p < length d) → p < length d
    go (yes l) = l
    go (no n) = absurd (none_left (rw (drop_of_length-le d {i = p} (omega arith)) at h))

module _ (c d : List ℕ) (C : Clause c) (D : Clause d) (w : Words c) where
  -- as many candidates as the clause has literals
  cut : List ℕ → List ℕ
  cut js = take (firsts_of (sequence c)) js

  choice : (js : List ℕ) → firsts_of (sequence c) ≤ length js → Candidates (machine d) js → Choice c d (cut js)
  unfolding cut
  choice js h J = record { each = sym (length-take-le (firsts_of (sequence c)) js h ∙ sequence_firsts c C); valid = all_take (firsts_of (sequence c)) J }

  result : (js : List ℕ) → firsts_of (sequence c) ≤ length js → Candidates (machine d) js → Result c d (cut js) (run_code d (sequence c) js initial)
  unfolding cut
  result js h J = rw (← run_take d (sequence c) js initial h) (runs c d C D (cut js) (choice js h J))

  as_code : (js : List ℕ) → run (machine d) (keys c) js initial ≡ run_code d (sequence c) js initial
  as_code js = run_keys d (sequence c) (sequence_plain c C w) js initial

  -- no run of its sequence is stuck
  pub sequence_steady : (js : List ℕ) → Candidates (machine d) js → run (machine d) (keys c) js initial ≢ stuck
  sequence_steady js J e =
      go (result more long (all_append J (all_replicate (length (literals c)) 0 (some_literal d D)))) (run_stuck d (sequence c) js _ initial (sym (as_code js) ∙ e))
    where
      more : List ℕ
      more = js ++ replicate (length (literals c)) 0

      long : firsts_of (sequence c) ≤ length more
      long = simp (length-append, length-replicate) (omega (arith, sequence_firsts c C))

      go : {js' : List ℕ} → Result c d js' (run_code d (sequence c) more initial) → run_code d (sequence c) more initial ≡ stuck → ⊥
      go (covers M N ps a s f q p) g = stuck≢next (sym g ∙ f)
      go (misses n f) g = fails≢stuck (sym f ∙ g)

  -- a run to the end is shown by the witness
  pub sequence_shows : (js : List ℕ) (t : State) (W : List ℕ) → Candidates (machine d) js → run (machine d) (keys c) js initial ≡ next t
      → witness_words ≤ length W → Shows c d (with_shown (shown t) W) × Untouched c W (with_shown (shown t) W)
  unfolding cut
  sequence_shows js t W valid e long = go (cut js) (result js enough valid) (choice js enough valid)
    where
      ran : run_code d (sequence c) js initial ≡ next t
      ran = sym (as_code js) ∙ e

      enough : firsts_of (sequence c) ≤ length js
      enough = run_enough d (sequence c) js initial t ran

      go : (js' : List ℕ) → Result c d js' (run_code d (sequence c) js initial) → Choice c d js'
          → Shows c d (with_shown (shown t) W) × Untouched c W (with_shown (shown t) W)
      go js' (misses n f) H = absurd (fails≢next (sym f ∙ ran))
      go js' (covers M N ps a s f q p) H = (
        record { replace = M.replace; terms = M.terms; literal = at_literal; apart = apart; position = at_position },
        record { long = length_with_shown (shown t) W; literal = spare_literal; position = spare_position },
      )
        where
          same : s ≡ t
          same = cc ran

          few : length t.chosen ≤ max_literals
          few = rw (← same, q, ← H.each) C.few

          count : length (vars c) ≡ length ps
          count = agree_length a

          spare_literal : (i : ℕ) → length (literals c) ≤ i → i < max_literals → get_or (with_shown (shown t) W) i 0 ≡ get_or W i 0
          spare_literal i h g = with_shown_elsewhere (shown t) W i (shown_none t i (rw (← same, q, ← H.each) h) g)

          spare_position : (k : ℕ) → length (vars c) ≤ k → get_or (with_shown (shown t) W) (max_literals + k) 0 ≡ get_or W (max_literals + k) 0
          spare_position k h =
              let put : get_or t.puts k none ≡ none = rw (← same, p) (filled_none ps k (omega (arith, count, length_vars c, C.fits)) (omega (arith, count))) in
              with_shown_elsewhere (shown t) W (max_literals + k) (shown_position t k ∙ put)

          within : (i : ℕ) → i < length (literals c) → i < length js'
          within i h = omega (arith, H.each)

          word : (i : ℕ) → i < length (literals c) → get_or (with_shown (shown t) W) i 0 ≡ get_or js' i 0
          word i h =
              let there : i < length t.chosen = rw (← same, q) (within i h) in
              with_shown_there (shown t) W i (get_or js' i 0) (omega arith) (shown_literal t i few there ∙ rw (← same, q))

          apart : Injective (length (literals c)) (λ i. get_or (with_shown (shown t) W) i 0)
          apart i j h g e = N i j (within i h) (within j g) (sym (word i h) ∙ e ∙ word j g)

          at_literal : (i : ℕ) → i < length (literals c)
              → (get_or (with_shown (shown t) W) i 0 < length (literals d)) × (inst M.replace (get_or (literals c) i []) ≡ get_or (literals d) (get_or (with_shown (shown t) W) i 0) [])
          at_literal i h =
              rw (word i h) (all_get js' H.valid i 0 (within i h), made_at M i h (within i h))

          at_position : (k : ℕ) → k < length (vars c)
              → (get_or (with_shown (shown t) W) (max_literals + k) 0 < length d) × (M.replace (get_or (vars c) k 0) ≡ term_at d (get_or (with_shown (shown t) W) (max_literals + k) 0))
          at_position k h =
              let agreed : M.replace (get_or (vars c) k 0) ≡ term_at d (get_or ps k 0) = agree_get a k h in
              let put : get_or t.puts k none ≡ some (get_or ps k 0) = rw (← same, p) (filled_get ps k (omega (arith, count, length_vars c, C.fits)) (omega (arith, count))) in
              let word : get_or (with_shown (shown t) W) (max_literals + k) 0 ≡ get_or ps k 0 =
              with_shown_there (shown t) W (max_literals + k) (get_or ps k 0) (omega (arith, length_vars c, C.fits)) (shown_position t k ∙ put) in
              rw word (term_inside d (get_or ps k 0) (rw agreed at (M.terms (get_or (vars c) k 0)).0), agreed)

-- ---- the clauses that are kept

mem_most : {p : Pair} (K : List Pair) → Memᴰ p K → length (literals p.clause) ≤ most K
mem_most [] m = elim m [ ]
mem_most (r ∷ K) (Memᴰ.head e) = rw e (omega arith)
mem_most (r ∷ K) (Memᴰ.tail m) = omega (arith, mem_most K m)

module _ (K : List Pair) (F : Forest) (S : All Sound K) (R : Mirrors F (map entry K)) where
  -- a path is the sequence of a kept clause
  path_pair : (q : List ℕ) (n : ℕ) → Leads F q n → (p : Pair) × Memᴰ p K × (q ≡ keys p.clause) × (n ≡ p.number)
  path_pair q n l = kept_pair K q n ((R.paths q n).0 (leads_has 0 F R.formed q n l))

  -- no path has more Firsts than a kept clause has literals
  pub kept_short : (q : List ℕ) (n : ℕ) → Leads F q n → firsts q ≤ most K
  kept_short q n l =
      let (p, m, is, at) = path_pair q n l in
      let s = all_mem S m in
      let C = accepted p.clause s.accepted in
      rw (is, firsts_keys (sequence p.clause) (sequence_plain p.clause C s.words), sequence_firsts p.clause C) (mem_most K m)

  -- every path begins with First
  kept_begins : (q : List ℕ) (n : ℕ) → Has F q n → front q n ≡ key First
  kept_begins q n h =
      let (p, m, is, at) = kept_pair K q n ((R.paths q n).0 h) in
      let (rest, e) = sequence_begins p.clause (accepted p.clause (all_mem S m).accepted).nonempty in
      rw (is, e)

  -- so the tree of one clause or more has one topmost node, a First
  pub one_first : 1 ≤ length K → (B : Forest) × (F ≡ node (key First) B empty)
  one_first h =
      let (p, m) = some-mem K h in
      one_node (key First) 0 F R.formed ((R.paths (keys p.clause) p.number).1 (pair_kept K p m)) kept_begins

module _ (K : List Pair) (F : Forest) (S : All Sound K) (R : Mirrors F (map entry K)) (d : List ℕ) (D : Accepted d) where
  -- no path gets stuck
  pub kept_steady : NeverStuck (machine d) F initial
  kept_steady q n js l J e =
      let (p, m, is, at) = path_pair K F S R q n l in
      let s = all_mem S m in
      sequence_steady p.clause d (accepted p.clause s.accepted) (accepted d D) s.words js J (rw is at e)

  -- what the walk finds is shown
  pub finds_shows : (n : ℕ) (t : State) → Finds (machine d) F initial n t → (W : List ℕ) → witness_words ≤ length W
      → (p : Pair) × Memᴰ p K × (p.number ≡ n) × Shows p.clause d (with_shown (shown t) W) × Untouched p.clause W (with_shown (shown t) W)
  finds_shows n t (q, js, l, J, e) W h =
      let (p, m, is, at) = path_pair K F S R q n l in
      let s = all_mem S m in
      let (shows, spared) = sequence_shows p.clause d (accepted p.clause s.accepted) (accepted d D) s.words js t W J (rw is at e) h in
      (p, m, sym at, shows, spared)

  -- what a kept clause subsumes is found
  pub subsumes_finds : (p : Pair) → Memᴰ p K → Subsumes p.clause d → (t : State) × Finds (machine d) F initial p.number t
  subsumes_finds p m u =
      let s = all_mem S m in
      let C = accepted p.clause s.accepted in
      let M : Matched p.clause d = subsumes_matched p.clause d C (accepted d D) u in
      let path : Leads F (keys p.clause) p.number = has_leads 0 F R.formed (keys p.clause) p.number ((R.paths (keys p.clause) p.number).1 (pair_kept K p m)) in
      (M.state, (keys p.clause, M.choices, path, M.choice.valid, as_code p.clause d C (accepted d D) s.words M.choices ∙ M.ran))
