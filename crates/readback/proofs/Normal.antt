-- The clause read back is the clause with its variables numbered by first appearance.
use mathlib.Core.Path.{◌≡◌, refl, sym, ap, ap₂, ◌∙◌}
use mathlib.Core.Logic.{◌↔◌, ◌≢◌}
use mathlib.Core.List.{List, [], ◌∷◌, ◌++◌, map}
use Prim.Native.Nat.{ℕ, suc, ◌^◌, ◌≤◌, ◌<◌}
use native.Mathlib.Omega.{arith}
use native.Mathlib.Decide.{ℕ_discrete, dec_lt}
use lib.ListN.{length, get_or, length-append}
use Rattle.clause.specs.Lists.{All, none as All-none, also}
use Rattle.clause.specs.Word.{Words, variable, sort-discrete, sort}
use Rattle.clause.specs.Clause.{Accepted, vars, max_words}
use Rattle.clause.proofs.Lists.{length-snoc}
use Rattle.clause.proofs.Literals.{Clause, accepted}
use Rattle.machine.specs.Instr.{key}
use Rattle.machine.specs.Compile.{ended, first, sequence, keys}
use Rattle.machine.proofs.Replace.{length_vars}
use Rattle.machine.proofs.Codes.{sequence_plain}
use Rattle.machine.proofs.Compares.{first_le}
use Rattle.readback.specs.Readback.{variable_word, new_below, renamed, first_of, number_of, normal, Numbered, done, other, again, new, origin, words_of, put_number, read_off, clause_of}
use Rattle.readback.specs.Laws.{ReadsBack, IsPath, Readable}
use Rattle.readback.proofs.Lists.{first_top, first_found, first_known, new_below_le, new_below_new, new_below_old, new_below_grows, new_below_same}
use Rattle.readback.proofs.Read.{instructions_keys, words_from, on_variable, on_other, put_is, named_renamed}
use Rattle.readback.proofs.Origin.{origin_first}
use Rattle.readback.proofs.Renaming.{variable_word_sort, variable_word_top, renamed_variable, renamed_other, shape_same, sequence_same}

-- ---- the numbers of variables

module _ (us : List ℕ) where
  -- the new name of a variable
  abbrev named_anew : ℕ → ℕ
  named_anew v = variable_word (number_of us v)

  number_top : (v : ℕ) → number_of us v ≤ length us
  unfolding number_of
  number_top v = omega (arith, new_below_le (first_of us) (first v us), first_top v us)

  first_self : (v : ℕ) → first v us < length us → first_of us (first v us) ≡ first v us
  first_self v h = ap (λ (u : ℕ). first u us) (first_found v us h)

  number_less : (u v : ℕ) → first u us < length us → first u us < first v us → number_of us u < number_of us v
  unfolding number_of
  number_less u v h l = new_below_grows (first_of us) (first u us) (first v us) l (first_self u h)

  number_at : (v k : ℕ) → first v us ≡ k → number_of us v ≡ new_below (first_of us) k
  unfolding number_of
  number_at v k e = ap (new_below (first_of us)) e

  number_below : (v k : ℕ) → first v us < length us → first v us < k → number_of us v < new_below (first_of us) k
  unfolding number_of
  number_below v k h l = new_below_grows (first_of us) (first v us) k l (first_self v h)

  variable_word_apart : (m n : ℕ) → variable_word m ≡ variable_word n → m ≡ n
  unfolding variable_word
  variable_word_apart m n e = omega arith

  apart : (u v : ℕ) → first u us < length us → first v us < length us → named_anew u ≡ named_anew v → u ≡ v
  apart u v h g e = go (dec_lt (first u us) (first v us)) (dec_lt (first v us) (first u us))
    where
      same : number_of us u ≡ number_of us v
      same = variable_word_apart (number_of us u) (number_of us v) e

      go : Dec (first u us < first v us) → Dec (first v us < first u us) → u ≡ v
      go (yes l) d = absurd (omega (arith, number_less u v h l, same))
      go (no l) (yes m) = absurd (omega (arith, number_less v u g m, same))
      go (no l) (no m) =
          let e : first u us ≡ first v us = omega arith in
          sym (first_found u us h) ∙ ap (λ (i : ℕ). get_or us i 0) e ∙ first_found v us g

  module _ (few : length us ≤ max_words) where
    variables : (v : ℕ) → sort (named_anew v) ≡ variable
    variables v = variable_word_sort (number_of us v) (omega (arith, number_top v))

    -- renamed words are numbered by first appearance
    numbered_from : (ws puts : List ℕ) → us ≡ puts ++ vars ws → Numbered (new_below (first_of us) (length puts)) (map (renamed named_anew) ws)
    numbered_from [] puts q = done
    numbered_from (w ∷ ws) puts q = go (sort-discrete (sort w) variable) (numbered_from ws)
      where
        IH : Type 0
        IH = (puts : List ℕ) → us ≡ puts ++ vars ws → Numbered (new_below (first_of us) (length puts)) (map (renamed named_anew) ws)

        put : sort w ≡ variable → IH → Dec (first w us ≡ length puts)
            → Numbered (new_below (first_of us) (length puts)) (named_anew w ∷ map (renamed named_anew) ws)
        put e ih (yes f) =
            let (is, room) = put_is puts w ws e q in
            let o : first_of us (length puts) ≡ length puts = ap (λ (u : ℕ). first u us) is ∙ f in
            let rest : Numbered (suc (new_below (first_of us) (length puts))) (map (renamed named_anew) ws) =
            rw (length-snoc, new_below_new (first_of us) (length puts) o) at (ih (puts ++ (w ∷ [])) (on_variable puts w ws e q)) in
            rw (number_at w (length puts) f) (new rest)
        put e ih (no f) =
            let (is, room) = put_is puts w ws e q in
            let low : first w us ≤ length puts = rw is at (first_le us (length puts) room) in
            let o : first_of us (length puts) ≢ length puts = λ g. f (sym (ap (λ (u : ℕ). first u us) is) ∙ g) in
            let rest : Numbered (new_below (first_of us) (length puts)) (map (renamed named_anew) ws) =
            rw (length-snoc, new_below_old (first_of us) (length puts) o) at (ih (puts ++ (w ∷ [])) (on_variable puts w ws e q)) in
            again (number_below w (length puts) (omega arith) (omega arith)) rest

        go : Dec (sort w ≡ variable) → IH → Numbered (new_below (first_of us) (length puts)) (renamed named_anew w ∷ map (renamed named_anew) ws)
        go (yes e) ih = rw (renamed_variable named_anew variables w e) (put e ih (ℕ_discrete (first w us) (length puts)))
        go (no n) ih = rw (renamed_other named_anew variables w n) (other n (ih puts (on_other puts w ws n q)))

    -- words that are so numbered stay as they are: k puts have been met, n variables among them
    record Seen (k n : ℕ) : Type 0 where
      count : new_below (first_of us) k ≡ n
      numbers : (i : ℕ) → i < n → (number_of us (variable_word i) ≡ i) × (first (variable_word i) us < k)
      only : (v : ℕ) → first v us < length us → first v us < k → (i : ℕ) × (i < n) × (v ≡ variable_word i)

    -- a variable that has been met, and a new one
    module _ (k n : ℕ) (room : k < length us) (S : Seen k n) where
      seen_again : (i : ℕ) → i < n → get_or us k 0 ≡ variable_word i → Seen (suc k) n
      seen_again i h is =
          let (e, l) = S.numbers i h in
          let o : first_of us k ≢ k = λ g. let f : first (variable_word i) us ≡ k = sym (ap (λ (u : ℕ). first u us) is) ∙ g in omega arith in
          record {
            count = new_below_old (first_of us) k o ∙ S.count;
            numbers = λ j g. let (e, l) = S.numbers j g in (e, omega arith);
            only = λ v g m. go v g (dec_lt (first v us) k) m;
          }
        where
          go : (v : ℕ) → first v us < length us → Dec (first v us < k) → first v us < suc k → (j : ℕ) × (j < n) × (v ≡ variable_word j)
          go v g (yes l) m = S.only v g l
          go v g (no l) m = let e : first v us ≡ k = omega arith in (i, h, sym (first_found v us g) ∙ ap (λ (j : ℕ). get_or us j 0) e ∙ is)

      first_new : get_or us k 0 ≡ variable_word n → first (variable_word n) us ≡ k
      first_new is =
          let top : first (variable_word n) us ≤ k = rw is at (first_le us k room) in
          go top (dec_lt (first (variable_word n) us) k)
        where
          go : first (variable_word n) us ≤ k → Dec (first (variable_word n) us < k) → first (variable_word n) us ≡ k
          go top (yes l) = let (i, h, e) = S.only (variable_word n) (omega arith) l in absurd (omega (arith, variable_word_apart n i e))
          go top (no l) = omega arith

      seen_new : get_or us k 0 ≡ variable_word n → Seen (suc k) (suc n)
      seen_new is =
          let f = first_new is in
          record {
            count = new_below_new (first_of us) k (ap (λ (u : ℕ). first u us) is ∙ f) ∙ ap suc S.count;
            numbers = λ j g. numbers f j g (ℕ_discrete j n);
            only = λ v g m. go v g (dec_lt (first v us) k) m;
          }
        where
          numbers : first (variable_word n) us ≡ k → (j : ℕ) → j < suc n → Dec (j ≡ n) → (number_of us (variable_word j) ≡ j) × (first (variable_word j) us < suc k)
          numbers f j g (yes e) = rw e (number_at (variable_word n) k f ∙ S.count, omega arith)
          numbers f j g (no e) = let (a, b) = S.numbers j (omega arith) in (a, omega arith)

          go : (v : ℕ) → first v us < length us → Dec (first v us < k) → first v us < suc k → (j : ℕ) × (j < suc n) × (v ≡ variable_word j)
          go v g (yes l) m = let (i, h, e) = S.only v g l in (i, omega arith, e)
          go v g (no l) m = let e : first v us ≡ k = omega arith in (n, omega arith, sym (first_found v us g) ∙ ap (λ (j : ℕ). get_or us j 0) e ∙ is)

    puts_top : (puts vs : List ℕ) → us ≡ puts ++ vs → length puts ≤ length us
    puts_top puts vs q = rw (q, length-append) (omega arith)

    seen_top : (k n : ℕ) → Seen k n → n ≤ k
    seen_top k n S = omega (arith, S.count, new_below_le (first_of us) k)

    same_from : {n : ℕ} {ws : List ℕ} → Numbered n ws → (puts : List ℕ) → us ≡ puts ++ vars ws → Seen (length puts) n → map (renamed named_anew) ws ≡ ws
    same_from done puts q S = refl
    same_from (other {w = w} {ws = ws} h p) puts q S =
        ap₂ ◌∷◌ (renamed_other named_anew variables w h) (same_from p puts (on_other puts w ws h q) S)
    same_from (again {n = n} {i = i} {ws = ws} l p) puts q S =
        let w : ℕ = variable_word i in
        let e : sort w ≡ variable = variable_word_sort i (omega (arith, seen_top (length puts) n S, puts_top puts _ q)) in
        let (is, room) = put_is puts w ws e q in
        let S' : Seen (length (puts ++ (w ∷ []))) n = rw length-snoc (seen_again (length puts) n room S i l is) in
        ap₂ ◌∷◌ (renamed_variable named_anew variables w e ∙ ap variable_word (S.numbers i l).0) (same_from p (puts ++ (w ∷ [])) (on_variable puts w ws e q) S')
    same_from (new {n = n} {ws = ws} p) puts q S =
        let w : ℕ = variable_word n in
        let e : sort w ≡ variable = variable_word_sort n (omega (arith, seen_top (length puts) n S, puts_top puts _ q)) in
        let (is, room) = put_is puts w ws e q in
        let S' : Seen (length (puts ++ (w ∷ []))) (suc n) = rw length-snoc (seen_new (length puts) n room S is) in
        ap₂ ◌∷◌ (renamed_variable named_anew variables w e ∙ ap variable_word (S'.numbers n (omega arith)).0) (same_from p (puts ++ (w ∷ [])) (on_variable puts w ws e q) S')

    seen_none : Seen 0 0
    unfolding new_below
    seen_none = record { count = refl; numbers = λ i h. absurd (omega arith); only = λ v h g. absurd (omega arith) }

-- ---- a clause

few_vars : (c : List ℕ) → Clause c → length (vars c) ≤ max_words
few_vars c C = omega (arith, length_vars c, C.fits)

module _ (c : List ℕ) (C : Clause c) (words : Words c) where
  put_number_lem : (k : ℕ) → k < length (vars c) → put_number (sequence c) k ≡ number_of (vars c) (get_or (vars c) k 0)
  unfolding number_of
  put_number_lem k h =
      ap (new_below (origin (sequence c))) (origin_first c C k h)
      ∙ new_below_same (origin (sequence c)) (first_of (vars c)) (first_of (vars c) k) (λ j i. origin_first c C j (omega (arith, first_le (vars c) k h)))

  read_sequence : words_of (put_number (sequence c)) (sequence c) ≡ normal c
  unfolding sequence normal
  read_sequence =
      words_from (put_number (sequence c)) c ended [] 0 0
      ∙ named_renamed (put_number (sequence c)) (named_anew (vars c)) (vars c) (λ k h. ap variable_word (put_number_lem k h)) c [] refl

  read : clause_of (keys c) ≡ normal c
  unfolding clause_of read_off
  read = rw (instructions_keys (sequence_plain c C words)) read_sequence

  normal_shape : Accepted c → Accepted (normal c)
  unfolding normal
  normal_shape (n, e) = (n, shape_same (named_anew (vars c)) (variables (vars c) (few_vars c C)) c ∙ e)

  normal_words : Words (normal c)
  unfolding normal
  normal_words = go words
    where
      word : (w : ℕ) → w < 2 ^ 16 → Dec (sort w ≡ variable) → renamed (named_anew (vars c)) w < 2 ^ 16
      word w h (yes e) =
          rw (renamed_variable (named_anew (vars c)) (variables (vars c) (few_vars c C)) w e)
          (variable_word_top _ (omega (arith, number_top (vars c) w, few_vars c C)))
      word w h (no n) = rw (renamed_other (named_anew (vars c)) (variables (vars c) (few_vars c C)) w n) h

      go : {ws : List ℕ} → All (λ w. w < 2 ^ 16) ws → All (λ w. w < 2 ^ 16) (map (renamed (named_anew (vars c))) ws)
      go All-none = All-none
      go (also {x = w} h p) = also (word w h (sort-discrete (sort w) variable)) (go p)

  normal_sequence : sequence (normal c) ≡ sequence c
  unfolding normal
  normal_sequence =
      sequence_same (named_anew (vars c)) (variables (vars c) (few_vars c C)) (λ v. first v (vars c) < length (vars c)) (apart (vars c)) c (first_known (vars c))

  normal_numbered : Numbered 0 (normal c)
  unfolding normal new_below
  normal_numbered = numbered_from (vars c) (few_vars c C) c [] refl

  normal_same : Numbered 0 c → normal c ≡ c
  unfolding normal
  normal_same N = same_from (vars c) (few_vars c C) N [] refl (seen_none (vars c) (few_vars c C))

pub reads_back : (c : List ℕ) → Accepted c → Words c → ReadsBack c
reads_back c h w =
    let C = accepted c h in
    record {
      read = read c C w;
      good = record { accepted = normal_shape c C w h; words = normal_words c C w };
      same_keys = ap (map key) (normal_sequence c C w);
      numbered = normal_numbered c C w;
      same = λ N. read c C w ∙ normal_same c C w N;
    }

-- keys that some clause has are those of the clause read off them
pub path_readable : (p : List ℕ) → IsPath p ↔ Readable p
path_readable p = (to, λ R. record { clause = clause_of p; good = R.good; is = R.is })
  where
    to : IsPath p → Readable p
    to I =
        let B = reads_back I.clause I.good.accepted I.good.words in
        let e : clause_of p ≡ normal I.clause = ap clause_of (sym I.is) ∙ B.read in
        record { good = rw e B.good; is = ap keys e ∙ B.same_keys ∙ I.is }
