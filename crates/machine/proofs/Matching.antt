-- A clause subsumes a query exactly if its sequence runs to the end with some choice of the query's literals; then no two of them are the same.
use mathlib.Core.Path.{◌≡◌, refl, sym, ap, ◌∙◌}
use mathlib.Core.List.{List, [], map, flatten}
use Prim.Native.Nat.{ℕ, ◌<◌}
use native.Mathlib.Omega.{arith}
use lib.ListN.{length, get_or, length-map}
use lib.Seq.{ext_get_or}
use Rattle.clause.specs.Lists.{none as All-none, numbers_below}
use Rattle.clause.specs.Clause.{Accepted, literals, IsTerm, inst, Subsumes, vars}
use Rattle.machine.specs.Compile.{sequence, Variants}
use Rattle.machine.specs.Instr.{Instr}
use Rattle.machine.specs.Matching.{Choice, Matched, Matching}
use Rattle.machine.specs.Machine.{State, initial, Effect, next, fails, run}
use Rattle.clause.proofs.Lists.{all_get, all_map, all_up_to, get_or-map-lt, length_below, get_below}
use Rattle.clause.proofs.Literals.{Clause, accepted}
use Rattle.clause.proofs.Order.{subsumes_refl}
use Rattle.machine.proofs.Codes.{firsts, sequence_firsts}
use Rattle.machine.proofs.Effects.{fails≢next}
use Rattle.machine.proofs.Agree.{Agree, no_more}
use Rattle.machine.proofs.Table.{filled, length_unfilled}
use Rattle.machine.proofs.Used.{Differ, differ_none}
use Rattle.machine.proofs.Fits.{chosen, places, fits_replaces, replaces_fits}
use Rattle.machine.proofs.Run.{Ended, succeeds, mismatch, AboutToMatch, run_literals}

-- one replacement that makes the literals of c the chosen ones
pub record Makes (c d js : List ℕ) : Type 0 where
  pub replace : ℕ → List ℕ
  pub terms : (v : ℕ) → IsTerm (replace v)
  pub made : map (inst replace) (literals c) ≡ map (chosen d) js

-- each literal of c then becomes the chosen one
pub made_at : {c d js : List ℕ} (M : Makes c d js) (i : ℕ) → i < length (literals c) → i < length js
    → inst M.replace (get_or (literals c) i []) ≡ get_or (literals d) (get_or js i 0) []
made_at {c} {d} {js} M i h g =
    sym (get_or-map-lt (inst M.replace) (literals c) i [] [] h) ∙ ap (λ l. get_or l i []) M.made ∙ get_or-map-lt (chosen d) js i 0 [] g

-- with these literals the sequence runs to the end, its puts being where the replacing terms are, and the literals all differ; or it fails, and
-- there is no replacement or two of them are the same
pub data Result (c d js : List ℕ) (o : Effect State) : Type 0 where
  covers : (M : Makes c d js) → Differ js → (ps : List ℕ) → Agree M.replace d (vars c) ps → (s : State) → o ≡ next s → s.chosen ≡ js
      → s.puts ≡ filled ps → Result c d js o
  misses : (Makes c d js → Differ js → ⊥) → o ≡ fails → Result c d js o

module _ (c d : List ℕ) (C : Clause c) (D : Clause d) (js : List ℕ) (J : Choice c d js) where
  begins : AboutToMatch (literals c) [] [] 0 initial
  unfolding filled flatten
  begins =
      record {
        few = omega arith;
        differ = differ_none;
        stored = refl;
        equal = refl;
        pushes = length_unfilled;
        put_room = rw C.whole (omega arith);
        push_room = rw C.whole (omega arith);
        placed = λ e. absurd (C.nonempty (sym C.whole ∙ ap flatten e));
      }

  pub runs : Result c d js (run d (sequence c) js initial)
  unfolding sequence
  runs = go (rw C.whole at (run_literals d D (literals c) js C.all J.valid J.each [] [] 0 0 initial begins))
    where
      go : {o : Effect State} → Ended d (literals c) js [] [] [] o → Result c d js o
      go (succeeds F N s e q p) =
          let (R, a) = fits_replaces d D F C.all J.valid refl (λ k i j. absurd (omega arith)) All-none in
          covers (record { replace = R.replace; terms = R.terms; made = R.made }) N (places F) (rw C.whole at a) s e q p
      go (mismatch n e) =
          misses (λ M N. n (replaces_fits d D (literals c) js [] [] J.valid
          (record { replace = M.replace; terms = M.terms; agrees = no_more; made = M.made })) N) e

-- the places of a subsumption, as a list of candidates
module _ (c d : List ℕ) (S : Subsumes c d) where
  abbrev picks : List ℕ
  picks = map S.place (numbers_below (length (literals c)))

  length_picks : length picks ≡ length (literals c)
  length_picks = length-map (numbers_below (length (literals c))) S.place ∙ length_below (length (literals c))

  within : (i : ℕ) → i < length picks → i < length (literals c)
  within i h = omega (arith, length_picks)

  pick : (i : ℕ) → i < length (literals c) → get_or picks i 0 ≡ S.place i
  pick i h =
      let b : i < length (numbers_below (length (literals c))) = rw length_below h in
      get_or-map-lt S.place (numbers_below (length (literals c))) i 0 0 b ∙ ap S.place (get_below (length (literals c)) i h)

  picked : Choice c d picks
  picked = record { each = sym length_picks; valid = all_map S.place (all_up_to (length (literals c)) S.inside) }

  picks_differ : Differ picks
  picks_differ i j h g e = S.apart i j (within i h) (within j g) (sym (pick i (within i h)) ∙ e ∙ pick j (within j g))

  picks_make : Makes c d picks
  picks_make = record { replace = S.replace; terms = S.terms; made = ext_get_or [] _ _ long each }
    where
      long : length (map (inst S.replace) (literals c)) ≡ length (map (chosen d) picks)
      long = length-map (literals c) (inst S.replace) ∙ sym (length-map picks (chosen d) ∙ length_picks)

      each : (i : ℕ) → i < length (map (inst S.replace) (literals c)) → get_or (map (inst S.replace) (literals c)) i [] ≡ get_or (map (chosen d) picks) i []
      each i h =
          let b : i < length (literals c) = rw length-map at h in
          let b' : i < length picks = omega (arith, length_picks) in
          get_or-map-lt (inst S.replace) (literals c) i [] [] b ∙ S.covered i b ∙ ap (chosen d) (sym (pick i b))
          ∙ sym (get_or-map-lt (chosen d) picks i 0 [] b')

module _ (c d : List ℕ) (C : Clause c) (D : Clause d) where
  pub subsumes_matched : Subsumes c d → Matched c d
  subsumes_matched S = go (runs c d C D (picks c d S) (picked c d S))
    where
      go : Result c d (picks c d S) (run d (sequence c) (picks c d S) initial) → Matched c d
      go (covers M N ps a s e q p) = record { choices = picks c d S; choice = picked c d S; state = s; ran = e }
      go (misses n e) = absurd (n (picks_make c d S) (picks_differ c d S))

  pub matched_subsumes : Matched c d → Subsumes c d
  matched_subsumes K = go (runs c d C D K.choices K.choice)
    where
      within : (i : ℕ) → i < length (literals c) → i < length K.choices
      within i h = rw K.choice.each at h

      go : Result c d K.choices (run d (sequence c) K.choices initial) → Subsumes c d
      go (covers M N ps a s e q p) =
          record {
            replace = M.replace;
            terms = M.terms;
            place = λ i. get_or K.choices i 0;
            inside = λ i h. all_get K.choices K.choice.valid i 0 (within i h);
            apart = λ i j h g. N i j (within i h) (within j g);
            covered = λ i h. made_at M i h (within i h);
          }
      go (misses n e) = absurd (fails≢next (sym e ∙ K.ran))

-- subsumption is a run to the end
pub matching : Matching
matching c d C D = (subsumes_matched c d (accepted c C) (accepted d D), matched_subsumes c d (accepted c C) (accepted d D))

-- variants subsume each other
pub variants_subsume : (c d : List ℕ) → Accepted c → Accepted d → Variants c d → Subsumes c d
variants_subsume c d A B v =
    let C = accepted c A in
    let D = accepted d B in
    let M : Matched d d = subsumes_matched d d D D (subsumes_refl d) in
    let alike : length (literals c) ≡ length (literals d) = sym (sequence_firsts c C) ∙ ap firsts v ∙ sequence_firsts d D in
    matched_subsumes c d C D
    record {
      choices = M.choices;
      choice = record { each = alike ∙ M.choice.each; valid = M.choice.valid };
      state = M.state;
      ran = ap (λ (s : List Instr). run d s M.choices initial) v ∙ M.ran;
    }
