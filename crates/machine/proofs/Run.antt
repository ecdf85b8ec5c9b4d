-- The whole sequence of a clause on a query, with chosen literals.
use mathlib.Core.Path.{◌≡◌, refl, sym, ◌∙◌}
use mathlib.Core.Bool.{Bool, true, false}
use mathlib.Core.Option.{Option, none, some}
use mathlib.Core.List.{List, [], ◌∷◌, ◌++◌, flatten, append-nil, append_assoc}
use Prim.Native.Nat.{ℕ, ◌+◌, ◌≤◌, ◌<◌}
use native.Mathlib.Omega.{arith}
use lib.ListN.{length, length-append}
use Rattle.clause.specs.Lists.{All, also}
use Rattle.clause.specs.Word.{sort, if_variable}
use Rattle.clause.specs.Clause.{literals, max_literals, start_of, vars}
use Rattle.machine.specs.Instr.{Instr, First}
use Rattle.machine.specs.Compile.{ended, inside, closing, opening, begun, way_from, puts_after, sequence_from}
use Rattle.machine.specs.Machine.{slots, State, Effect, next, fails, starting, used, start, finish_from, finish, run}
use Rattle.clause.proofs.Lists.{all_get, length-snoc}
use Rattle.clause.proofs.Skip.{shaped_enough}
use Rattle.clause.specs.Accepted.{IsLiteral}
use Rattle.clause.proofs.Literals.{literal_shaped, Clause}
use Rattle.clause.proofs.Starts.{found}
use Rattle.clause.proofs.Siblings.{rights_start}
use Rattle.machine.proofs.Way.{need, after, StandsAt}
use Rattle.machine.proofs.Flat.{flat, puts_all, After, Agrees, miss, hit, reach}
use Rattle.machine.proofs.Compares.{GoesIf, holds, refuted, goes_if_from, Consistent, run_compares}
use Rattle.machine.proofs.Replace.{length_vars, match_length}
use Rattle.machine.proofs.Table.{filled, filled_more, filled_get}
use Rattle.machine.proofs.Used.{Differ, differ_more, differ_used, enter_new, enter_used}
use Rattle.machine.proofs.Fits.{literal_match, FitsChosen, fits_none, fits_also, places}

-- the variables put after some words
puts_vars : (puts ws : List ℕ) → puts_all puts ws ≡ puts ++ vars ws
unfolding puts_all vars puts_after
puts_vars puts [] = sym (append-nil puts)
puts_vars puts (w ∷ ws) = puts_vars (puts_after puts w) ws ∙ append_assoc puts (if_variable (sort w) (w ∷ []) []) (vars ws)

-- a literal's sequence begins with First
pub sequence_first : (w : ℕ) (ws : List ℕ) (puts : List ℕ) (from n : ℕ)
    → sequence_from (w ∷ ws) ended puts from n ≡ First ∷ sequence_from (w ∷ ws) (inside 0 []) puts (length puts) n
unfolding sequence_from opening begun way_from
sequence_first w ws puts from n = refl

module _ (d : List ℕ) (sequence : List Instr) (s : State) (j : ℕ) (js : List ℕ) (h : length s.chosen < max_literals) where
  run_first : used j s.chosen ≡ false → run d (First ∷ sequence) (j ∷ js) s ≡ run d sequence js (starting d s j)
  unfolding run start
  run_first u = rw (enter_new d j s h u)

  -- with a literal that is already used it fails
  run_used : used j s.chosen ≡ true → run d (First ∷ sequence) (j ∷ js) s ≡ fails
  unfolding run start
  run_used u = rw (enter_used d j s h u)

run_success : (d js : List ℕ) (s : State) (c : ℕ) → s.head ≡ some c → run d [] js s ≡ next s
unfolding run finish finish_from
run_success d js s c e = rw e

-- the literals fit the chosen ones, which all differ, and their variables are put, or not
pub data Ended (d : List ℕ) (ls : List (List ℕ)) (js puts poss taken : List ℕ) (o : Effect State) : Type 0 where
  succeeds : (F : FitsChosen d ls js puts poss) → Differ (taken ++ js) → (s : State) → o ≡ next s → s.chosen ≡ taken ++ js → s.puts ≡ filled (places F)
      → Ended d ls js puts poss taken o
  mismatch : (FitsChosen d ls js puts poss → Differ (taken ++ js) → ⊥) → o ≡ fails → Ended d ls js puts poss taken o

ended_from : {d : List ℕ} {ls : List (List ℕ)} {js puts poss taken : List ℕ} {o o' : Effect State} → o ≡ o' → Ended d ls js puts poss taken o'
    → Ended d ls js puts poss taken o
ended_from e (succeeds F N s f c g) = succeeds F N s (e ∙ f) c g
ended_from e (mismatch n f) = mismatch n (e ∙ f)

-- the machine is about to match the literals ls with the chosen ones
pub record AboutToMatch (ls : List (List ℕ)) (puts poss : List ℕ) (n : ℕ) (s : State) : Type 0 where
  pub few : length s.chosen + length ls ≤ max_literals
  pub differ : Differ s.chosen
  pub stored : s.puts ≡ filled poss
  pub equal : length puts ≡ length poss
  pub pushes : length s.pushes ≡ slots
  pub put_room : length puts + length (flatten ls) ≤ slots
  pub push_room : n + length (flatten ls) ≤ slots
  pub placed : ls ≡ [] → (c : ℕ) × (s.head ≡ some c)

-- what fits begins with the positions of the first literal
fits_first : {d l : List ℕ} {ls : List (List ℕ)} {j : ℕ} {js puts poss : List ℕ} (ps : List ℕ) → flat d l (start_of d j) ≡ some ps
    → FitsChosen d (l ∷ ls) (j ∷ js) puts poss
    → Consistent d (puts ++ vars l) (poss ++ ps) (length puts) × FitsChosen d ls js (puts ++ vars l) (poss ++ ps)
fits_first {d} {l} {ls} {js = js} {puts} {poss} ps e (fits_also {ps = qs} f c F) =
    let g : qs ≡ ps = cc in
    (rw g at c, rw g at F)

fits_some : {d l : List ℕ} {ls : List (List ℕ)} {j : ℕ} {js puts poss : List ℕ} → flat d l (start_of d j) ≡ none → FitsChosen d (l ∷ ls) (j ∷ js) puts poss
    → ⊥
fits_some e (fits_also f c F) = cc

module _ (d : List ℕ) (D : Clause d) where
  abbrev Runs : List (List ℕ) → Type 0
  Runs ls =
      (js : List ℕ) → All IsLiteral ls → All (λ j. j < length (literals d)) js → length ls ≡ length js → (puts poss : List ℕ) (from n : ℕ) (s : State)
      → AboutToMatch ls puts poss n s → Ended d ls js puts poss s.chosen (run d (sequence_from (flatten ls) ended puts from n) js s)

  -- one literal, against literal j of the query
  module _ (l : List ℕ) (ls : List (List ℕ)) (j : ℕ) (js puts poss : List ℕ) (n : ℕ) (s : State)
      (L : IsLiteral l) (J : j < length (literals d)) (B : AboutToMatch (l ∷ ls) puts poss n s) where
    room : length s.chosen < max_literals
    room = omega arith

    literal_starts : (from : ℕ) → used j s.chosen ≡ false
        → run d (sequence_from (l ++ flatten ls) ended puts from n) (j ∷ js) s
        ≡ run d (sequence_from (l ++ flatten ls) (inside 0 []) puts (length puts) n) js (starting d s j)
    literal_starts from u = rw L.parts (rw sequence_first (run_first d _ s j js room u))

    -- it is not taken a second time
    literal_used : (from : ℕ) → used j s.chosen ≡ true → run d (sequence_from (l ++ flatten ls) ended puts from n) (j ∷ js) s ≡ fails
    literal_used from u = rw L.parts (rw sequence_first (run_used d _ s j js room u))

    literal_reached : Agrees d (flatten ls) (length puts) js (starting d s j) (length puts) (puts_all puts l)
        (run d (sequence_from (l ++ flatten ls) (inside 0 []) puts (length puts) n) js (starting d s j)) (flat d l (start_of d j))
    unfolding need after StandsAt closing flatten
    literal_reached =
        let (r, f) = found d j J in
        reach d (flatten ls) (length puts) js D l (inside 0 []) puts n (start_of d j) (starting d s j)
        record {
          shaped = literal_shaped L;
          enough = rw f (shaped_enough (literal_shaped (all_get (literals d) D.all j [] J)) r);
          stands = (refl, rights_start d D j J, tt);
          put_room = B.put_room;
          push_room = B.push_room;
          pushes = B.pushes;
        }

    module _ (u : used j s.chosen ≡ false) (o : Effect State) (ps : List ℕ) (f : flat d l (start_of d j) ≡ some ps)
        (A : After d (flatten ls) (length puts) js (starting d s j) (length puts) (puts_all puts l) o ps) where
      stored_more : A.state.puts ≡ filled (poss ++ ps)
      stored_more = A.stored ∙ rw (B.stored, B.equal) (filled_more poss ps)

      begins_next : AboutToMatch ls (puts ++ vars l) (poss ++ ps) A.pushed A.state
      unfolding flatten
      begins_next =
          record {
            few = rw (A.chosen, length-snoc) (omega arith);
            differ = rw A.chosen (differ_more s.chosen j B.differ u);
            stored = stored_more;
            equal = simp length-append (omega (arith, match_length (literal_match d D l L j J ps f)));
            pushes = A.pushes;
            put_room = simp length-append (omega (arith, length_vars l, simp length-append at B.put_room));
            push_room = A.room;
            placed = λ e. (A.cursor, A.placed);
          }

      literal_compares : GoesIf (Consistent d (puts ++ vars l) (poss ++ ps) (length puts)) o
          (run d (sequence_from (flatten ls) ended (puts ++ vars l) (length puts) A.pushed) js A.state)
      literal_compares =
          goes_if_from (rw puts_vars at A.goes)
          (run_compares d _ js A.state A.cursor A.placed (puts ++ vars l) (poss ++ ps) (omega (arith, begins_next.put_room))
          (λ i h. rw stored_more (filled_get (poss ++ ps) i (omega (arith, begins_next.put_room, begins_next.equal)) (omega (arith, begins_next.equal))))
          (length puts))

    -- it fits, and then the others, or it does not
    module _ (rest : Runs ls) (Ls : All IsLiteral ls) (Js : All (λ j. j < length (literals d)) js) (e : length ls ≡ length js) where
      literal_goes : used j s.chosen ≡ false → (o : Effect State) (r : Option (List ℕ)) → flat d l (start_of d j) ≡ r
          → Agrees d (flatten ls) (length puts) js (starting d s j) (length puts) (puts_all puts l) o r
          → Ended d (l ∷ ls) (j ∷ js) puts poss s.chosen o
      unfolding places
      literal_goes u o none f (miss g) = mismatch (λ F N. fits_some f F) g
      literal_goes u o (some ps) f (hit A) =
          go (literal_compares u o ps f A) (rest js Ls Js e (puts ++ vars l) (poss ++ ps) (length puts) A.pushed A.state (begins_next u o ps f A))
        where
          chosen_now : A.state.chosen ++ js ≡ s.chosen ++ j ∷ js
          chosen_now = rw A.chosen (append_assoc s.chosen (j ∷ []) js)

          go : {o' : Effect State} → GoesIf (Consistent d (puts ++ vars l) (poss ++ ps) (length puts)) o o'
              → Ended d ls js (puts ++ vars l) (poss ++ ps) A.state.chosen o' → Ended d (l ∷ ls) (j ∷ js) puts poss s.chosen o
          go (refuted n g) h = mismatch (λ F N. n (fits_first ps f F).0) g
          go (holds c g) (succeeds F N t h q p) = succeeds (fits_also f c F) (rw chosen_now at N) t (g ∙ h) (q ∙ chosen_now) p
          go (holds c g) (mismatch n h) = mismatch (λ F N. n (fits_first ps f F).1 (rw chosen_now N)) (g ∙ h)

      literal_ends : (from : ℕ) → Ended d (l ∷ ls) (j ∷ js) puts poss s.chosen (run d (sequence_from (l ++ flatten ls) ended puts from n) (j ∷ js) s)
      literal_ends from = go (used j s.chosen) refl
        where
          go : (b : Bool) → used j s.chosen ≡ b
              → Ended d (l ∷ ls) (j ∷ js) puts poss s.chosen (run d (sequence_from (l ++ flatten ls) ended puts from n) (j ∷ js) s)
          go true u = mismatch (λ F N. differ_used s.chosen j js u N) (literal_used from u)
          go false u = ended_from (literal_starts from u) (literal_goes u _ _ refl literal_reached)

  pub run_literals : (ls : List (List ℕ)) → Runs ls
  unfolding flatten sequence_from places
  run_literals [] [] L J e puts poss from n s B =
      let (c, h) = B.placed refl in
      succeeds fits_none (rw append-nil B.differ) s (run_success d [] s c h) (sym (append-nil s.chosen)) B.stored
  run_literals [] (j ∷ js) L J e puts poss from n s B = absurd (omega arith)
  run_literals (l ∷ ls) [] L J e puts poss from n s B = absurd (omega arith)
  run_literals (l ∷ ls) (j ∷ js) (also L Ls) (also J Js) e puts poss from n s B =
      literal_ends l ls j js puts poss n s L J B (run_literals ls) Ls Js (omega arith) from
