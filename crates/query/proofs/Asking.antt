-- The query by the tests of the code, and its walk from the state before the first candidate.
use Rattle.std.specs.Prelude.{Err, Ok, Result, ℕ}
use Prim.Native.Nat.{ℕ, ◌+◌, ◌-◌, ◌≤◌, ◌<◌}
use mathlib.Core.Path.{◌≡◌, refl, sym, ap, ◌∙◌}
use mathlib.Core.Bool.{Bool, true, false}
use mathlib.Core.List.{List, [], ◌∷◌}
use native.Mathlib.Omega.{arith}
use lib.Dec.{T, leb→le}
use lib.ListN.{length, get_or, take, drop, set, replicate, length-replicate}
use borrow.Author.Tests.{lt-ltb, le-ltb}
use Rattle.clause.specs.Clause.{Accepted, shape}
use Rattle.clause.proofs.Tests.{and_l, and_r}
use Rattle.clause.specs.declared.Fault.{Fault}
use Rattle.machine.specs.Machine.{State, initial, unfilled}
use Rattle.machine.proofs.Safe.{initial_safe}
use Rattle.tree.specs.declared.Refusal.{Refusal}
use Rattle.tree.specs.declared.Refusal.TheVariants.{BadSlice, Broken, BadClause, ShortWitness}
use Rattle.tree.specs.Laid.{used_of, region, sized, well_laid}
use Rattle.tree.proofs.Grow.{sized_low, laid_room}
use Rattle.walk.specs.declared.Verdict.{Verdict}
use Rattle.walk.specs.Walk.{Answer, covered, not_covered, spent, broken, up_to}
use Rattle.walk.specs.Words.{walk_words}
use Rattle.walk.specs.Query.{witness_words, machine, Asked, unanswered, answer_by, walk_slice, query_as, query}
use Rattle.cells.specs.Inner.Cells.{count_at, cell_count, no_position, position_in, placed, state_of, Tables, Walkable}
use Rattle.walking.specs.Inner.Findings.{Out, seen}
use Rattle.query.specs.Inner.Telling.{told_out}

-- the cells before the first candidate
abbrev pub fresh : List ℕ
fresh = set (replicate cell_count no_position) count_at 0

fresh_state : state_of no_position fresh ≡ initial
unfolding position_in placed unfilled
fresh_state = refl

pub fresh_ready : {d t : List ℕ} → Accepted d → Tables d t → Walkable d t no_position fresh
fresh_ready {d} A T = record { whole = A; tables = T; safe = rw fresh_state (initial_safe d); size = refl; few = omega arith }

-- what an answer comes to is what comes of what is seen of it
told_seen : (b : ℕ) (W : List ℕ) (a : Answer State) → told_out b W (seen a) ≡ answer_by b W a
unfolding told_out seen
told_seen b W (covered n s c) = refl
told_seen b W (not_covered c) = refl
told_seen b W spent = refl
told_seen b W broken = refl

-- the part that the used words make up
pub used_part : (T : List ℕ) → 1 ≤ length T → {e : ℕ} → e ≡ used_of (get_or T 0 0) + 1 → take (e - 1) (drop 1 T) ≡ region T
unfolding region
used_part [] h e = absurd (omega arith)
used_part (w ∷ ws) h {e} f = let n : e - 1 ≡ used_of w = omega arith in rw n

pub searched : (T d : List ℕ) (b : ℕ) (W : List ℕ) → 1 ≤ length T → {e : ℕ} → e ≡ used_of (get_or T 0 0) + 1
    → told_out b W (seen (walk_words (machine d) (up_to b) (take (e - 1) (drop 1 T)) (state_of no_position fresh) 0)) ≡ answer_by b W (walk_slice T d b)
searched T d b W h f = rw (used_part T h f, fresh_state) (told_seen b W (walk_slice T d b))

-- the tests one after another
module _ (S d : List ℕ) (b : ℕ) (W : List ℕ) where
  pub query_unsized : {f : Bool} → f ≡ sized S → f ≡ false → unanswered BadSlice W ≡ query S d b W
  unfolding query
  query_unsized e n = rw (sym e ∙ n)

  module _ {f : Bool} (size : f ≡ sized S) (good : f ≡ true) where
    query_sized : query S d b W ≡ query_as (shape d) S d b W
    unfolding query
    query_sized = rw (sym size ∙ good)

    pub some_words : 2 ≤ length S
    some_words = let t : T (sized S) = rw (sym size ∙ good) tt in leb→le 2 (length S) (search (and_l, and_r))

    pub query_fault : {s : Result ℕ Fault} {f : Fault} {r : Result Verdict Refusal} → s ≡ Err f → s ≡ shape d → r ≡ Err (BadClause f)
        → record { answer = r; witness = W } ≡ query S d b W
    query_fault g h e = rw (query_sized, e, sym h ∙ g)

    module _ {n : ℕ} (whole : shape d ≡ Ok n) where
      pub query_witness : length W < witness_words → unanswered ShortWitness W ≡ query S d b W
      query_witness h = rw (query_sized, whole, lt-ltb (length W) witness_words h)

      module _ (room : witness_words ≤ length W) where
        pub query_header : {u : ℕ} → u ≡ used_of (get_or S 0 0) → length S - 1 < u → unanswered Broken W ≡ query S d b W
        query_header e h = rw (query_sized, whole, le-ltb (length W) witness_words room, lt-ltb (length S - 1) (used_of (get_or S 0 0)) (omega arith))

        pub query_walk : {u : ℕ} → u ≡ used_of (get_or S 0 0) → u ≤ length S - 1 → answer_by b W (walk_slice S d b) ≡ query S d b W
        query_walk e h = rw (query_sized, whole, le-ltb (length W) witness_words room, le-ltb (length S - 1) (used_of (get_or S 0 0)) (omega arith))

-- an accepted clause on a well-laid slice passes all tests
pub decided : (T d : List ℕ) (b : ℕ) → sized T ≡ true → well_laid T ≡ true → Accepted d → {e : ℕ} → e ≡ used_of (get_or T 0 0) + 1
    → {o : Out} → o ≡ seen (walk_words (machine d) (up_to b) (take (e - 1) (drop 1 T)) (state_of no_position fresh) 0)
    → {r : Result Verdict Refusal} → r ≡ (told_out b (replicate witness_words 0) o).answer → r ≡ (query T d b (replicate witness_words 0)).answer
decided T d b s l A e f g =
    let W : List ℕ = replicate witness_words 0 in
    let low = sized_low T s in
    let long : witness_words ≤ length W = rw (length-replicate {A = ℕ} witness_words 0) (omega arith) in
    g ∙ ap (λ (x : Out). (told_out b W x).answer) f
    ∙ ap (λ (x : Asked). x.answer)
    (searched T d b W (omega arith) e ∙ query_walk T d b W (sym s) refl A.1 long refl (omega (arith, laid_room T l)))
