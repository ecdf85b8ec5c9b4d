-- The walk along a row: what holds at each word that the loop over siblings meets.
use Prim.Native.Nat.{ℕ, zero, suc, ◌+◌, ◌-◌, ◌*◌, ◌/◌, ◌%◌, ◌^◌, ◌≤◌, ◌<◌}
use mathlib.Core.Path.{◌≡◌, refl, sym, ap, ◌∙◌}
use mathlib.Core.Logic.{◌⊎◌, inl, inr, ⊎_elim}
use mathlib.Core.Bool.{Bool, true, false, cond}
use mathlib.Core.Option.{Option, none, some, none-ne-some}
use mathlib.Core.List.{List}
use native.Mathlib.Omega.{arith}
use native.Mathlib.Decide.{ℕ_discrete}
use lib.Dec.{ltb}
use lib.ListN.{length, get_or, take, drop, length-take, length-drop}
use lib.Seq.{take_all}
use borrow.Author.Tests.{ne_eqb, ltb-true}
use Rattle.clause.specs.Clause.{literals, max_literals}
use Rattle.clause.proofs.Literals.{accepted, some_literal}
use Rattle.machine.specs.Instr.{Instr, First, Do, Success, instr_of}
use Rattle.machine.specs.Machine.{State, Effect, next, fails, stuck, enter, step, finish}
use Rattle.machine.specs.Inner.Safe.{Safe}
use Rattle.machine.proofs.Safe.{step_safe, Leaves, step_leaves}
use Rattle.tree.specs.Laid.{key_of, extent_of}
use Rattle.walk.specs.Walk.{Answer, covered, not_covered, spent, broken, Part, and_then, attempt, tries, up_to}
use Rattle.walk.specs.Words.{extends, walk_words}
use Rattle.walk.specs.Query.{machine}
use Rattle.cells.specs.Inner.Cells.{cell_count, no_position, HasPlace, above_of, entered, position_in, state_of, Walkable}
use Rattle.stepping.specs.Inner.Visits.{Met, bad, firsts, below, stepped, reached, met_as, meeting, met_of, head_of, undo_of}
use Rattle.cells.specs.Inner.Cells.{unwound, restored, wanted_at, Skipped}
use Rattle.stepping.specs.Inner.Visits.{Visited}
use Rattle.walking.specs.Inner.Findings.{Walked}
use Rattle.stepping.specs.declared.Visit.{Visit}
use Rattle.stepping.specs.declared.Visit.TheVariants.{Fails, Stuck, Hit, Tries, Below, Stored}
use Rattle.std.specs.Prelude.{Ok, Err}
use Rattle.walking.specs.declared.End.{End}
use Rattle.cells.proofs.Rows.{row_end}
use Rattle.stepping.proofs.Undoing.{undoable_size, undoable_count, undoable_small, undoable_some, undoable_none, restored_undoable}
use Rattle.walking.proofs.Nodes.{extends_within, going_on, meets}
use Rattle.cells.proofs.Places.{place_none, place_some, unwound_none, unwound_traced, few_words}
use Rattle.stepping.proofs.Visits.{head_some, chosen_length}
use Rattle.walking.proofs.Passes.{then_none, then_on, then_ends, missed_of}

-- a step that goes below leads to a safe state
below_step : (o : Effect State) {t : State} → below t ≡ stepped o → o ≡ next t
unfolding stepped
below_step (next s) e = cc
below_step fails e = cc
below_step stuck e = cc

below_finish : (o : Effect State) {t : State} → below t ≡ reached o → ⊥
unfolding reached
below_finish (next s) e = cc
below_finish fails e = cc
below_finish stuck e = cc

firsts_step : (o : Effect State) {t : State} → firsts t ≡ stepped o → ⊥
unfolding stepped
firsts_step (next s) e = cc
firsts_step fails e = cc
firsts_step stuck e = cc

firsts_finish : (o : Effect State) {t : State} → firsts t ≡ reached o → ⊥
unfolding reached
firsts_finish (next s) e = cc
firsts_finish fails e = cc
firsts_finish stuck e = cc

module _ (d : List ℕ) (s t : State) where
  below_by : {P : Type 0} (o : Option Instr) → ((x : _) → step d x s ≡ next t → P) → below t ≡ met_as d o s → P
  unfolding met_as
  below_by none f e = cc
  below_by {P} (some First) f e = go (ltb (length s.chosen) max_literals) e
    where
      go : (b : Bool) → below t ≡ cond b (firsts s) bad → P
      go true e = cc
      go false e = cc
  below_by (some (Do x)) f e = f x (below_step (step d x s) e)
  below_by (some (Success n)) f e = absurd (below_finish (finish s) e)

  firsts_same : (o : Option Instr) → firsts t ≡ met_as d o s → (t ≡ s) × (length s.chosen < max_literals)
  unfolding met_as
  firsts_same none e = cc
  firsts_same (some First) e = go (ltb (length s.chosen) max_literals) refl e
    where
      go : (b : Bool) → ltb (length s.chosen) max_literals ≡ b → firsts t ≡ cond b (firsts s) bad → (t ≡ s) × (length s.chosen < max_literals)
      go true f e = (cc, ltb-true (length s.chosen) max_literals f)
      go false f e = cc
  firsts_same (some (Do x)) e = absurd (firsts_step (step d x s) e)
  firsts_same (some (Success n)) e = absurd (firsts_finish (finish s) e)

-- what a word comes to is broken where its extent is wrong
bad_stuck : (v : Visit) (s : State) → met_of v s ≡ bad → v ≡ Stuck
unfolding met_of
bad_stuck Fails s e = cc
bad_stuck Stuck s e = refl
bad_stuck Hit s e = cc
bad_stuck Tries s e = cc
bad_stuck (Below x) s e = cc
bad_stuck (Stored x u) s e = cc

module _ (d : List ℕ) (w room : ℕ) (s : State) where
  fits_met : {m : Met} → meeting d w room s ≡ m → (m ≡ bad → ⊥) → (extends w (room - 1) ≡ true) × (met_as d (instr_of (key_of w)) s ≡ m)
  unfolding meeting
  fits_met {m} e n = go (extends w (room - 1)) refl
    where
      go : (b : Bool) → extends w (room - 1) ≡ b → (extends w (room - 1) ≡ true) × (met_as d (instr_of (key_of w)) s ≡ m)
      go true f = (f, rw f at e)
      go false f = absurd (n (sym (rw f at e)))

below≢stuck : {x : ℕ} → Below x ≡ Stuck → ⊥
below≢stuck e = cc

stored≢stuck : {x u : ℕ} → Stored x u ≡ Stuck → ⊥
stored≢stuck e = cc

fails≢stuck : Fails ≡ Stuck → ⊥
fails≢stuck e = cc

tries≢stuck : Tries ≡ Stuck → ⊥
tries≢stuck e = cc

-- a visit that goes on below at a head, with a store or without
abbrev pub Lower : Visit → ℕ → Type 0
Lower v x = (v ≡ Below x) ⊎ ((u : ℕ) × (v ≡ Stored x u))

lower≢stuck : {v : Visit} {x : ℕ} → Lower v x → v ≡ Stuck → ⊥
lower≢stuck l f = ⊎_elim (λ e. below≢stuck (sym e ∙ f)) (λ e. stored≢stuck (sym e.1 ∙ f)) l

lower_met : {v : Visit} {x : ℕ} (s : State) → Lower v x → met_of v s ≡ below s
unfolding met_of
lower_met s l = ⊎_elim (λ e. rw e) (λ e. rw e.1) l

lower_head : {v : Visit} {x : ℕ} (h : ℕ) → Lower v x → head_of h v ≡ x
lower_head h l = ⊎_elim (λ e. rw e) (λ e. rw e.1) l

-- what a call below is handed, by the visit: the head, or none below a First, and the undo
abbrev pub Onward : Visit → ℕ × ℕ → Type 0
Onward v p = (((v ≡ Tries) × (p.0 ≡ no_position)) ⊎ Lower v p.0) × (p.1 ≡ undo_of v)

module _ {v : Visit} {p : ℕ × ℕ} where
  pub onward_tries : v ≡ Tries → p ≡ (no_position, 0) → Onward v p
  onward_tries e f = rw (e, f) (inl (refl, refl), refl)

  pub onward_below : {x : ℕ} → v ≡ Below x → p ≡ (x, 0) → Onward v p
  onward_below e f = rw (e, f) (inr (inl refl), refl)

  pub onward_stored : {x u : ℕ} → v ≡ Stored x u → p ≡ (x, u) → Onward v p
  onward_stored {u = u} e f = rw (e, f) (inr (inr (u, refl)), refl)

-- the visit of a word by a ready state
module _ (d t : List ℕ) (h : ℕ) (l : List ℕ) (R : Walkable d t h l) (w room : ℕ) (some-room : 1 ≤ room)
    (m : List ℕ) (v : Visit) (met : Visited h (meeting d w room (state_of h l)) l m v) where
  met_fits : (v ≡ Stuck → ⊥) → (extends w (room - 1) ≡ true) × (met_as d (instr_of (key_of w)) (state_of h l) ≡ met_of v (state_of (head_of h v) m))
  met_fits n = fits_met d w room (state_of h l) (sym met.comes) (λ e. n (bad_stuck v (state_of (head_of h v) m) e))

  visit_fits : (v ≡ Stuck → ⊥) → (1 ≤ extent_of w) × (extent_of w ≤ room)
  visit_fits n = let e = (met_fits n).0 in let b = extends_within w (room - 1) e in (b.0, omega arith)

  ready_as : (x : ℕ) → Safe d (state_of x m) → Walkable d t x m
  ready_as x S = record { whole = R.whole; tables = R.tables; safe = S; size = undoable_size met.undoable ∙ R.size; few = rw (undoable_count met.undoable) R.few }

  below_met : {x : ℕ} → Lower v x → below (state_of x m) ≡ met_as d (instr_of (key_of w)) (state_of h l)
  below_met g =
      sym ((met_fits (lower≢stuck g)).1 ∙ lower_met (state_of (head_of h v) m) g ∙ ap (λ (y : ℕ). below (state_of y m)) (lower_head h g))

  pub visit_below : {x : ℕ} → Lower v x → Walkable d t x m
  visit_below {x} g =
      ready_as x (below_by d (state_of h l) (state_of x m) (instr_of (key_of w)) (λ y e. step_safe d (accepted d R.whole) (state_of h l) R.safe y e) (below_met g))

  -- the head stands in the query
  pub visit_inside : {x : ℕ} → Lower v x → x < length d
  visit_inside {x} g =
      let s = state_of h l in
      let L = below_by d s (state_of x m) {P = Leaves s (state_of x m)} (instr_of (key_of w)) (λ y f. step_leaves d s y f) (below_met g) in
      go L.position L.there (ℕ_discrete x no_position)
    where
      go : (q : ℕ) → position_in x ≡ some q → Dec (x ≡ no_position) → x < length d
      go q e (yes z) = absurd (none-ne-some q (sym (place_none z) ∙ e))
      go q e (no n) = (visit_below g).safe.head x (place_some n)

  pub visit_tries : v ≡ Tries → Walkable d t h m × (HasPlace m)
  unfolding met_of
  visit_tries e =
      let f = (met_fits (λ z. tries≢stuck (sym e ∙ z))).1 in
      let g = firsts_same d (state_of h l) (state_of h m) (instr_of (key_of w)) (sym (rw e at f)) in
      let few : HasPlace l = rw (chosen_length d t h l R) at g.1 in
      (ready_as h (rw g.0 R.safe), rw (undoable_count met.undoable) few)

-- without a head the state is as ready
headless : (d t : List ℕ) (h : ℕ) (l : List ℕ) → Walkable d t h l → Walkable d t no_position l
headless d t h l R =
    record {
      whole = R.whole;
      tables = R.tables;
      safe = record { chosen = R.safe.chosen; head = λ p e. absurd (none-ne-some p (sym (place_none refl) ∙ e)); puts = R.safe.puts; pushes = R.safe.pushes };
      size = R.size;
      few = R.few;
    }

-- what follows an answer alike
then_alike : (a : Answer State) (k l : Part State) → ((c : ℕ) → k c ≡ l c) → and_then a k ≡ and_then a l
then_alike (covered n s c) k l e = refl
then_alike (not_covered c) k l e = e c
then_alike spent k l e = refl
then_alike broken k l e = refl

-- the candidates of a First do not depend on the head
tries_head :
    (d : List ℕ) (b : ℕ) (k : State → Part State) (h : ℕ) (l : List ℕ) (m j n : ℕ)
    → tries (machine d) (up_to b) k (state_of h l) m j n ≡ tries (machine d) (up_to b) k (state_of no_position l) m j n
unfolding enter
tries_head d b k h l zero j n = refl
tries_head d b k h l (suc m) j n =
    then_alike (attempt (up_to b) (enter d j (state_of no_position l)) k n)
    (tries (machine d) (up_to b) k (state_of h l) m (suc j))
    (tries (machine d) (up_to b) k (state_of no_position l) m (suc j))
    (tries_head d b k h l m (suc j))

-- past the Checks that fail
pub passing : (d t : List ℕ) (b h : ℕ) (l : List ℕ) → Walkable d t h l → h < length d → (words : List ℕ) (at wanted n : ℕ) → wanted ≡ wanted_at d h
    → {r : ℕ} → Skipped words at wanted r
    → walk_words (machine d) (up_to b) (drop at words) (state_of h l) n ≡ walk_words (machine d) (up_to b) (drop r words) (state_of h l) n
unfolding wanted_at
passing d t b h l R g words at wanted n e {r} P = P.same d (up_to b) (state_of h l) h n (head_some d t h l R g) e

-- the words of a row from a place on, as the code parts them
abbrev pub tail : ℕ → List ℕ → List ℕ
tail a l = take (length l - a) (drop a l)

tail_drop : (a : ℕ) (l : List ℕ) → tail a l ≡ drop a l
tail_drop a l = take_all (length l - a) (drop a l) (simp length-drop (omega arith))

pub tail_less : (a : ℕ) (l : List ℕ) → 1 ≤ a → a ≤ length l → length (tail a l) < length l
tail_less a l g h = simp (length-take, length-drop) (omega arith)

tail_le : (a : ℕ) (l : List ℕ) {n : ℕ} → length l ≤ n → length (tail a l) ≤ n
tail_le a l h = simp (length-take, length-drop) (omega arith)

-- at the words `rest` of a row: the state in the cells, the way back to the cells at the row's beginning,
-- and that the walk of the row from its beginning is the walk from here on
pub record Walking (d t words : List ℕ) (b : ℕ) (s : State) (n₀ : ℕ) (cells₀ cells : List ℕ) (n here trail : ℕ) (rest : List ℕ) : Type 0 where
  pub shorter : length rest ≤ length words
  pub ready : Walkable d t here cells
  pub undo : unwound trail cells ≡ cells₀
  pub same : walk_words (machine d) (up_to b) words s n₀ ≡ walk_words (machine d) (up_to b) rest (state_of here cells) n

pub walking_start : {d t words : List ℕ} {b h : ℕ} {l : List ℕ} → Walkable d t h l → h < length d → {n wanted : ℕ} → wanted ≡ wanted_at d h → {r : ℕ} → Skipped words 0 wanted r
    → Walking d t words b (state_of h l) n l l n h 0 (tail r words)
walking_start {d} {t} {words} {b} {h} {l} R g {n} {wanted} e {r} P =
    record { shorter = tail_le r words (omega arith); ready = R; undo = unwound_none l; same = passing d t b h l R g words 0 wanted n e P ∙ rw (tail_drop r words) }

pub walking_whole : (d t words : List ℕ) (b h : ℕ) (l : List ℕ) → Walkable d t h l → (n : ℕ) → Walking d t words b (state_of h l) n l l n h 0 words
walking_whole d t words b h l R n = record { shorter = omega arith; ready = R; undo = unwound_none l; same = refl }

-- the end of a row
pub walking_end : {d t words : List ℕ} {b : ℕ} {s : State} {n₀ : ℕ} {cells₀ cells : List ℕ} {n here trail : ℕ} {rest : List ℕ}
    → Walking d t words b s n₀ cells₀ cells n here trail rest → length rest ≤ 0 → walk_words (machine d) (up_to b) words s n₀ ≡ not_covered n
walking_end {d = d} {b = b} {cells = cells} {n = n} {here = here} {rest = rest} W h = W.same ∙ row_end (machine d) (up_to b) rest 0 (state_of here cells) n h

-- a word that is met: the walk stands before it, and what its visit gives
pub record Meeting (d t words : List ℕ) (b : ℕ) (s : State) (n₀ : ℕ) (cells₀ cells : List ℕ) (n here trail : ℕ) (rest : List ℕ) (x : ℕ) (m : List ℕ) (v : Visit) : Type 0 where
  pub walking : Walking d t words b s n₀ cells₀ cells n here trail rest
  pub some_words : 0 < length rest
  pub extent : x ≡ extent_of (get_or rest 0 0)
  pub visited : Visited here (meeting d (get_or rest 0 0) (length rest) (state_of here cells)) cells m v

module _ {d t words : List ℕ} {b : ℕ} {s : State} {n₀ : ℕ} {cells₀ cells : List ℕ} {n here trail : ℕ} {rest : List ℕ} {x : ℕ} {m : List ℕ} {v : Visit}
    (M : Meeting d t words b s n₀ cells₀ cells n here trail rest x m v) where
  W : Walking d t words b s n₀ cells₀ cells n here trail rest
  W = M.walking

  h : 0 < length rest
  h = M.some_words

  met : Visited here (meeting d (get_or rest 0 0) (length rest) (state_of here cells)) cells m v
  met = M.visited

  abbrev part : State → Part State
  part = walk_words (machine d) (up_to b) (take (x - 1) (drop 1 rest))

  abbrev after : Part State
  after = walk_words (machine d) (up_to b) (drop x rest) (state_of here cells)

  node : walk_words (machine d) (up_to b) words s n₀ ≡ and_then (going_on d b (get_or rest 0 0 / 2 ^ 28 % 2 ^ 32) (met_of v (state_of (head_of here v) m)) part n) after
  node =
      let l = some_literal d (accepted d W.ready.whole) in
      let q : length (literals d) ≡ suc (length (literals d) - 1) = omega arith in
      W.same ∙ meets d b rest h (state_of here cells) n (length (literals d) - 1) q x M.extent ∙ rw met.comes

  word_fits : (v ≡ Stuck → ⊥) → (1 ≤ x) × (x ≤ length rest)
  word_fits ns = let f = visit_fits d t here cells W.ready (get_or rest 0 0) (length rest) h m v met ns in (omega (arith, M.extent), omega (arith, M.extent))

  pub fits_fails : v ≡ Fails → (1 ≤ x) × (x ≤ length rest)
  fits_fails g = word_fits (λ z. fails≢stuck (sym g ∙ z))

  pub fits_below : {y : ℕ} → Lower v y → (1 ≤ x) × (x ≤ length rest)
  fits_below g = word_fits (lower≢stuck g)

  pub fits_tries : v ≡ Tries → (1 ≤ x) × (x ≤ length rest)
  fits_tries g = word_fits (λ z. tries≢stuck (sym g ∙ z))

  -- a broken word
  pub node_stuck : v ≡ Stuck → walk_words (machine d) (up_to b) words s n₀ ≡ broken
  unfolding met_of going_on
  node_stuck g = node ∙ rw g

  -- a Success
  pub node_hit : v ≡ Hit → walk_words (machine d) (up_to b) words s n₀ ≡ covered (get_or rest 0 0 / 2 ^ 28 % 2 ^ 32) (state_of here m) n
  unfolding met_of going_on
  node_hit g = node ∙ rw g

  -- a word that fails
  pub node_fails : v ≡ Fails → Walking d t words b s n₀ cells₀ m n here trail (tail x rest)
  unfolding met_of going_on
  node_fails g =
      let c : m ≡ cells = undoable_none met.undoable (rw g) in
      let f : walk_words (machine d) (up_to b) words s n₀ ≡ after n = node ∙ rw g in
      rw c (record { shorter = tail_le x rest W.shorter; ready = W.ready; undo = W.undo; same = f ∙ rw (tail_drop x rest) })

  -- the last word of a row: what stands below it is the row from here on
  node_on : {y : ℕ} → Lower v y → x ≡ length rest → (to : ℕ) → unwound to m ≡ unwound trail cells → Walking d t words b s n₀ cells₀ m n y to (tail 1 rest)
  unfolding going_on
  node_on {y} g last to u =
      let all : take (x - 1) (drop 1 rest) ≡ drop 1 rest = take_all (x - 1) (drop 1 rest) (simp length-drop (omega (arith, h))) in
      let f : walk_words (machine d) (up_to b) words s n₀ ≡ part (state_of y m) n =
      node ∙ rw (lower_met (state_of (head_of here v) m) g, lower_head here g)
      (then_none (part (state_of y m) n) after (λ c. row_end (machine d) (up_to b) rest x (state_of here cells) c (omega arith))) in
      record {
        shorter = tail_le 1 rest W.shorter;
        ready = visit_below d t here cells W.ready (get_or rest 0 0) (length rest) h m v met g;
        undo = u ∙ W.undo;
        same = f ∙ rw (all, tail_drop 1 rest);
      }

  -- it stores nothing
  pub node_plain : {y : ℕ} → v ≡ Below y → x ≡ length rest → Walking d t words b s n₀ cells₀ m n y trail (tail 1 rest)
  node_plain g last = node_on (inl g) last trail (ap (unwound trail) (undoable_none met.undoable (rw g)))

  -- its store goes on the trail
  pub node_last : {y u : ℕ} → v ≡ Stored y u → x ≡ length rest → trail < 2 ^ 48 → {to : ℕ} → to ≡ trail * 2 ^ 16 + u → Walking d t words b s n₀ cells₀ m n y to (tail 1 rest)
  node_last {u = u} g last room {to} tr =
      let U = met.undoable in
      let k : u ≡ undo_of v = rw g in
      node_on (inr (u, g)) last to (rw (tr, k) (unwound_traced trail (undo_of v) m room (undoable_small U) (undoable_some U (rw g)) ∙ rw (restored_undoable U)))

  pub met_size : length m ≡ cell_count
  met_size = undoable_size met.undoable ∙ W.ready.size

  pub node_inside : {y : ℕ} → Lower v y → y < length d
  node_inside = visit_inside d t here cells W.ready (get_or rest 0 0) (length rest) h m v met

  -- a call on the words below: the candidates of a First, which hands on no head, or below any other word
  module _ {to : ℕ} (kind : ((v ≡ Tries) × (to ≡ no_position)) ⊎ Lower v to) where
    pub call_ready : Walkable d t to m × (to ≡ no_position → HasPlace m)
    call_ready =
        ⊎_elim
        (λ k. let f = visit_tries d t here cells W.ready (get_or rest 0 0) (length rest) h m v met k.0 in (rw k.1 (headless d t here m f.0), λ _. f.1))
        (λ k. (
          visit_below d t here cells W.ready (get_or rest 0 0) (length rest) h m v met k,
          λ z. absurd (omega (arith, node_inside {y = to} k, few_words W.ready)),
        ))
        kind

    pub call_fits : (1 ≤ x) × (x ≤ length rest)
    call_fits = ⊎_elim (λ k. fits_tries k.0) (λ k. fits_below k) kind

    called_as : going_on d b (get_or rest 0 0 / 2 ^ 28 % 2 ^ 32) (met_of v (state_of (head_of here v) m)) part n ≡ entered d b (above_of to) part (state_of to m) n
    unfolding met_of going_on above_of entered
    called_as =
        ⊎_elim
        (λ k. rw (k.0, k.1) (tries_head d b part here m (length (literals d)) 0 n))
        (λ (k : Lower v to).
        let i = node_inside k in
        rw (lower_met (state_of (head_of here v) m) k, lower_head here k, ne_eqb to no_position (λ z. omega (arith, i, few_words W.ready))))
        kind

    node_call : walk_words (machine d) (up_to b) words s n₀ ≡ and_then (entered d b (above_of to) part (state_of to m) n) after
    node_call = node ∙ ap (λ (a : Answer State). and_then a after) called_as

    module _ {out : List ℕ} where
      pub node_ends : {e : End} → Walked (entered d b (above_of to) part (state_of to m) n) m out (Err e)
          → walk_words (machine d) (up_to b) words s n₀ ≡ entered d b (above_of to) part (state_of to m) n
      node_ends {e} w = node_call ∙ then_ends (entered d b (above_of to) part (state_of to m) n) after e out w.comes

      module _ {c : ℕ} (w : Walked (entered d b (above_of to) part (state_of to m) n) m out (Ok c)) {u : ℕ} (k : u ≡ undo_of v) where
        node_back : restored u out ≡ cells
        node_back = rw k (ap (restored (undo_of v)) (w.back c refl) ∙ restored_undoable met.undoable)

        -- after a miss the row goes on behind the word
        pub node_next : {l : List ℕ} → l ≡ restored u out → Walking d t words b s n₀ cells₀ l c here trail (tail x rest)
        node_next f =
            let g : walk_words (machine d) (up_to b) words s n₀ ≡ after c =
            node_call ∙ then_on after (missed_of (entered d b (above_of to) part (state_of to m) n) c out w.comes) in
            rw (f ∙ node_back) (record { shorter = tail_le x rest W.shorter; ready = W.ready; undo = W.undo; same = g ∙ rw (tail_drop x rest) })

        -- and past the Checks that fail there
        pub node_missed : here < length d → {key : ℕ} → key ≡ wanted_at d here → {p : ℕ} → Skipped rest x key p → {l : List ℕ} → l ≡ restored u out
            → Walking d t words b s n₀ cells₀ l c here trail (tail p rest)
        node_missed i {key} z {p} P {l} f =
            let N = node_next f in
            let g : walk_words (machine d) (up_to b) (tail x rest) (state_of here l) c ≡ walk_words (machine d) (up_to b) (tail p rest) (state_of here l) c =
            rw (tail_drop x rest, tail_drop p rest) (passing d t b here l N.ready i rest x key c z P) in
            record { shorter = tail_le p rest W.shorter; ready = N.ready; undo = N.undo; same = N.same ∙ g }
