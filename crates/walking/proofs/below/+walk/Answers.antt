-- `walk` meets its contract. Over the passes the invariant is `Between`, along a row `Walking`.
use mathlib.Core.Path.{◌≡◌, sym, ◌∙◌}
use mathlib.Core.Logic.{◌⊎◌, inl, inr}
use mathlib.Core.List.{List}
use mathlib.Core.Bool.{false}
use Prim.Native.Nat.{ℕ, ◌+◌, ◌%◌, ◌<◌, min}
use native.Mathlib.Omega.{arith}
use lib.ListN.{length, get_or, length-take, length-drop}
use Rattle.machine.specs.Machine.{State}
use Rattle.tree.specs.Laid.{extent_of}
use Rattle.clause.specs.Clause.{max_literals}
use Rattle.clause.specs.Inner.Tables.{at_count}
use Rattle.cells.specs.Inner.Cells.{no_position, HasPlace, Walkable, state_of}
use Rattle.cells.specs.Inner.Cells.{use_limit, has_bit, uses_of, saved_byte, above_of, reserved, candidate, kept_in, pass_head, passes_of}
use Rattle.cells.specs.declared.Above.{Above}
use Rattle.cells.specs.declared.Above.TheVariants.{First, Step}
use Rattle.stepping.specs.Inner.Visits.{meeting, Visited}
use Rattle.stepping.specs.declared.Visit.{Visit}
use Rattle.walking.proofs.Walking.{Walking, Meeting, Onward, onward_tries, onward_below, onward_stored, tail_less, walking_start, walking_end, met_size}
use Rattle.walking.proofs.Walking.{node_stuck, node_hit, node_fails, node_plain, node_last, node_inside}
use Rattle.walking.proofs.Walking.{node_ends, node_missed, fits_fails, call_fits, call_ready}
use Rattle.walking.proofs.Turns.{few_passes, small, walkable_literals, Entry, Between, Begun, first_few, entry_start}
use Rattle.walking.proofs.Turns.{between_size, between_room, between_literal, between_over, between_ends, between_spent}
use Rattle.walking.proofs.Turns.{begun_ready, pass_missed, pass_broken, pass_found, pass_ends}
use Rattle.tree.proofs.Refused.{refusal_in}
use Rattle.walking.proofs.below.+walk.Goals as goal
use Rattle.walking.proofs.below.+walk.Goals.{in-First+else-in_use+else-n-budget, in_default}
use Rattle.walking.proofs.below.+walk.Goals.{in-Tries, in-Below+else-size-rest, in-Stored+else-size-rest-2}

-- the node is entered, and no more literals are gone through than a clause may have
entry :
    {d t l l₁ : List ℕ} {h many last saved : ℕ} {above : Above} (words : List ℕ) (b n₀ : ℕ)
    → Walkable d t h l × (h ≡ no_position → HasPlace l) → above ≡ above_of h → many ≡ passes_of above (get_or t at_count 0) → last ≡ min many max_literals
    → (saved % use_limit ≡ uses_of above l) × (saved_byte saved ≡ kept_in above l) × (l₁ ≡ reserved above l)
    → Entry d t words b h l n₀ above last saved l₁
entry words b n₀ p of passes few r =
    record {
      ready = p.0;
      room = p.1;
      by_head = of;
      times = few_passes _ p.0 passes few;
      uses = r.0;
      keeps = r.1;
      reserves = r.2;
    }

-- a pass begins
begun :
    {d t words l l₁ cells out : List ℕ} {b h n₀ last saved n j here : ℕ} {above : Above} (n₁ : ℕ)
    → Entry d t words b h l n₀ above last saved l₁ → Between d words b h n₀ above last saved l₁ cells n j → j < last
    → ((above ≡ First) × (has_bit saved j ≡ false) × (n < b) × (n₁ ≡ n + 1)) ⊎ ((above ≡ Step) × (n₁ ≡ n))
    → (here ≡ pass_head d above h j) × (out ≡ candidate above j cells)
    → Begun d t words b h l n₀ above last saved l₁ cells n j n₁ here out
begun n₁ e p more counted r =
    record { entry = e; between = p; more = more; counted = counted; head = r.0; stored = r.1 }

-- a word is met
word :
    {d t words cells₀ cells rest m : List ℕ} {b n₀ n here trail x : ℕ} {s : State} {v : Visit}
    → Walking d t words b s n₀ cells₀ cells n here trail rest → 0 < length rest → x ≡ extent_of (get_or rest 0 0)
    → Visited here (meeting d (get_or rest 0 0) (length rest) (state_of here cells)) cells m v
    → Meeting d t words b s n₀ cells₀ cells n here trail rest x m v
word w some extent visited = record { walking = w; some_words = some; extent = extent; visited = visited }

pub reserve-saved-requires : goal.reserve-saved-requires
reserve-saved-requires t c =
    (c.requires.0.size, walkable_literals c.requires.0, first_few c.args.head c.args.cells.now c.requires.1 c.of-above.ensures)

pub loop-j-init : goal.loop-j-init
loop-j-init t c =
    let e = entry c.args.words.now c.args.budget c.args.count c.requires c.of-above.ensures c.passes.ensures c.min-j-end.ensures c.reserve-saved.ensures in
    entry_start e

pub release-requires : goal.release-requires
release-requires t c =
    let e = entry c.args.words.now c.args.budget c.args.count c.requires c.of-above.ensures c.passes.ensures c.min-j-end.ensures c.reserve-saved.ensures in
    (between_size e c.loop-j.invariant, between_room e c.loop-j.invariant)

pub in_use-requires : goal.in_use-requires
in_use-requires t c =
    let e = entry c.args.words.now c.args.budget c.args.count c.requires c.of-above.ensures c.passes.ensures c.min-j-end.ensures c.reserve-saved.ensures in
    small e c.loop-j-test.true c.in-First.is

pub loop-j-preserved-then-in_use : goal.loop-j-preserved-then-in_use
loop-j-preserved-then-in_use t c =
    let e = entry c.args.words.now c.args.budget c.args.count c.requires c.of-above.ensures c.passes.ensures c.min-j-end.ensures c.reserve-saved.ensures in
    between_over e c.loop-j.invariant c.in-First.is c.loop-j-test.true (sym c.in_use.ensures ∙ c.if-in_use.true)

pub begin-here-requires : goal.begin-here-requires
begin-here-requires t c =
    let e = entry c.args.words.now c.args.budget c.args.count c.requires c.of-above.ensures c.passes.ensures c.min-j-end.ensures c.reserve-saved.ensures in
    (e.ready.whole, e.ready.tables, between_size e c.loop-j.invariant, between_literal e c.loop-j.invariant c.loop-j-test.true)

pub wanted-requires : goal.wanted-requires
wanted-requires t c =
    let e = entry c.args.words.now c.args.budget c.args.count c.requires c.of-above.ensures c.passes.ensures c.min-j-end.ensures c.reserve-saved.ensures in
    let p = begun c.match-above.n e c.loop-j.invariant c.loop-j-test.true
    (elim c.match-above.branch [
      | in-First+else-in_use+else-n-budget w ↦ inl (w.in-First.is, sym w.in_use.ensures ∙ w.if-in_use.false, w.if-n-budget.false, w.n-is)
      | in_default w ↦ inr (w.in_default.is, w.n-is)
    ]) c.begin-here.ensures in
    (begun_ready p).1

pub loop-rest-init : goal.loop-rest-init
loop-rest-init t c =
    let e = entry c.args.words.now c.args.budget c.args.count c.requires c.of-above.ensures c.passes.ensures c.min-j-end.ensures c.reserve-saved.ensures in
    let p = begun c.match-above.n e c.loop-j.invariant c.loop-j-test.true
    (elim c.match-above.branch [
      | in-First+else-in_use+else-n-budget w ↦ inl (w.in-First.is, sym w.in_use.ensures ∙ w.if-in_use.false, w.if-n-budget.false, w.n-is)
      | in_default w ↦ inr (w.in_default.is, w.n-is)
    ]) c.begin-here.ensures in
    let r = begun_ready p in
    (walking_start r.0 r.1 c.wanted.ensures.0 c.skip-left.ensures.1, r.1)

pub slice_bounds-rest-count-in-Fails : goal.slice_bounds-rest-count-in-Fails
slice_bounds-rest-count-in-Fails t c =
    let w = word c.loop-rest.invariant.0 c.loop-rest-test.true c.extent-size.ensures c.meet-visit.ensures in
    (fits_fails w c.in-Fails.is).1

pub slice_bounds-rest-start-in-Fails : goal.slice_bounds-rest-start-in-Fails
slice_bounds-rest-start-in-Fails t c =
    let w = word c.loop-rest.invariant.0 c.loop-rest-test.true c.extent-size.ensures c.meet-visit.ensures in
    (fits_fails w c.in-Fails.is).1

pub loop-rest-smaller-in-Fails : goal.loop-rest-smaller-in-Fails
loop-rest-smaller-in-Fails t c =
    let w = word c.loop-rest.invariant.0 c.loop-rest-test.true c.extent-size.ensures c.meet-visit.ensures in
    let f = fits_fails w c.in-Fails.is in
    tail_less _ c.loop-rest.rest.now f.0 f.1

pub loop-rest-preserved-in-Fails : goal.loop-rest-preserved-in-Fails
loop-rest-preserved-in-Fails t c =
    let w = word c.loop-rest.invariant.0 c.loop-rest-test.true c.extent-size.ensures c.meet-visit.ensures in
    (node_fails w c.in-Fails.is, c.loop-rest.invariant.1)

pub loop-rest-preserved-then-size-rest : goal.loop-rest-preserved-then-size-rest
loop-rest-preserved-then-size-rest t c =
    let w = word c.loop-rest.invariant.0 c.loop-rest-test.true c.extent-size.ensures c.meet-visit.ensures in
    (node_plain w c.in-Below.is c.if-size-rest.true, node_inside w (inl c.in-Below.is))

pub loop-rest-preserved-then-trail-lt-TRAIL : goal.loop-rest-preserved-then-trail-lt-TRAIL
loop-rest-preserved-then-trail-lt-TRAIL t c =
    let w = word c.loop-rest.invariant.0 c.loop-rest-test.true c.extent-size.ensures c.meet-visit.ensures in
    (node_last w c.in-Stored.is c.if-size-rest-2.true c.if-trail-lt-TRAIL.true c.trace-trail.ensures, node_inside w (inr (_, c.in-Stored.is)))

-- what is called lies in the row: the candidates of a First, or the words below any other word
pub slice_bounds-walk-count : goal.slice_bounds-walk-count
slice_bounds-walk-count t c =
    let w = word c.loop-rest.invariant.0 c.loop-rest-test.true c.extent-size.ensures c.meet-visit.ensures in
    let on : Onward c.meet-visit.result c.match-visit.to =
    elim c.match-visit.branch [
      | in-Tries w ↦ onward_tries w.in-Tries.is w.to-is
      | in-Below+else-size-rest w ↦ onward_below w.in-Below.is w.to-is
      | in-Stored+else-size-rest-2 w ↦ onward_stored w.in-Stored.is w.to-is
    ] in
    (call_fits w on.0).0

pub slice_bounds-walk-start : goal.slice_bounds-walk-start
slice_bounds-walk-start t c =
    let w = word c.loop-rest.invariant.0 c.loop-rest-test.true c.extent-size.ensures c.meet-visit.ensures in
    let on : Onward c.meet-visit.result c.match-visit.to =
    elim c.match-visit.branch [
      | in-Tries w ↦ onward_tries w.in-Tries.is w.to-is
      | in-Below+else-size-rest w ↦ onward_below w.in-Below.is w.to-is
      | in-Stored+else-size-rest-2 w ↦ onward_stored w.in-Stored.is w.to-is
    ] in
    (call_fits w on.0).0

pub slice_bounds-walk-end : goal.slice_bounds-walk-end
slice_bounds-walk-end t c =
    let w = word c.loop-rest.invariant.0 c.loop-rest-test.true c.extent-size.ensures c.meet-visit.ensures in
    let on : Onward c.meet-visit.result c.match-visit.to =
    elim c.match-visit.branch [
      | in-Tries w ↦ onward_tries w.in-Tries.is w.to-is
      | in-Below+else-size-rest w ↦ onward_below w.in-Below.is w.to-is
      | in-Stored+else-size-rest-2 w ↦ onward_stored w.in-Stored.is w.to-is
    ] in
    (call_fits w on.0).1

pub walk-found-requires : goal.walk-found-requires
walk-found-requires t c =
    let w = word c.loop-rest.invariant.0 c.loop-rest-test.true c.extent-size.ensures c.meet-visit.ensures in
    let on : Onward c.meet-visit.result c.match-visit.to =
    elim c.match-visit.branch [
      | in-Tries w ↦ onward_tries w.in-Tries.is w.to-is
      | in-Below+else-size-rest w ↦ onward_below w.in-Below.is w.to-is
      | in-Stored+else-size-rest-2 w ↦ onward_stored w.in-Stored.is w.to-is
    ] in
    let f = call_fits w on.0 in
    (simp (length-take, length-drop) (omega (arith, c.decreases, c.loop-rest.invariant.0.shorter, f)), call_ready w on.0)

pub loop-rest-smaller : goal.loop-rest-smaller
loop-rest-smaller t c =
    let w = word c.loop-rest.invariant.0 c.loop-rest-test.true c.extent-size.ensures c.meet-visit.ensures in
    let on : Onward c.meet-visit.result c.match-visit.to =
    elim c.match-visit.branch [
      | in-Tries w ↦ onward_tries w.in-Tries.is w.to-is
      | in-Below+else-size-rest w ↦ onward_below w.in-Below.is w.to-is
      | in-Stored+else-size-rest-2 w ↦ onward_stored w.in-Stored.is w.to-is
    ] in
    let f = call_fits w on.0 in
    let s = c.skip-more.ensures.1 in
    tail_less _ c.loop-rest.rest.now (omega arith) s.inside

pub loop-rest-preserved : goal.loop-rest-preserved
loop-rest-preserved t c =
    let w = word c.loop-rest.invariant.0 c.loop-rest-test.true c.extent-size.ensures c.meet-visit.ensures in
    let on : Onward c.meet-visit.result c.match-visit.to =
    elim c.match-visit.branch [
      | in-Tries w ↦ onward_tries w.in-Tries.is w.to-is
      | in-Below+else-size-rest w ↦ onward_below w.in-Below.is w.to-is
      | in-Stored+else-size-rest-2 w ↦ onward_stored w.in-Stored.is w.to-is
    ] in
    let i = c.loop-rest.invariant.1 in
    (node_missed w on.0 (rw c.in-Ok.is at c.walk-found.ensures) on.1 i c.wanted-in-loop-rest.ensures.0 c.skip-more.ensures.1 c.restore.ensures, i)

pub loop-j-preserved : goal.loop-j-preserved
loop-j-preserved t c =
    let e = entry c.args.words.now c.args.budget c.args.count c.requires c.of-above.ensures c.passes.ensures c.min-j-end.ensures c.reserve-saved.ensures in
    let p = begun c.match-above.n e c.loop-j.invariant c.loop-j-test.true
    (elim c.match-above.branch [
      | in-First+else-in_use+else-n-budget w ↦ inl (w.in-First.is, sym w.in_use.ensures ∙ w.if-in_use.false, w.if-n-budget.false, w.n-is)
      | in_default w ↦ inr (w.in_default.is, w.n-is)
    ]) c.begin-here.ensures in
    let w = c.loop-rest.invariant.0 in
    pass_missed p (walking_end w c.loop-rest-test.false) (c.unwind.ensures ∙ w.undo)

pub returns-after-loop-j : goal.returns-after-loop-j
returns-after-loop-j t c =
    let e = entry c.args.words.now c.args.budget c.args.count c.requires c.of-above.ensures c.passes.ensures c.min-j-end.ensures c.reserve-saved.ensures in
    between_ends e c.loop-j.invariant c.loop-j-test.false c.release.ensures

pub returns-then-n-budget : goal.returns-then-n-budget
returns-then-n-budget t c =
    let e = entry c.args.words.now c.args.budget c.args.count c.requires c.of-above.ensures c.passes.ensures c.min-j-end.ensures c.reserve-saved.ensures in
    between_spent e c.loop-j.invariant c.in-First.is c.loop-j-test.true (sym c.in_use.ensures ∙ c.if-in_use.false) c.if-n-budget.true

pub returns-in-Stuck : goal.returns-in-Stuck
returns-in-Stuck t c =
    let e = entry c.args.words.now c.args.budget c.args.count c.requires c.of-above.ensures c.passes.ensures c.min-j-end.ensures c.reserve-saved.ensures in
    let p = begun c.match-above.n e c.loop-j.invariant c.loop-j-test.true
    (elim c.match-above.branch [
      | in-First+else-in_use+else-n-budget w ↦ inl (w.in-First.is, sym w.in_use.ensures ∙ w.if-in_use.false, w.if-n-budget.false, w.n-is)
      | in_default w ↦ inr (w.in_default.is, w.n-is)
    ]) c.begin-here.ensures in
    let w = word c.loop-rest.invariant.0 c.loop-rest-test.true c.extent-size.ensures c.meet-visit.ensures in
    pass_broken p (met_size w) (node_stuck w c.in-Stuck.is)

pub returns-in-Hit : goal.returns-in-Hit
returns-in-Hit t c =
    let e = entry c.args.words.now c.args.budget c.args.count c.requires c.of-above.ensures c.passes.ensures c.min-j-end.ensures c.reserve-saved.ensures in
    let p = begun c.match-above.n e c.loop-j.invariant c.loop-j-test.true
    (elim c.match-above.branch [
      | in-First+else-in_use+else-n-budget w ↦ inl (w.in-First.is, sym w.in_use.ensures ∙ w.if-in_use.false, w.if-n-budget.false, w.n-is)
      | in_default w ↦ inr (w.in_default.is, w.n-is)
    ]) c.begin-here.ensures in
    let w = word c.loop-rest.invariant.0 c.loop-rest-test.true c.extent-size.ensures c.meet-visit.ensures in
    pass_found p (met_size w) _ (node_hit w c.in-Hit.is) c.operand.ensures

pub returns-in_default-found : goal.returns-in_default-found
returns-in_default-found t c =
    let e = entry c.args.words.now c.args.budget c.args.count c.requires c.of-above.ensures c.passes.ensures c.min-j-end.ensures c.reserve-saved.ensures in
    let p = begun c.match-above.n e c.loop-j.invariant c.loop-j-test.true
    (elim c.match-above.branch [
      | in-First+else-in_use+else-n-budget w ↦ inl (w.in-First.is, sym w.in_use.ensures ∙ w.if-in_use.false, w.if-n-budget.false, w.n-is)
      | in_default w ↦ inr (w.in_default.is, w.n-is)
    ]) c.begin-here.ensures in
    let w = word c.loop-rest.invariant.0 c.loop-rest-test.true c.extent-size.ensures c.meet-visit.ensures in
    let on : Onward c.meet-visit.result c.match-visit.to =
    elim c.match-visit.branch [
      | in-Tries w ↦ onward_tries w.in-Tries.is w.to-is
      | in-Below+else-size-rest w ↦ onward_below w.in-Below.is w.to-is
      | in-Stored+else-size-rest-2 w ↦ onward_stored w.in-Stored.is w.to-is
    ] in
    let r = refusal_in c.walk-found.result c.in_default-found.not-Ok in
    rw r.1 (pass_ends p (met_size w) (node_ends w on.0 (rw r.1 at c.walk-found.ensures)) (rw r.1 at c.walk-found.ensures))
