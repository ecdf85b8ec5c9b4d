-- `walk_top` meets its contract: along the topmost row the invariant is `Walking`, with no head and an empty trail.
use mathlib.Core.Path.{◌≡◌, refl, sym, ap, ◌∙◌}
use mathlib.Core.Logic.{inl, ⊎_elim}
use mathlib.Core.List.{List}
use Prim.Native.Nat.{ℕ, ◌<◌}
use lib.ListN.{length, get_or}
use Rattle.tree.specs.Laid.{extent_of}
use Rattle.cells.specs.Inner.Cells.{state_of}
use Rattle.machine.specs.Machine.{State}
use Rattle.stepping.specs.Inner.Visits.{meeting, Visited}
use Rattle.stepping.specs.declared.Visit.{Visit}
use Rattle.stepping.specs.declared.Visit.TheVariants.{Stuck}
use Rattle.walking.proofs.Passes.{walked_missed, walked_broken, walked_same}
use Rattle.cells.proofs.Places.{restored_none, unwound_none}
use Rattle.walking.proofs.Walking.{Walking, Meeting, tail_less, walking_whole, walking_end, node_stuck, node_ends, call_fits, call_ready, node_next}
use Rattle.stepping.proofs.Undoing.{undoable_zero}
use Rattle.std.proofs.lemmas.Result.{err_from_is_err_and}
use Rattle.query.proofs.top.walk_top.Goals as goal

-- a word is met
word :
    {d t words cells₀ cells rest m : List ℕ} {b n here trail x : ℕ} {s : State} {v : Visit}
    → Walking d t words b s 0 cells₀ cells n here trail rest → 0 < length rest → x ≡ extent_of (get_or rest 0 0)
    → Visited here (meeting d (get_or rest 0 0) (length rest) (state_of here cells)) cells m v
    → Meeting d t words b s 0 cells₀ cells n here trail rest x m v
word w some extent visited = record { walking = w; some_words = some; extent = extent; visited = visited }

-- the cells are those at the entry
same_cells : {d t words cells₀ cells rest : List ℕ} {b n here : ℕ} {s : State} → Walking d t words b s 0 cells₀ cells n here 0 rest → cells ≡ cells₀
same_cells {cells = cells} w = sym (unwound_none cells) ∙ w.undo

same_size :
    {d t words cells₀ cells rest : List ℕ} {b n here : ℕ} {s : State} → Walking d t words b s 0 cells₀ cells n here 0 rest → length cells ≡ length cells₀
same_size w = ap (λ (l : List ℕ). length l) (same_cells w)

pub loop-rest-init : goal.loop-rest-init
loop-rest-init c = walking_whole _ _ _ _ _ _ c.requires 0

pub meet_top-requires : goal.meet_top-requires
meet_top-requires c = (c.loop-rest.invariant.ready, c.loop-rest-test.true)

pub returns-in_default : goal.returns-in_default
returns-in_default c =
    let g : c.meet_top.result ≡ Stuck = ⊎_elim (λ e. absurd (c.in_default.not-Tries e)) (λ e. e) c.meet_top.ensures.1 in
    let w = word c.loop-rest.invariant c.loop-rest-test.true refl c.meet_top.ensures.0 in
    walked_broken (node_stuck w g) (same_size c.loop-rest.invariant)

-- a First is called on the words below it: they lie in the row
pub slice_bounds-walk-count : goal.slice_bounds-walk-count
slice_bounds-walk-count c =
    let w = word c.loop-rest.invariant c.loop-rest-test.true c.extent-size.ensures c.meet_top.ensures.0 in
    let k = inl (c.in-Tries.is, refl) in
    (call_fits w k).0

pub slice_bounds-walk-start : goal.slice_bounds-walk-start
slice_bounds-walk-start c =
    let w = word c.loop-rest.invariant c.loop-rest-test.true c.extent-size.ensures c.meet_top.ensures.0 in
    let k = inl (c.in-Tries.is, refl) in
    (call_fits w k).0

pub slice_bounds-walk-end : goal.slice_bounds-walk-end
slice_bounds-walk-end c =
    let w = word c.loop-rest.invariant c.loop-rest-test.true c.extent-size.ensures c.meet_top.ensures.0 in
    let k = inl (c.in-Tries.is, refl) in
    (call_fits w k).1

pub walk-requires : goal.walk-requires
walk-requires c =
    let w = word c.loop-rest.invariant c.loop-rest-test.true c.extent-size.ensures c.meet_top.ensures.0 in
    let k = inl (c.in-Tries.is, refl) in
    call_ready w k

pub returns-in_err-count : goal.returns-in_err-count
returns-in_err-count c =
    let w = word c.loop-rest.invariant c.loop-rest-test.true c.extent-size.ensures c.meet_top.ensures.0 in
    let k = inl (c.in-Tries.is, refl) in
    let e = c.in_err-count.ensures in
    let r = err_from_is_err_and c.from_residual.result c.from_residual.ensures.1 in
    rw (r.1, r.2) (walked_same (node_ends w k e) e (same_size c.loop-rest.invariant))

pub slice_bounds-rest-count : goal.slice_bounds-rest-count
slice_bounds-rest-count c =
    let w = word c.loop-rest.invariant c.loop-rest-test.true c.extent-size.ensures c.meet_top.ensures.0 in
    let k = inl (c.in-Tries.is, refl) in
    (call_fits w k).1

pub slice_bounds-rest-start : goal.slice_bounds-rest-start
slice_bounds-rest-start c =
    let w = word c.loop-rest.invariant c.loop-rest-test.true c.extent-size.ensures c.meet_top.ensures.0 in
    let k = inl (c.in-Tries.is, refl) in
    (call_fits w k).1

pub loop-rest-smaller : goal.loop-rest-smaller
loop-rest-smaller c =
    let w = word c.loop-rest.invariant c.loop-rest-test.true c.extent-size.ensures c.meet_top.ensures.0 in
    let k = inl (c.in-Tries.is, refl) in
    let f = call_fits w k in
    tail_less _ c.loop-rest.rest.now f.0 f.1

pub loop-rest-preserved : goal.loop-rest-preserved
loop-rest-preserved c =
    let w = word c.loop-rest.invariant c.loop-rest-test.true c.extent-size.ensures c.meet_top.ensures.0 in
    let k = inl (c.in-Tries.is, refl) in
    node_next w k c.in_ok-count.ensures (sym (undoable_zero c.meet_top.ensures.0.undoable (rw c.in-Tries.is))) (sym (restored_none _))

pub returns : goal.returns
returns c = walked_missed (walking_end c.loop-rest.invariant c.loop-rest-test.false) (same_cells c.loop-rest.invariant)
