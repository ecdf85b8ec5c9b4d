-- `walk_head` meets its contract: the index leads to the Check of the word at the head, and the words below it are walked; or there is none.
use Prim.Native.Nat.{ℕ, ◌+◌, ◌-◌, ◌≤◌, ◌<◌}
use mathlib.Core.Path.{◌≡◌, refl, sym, ap, ◌∙◌}
use mathlib.Core.Logic.{◌≢◌}
use mathlib.Core.List.{List}
use native.Mathlib.Omega.{arith}
use lib.ListN.{length, get_or, take, drop}
use Rattle.tree.specs.Laid.{extent_of, parse}
use Rattle.index.specs.Inner.Heads.{entry_count, IndexOf, Encoded}
use Rattle.walk.specs.Walk.{up_to}
use Rattle.walk.specs.Words.{walk_words}
use Rattle.walk.specs.Query.{machine}
use Rattle.cells.specs.Inner.Cells.{state_of, Walkable}
use Rattle.cells.proofs.Places.{few_words}
use Rattle.stepping.proofs.Visits.{head_some}
use Rattle.walking.proofs.Passes.{walked_missed}
use Rattle.index.proofs.ByHead.{row_of, entry_place, head_missed, head_found, walked_step}
use Rattle.index.proofs.head.walk_head.Goals as goal

-- the words below the Check that stands at the place that the index leads to
found :
    {words heads d t l : List ℕ} {here head at : ℕ} (b n : ℕ)
    → Encoded words × IndexOf (parse words) heads × Walkable d t here l × (here < length d) × (1 ≤ length words)
    → get_or d here 0 < entry_count → head ≡ get_or d here 0 → at ≡ get_or heads head 0 → at ≢ 0
    → {x : ℕ} → x ≡ extent_of (get_or words at 0)
    → (1 ≤ x) × (at + x ≤ length words)
    × (walk_words (machine d) (up_to b) (drop 1 words) (state_of here l) n
    ≡ walk_words (machine d) (up_to b) (take (at + x - (at + 1)) (drop (at + 1) words)) (state_of here l) n)
found {words} {heads} {d} {t} {l} {here} b n p w h a some e =
    let R = row_of words p.0 p.1.tree p.4 in
    head_found words p.0 d (up_to b) (state_of here l) here (head_some d t here l p.2 p.3) R.1 n
    (a ∙ ap (λ (i : ℕ). get_or heads i 0) h ∙ entry_place p.1 R.1 (get_or d here 0) w) some e

pub offset_bounds-heads-head : goal.offset_bounds-heads-head
offset_bounds-heads-head c = omega (arith, c.type_inv.query c.args.here)

pub bounds-heads-head : goal.bounds-heads-head
bounds-heads-head c = omega (arith, c.type_inv.query c.args.here, c.requires.1.long)

pub returns-then-at-eq0 : goal.returns-then-at-eq0
returns-then-at-eq0 c =
    let a = c.args in
    let R = row_of a.words.now c.requires.0 c.requires.1.tree c.requires.4 in
    let w : get_or a.query.now a.here 0 < entry_count = omega (arith, c.type_inv.query a.here) in
    walked_missed
    (head_missed a.words.now c.requires.0 a.query.now (up_to a.budget) (state_of a.here a.cells.now) a.here
    (head_some a.query.now a.tables.now a.here a.cells.now c.requires.2 c.requires.3) R.1 a.count
    (sym (c.from-at.ensures ∙ ap (λ (i : ℕ). get_or a.heads.now i 0) c.from-head.ensures ∙ entry_place c.requires.1 R.1 (get_or a.query.now a.here 0) w)
    ∙ c.if-at-eq0.true))
    refl

pub overflow_add-from : goal.overflow_add-from
overflow_add-from c =
    let f = found c.args.budget c.args.count c.requires (omega (arith, c.type_inv.query c.args.here)) c.from-head.ensures c.from-at.ensures c.if-at-eq0.false refl in
    omega (arith, f.1, c.requires.0.few)

pub offset_bounds-words-at : goal.offset_bounds-words-at
offset_bounds-words-at c =
    let f = found c.args.budget c.args.count c.requires (omega (arith, c.type_inv.query c.args.here)) c.from-head.ensures c.from-at.ensures c.if-at-eq0.false refl in
    omega (arith, f.1, c.requires.0.few)

pub bounds-words-at : goal.bounds-words-at
bounds-words-at c =
    let f = found c.args.budget c.args.count c.requires (omega (arith, c.type_inv.query c.args.here)) c.from-head.ensures c.from-at.ensures c.if-at-eq0.false refl in
    omega (arith, f.0, f.1)

pub overflow_add-to : goal.overflow_add-to
overflow_add-to c =
    let f = found c.args.budget c.args.count c.requires (omega (arith, c.type_inv.query c.args.here)) c.from-head.ensures c.from-at.ensures c.if-at-eq0.false c.extent.ensures in
    omega (arith, f.1, c.requires.0.few)

pub offset_bounds-words-from : goal.offset_bounds-words-from
offset_bounds-words-from c =
    let f = found c.args.budget c.args.count c.requires (omega (arith, c.type_inv.query c.args.here)) c.from-head.ensures c.from-at.ensures c.if-at-eq0.false c.extent.ensures in
    omega (arith, f.0, f.1, c.requires.0.few)

pub slice_bounds-walk-count : goal.slice_bounds-walk-count
slice_bounds-walk-count c =
    let f = found c.args.budget c.args.count c.requires (omega (arith, c.type_inv.query c.args.here)) c.from-head.ensures c.from-at.ensures c.if-at-eq0.false c.extent.ensures in
    omega (arith, f.0)

pub slice_bounds-walk-start : goal.slice_bounds-walk-start
slice_bounds-walk-start c =
    let f = found c.args.budget c.args.count c.requires (omega (arith, c.type_inv.query c.args.here)) c.from-head.ensures c.from-at.ensures c.if-at-eq0.false c.extent.ensures in
    omega (arith, f.0)

pub slice_bounds-walk-end : goal.slice_bounds-walk-end
slice_bounds-walk-end c =
    let f = found c.args.budget c.args.count c.requires (omega (arith, c.type_inv.query c.args.here)) c.from-head.ensures c.from-at.ensures c.if-at-eq0.false c.extent.ensures in
    f.1

pub walk-requires : goal.walk-requires
walk-requires c = (c.requires.2, λ z. absurd (omega (arith, c.requires.3, few_words c.requires.2)))

pub returns : goal.returns
returns c =
    let a = c.args in
    let at = c.from-at.result in
    let f = found c.args.budget c.args.count c.requires (omega (arith, c.type_inv.query c.args.here)) c.from-head.ensures c.from-at.ensures c.if-at-eq0.false c.extent.ensures in
    walked_step (take (at + c.extent.result - (at + 1)) (drop (at + 1) a.words.now)) a.budget a.count c.requires.2 c.requires.3 f.2 c.walk.ensures
