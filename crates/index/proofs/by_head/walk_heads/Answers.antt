-- `walk_heads` meets its contract: over the candidates the invariant is that of the passes below a First, `Between`.
use mathlib.Core.Path.{◌≡◌, refl, ◌∙◌}
use mathlib.Core.Logic.{inl}
use mathlib.Core.Bool.{false}
use mathlib.Core.List.{List}
use Prim.Native.Nat.{ℕ, ◌+◌, ◌%◌, ◌<◌}
use native.Mathlib.Omega.{arith}
use lib.ListN.{get_or, drop}
use Rattle.walk.specs.Walk.{up_to}
use Rattle.clause.specs.Inner.Tables.{at_count}
use Rattle.cells.specs.Inner.Cells.{no_position, above_of, state_of, has_bit, count_in, Walkable}
use Rattle.cells.specs.Inner.Cells.{use_limit, uses_of, saved_byte, reserved, candidate, kept_in, pass_head, passes_of}
use Rattle.cells.specs.declared.Above.TheVariants.{First}
use Rattle.tree.proofs.Refused.{refusal_in}
use Rattle.walking.proofs.Passes.{missed_of, walked_missed}
use Rattle.walking.proofs.Turns.{walkable_literals, Entry, Between, Begun, entry_start, by_bit}
use Rattle.walking.proofs.Turns.{between_size, between_room, between_literal, between_ends, between_spent}
use Rattle.walking.proofs.Turns.{begun_ready, pass_missed, pass_ends}
use Rattle.index.proofs.ByHead.{walked_top, top_none, none_used}
use Rattle.index.proofs.by_head.walk_heads.Goals as goal

-- the First is entered
entry :
    {d t l l₁ : List ℕ} {last saved : ℕ} (words : List ℕ) (b : ℕ)
    → Walkable d t no_position l → count_in l ≡ 0 → last ≡ passes_of First (get_or t at_count 0)
    → (saved % use_limit ≡ uses_of First l) × (saved_byte saved ≡ kept_in First l) × (l₁ ≡ reserved First l)
    → Entry d t (drop 1 words) b no_position l 0 First last saved l₁
unfolding above_of
entry words b p z passes r =
    record { ready = p; room = λ e. omega (arith, z); by_head = refl; times = passes; uses = r.0; keeps = r.1; reserves = r.2 }

-- no literal is in use
unused :
    {d t words l l₁ : List ℕ} {b last saved : ℕ} → Entry d t words b no_position l 0 First last saved l₁ → count_in l ≡ 0
    → {j : ℕ} → j < last → has_bit saved j ≡ false
unused {l = l} e z {j} m = by_bit e refl m ∙ none_used j l z

-- a pass begins
begun :
    {d t words l l₁ cells out : List ℕ} {b last saved n j here : ℕ}
    → Entry d t words b no_position l 0 First last saved l₁ → Between d words b no_position 0 First last saved l₁ cells n j
    → count_in l ≡ 0 → j < last → n < b → (here ≡ pass_head d First no_position j) × (out ≡ candidate First j cells)
    → Begun d t words b no_position l 0 First last saved l₁ cells n j (n + 1) here out
begun e p z more room r =
    record { entry = e; between = p; more = more; counted = inl (refl, unused e z more, room, refl); head = r.0; stored = r.1 }

pub returns-then-words-eq0 : goal.returns-then-words-eq0
returns-then-words-eq0 c =
    let a = c.args in
    walked_missed (top_none a.words.now a.query.now (up_to a.budget) (state_of no_position a.cells.now) 0 c.if-words-eq0.true) refl

pub reserve-saved-requires : goal.reserve-saved-requires
reserve-saved-requires c = (c.requires.2.size, walkable_literals c.requires.2, λ z. omega (arith, c.requires.3))

pub loop-j-init : goal.loop-j-init
loop-j-init c =
    let e = entry c.args.words.now c.args.budget c.requires.2 c.requires.3 c.passes-j-end.ensures c.reserve-saved.ensures in
    entry_start e

pub release-requires : goal.release-requires
release-requires c =
    let e = entry c.args.words.now c.args.budget c.requires.2 c.requires.3 c.passes-j-end.ensures c.reserve-saved.ensures in
    (between_size e c.loop-j.invariant, between_room e c.loop-j.invariant)

pub begin-here-requires : goal.begin-here-requires
begin-here-requires c =
    let e = entry c.args.words.now c.args.budget c.requires.2 c.requires.3 c.passes-j-end.ensures c.reserve-saved.ensures in
    (e.ready.whole, e.ready.tables, between_size e c.loop-j.invariant, between_literal e c.loop-j.invariant c.loop-j-test.true)

pub walk_head-found-requires : goal.walk_head-found-requires
walk_head-found-requires c =
    let e = entry c.args.words.now c.args.budget c.requires.2 c.requires.3 c.passes-j-end.ensures c.reserve-saved.ensures in
    let p = begun e c.loop-j.invariant c.requires.3 c.loop-j-test.true c.if-n-budget.false c.begin-here.ensures in
    let r = begun_ready p in
    (c.requires.0, c.requires.1, r.0, r.1, omega (arith, c.if-words-eq0.false))

pub loop-j-preserved : goal.loop-j-preserved
loop-j-preserved c =
    let e = entry c.args.words.now c.args.budget c.requires.2 c.requires.3 c.passes-j-end.ensures c.reserve-saved.ensures in
    let p = begun e c.loop-j.invariant c.requires.3 c.loop-j-test.true c.if-n-budget.false c.begin-here.ensures in
    let w = rw c.in-Ok.is at c.walk_head-found.ensures in
    pass_missed p (missed_of _ _ _ w.comes) (w.back _ refl)

-- what the passes have found is what the walk has
pub returns-after-loop-j : goal.returns-after-loop-j
returns-after-loop-j c =
    let e = entry c.args.words.now c.args.budget c.requires.2 c.requires.3 c.passes-j-end.ensures c.reserve-saved.ensures in
    walked_top c.args.words.now c.args.query.now c.args.budget c.requires.0 c.requires.1.tree (omega (arith, c.if-words-eq0.false))
    (between_ends e c.loop-j.invariant c.loop-j-test.false c.release.ensures)

pub returns-then-n-budget : goal.returns-then-n-budget
returns-then-n-budget c =
    let e = entry c.args.words.now c.args.budget c.requires.2 c.requires.3 c.passes-j-end.ensures c.reserve-saved.ensures in
    walked_top c.args.words.now c.args.query.now c.args.budget c.requires.0 c.requires.1.tree (omega (arith, c.if-words-eq0.false))
    (between_spent e c.loop-j.invariant refl c.loop-j-test.true (unused e c.requires.3 c.loop-j-test.true) c.if-n-budget.true)

pub returns-in_default : goal.returns-in_default
returns-in_default c =
    let e = entry c.args.words.now c.args.budget c.requires.2 c.requires.3 c.passes-j-end.ensures c.reserve-saved.ensures in
    let p = begun e c.loop-j.invariant c.requires.3 c.loop-j-test.true c.if-n-budget.false c.begin-here.ensures in
    let r = refusal_in c.walk_head-found.result c.in_default.not-Ok in
    rw r.1
    (walked_top c.args.words.now c.args.query.now c.args.budget c.requires.0 c.requires.1.tree (omega (arith, c.if-words-eq0.false))
    (pass_ends p (begun_ready p).0.size refl (rw r.1 at c.walk_head-found.ensures)))
