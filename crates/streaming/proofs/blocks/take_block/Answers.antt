-- The block is read and fed, and its lines are handed on.
use mathlib.Core.Path.{◌≡◌, sym, ap, ◌∙◌}
use mathlib.Core.List.{◌++◌}
use Prim.Native.Nat.{ℕ, ◌-◌, ◌≤◌}
use native.Mathlib.Omega.{arith}
use borrow.Author.Rules.{rules}
use lib.ListN.{length, take, length-take}
use lib.Seq.{length-take-le}
use Rattle.clause.proofs.Lists.{all_below, all_take}
use Rattle.record.specs.Sheet.{Bytes}
use Rattle.intake.specs.Feed.{store_of, feed}
use Rattle.streaming.specs.Fed.{block_bytes, output_bytes}
use Rattle.streaming.proofs.FedBlocks.{may_left, block_ready, block_fed, lines_next, lines_fit, fed_more, running_more}
use Rattle.streaming.proofs.blocks.take_block.Goals as goal

pub feed-turn-requires : goal.feed-turn-requires
feed-turn-requires c =
    let h = (may_left c.args.meters.now c.requires.3).0 in
    let d = c.read_block-count.ensures in
    let k : c.read_block-count.result ≤ block_bytes = omega (arith, d.inside, c.read_block-count.auto.input, c.requires.1.block) in
    (block_ready c.requires.0 h (rw (length-take-le _ _ d.inside) k) c.requires.1.room, c.requires.2)

pub slice_bounds-hand_on-end : goal.slice_bounds-hand_on-end
slice_bounds-hand_on-end c =
    let h = (may_left c.args.meters.now c.requires.3).0 in
    let d = c.read_block-count.ensures in
    let k : c.read_block-count.result ≤ block_bytes = omega (arith, d.inside, c.read_block-count.auto.input, c.requires.1.block) in
    let e = block_fed c.requires.0 h c.read_block-count.new.input d.inside k c.requires.1.room c.feed-turn.ensures.took in
    omega (arith, e.1, c.requires.1.room, c.feed-turn.auto.output)

pub slice_bounds-hand_on-end-2 : goal.slice_bounds-hand_on-end-2
slice_bounds-hand_on-end-2 c =
    let h = (may_left c.args.meters.now c.requires.3).0 in
    let d = c.read_block-count.ensures in
    let k : c.read_block-count.result ≤ block_bytes = omega (arith, d.inside, c.read_block-count.auto.input, c.requires.1.block) in
    let e = block_fed c.requires.0 h c.read_block-count.new.input d.inside k c.requires.1.room c.feed-turn.ensures.took in
    sym (length-take-le _ _ (omega (arith, e.1, c.requires.1.room, c.feed-turn.auto.output)))

pub hand_on-requires : goal.hand_on-requires
hand_on-requires c =
    let h = (may_left c.args.meters.now c.requires.3).0 in
    let d = c.read_block-count.ensures in
    let k : c.read_block-count.result ≤ block_bytes = omega (arith, d.inside, c.read_block-count.auto.input, c.requires.1.block) in
    let e = block_fed c.requires.0 h c.read_block-count.new.input d.inside k c.requires.1.room c.feed-turn.ensures.took in
    let b : length (take c.feed-turn.result.next c.feed-turn.new.output) ≤ output_bytes = simp length-take (omega (arith, e.1)) in
    (lines_next c.requires.0 h d e.0 b, lines_fit c.requires.0 h d e.0 b)

pub returns-clause-fed : goal.returns-clause-fed
returns-clause-fed c =
    let a = c.args in
    let h = (may_left a.meters.now c.requires.3).0 in
    let d = c.read_block-count.ensures in
    let k : c.read_block-count.result ≤ block_bytes = omega (arith, d.inside, c.read_block-count.auto.input, c.requires.1.block) in
    let e = block_fed c.requires.0 h c.read_block-count.new.input d.inside k c.requires.1.room c.feed-turn.ensures.took in
    let m = store_of a.words.now a.tree.now a.marks.now a.counters.now in
    let q : c.hand_on.new.meters.read - a.meters.now.read ≡ c.read_block-count.result = omega (arith, c.hand_on.ensures.read, d.read) in
    e.0 ∙ sym (ap (λ (j : ℕ). feed a.setting a.session m (take j c.read_block-count.new.input)) q)

pub returns-clause-running : goal.returns-clause-running
returns-clause-running c =
    let h = (may_left c.args.meters.now c.requires.3).0 in
    let d = c.read_block-count.ensures in
    let i = c.read_block-count.new.input in
    let k : c.read_block-count.result ≤ block_bytes = omega (arith, d.inside, c.read_block-count.auto.input, c.requires.1.block) in
    let e = block_fed c.requires.0 h c.read_block-count.new.input d.inside k c.requires.1.room c.feed-turn.ensures.took in
    let b : length (take c.feed-turn.result.next c.feed-turn.new.output) ≤ output_bytes = simp length-take (omega (arith, e.1)) in
    let u : Bytes (take c.read_block-count.result i) = all_take c.read_block-count.result (all_below 256 i (λ j. search rules)) in
    running_more c.requires.0 h d e.0 b u c.hand_on.ensures k c.feed-turn.ensures.took.stays c.feed-turn.auto.words

pub returns-clause-grows : goal.returns-clause-grows
returns-clause-grows c F =
    let a = c.args in
    let h = (may_left a.meters.now c.requires.3).0 in
    let d = c.read_block-count.ensures in
    let i = c.read_block-count.new.input in
    let k : c.read_block-count.result ≤ block_bytes = omega (arith, d.inside, c.read_block-count.auto.input, c.requires.1.block) in
    let e = block_fed c.requires.0 h c.read_block-count.new.input d.inside k c.requires.1.room c.feed-turn.ensures.took in
    let b : length (take c.feed-turn.result.next c.feed-turn.new.output) ≤ output_bytes = simp length-take (omega (arith, e.1)) in
    let u : Bytes (take c.read_block-count.result i) = all_take c.read_block-count.result (all_below 256 i (λ j. search rules)) in
    let q : c.hand_on.new.meters.read - a.meters.now.read ≡ c.read_block-count.result = omega (arith, c.hand_on.ensures.read, d.read) in
    let (G, y) = fed_more c.requires.0 h d e.0 b u c.hand_on.ensures F in
    (G, y ∙ sym (ap (λ (j : ℕ). F.bytes ++ take j i) q))
