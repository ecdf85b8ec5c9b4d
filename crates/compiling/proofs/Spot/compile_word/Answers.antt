-- `compile_word` writes the keys of one word, and leaves the spot before the next.
use mathlib.Core.Path.{ap}
use native.Mathlib.Omega.{arith}
use lib.ListN.{length}
use Rattle.compiling.proofs.Writing.{writes_none}
use Rattle.compiling.proofs.Turns.{word_length, act_room, way_room, turned, head_written, ending_on, ending_out, ending_room, word_written}
use Rattle.compiling.proofs.Spot.compile_word.Goals as goal

pub open-left-requires : goal.open-left-requires
open-left-requires c = omega (arith, c.requires.3, word_length c.args.word c.args.self.now)

pub act-requires : goal.act-requires
act-requires c =
    let O = c.open-left.ensures in
    (omega (arith, c.requires.1, ap length O.0.puts), act_room c.args.word O c.requires.3)

pub onward-requires : goal.onward-requires
onward-requires c =
    let O = c.open-left.ensures in (
      omega (arith, c.requires.2, O.0.saved_low, O.0.pushed),
      omega (arith, c.requires.0, O.0.pushed),
      rw c.arity.ensures (way_room c.args.word O c.act.ensures c.requires.3),
    )

pub compare-requires : goal.compare-requires
compare-requires c =
    let w = c.args.word in
    let W = rw c.arity.ensures at c.onward.ensures in
    let T = turned w c.open-left.ensures c.act.ensures c.requires.2 W in
    let h = head_written w c.open-left.ensures c.act.ensures c.requires.2 W in
    (T.orderly.from_low, ending_room w c.args.self.now h (ending_out T c.is_none.ensures c.if-is_none.true) c.requires.3)

pub returns-then-is_none : goal.returns-then-is_none
returns-then-is_none c =
    let w = c.args.word in
    let W = rw c.arity.ensures at c.onward.ensures in
    let T = turned w c.open-left.ensures c.act.ensures c.requires.2 W in
    let h = head_written w c.open-left.ensures c.act.ensures c.requires.2 W in
    (T, word_written w c.args.self.now h (ending_out T c.is_none.ensures c.if-is_none.true) c.compare.ensures)

pub returns-else-is_none : goal.returns-else-is_none
returns-else-is_none c =
    let w = c.args.word in
    let W = rw c.arity.ensures at c.onward.ensures in
    let T = turned w c.open-left.ensures c.act.ensures c.requires.2 W in
    let h = head_written w c.open-left.ensures c.act.ensures c.requires.2 W in
    (T, word_written w c.args.self.now h (ending_on T c.is_none.ensures c.if-is_none.false) (writes_none _))
