-- `compare` writes a literal's Compares, row by row.
use mathlib.Core.Path.{◌≡◌, ap}
use native.Mathlib.Omega.{arith}
use borrow.Author.Rules.{rules}
use lib.ListN.{length, length-map, take}
use lib.Seq.{length-take-le}
use Rattle.compiling.proofs.Writing.{writes_none, wrote}
use Rattle.compiling.proofs.Rows.{rows_none, rows_room, rows_writes, compares_are}
use Rattle.compiling.proofs.Putting.{puts_length}
use Rattle.compiling.specs.Inner.Rows.{firsts_in}
use Rattle.compiling.proofs.puts.Puts.compare.Goals as goal

pub loop-m-init : goal.loop-m-init
loop-m-init c = rw rows_none (writes_none _)

pub compare_row-requires : goal.compare_row-requires
compare_row-requires c =
    let s = c.self.inside in
    let l = c.loop-m in
    let puts = take s.count s.puts in
    let f = firsts_in puts in
    let n = puts_length c.self.view_is c.self.invariant in
    let k = length-take-le s.count s.puts (omega (arith, c.self.invariant.few, c.self.invariant.size)) in
    let r = rows_room f c.args.from l.m (omega (arith, length-map puts (λ p. p.first))) in (
      search rules,
      omega (arith, c.requires.0, n, k),
      omega (arith, c.self.invariant.few, k),
      omega (arith, c.requires.1, wrote l.invariant, r, ap length (compares_are c.args.from c.self.view_is c.self.invariant)),
    )

pub loop-m-preserved : goal.loop-m-preserved
loop-m-preserved c =
    let s = c.self.inside in
    rows_writes (firsts_in (take s.count s.puts)) c.args.from c.loop-m.m c.loop-m.invariant c.compare_row.ensures

pub returns : goal.returns
returns c =
    let s = c.self.inside in
    let f = firsts_in (take s.count s.puts) in
    let e : c.loop-m.m ≡ length f = omega (arith, length-map (take s.count s.puts) (λ p. p.first)) in
    rw (compares_are c.args.from c.self.view_is c.self.invariant, ← e) c.loop-m.invariant
