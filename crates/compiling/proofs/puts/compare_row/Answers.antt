-- `compare_row` writes the Compares of one first put.
use mathlib.Core.Path.{◌≡◌, sym, ◌∙◌}
use native.Mathlib.Omega.{arith}
use Prim.Native.Nat.{◌<◌}
use lib.ListN.{length, length-map}
use Rattle.compiling.specs.Inner.Rows.{firsts_in}
use Rattle.compiling.proofs.Writing.{writes_none, wrote}
use Rattle.compiling.proofs.Rows.{row_first, row_room, row_writes, row_over, row_to_whole}
use Rattle.compiling.proofs.Putting.{first_at}
use Rattle.compiling.proofs.puts.compare_row.Goals as goal
use Rattle.compiling.proofs.puts.compare_row.Goals.{then-from-m, else-from-m}

pub loop-k-init : goal.loop-k-init
loop-k-init c =
    let a = c.args in
    rw (row_first (firsts_in a.puts.now) a.from a.m c.max-k.ensures) (writes_none _)

pub push-requires : goal.push-requires
push-requires c =
    let a = c.args in
    let l = c.loop-k in
    let h : l.k < length a.puts.now = omega arith in
    let n = length-map a.puts.now (λ p. p.first) in
    let e = first_at a.puts.now l.k h ∙ sym c.from.ensures ∙ c.if-from-m.true in
    omega (arith, c.requires.3, wrote l.invariant, row_room (firsts_in a.puts.now) a.from a.m l.k (omega arith) (omega arith) (omega arith) e)

pub loop-k-preserved : goal.loop-k-preserved
loop-k-preserved c =
    let a = c.args in
    let f = firsts_in a.puts.now in
    let l = c.loop-k in
    let at = first_at a.puts.now l.k (omega arith) in
    elim c.if-from-m.branch [
      | then-from-m w ↦ rw w.keys-is (row_writes f a.from a.m l.k (omega arith) (omega arith) (at ∙ sym c.from.ensures ∙ w.if-from-m.true) l.invariant w.push.ensures)
      | else-from-m w ↦ rw w.keys-is (row_over f a.from a.m l.k (omega arith) (omega arith) (λ e. w.if-from-m.false (c.from.ensures ∙ sym at ∙ e)) l.invariant)
    ]

pub returns : goal.returns
returns c =
    let f = firsts_in c.args.puts.now in
    let e : c.loop-k.k ≡ length f = omega (arith, length-map c.args.puts.now (λ p. p.first)) in
    rw (row_to_whole, ← e) c.loop-k.invariant
