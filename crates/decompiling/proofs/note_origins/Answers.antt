-- `note_origins` meets its contract: the Compares from i on are noted.
use mathlib.Core.Logic.{inl, inr}
use Prim.Native.Nat.{◌-◌}
use Rattle.decompiling.proofs.Tables.{origins_none, origins_set, origins_far, origins_other}
use native.Mathlib.Omega.{arith}
use Rattle.decompiling.proofs.note_origins.Goals as goal

pub loop-i-init : goal.loop-i-init
loop-i-init c = origins_none c.args.keys.now c.args.origins.now c.requires

pub loop-i-preserved-then-k-lt-NUMBERS : goal.loop-i-preserved-then-k-lt-NUMBERS
loop-i-preserved-then-k-lt-NUMBERS c =
    let l = c.loop-i in
    origins_set c.args.keys.now l.origins (l.i - 1) l.i (omega arith) (omega arith) l.invariant (omega arith) (omega arith)

pub loop-i-preserved-else-k-lt-NUMBERS : goal.loop-i-preserved-else-k-lt-NUMBERS
loop-i-preserved-else-k-lt-NUMBERS c =
    let l = c.loop-i in
    origins_far c.args.keys.now l.origins (l.i - 1) l.i (omega arith) (omega arith) l.invariant (omega arith) (omega arith)

pub loop-i-preserved : goal.loop-i-preserved
loop-i-preserved c =
    let l = c.loop-i in
    origins_other c.args.keys.now l.origins (l.i - 1) l.i (omega arith) (omega arith) l.invariant
    (λ e. elim c.else-x-ge-COMPARE.either [ inl h ↦ omega (arith, h.0, h.1) | inr h ↦ omega arith ])
