-- One more position is saved.
use mathlib.Core.Path.{sym, ap}
use Prim.Native.Nat.{◌<◌}
use native.Mathlib.Omega.{arith}
use lib.ListN.{length}
use Rattle.compiling.proofs.Stack.{saved_push, saved_length}
use Rattle.compiling.proofs.saved.Saved.push.Goals as goal

pub returns : goal.returns
returns c =
    let s = c.self.inside in
    let low : s.depth < 64 = omega (arith, ap length c.self.view_is, saved_length s.positions s.depth, c.requires) in
    rw (sym c.self.view_is) (saved_push s.positions s.depth c.args.position (omega (arith, c.self.invariant.1)))
