-- The instruction of a word, and its variable is put.
use mathlib.Core.Path.{◌≡◌, ◌∙◌}
use Prim.Native.Nat.{◌+◌}
use native.Mathlib.Omega.{arith}
use Rattle.machine.specs.Instr.{Do, key}
use Rattle.machine.specs.Compile.{act}
use Rattle.compiling.proofs.Putting.{act_variable, act_other}
use Rattle.compiling.proofs.puts.Puts.act.Goals as goal

pub returns-then-word-eq8 : goal.returns-then-word-eq8
returns-then-word-eq8 c =
    let p = c.args.self.now in
    let e = act_variable p c.args.word c.if-word-eq8.true in
    let k : 0x4_0000_0000 + c.count.result ≡ key (Do (act p c.args.word)) = rw c.count.ensures e.1 in
    (c.put.ensures ∙ e.0, rw k at c.push.ensures)

pub returns-else-word-eq8 : goal.returns-else-word-eq8
returns-else-word-eq8 c =
    let e = act_other c.args.self.now c.args.word (omega arith) c.if-word-eq8.false in
    (e.0, rw e.1 at c.push-else-word-eq8.ensures)
