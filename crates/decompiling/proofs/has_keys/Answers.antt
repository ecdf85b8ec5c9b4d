-- `has_keys` meets its contract: the shape decides, then the keys.
use mathlib.Core.Path.{ap, ◌∙◌}
use Rattle.clause.specs.Lists.{alike}
use Rattle.decompiling.proofs.Wording.{keys_faulty, keys_whole}
use Rattle.machine.proofs.Compiled.{compiled_keys}
use native.Mathlib.Omega.{arith}
use Rattle.decompiling.proofs.has_keys.Goals as goal

pub returns-in_default : goal.returns-in_default
returns-in_default c =
    keys_faulty c.args.words.now c.args.keys.now c.read.result c.in_default.field-0 c.read.ensures c.in_default.is

pub returns : goal.returns
returns c =
    c.eq.ensures ∙ ap (λ l. alike l c.args.keys.now) (compiled_keys c.compile-written.ensures)
    ∙ keys_whole c.args.words.now c.args.keys.now c.read.result c.in-Ok.field-0 c.read.ensures c.in-Ok.is
    (λ i. omega (arith, c.type_inv.words i))
