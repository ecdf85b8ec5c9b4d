-- `open` writes First where a literal begins.
use mathlib.Core.Path.{ap}
use native.Mathlib.Omega.{arith}
use lib.ListN.{length}
use Rattle.compiling.proofs.Spots.{open_on, open_new, opening_one}
use Rattle.compiling.proofs.Spot.open.Goals as goal

pub returns-in-Some : goal.returns-in-Some
returns-in-Some c = open_on c.args.self.now c.in-Some.left c.args.keys.now c.in-Some.is

pub push-requires : goal.push-requires
push-requires c = omega (arith, c.requires, ap length (opening_one c.args.self.now c.in_default.is))

pub returns : goal.returns
returns c =
    let s = c.args.self.now in
    (open_new s c.count-self.result c.clear.new.self c.in_default.is c.count-self.ensures c.clear.ensures, rw (opening_one s c.in_default.is) c.push.ensures)
