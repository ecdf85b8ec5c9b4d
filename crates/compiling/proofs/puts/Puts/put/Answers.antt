-- One more variable is put, with the number of its first put.
use Rattle.compiling.proofs.Putting.{put_low, put_one}
use Rattle.compiling.proofs.puts.Puts.put.Goals as goal

pub invariant_of-self : goal.invariant_of-self
invariant_of-self c =
    let s = c.self.inside in
    let low = put_low c.self.view_is c.self.invariant c.requires in
    (put_one c.args.v s.count c.first_put-first.result s.puts low c.self.invariant c.first_put-first.ensures.placed).0
