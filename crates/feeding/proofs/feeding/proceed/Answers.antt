-- The reading goes on, or a record is ended.
use Rattle.feeding.specs.Inner.Blocks.{store_with}
use Rattle.feeding.proofs.Blocks.{goes, ends, took_as}
use Rattle.feeding.proofs.feeding.proceed.Goals as goal

pub returns-in-Reads-clause-took : goal.returns-in-Reads-clause-took
returns-in-Reads-clause-took c =
    let a = c.args in
    let w = c.in-Reads in
    let m = store_with a.words.now a.keeper.now a.counters.now in
    goes a.setting w.half w.stage a.turn.session.totals m a.output.now a.turn.next w.is c.requires.0.steady c.requires.0.kept

pub returns-in-Ends-clause-took : goal.returns-in-Ends-clause-took
returns-in-Ends-clause-took c =
    let a = c.args in
    let w = c.in-Ends in
    let m = store_with a.words.now a.keeper.now a.counters.now in
    took_as (ends a.setting w.heading a.turn.session.totals m w.is) c.finish.ensures.took
