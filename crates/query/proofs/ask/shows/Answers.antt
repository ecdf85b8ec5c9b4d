-- `shows` meets its contract.
use Rattle.query.proofs.Showing.{shows_front, shows_back}
use Rattle.query.proofs.ask.shows.Goals as goal

pub returns-then-i-lt-LITERALS : goal.returns-then-i-lt-LITERALS
returns-then-i-lt-LITERALS c = let a = c.args in shows_front a.cells.now c.requires.0 a.i c.if-i-lt-LITERALS.true c.from.ensures

pub returns-else-i-lt-LITERALS : goal.returns-else-i-lt-LITERALS
returns-else-i-lt-LITERALS c = shows_back c.args.cells.now c.requires.0 c.args.i c.if-i-lt-LITERALS.false c.requires.1 c.from-else-i-lt-LITERALS.ensures
