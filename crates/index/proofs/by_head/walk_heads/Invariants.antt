-- `walk_heads` meets its contract: over the candidates the invariant is that of the passes below a First, `Between`.
use lib.ListN.{drop}
use Rattle.cells.specs.Inner.Cells.{no_position}
use Rattle.cells.specs.declared.Above.TheVariants.{First}
use Rattle.walking.proofs.Turns.{Between}
use Rattle.index.proofs.by_head.walk_heads.Given as goal

abbrev pub invariant-loop-j : goal.invariant-loop-j
invariant-loop-j l = Between l.query (drop 1 l.words) l.budget no_position l.initial.n First l.j-end l.saved l.initial.cells l.cells l.n l.j
