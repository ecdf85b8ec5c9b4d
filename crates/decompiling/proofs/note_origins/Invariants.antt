-- `note_origins` meets its contract: the Compares from i on are noted.
use lib.ListN.{drop}
use Rattle.readback.specs.Readback.{instructions}
use Rattle.decompiling.specs.Inner.Reader.{Origins}
use Rattle.decompiling.proofs.note_origins.Given as goal

abbrev pub invariant-loop-i : goal.invariant-loop-i
invariant-loop-i l = Origins (instructions (drop l.i l.keys)) l.origins
