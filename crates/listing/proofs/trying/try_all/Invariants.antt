-- `try_all` meets its contract: the clauses before the place are queried.
use Rattle.listing.proofs.Turns.{Trying}
use Rattle.listing.proofs.trying.try_all.Given as goal

abbrev pub invariant-loop-place : goal.invariant-loop-place
invariant-loop-place l = Trying l.clause l.budget l.shelf l.lone l.room l.numbers l.many l.tried l.place
