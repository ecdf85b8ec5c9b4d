-- The tables of an accepted clause are those that the walk reads.
use Prim.Native.Nat.{ℕ}
use mathlib.Core.Path.{◌≡◌, ◌∙◌}
use mathlib.Core.List.{List, []}
use native.Mathlib.Omega.{arith}
use lib.ListN.{length}
use Rattle.clause.specs.Clause.{Accepted, starts}
use Rattle.clause.specs.Positions.{ends, siblings}
use Rattle.clause.specs.Inner.Tables.{tables_of, clause_of}
use Rattle.clause.specs.declared.Clause.{Clause}
use Rattle.clause.proofs.Literals.{accepted}
use Rattle.clause.proofs.Starts.{length_starts}
use Rattle.clause.proofs.Ends.{ends_at}
use Rattle.clause.proofs.Packing.{start_at, end_at, right_at, count_at}
use Rattle.cells.specs.Inner.Cells.{Tables}

tables_read : (d : List ℕ) → Accepted d → Tables d (tables_of d)
unfolding tables_of
tables_read d A =
    let few = (accepted d A).few in
    let fits = (accepted d A).fits in
    let s = starts d in
    let e = ends d in
    let r = siblings d [] in
    record {
      starts = λ j h. start_at s e r (length s) j (omega arith);
      ends = λ p h. end_at s e r (length s) p (omega arith) ∙ ends_at d p h;
      rights = λ p h. right_at s e r (length s) p (omega arith);
      count = count_at s e r (length s) ∙ length_starts d;
    }

pub clause_read : (d : List ℕ) → Accepted d → (c : Clause) → c ≡ clause_of d → Tables d c.tables
clause_read d A c e = rw e (tables_read d A)
