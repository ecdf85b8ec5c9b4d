-- What is claimed of the definitions themselves, gathered: each crate's laws, the worked examples of the requirement, the readings (docs/DECISIONS.md).
use Rattle.std.specs.Prelude.{List, ℕ, ◌≤◌, length}
use Rattle.clause.specs.Lists.{Hold}
use Rattle.clause.specs.Clause.{Accepted, literals, Subsumes}
use Rattle.clause.specs.Accepted.{ClauseLaws}
use Rattle.machine.specs.Compile.{Variants}
use Rattle.machine.specs.Matching.{Matching}
use Rattle.tree.specs.Laws.{TreeLaws}
use Rattle.readback.specs.Laws.{ReadbackLaws}
use Rattle.walk.specs.Ceiling.{FullBudget, EnoughBudget}
use Rattle.walk.specs.Laws.{WalkLaws}
use Rattle.backward.specs.Laws.{BackwardLaws}
use Rattle.book.specs.Laws.{BookLaws}
use Rattle.book.specs.Trials.{trials}
use Rattle.book.specs.Readings.{readings}

-- the claim
pub record Believable : Type 0 where
  pub clauses : ClauseLaws
  -- every clause subsumes itself, and one that subsumes a clause subsumes what that subsumes
  pub reflexive : (c : List ℕ) → Subsumes c c
  pub transitive : (c d e : List ℕ) → Subsumes c d → Subsumes d e → Subsumes c e
  -- it subsumes none with fewer literals; variants subsume each other, so with `transitive` they subsume, and are subsumed by, the same clauses
  pub fewer : (c d : List ℕ) → Subsumes c d → length (literals c) ≤ length (literals d)
  pub variants : (c d : List ℕ) → Accepted c → Accepted d → Variants c d → Subsumes c d
  pub matching : Matching
  pub trees : TreeLaws
  pub readback : ReadbackLaws
  pub walks : WalkLaws
  pub backward : BackwardLaws
  pub budget : FullBudget
  pub enough : EnoughBudget
  pub books : BookLaws
  pub rows : Hold trials
  pub readings_taken : Hold readings
