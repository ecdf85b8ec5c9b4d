-- The tests of the code, one after the other, are the definition's.
use mathlib.Core.Path.{sym, ◌∙◌}
use native.Mathlib.Omega.{arith}
use borrow.Author.Tests.{le-leb, lt-leb}
use Rattle.tree.specs.Laid.{max_kept}
use Rattle.laid.proofs.WellLaid.{laid_none, laid_parts, laid_rest}
use Rattle.laid.proofs.well_laid.Goals as goal
use Rattle.laid.proofs.well_laid.Goals.{then-header-rest-via-then-header-rest, then-header-rest-via-else-header-rest+then-header-gt-CLAUSES, then-row, else-row}

pub returns-in_default : goal.returns-in_default
returns-in_default c = sym (laid_none c.args.tree.now (omega arith))

pub returns-then-header-rest : goal.returns-then-header-rest
returns-then-header-rest c =
    let H = c.header-header in
    let parts = laid_parts c.args.tree.now H.result.used H.result.kept (omega arith) H.ensures.0 H.ensures.1 in
    elim c.then-header-rest.branch [
      | then-header-rest-via-then-header-rest w ↦ rw (lt-leb _ _ w.if-header-rest.true) at parts
      | then-header-rest-via-else-header-rest+then-header-gt-CLAUSES w ↦
          rw (le-leb _ _ w.if-header-rest.false, lt-leb H.result.kept max_kept (omega arith)) at parts
    ]

pub returns-then-rows : goal.returns-then-rows
returns-then-rows c =
    let H = c.header-header in
    let parts =
    laid_rest c.args.tree.now _ _ _ _ (omega arith) H.ensures.0 H.ensures.1 (omega arith) (omega arith) c.split_at.ensures.front c.split_at.ensures.back in
    elim c.if-row.branch [
      | then-row w ↦ rw (← c.row.ensures, w.if-row.true, ← w.rows.ensures, ← w.value-is, c.if-rows.true, ← c.zeros.ensures) at parts
      | else-row w ↦ cc
    ]

pub returns-else-rows : goal.returns-else-rows
returns-else-rows c =
    let H = c.header-header in
    let parts =
    laid_rest c.args.tree.now _ _ _ _ (omega arith) H.ensures.0 H.ensures.1 (omega arith) (omega arith) c.split_at.ensures.front c.split_at.ensures.back in
    elim c.if-row.branch [
      | then-row w ↦ c.if-rows.false ∙ (rw (← c.row.ensures, w.if-row.true, ← w.rows.ensures, ← w.value-is, c.if-rows.false) at parts)
      | else-row w ↦ c.if-rows.false ∙ (rw (← c.row.ensures, w.if-row.false) at parts)
    ]
