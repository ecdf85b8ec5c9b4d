-- The definitions' laws, each by its theorem.
use Rattle.clause.proofs.Accepted.{clause_laws}
use Rattle.clause.proofs.Order.{subsumes_refl, subsumes_trans, subsumes_fewer}
use Rattle.machine.proofs.Matching.{matching, variants_subsume}
use Rattle.tree.proofs.Laws.{tree_laws}
use Rattle.readback.proofs.Laws.{readback_laws}
use Rattle.walk.proofs.Laws.{walk_laws, full_budget_lem, enough_budget_lem}
use Rattle.backward.proofs.Laws.{backward_laws}
use Rattle.book.specs.Believable.{Believable}
use Rattle.book.proofs.Laws.{book_laws}
use Rattle.book.proofs.Trials.{trials_hold, readings_hold}

pub believable : Believable
believable =
    record {
      clauses = clause_laws;
      reflexive = subsumes_refl;
      transitive = subsumes_trans;
      fewer = subsumes_fewer;
      variants = variants_subsume;
      matching = matching;
      trees = tree_laws;
      readback = readback_laws;
      walks = walk_laws;
      backward = backward_laws;
      budget = full_budget_lem;
      enough = enough_budget_lem;
      books = book_laws;
      rows = trials_hold;
      readings_taken = readings_hold;
    }
