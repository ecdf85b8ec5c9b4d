-- Listing backward after a list of calls.
use Rattle.backward.proofs.Laws.{backward_laws}
use Rattle.book.specs.Backward.{ListsBook}
use Rattle.book.proofs.Saved.{reach_saved}

pub lists_book : ListsBook
lists_book T xs R c C w b L = backward_laws _ _ (reach_saved T xs R) c C w b L
