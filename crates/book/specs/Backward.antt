-- What is claimed of listing backward after a list of calls.
use Rattle.std.specs.Prelude.{List, ℕ, length}
use Rattle.clause.specs.Word.{Words}
use Rattle.clause.specs.Clause.{Accepted}
use Rattle.backward.specs.Laws.{ListsKept}
use Rattle.book.specs.Book.{Call, slice_of, book_of}
use Rattle.book.specs.Claims.{Run}

-- after any list of calls the numbers listed are exactly those of the book whose clause the given one subsumes
abbrev pub ListsBook : Type 0
ListsBook =
    (T : List ℕ) (xs : List Call) → Run T xs → (c : List ℕ) → Accepted c → Words c → (b : ℕ) (L : List ℕ)
    → ListsKept (slice_of T xs) (book_of (length T) xs) c b L
