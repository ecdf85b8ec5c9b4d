-- What is claimed of saved slices: those that calls make pass the check, those that pass are made by calls, and their clauses are read back.
use Rattle.std.specs.Prelude.{◌≡◌, ◌↔◌, List, [], ◌∷◌, ◌++◌, ℕ, ◌≤◌, length, Ok}
use Rattle.clause.specs.Clause.{Accepted, max_words}
use Rattle.tree.specs.Entries.{Pair}
use Rattle.walk.specs.Query.{witness_words}
use Rattle.walk.specs.Covering.{Answers}
use Rattle.readback.specs.Saved.{IsTreeOf, IsSaved}
use Rattle.readback.specs.Calls.{check}
use Rattle.readback.specs.Laws.{ReadsKept}
use Rattle.book.specs.Book.{Call, insert, AllFit, after, slice_of, book_from, book_of, tree_of}
use Rattle.book.specs.Claims.{Run, Both}

-- every slice that calls make is the tree of the clauses that they keep, so that it passes (`PassedSaved`)
abbrev pub ReachSaved : Type 0
ReachSaved = (T : List ℕ) (xs : List Call) → Run T xs → IsTreeOf (slice_of T xs) (book_of (length T) xs)

-- a slice passes exactly if it is the tree of some clauses, or of none
abbrev pub PassedSaved : Type 0
PassedSaved = (T : List ℕ) → (check T ≡ Ok tt) ↔ IsSaved T

-- ---- a saved slice is one that calls make

-- the insertions of pairs, the last one first, so that the book has them in this order
abbrev pub insert_all : List Pair → List Call
insert_all [] = []
insert_all (p ∷ K) = insert_all K ++ (insert p.clause p.number ∷ [])

-- the slice T, which is the tree of the pairs K, after further calls: calls from fresh make it, which insert the pairs one by one and then are those
pub record Resumed (T : List ℕ) (K : List Pair) (xs : List Call) : Type 0 where
  pub run : Run T (insert_all K ++ xs)
  pub slice : slice_of T (insert_all K ++ xs) ≡ after T xs
  pub book : book_of (length T) (insert_all K ++ xs) ≡ book_from (length T) K xs
  -- so it is a saved slice again
  pub tree : IsTreeOf (after T xs) (book_from (length T) K xs)

-- so all that is claimed of lists of calls from fresh holds of a saved slice, and of further calls on it
abbrev pub SavedIsMade : Type 0
SavedIsMade = (T : List ℕ) (K : List Pair) → IsTreeOf T K → (xs : List Call) → AllFit xs → Resumed T K xs

-- Demand 2 of a saved slice and further calls
abbrev pub SavedDemand2 : Type 0
SavedDemand2 =
    (T : List ℕ) (K : List Pair) → IsTreeOf T K → (xs : List Call) → AllFit xs
    → (d : List ℕ) → Accepted d → (b : ℕ) (W : List ℕ) → witness_words ≤ length W
    → Answers (book_from (length T) K xs) (tree_of (book_from (length T) K xs)) (after T xs) d b W

-- Demand 3 of two saved slices and further calls on each
abbrev pub SavedDemand3 : Type 0
SavedDemand3 =
    (S : List ℕ) (K : List Pair) (xs : List Call) (T : List ℕ) (L : List Pair) (ys : List Call)
    → IsTreeOf S K → AllFit xs → IsTreeOf T L → AllFit ys
    → Both (after S xs) (book_from (length S) K xs) (after T ys) (book_from (length T) L ys)

-- ---- clauses read back

-- after any list of calls the clauses of the book are read back
abbrev pub ReadsBook : Type 0
ReadsBook =
    (T : List ℕ) (xs : List Call) → Run T xs → (W : List ℕ) → max_words ≤ length W → ReadsKept (slice_of T xs) (book_of (length T) xs) W
