-- Lists of calls: what they leave in a slice, and what the clause book tells that they keep.
use Rattle.std.specs.Prelude.{cond, List, [], ◌∷◌, map, ℕ, ◌<◌, eqb, Err, Ok, Result}
use Rattle.clause.specs.Clause.{shape}
use Rattle.tree.specs.Keys.{first_key}
use Rattle.tree.specs.Forest.{Forest}
use Rattle.tree.specs.Entries.{build, Pair, entry}
use Rattle.tree.specs.Changes.{refuses}
use Rattle.tree.specs.Calls.{Called, fresh, insertion, removal}
use Rattle.clause.specs.Word.{Words}
use Rattle.tree.specs.declared.Done.{Done}
use Rattle.tree.specs.declared.Done.TheVariants.{Kept, Removed}
use Rattle.tree.specs.declared.Refusal.{Refusal}
use Rattle.clause.specs.declared.Fault.{Fault}

-- a call: an insertion or a removal
pub data Call : Type 0 where
  insert : (clause : List ℕ) (number : ℕ) → Call
  remove : (number : ℕ) → Call

-- clause words have 16 bits, clause numbers 32: they are the keys below the first that is no Success
abbrev pub Fit : Call → Type 0
Fit (insert c n) = Words c × (n < first_key)
Fit (remove n) = n < first_key

-- all calls of a list do
abbrev pub AllFit : List Call → Type 0
AllFit [] = Unit {0}
AllFit (x ∷ xs) = Fit x × AllFit xs

-- ---- the slice

-- a call on a slice
abbrev pub call : List ℕ → Call → Called
call T (insert c n) = insertion T c n
call T (remove n) = removal T n

-- its answer where the tree is changed
abbrev pub done : Call → Result Done Refusal
done (insert c n) = Ok Kept
done (remove n) = Ok Removed

-- the slice after some calls, each on the slice as the call before left it
abbrev pub after : List ℕ → List Call → List ℕ
after T [] = T
after T (x ∷ xs) = after (call T x).slice xs

-- a slice after fresh and some calls
abbrev pub slice_of : List ℕ → List Call → List ℕ
slice_of T xs = after (fresh T).slice xs

-- ---- the clause book: the abstract state that a slice stands for, read from the calls alone

-- the pairs without the one with a number
abbrev pub without : ℕ → List Pair → List Pair
without n [] = []
without n (p ∷ K) = cond (eqb p.number n) (without n K) (p ∷ without n K)

-- an insertion of a clause of a given shape
abbrev pub book_insert : Result ℕ Fault → (len : ℕ) → List Pair → Pair → List Pair
book_insert (Err f) len K p = K
book_insert (Ok q) len K p = cond (refuses len (map entry K) (entry p)) K (p ∷ K)

-- the book after one more call on a slice of len words
unfoldable pub book_step : (len : ℕ) → List Pair → Call → List Pair
book_step len K (insert c n) = book_insert (shape c) len K (record { number = n; clause = c })
book_step len K (remove n) = without n K

-- the book after some calls
abbrev pub book_from : (len : ℕ) → List Pair → List Call → List Pair
book_from len K [] = K
book_from len K (x ∷ xs) = book_from len (book_step len K x) xs

-- the clauses kept by a list of calls on a slice of len words after fresh
abbrev pub book_of : (len : ℕ) → List Call → List Pair
book_of len xs = book_from len [] xs

-- the tree of the kept clauses
unfoldable pub tree_of : List Pair → Forest
tree_of K = build (map entry K)
