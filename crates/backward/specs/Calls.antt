-- Listing backward: the call.
use Rattle.std.specs.Prelude.{cond, List, ℕ, length, Err, Ok, Result}
use Rattle.clause.specs.Clause.{shape}
use Rattle.tree.specs.Entries.{Pair}
use Rattle.tree.specs.Laid.{sized, well_laid, decode}
use Rattle.tree.specs.declared.Refusal.{Refusal}
use Rattle.tree.specs.declared.Refusal.TheVariants.{BadSlice, Broken, BadClause, Spent, NoSuchTree, ShortList}
use Rattle.readback.specs.Saved.{of_clauses, pairs_of}
use Rattle.readback.specs.Calls.{over}
use Rattle.backward.specs.Listing.{Listing, listed, overfull, spent, broken, rising, list_from}
use Rattle.backward.specs.declared.Listed.{Listed}
use Rattle.clause.specs.declared.Fault.{Fault}

-- the answer, and the list's words afterwards
pub record Backed : Type 0 where
  pub answer : Result Listed Refusal
  pub list : List ℕ

-- a refusal leaves every word
abbrev pub unlisted : Refusal → List ℕ → Backed
unlisted r L = record { answer = Err r; list = L }

-- what a listing makes of the list: the numbers over its first words, or 16, or 12 with the budget as the count
unfoldable pub listed_in : (budget : ℕ) (list : List ℕ) → Listing → Backed
listed_in b L (listed ns k) = record { answer = Ok (record { count = length ns; candidates = k }); list = over ns L }
listed_in b L overfull = unlisted ShortList L
listed_in b L spent = unlisted (Spent b) L
listed_in b L broken = unlisted Broken L

-- the listing of some pairs into a list
unfoldable pub list_into : (c : List ℕ) (budget : ℕ) (list : List ℕ) (pairs : List Pair) → Backed
list_into c b L K = listed_in b L (list_from c b (rising K) (length L) 0)

-- the listing of a clause of a given shape
abbrev pub backward_as : Result ℕ Fault → (slice clause : List ℕ) (budget : ℕ) (list : List ℕ) → Backed
backward_as (Err f) T c b L = unlisted (BadClause f) L
backward_as (Ok q) T c b L =
    cond (well_laid T) (cond (of_clauses (decode T)) (list_into c b L (pairs_of (decode T))) (unlisted NoSuchTree L)) (unlisted Broken L)

-- listing the kept clauses that a clause subsumes: 1, 3 to 5, 2, 14; then 16 or 12, as they are met
unfoldable pub backward : (slice clause : List ℕ) (budget : ℕ) (list : List ℕ) → Backed
backward T c b L = cond (sized T) (backward_as (shape c) T c b L) (unlisted BadSlice L)
