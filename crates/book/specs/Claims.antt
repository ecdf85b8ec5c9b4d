-- What is claimed of the calls, and of lists of calls.
use Rattle.std.specs.Prelude.{◌≡◌, ◌↔◌, ◌≢◌, ◌⊎◌, ℕ, ◌≤◌, ◌<◌, length, replicate, Ok}
use Rattle.std.proofs.Math.Option.{Option}
use mathlib.Core.List.{List, [], ◌∷◌, map, Memᴰ}
use Rattle.clause.specs.Lists.{Each}
use Rattle.clause.specs.Clause.{Accepted, literals, Subsumes}
use Rattle.machine.specs.Compile.{Variants, keys}
use Rattle.machine.specs.Machine.{initial}
use Rattle.machine.specs.Compiled.{max_keys}
use Rattle.tree.specs.Forest.{layout, Has, ins, del, find}
use Rattle.tree.specs.Laid.{max_kept, decode}
use Rattle.tree.specs.Entries.{Mirrors, Pair, entry}
use Rattle.walk.specs.Walk.{up_to, walk}
use Rattle.walk.specs.Ceiling.{ceiling, full_budget, enough_budget, ceiling_call}
use Rattle.walk.specs.Query.{machine, witness_words, with_shown, answer_by, walk_slice, query}
use Rattle.walk.specs.Covering.{candidates, Units, IsCovered, IsNotCovered, IsSpent, Answers}
use Rattle.tree.specs.Calls.{fresh, insertion, removal}
use Rattle.readback.specs.Readback.{clause_at}
use Rattle.readback.specs.Saved.{pairs_of}
use Rattle.readback.specs.Calls.{check, read_back}
use Rattle.backward.specs.Listing.{rising, list_from}
use Rattle.backward.specs.Calls.{backward}
use Rattle.book.specs.Table.{ready, kept, removed, returned, passed, said_ceiling, said_check, called, asked, given_back, backed}
use Rattle.book.specs.Refusals.{first_of, fresh_rows, ceiling_rows, insert_rows, remove_rows, query_rows, check_rows, read_rows, back_rows, finished, unless_refused, unless_said, walk_result, read_result, list_result}
use Rattle.book.specs.Book.{Call, Fit, AllFit, call, done, slice_of, book_step, book_of, tree_of}
use Rattle.clause.specs.Word.{Words}
use Rattle.tree.specs.declared.Done.TheVariants.{Ready}
use Rattle.walk.specs.declared.Verdict.TheVariants.{Covered, NotCovered}

-- Demand 1: every call, on any words, answers the first refusal that applies and leaves every lent word, or does what it is for
pub record Demand1 : Type 0 where
  pub freshening : (T : List ℕ)
      → called (fresh T) ≡ unless_refused (first_of (fresh_rows T)) T (finished ready (replicate (length T) 0))
  pub inserting : (T c : List ℕ) (n : ℕ)
      → called (insertion T c n) ≡ unless_refused (first_of (insert_rows T c n)) T (finished kept (layout (length T) (ins (keys c) n (decode T))))
  pub removing : (T : List ℕ) (n : ℕ)
      → called (removal T n) ≡ unless_refused (first_of (remove_rows T n)) T (finished removed (layout (length T) (del n (decode T))))
  pub asking : (T d : List ℕ) (b : ℕ) (W : List ℕ)
      → asked (query T d b W) ≡ unless_refused (first_of (query_rows T d W)) W (walk_result b W (walk_slice T d b))
  pub bounding : (k q m : ℕ)
      → said_ceiling (ceiling_call k q m) ≡ unless_said (first_of (ceiling_rows k q m)) (record { title = returned; values = ceiling k q m ∷ [] })
  pub checking : (T : List ℕ)
      → said_check (check T) ≡ unless_said (first_of (check_rows T)) (record { title = passed; values = [] })
  pub reading_back : (T : List ℕ) (n : ℕ) (W : List ℕ)
      → given_back (read_back T n W) ≡ unless_refused (first_of (read_rows T n W)) W (read_result (clause_at (find n (decode T))) W)
  pub listing : (T c : List ℕ) (b : ℕ) (L : List ℕ)
      → backed (backward T c b L)
      ≡ unless_refused (first_of (back_rows T c)) L (list_result b L (list_from c b (rising (pairs_of (decode T))) (length L) 0))

-- a list of calls on a slice on which fresh has answered "ready"
pub record Run (T : List ℕ) (xs : List Call) : Type 0 where
  pub ready : (fresh T).answer ≡ Ok Ready
  pub fit : AllFit xs

-- Reach: what holds after a list of calls
pub record Reached (T : List ℕ) (xs : List Call) : Type 0 where
  -- the slice is that of the tree of the kept clauses
  pub slice : slice_of T xs ≡ layout (length T) (tree_of (book_of (length T) xs))
  -- that tree's paths are the sequences of the kept clauses, each with its number
  pub tree : Mirrors (tree_of (book_of (length T) xs)) (map entry (book_of (length T) xs))
  -- the numbers in the book differ, no two of its clauses are variants, and it holds at most 1,024 pairs
  pub numbers : Each (λ p q. p.number ≢ q.number) (book_of (length T) xs)
  pub clauses : Each (λ p q. Variants p.clause q.clause → ⊥) (book_of (length T) xs)
  pub few : length (book_of (length T) xs) ≤ max_kept
  -- no path of that tree has more than 320 instructions above its Success, so that a query nests no more calls
  pub short : (cs : List ℕ) (n : ℕ) → Has (tree_of (book_of (length T) xs)) cs n → length cs ≤ max_keys
  -- "kept" and "removed" are answered exactly where the book changes
  pub changes : (x : Call) → Fit x → ((call (slice_of T xs) x).answer ≡ done x) ↔ (book_step (length T) (book_of (length T) xs) x ≢ book_of (length T) xs)

-- the claim, for every list of calls
abbrev pub Reach : Type 0
Reach = (T : List ℕ) (xs : List Call) → Run T xs → Reached T xs

-- Demand 2: every query after a list of calls is answered in terms of the clauses that the list keeps
abbrev pub Demand2 : Type 0
Demand2 =
    (T : List ℕ) (xs : List Call) → Run T xs → (d : List ℕ) → Accepted d → (b : ℕ) (W : List ℕ) → witness_words ≤ length W
    → Answers (book_of (length T) xs) (tree_of (book_of (length T) xs)) (slice_of T xs) d b W

-- each clause of K is subsumed by one of L
abbrev pub Under : List Pair → List Pair → Type 0
Under K L = (p : Pair) → Memᴰ p K → (q : Pair) × Memᴰ q L × Subsumes q.clause p.clause

-- each clause of K stands in L up to variable names, under the same number
abbrev pub Renamed : List Pair → List Pair → Type 0
Renamed K L = (p : Pair) → Memᴰ p K → (q : Pair) × Memᴰ q L × (q.number ≡ p.number) × Variants q.clause p.clause

-- on two slices a query is answered the same, and the same words are written, into whatever witnesses
pub record Same (S T d : List ℕ) (b : ℕ) : Type 0 where
  pub words : List (Option ℕ)
  pub answer : (U W : List ℕ) → witness_words ≤ length U → witness_words ≤ length W → (query S d b U).answer ≡ (query T d b W).answer
  pub left : (U : List ℕ) → witness_words ≤ length U → (query S d b U).witness ≡ with_shown words U
  pub right : (W : List ℕ) → witness_words ≤ length W → (query T d b W).witness ≡ with_shown words W

-- what is claimed of the queries on a slice T where the pairs K are kept: how many candidates they take, what they answer at the full budget, and that
-- they are the walk's
pub record Alone (T : List ℕ) (K : List Pair) : Type 0 where
  -- no accepted query takes more candidates than `enough_budget`, which is less than the full one
  pub enough : (d : List ℕ) → Accepted d → candidates (tree_of K) d ≤ enough_budget
  -- at the full budget every accepted query is answered covered or not covered
  pub decided : (d : List ℕ) → Accepted d → (W : List ℕ) → witness_words ≤ length W → IsCovered T d full_budget W ⊎ IsNotCovered T d full_budget W
  -- the answer is that of the walk over the tree of the kept clauses
  pub walked :
      (d : List ℕ) → Accepted d → (b : ℕ) (W : List ℕ) → witness_words ≤ length W
      → query T d b W ≡ answer_by b W (walk (machine d) (up_to b) (tree_of K) initial 0)

-- what is claimed of the queries on two slices S and T, where the pairs K and L are kept
pub record Both (S : List ℕ) (K : List Pair) (T : List ℕ) (L : List Pair) : Type 0 where
  pub one : Alone S K
  pub other : Alone T L
  -- at the full budget they agree on every accepted query exactly if each clause kept by either is subsumed by one kept by the other
  pub agree :
      ((d : List ℕ) → Accepted d → Words d → (U W : List ℕ) → witness_words ≤ length U → witness_words ≤ length W
      → IsCovered S d full_budget U ↔ IsCovered T d full_budget W)
      ↔ (Under K L × Under L K)
  -- with the same clauses up to variable names under the same numbers, every answer is the same at every budget
  pub same : Renamed K L → Renamed L K → (d : List ℕ) → Accepted d → (b : ℕ) → Same S T d b

-- two lists of calls
pub record Together (S : List ℕ) (xs : List Call) (T : List ℕ) (ys : List Call) : Type 0 where
  pub reached_one : Reached S xs
  pub reached_other : Reached T ys
  pub both : Both (slice_of S xs) (book_of (length S) xs) (slice_of T ys) (book_of (length T) ys)

-- Demand 3
abbrev pub Demand3 : Type 0
Demand3 = (S : List ℕ) (xs : List Call) (T : List ℕ) (ys : List Call) → Run S xs → Run T ys → Together S xs T ys

-- what is claimed of a query's count where units (clauses of a single literal) are kept, at least one, and nothing else; q is the number of d's literals
pub record Exact (T : List ℕ) (xs : List Call) (d : List ℕ) (b : ℕ) (W : List ℕ) : Type 0 where
  -- not covered: the count is exactly q
  pub exact : (c : ℕ) → (query (slice_of T xs) d b W).answer ≡ Ok (NotCovered c) → c ≡ length (literals d)
  -- covered: it is at most q
  pub at_most : (n c : ℕ) → (query (slice_of T xs) d b W).answer ≡ Ok (Covered n c) → c ≤ length (literals d)
  -- every budget of q or more is enough
  pub enough : length (literals d) ≤ b → IsCovered (slice_of T xs) d b W ⊎ IsNotCovered (slice_of T xs) d b W
  -- a smaller one is spent, unless d is covered within it
  pub less : b < length (literals d)
      → IsSpent (slice_of T xs) d b W ⊎ ((n : ℕ) × (c : ℕ) × ((query (slice_of T xs) d b W).answer ≡ Ok (Covered n c)) × (c ≤ b))

-- One literal, an exact count: for every list of calls that keeps at least one clause, and units only, and for every query, budget and witness
abbrev pub ExactCount : Type 0
ExactCount =
    (T : List ℕ) (xs : List Call) → Run T xs → 1 ≤ length (book_of (length T) xs) → Units (book_of (length T) xs)
    → (d : List ℕ) → Accepted d → (b : ℕ) (W : List ℕ) → witness_words ≤ length W → Exact T xs d b W
