-- What is claimed of the calls that C makes: each call, and lists of calls, queries, checks, clauses read back and listed after them, in terms of the
-- numbers returned and the words told.
use Rattle.std.specs.Prelude.{◌≡◌, ◌↔◌, ◌≢◌, ◌⊎◌, ℕ, ◌*◌, ◌≤◌, ◌<◌, length, replicate}
use Rattle.std.proofs.Math.Option.{Option}
use mathlib.Core.List.{List, [], ◌∷◌, map, Memᴰ}
use Rattle.clause.specs.Lists.{Each}
use Rattle.clause.specs.Word.{Words}
use Rattle.clause.specs.Clause.{Accepted, Subsumes, literals, max_words}
use Rattle.machine.specs.Compile.{keys}
use Rattle.tree.specs.Keys.{first_key}
use Rattle.tree.specs.Forest.{layout, ins, del, find}
use Rattle.tree.specs.Laid.{decode}
use Rattle.tree.specs.Entries.{Pair}
use Rattle.tree.specs.Calls.{fresh, insertion, removal}
use Rattle.readback.specs.Readback.{normal, clause_at}
use Rattle.readback.specs.Saved.{IsTreeOf, IsSaved, pairs_of}
use Rattle.readback.specs.Calls.{check, over, read_back}
use Rattle.backward.specs.Listing.{rising, list_from}
use Rattle.backward.specs.Calls.{backward}
use Rattle.backward.specs.Laws.{queried, tries_of, SpentAt, FullAt}
use Rattle.walk.specs.Ceiling.{ceiling, arrangements, full_budget, enough_budget, ceiling_call}
use Rattle.walk.specs.Query.{witness_words, with_shown, walk_slice, query}
use Rattle.walk.specs.Covering.{most, Units, Subsumed, Shows, Untouched, candidates}
use Rattle.book.specs.Table.{ready, kept, removed, returned, passed}
use Rattle.book.specs.Refusals.{first_of, fresh_rows, ceiling_rows, insert_rows, remove_rows, query_rows, check_rows, read_rows, back_rows}
use Rattle.book.specs.Refusals.{finished, unless_refused, unless_said, walk_result, read_result, list_result}
use Rattle.book.specs.Book.{Call, insert, remove, Fit, AllFit, book_step, book_from, book_of, tree_of}
use Rattle.book.specs.Claims.{Under, Renamed}
use Rattle.interface.specs.Told.{number_of, told_by, replied}
use Rattle.interface.specs.Calls.{Left, Handed, left, handed, ct_fresh, ct_insert, ct_remove, ct_query, ct_ceiling, ct_read_back, ct_check, ct_backward}

-- ---- each call

-- Demand 1: every call, on any words, returns the code of the first refusal of its rows that applies, tells that refusal's values and leaves every other
-- lent word; or it returns 0 and does what it is for. A query and a listing may still meet 2, 12 or 16, with the lent words left too
pub record CtDemand1 : Type 0 where
  pub freshening : (T : List ℕ) → ct_fresh T ≡ left (unless_refused (first_of (fresh_rows T)) T (finished ready (replicate (length T) 0)))
  pub inserting : (T c : List ℕ) (n : ℕ) (ts : List ℕ)
      → ct_insert T c n ts ≡ handed (unless_refused (first_of (insert_rows T c n)) T (finished kept (layout (length T) (ins (keys c) n (decode T))))) ts
  pub removing : (T : List ℕ) (n : ℕ)
      → ct_remove T n ≡ left (unless_refused (first_of (remove_rows T n)) T (finished removed (layout (length T) (del n (decode T)))))
  pub asking : (T d : List ℕ) (b : ℕ) (W ts : List ℕ)
      → ct_query T d b W ts ≡ handed (unless_refused (first_of (query_rows T d W)) W (walk_result b W (walk_slice T d b))) ts
  pub bounding : (k q m : ℕ) (ts : List ℕ)
      → ct_ceiling k q m ts ≡ replied (unless_said (first_of (ceiling_rows k q m)) (record { title = returned; values = ceiling k q m ∷ [] })) ts
  pub checking : (T : List ℕ) → ct_check T ≡ number_of (unless_said (first_of (check_rows T)) (record { title = passed; values = [] })).title
  pub reading_back : (T : List ℕ) (n : ℕ) (W ts : List ℕ)
      → ct_read_back T n W ts ≡ handed (unless_refused (first_of (read_rows T n W)) W (read_result (clause_at (find n (decode T))) W)) ts
  pub listing : (T c : List ℕ) (b : ℕ) (L ts : List ℕ)
      → ct_backward T c b L ts
      ≡ handed (unless_refused (first_of (back_rows T c)) L (list_result b L (list_from c b (rising (pairs_of (decode T))) (length L) 0))) ts

-- ---- lists of calls

-- a call of ct_insert or ct_remove, with the told words that ct_insert is lent
pub record Made : Type 0 where
  pub call : Call
  pub told : List ℕ

-- the number it returns, and the tree's words afterwards
abbrev pub ct_call : (tree : List ℕ) → Call → (told : List ℕ) → Left
ct_call T (insert c n) ts = record { number = (ct_insert T c n ts).number; words = (ct_insert T c n ts).words }
ct_call T (remove n) ts = ct_remove T n

-- the tree's words after some calls, each on the words as the call before left them
abbrev pub ct_after : (tree : List ℕ) → List Made → List ℕ
ct_after T [] = T
ct_after T (x ∷ xs) = ct_after (ct_call T x.call x.told).words xs

-- the tree's words after ct_fresh and some calls
abbrev pub ct_tree : (tree : List ℕ) → List Made → List ℕ
ct_tree T xs = ct_after (ct_fresh T).words xs

-- the calls as the clause book is fed them
abbrev pub calls_made : List Made → List Call
calls_made xs = map (λ x. x.call) xs

-- the clauses that they keep
abbrev pub ct_book : (tree : List ℕ) → List Made → List Pair
ct_book T xs = book_of (length T) (calls_made xs)

-- ct_fresh returned 0; clause words have 16 bits and numbers 32, as C's types have it
pub record CtRun (T : List ℕ) (xs : List Made) : Type 0 where
  pub ready : (ct_fresh T).number ≡ 0
  pub fit : AllFit (calls_made xs)

-- what holds after the calls
pub record CtReached (T : List ℕ) (xs : List Made) : Type 0 where
  -- the words are those of the tree of the kept clauses
  pub words : ct_tree T xs ≡ layout (length T) (tree_of (ct_book T xs))
  -- a further call returns 0 exactly where the book changes
  pub changes : (x : Call) → Fit x → (ts : List ℕ)
      → ((ct_call (ct_tree T xs) x ts).number ≡ 0) ↔ (book_step (length T) (ct_book T xs) x ≢ ct_book T xs)

-- the claim, for every list of calls
abbrev pub CtReach : Type 0
CtReach = (T : List ℕ) (xs : List Made) → CtRun T xs → CtReached T xs

-- ---- queries

-- what a query needs to be accepted, and to tell its answer whole
pub record Askable (d W ts : List ℕ) : Type 0 where
  pub clause : Accepted d
  pub witness : witness_words ≤ length W
  pub told : 3 ≤ length ts

-- a number is returned, and values are told over the words ts
abbrev pub Says : Handed → (ts : List ℕ) (number : ℕ) (values : List ℕ) → Type 0
Says r ts n vs = (r.number ≡ n) × (r.told ≡ told_by vs ts)

-- 0, and 1, a clause's number and a count
abbrev pub SaysCovered : Handed → (ts : List ℕ) → (count : ℕ) → Type 0
SaysCovered r ts c = (n : ℕ) × Says r ts 0 (1 ∷ n ∷ c ∷ [])

-- 0, and 0, 0 and a count
abbrev pub SaysNot : Handed → (ts : List ℕ) → (count : ℕ) → Type 0
SaysNot r ts c = Says r ts 0 (0 ∷ 0 ∷ c ∷ [])

-- 12, and the budget
abbrev pub SaysSpent : Handed → (ts : List ℕ) → (budget : ℕ) → Type 0
SaysSpent r ts b = Says r ts 12 (b ∷ [])

-- the candidates that the walk for d takes without a budget, where the pairs K are kept
abbrev pub needed : List Pair → (clause : List ℕ) → ℕ
needed K d = candidates (tree_of K) d

-- what ct_query hands over for the clause d, the budget b, the witness W and the told words ts, where the pairs K are kept
pub record CtAnswers (K : List Pair) (d : List ℕ) (b : ℕ) (W ts : List ℕ) (r : Handed) : Type 0 where
  -- one of the three, and never anything else
  pub kinds : SaysCovered r ts (needed K d) ⊎ (SaysNot r ts (needed K d) ⊎ SaysSpent r ts b)
  -- covered exactly if a kept clause subsumes d, not covered exactly if none does, and spent exactly if the budget is too small to tell
  pub covered : SaysCovered r ts (needed K d) ↔ ((needed K d ≤ b) × Subsumed K d)
  pub not_covered : SaysNot r ts (needed K d) ↔ ((needed K d ≤ b) × (Subsumed K d → ⊥))
  pub spent : SaysSpent r ts b ↔ (b < needed K d)
  -- no query takes more candidates than `enough_budget`, which is less than the full budget; nor than the ceiling
  pub enough : needed K d ≤ enough_budget
  pub bounded : needed K d ≤ ceiling (length K) (length (literals d)) (most K)
  -- nor than the arrangements of literals for each kept clause
  pub arranged : needed K d ≤ length K * arrangements (length (literals d)) (most K)
  -- the clause kept under the number that is told subsumes d, and the witness shows it
  pub shows : (n : ℕ) → Says r ts 0 (1 ∷ n ∷ needed K d ∷ [])
      → (p : Pair) × Memᴰ p K × (p.number ≡ n) × Shows p.clause d r.words × Untouched p.clause W r.words
  -- else the witness stays
  pub spares : SaysNot r ts (needed K d) ⊎ SaysSpent r ts b → r.words ≡ W

-- Demand 2: every accepted query after a list of calls is answered in terms of the clauses that the list keeps
abbrev pub CtDemand2 : Type 0
CtDemand2 =
    (T : List ℕ) (xs : List Made) → CtRun T xs → (d W ts : List ℕ) → Askable d W ts → (b : ℕ)
    → CtAnswers (ct_book T xs) d b W ts (ct_query (ct_tree T xs) d b W ts)

-- on two trees ct_query returns the same and writes the same words, into whatever witnesses and told words
pub record CtSame (S T d : List ℕ) (b : ℕ) : Type 0 where
  pub number : ℕ
  pub values : List ℕ
  pub words : List (Option ℕ)
  pub one : (U ts : List ℕ) → witness_words ≤ length U → ct_query S d b U ts ≡ record { number = number; words = with_shown words U; told = told_by values ts }
  pub other : (U ts : List ℕ) → witness_words ≤ length U → ct_query T d b U ts ≡ record { number = number; words = with_shown words U; told = told_by values ts }

-- on a tree a clause is said to be covered at the full budget
abbrev pub CtCovered : (tree clause witness told : List ℕ) → Type 0
CtCovered T d W ts = (c : ℕ) × SaysCovered (ct_query T d full_budget W ts) ts c

-- two lists of calls
pub record CtTogether (S : List ℕ) (xs : List Made) (T : List ℕ) (ys : List Made) : Type 0 where
  -- at the full budget they agree on every accepted query exactly if each clause kept by either is subsumed by one kept by the other
  pub agree :
      ((d : List ℕ) → Words d → (U ts W us : List ℕ) → Askable d U ts → Askable d W us → CtCovered (ct_tree S xs) d U ts ↔ CtCovered (ct_tree T ys) d W us)
      ↔ (Under (ct_book S xs) (ct_book T ys) × Under (ct_book T ys) (ct_book S xs))
  -- with the same clauses up to variable names under the same numbers, every answer is the same at every budget
  pub same : Renamed (ct_book S xs) (ct_book T ys) → Renamed (ct_book T ys) (ct_book S xs)
      → (d : List ℕ) → Accepted d → (b : ℕ) → CtSame (ct_tree S xs) (ct_tree T ys) d b

-- Demand 3
abbrev pub CtDemand3 : Type 0
CtDemand3 = (S : List ℕ) (xs : List Made) (T : List ℕ) (ys : List Made) → CtRun S xs → CtRun T ys → CtTogether S xs T ys

-- what ct_query hands over for the clause d, the budget b and the told words ts, where units are kept, at least one, and nothing else; q is the number
-- of d's literals
pub record CtExact (d : List ℕ) (b : ℕ) (ts : List ℕ) (r : Handed) : Type 0 where
  -- not covered: the count that is told is exactly q
  pub exact : (c : ℕ) → SaysNot r ts c → c ≡ length (literals d)
  -- covered: it is at most q
  pub at_most : (c : ℕ) → SaysCovered r ts c → c ≤ length (literals d)
  -- every budget of q or more is enough
  pub enough : length (literals d) ≤ b → ((c : ℕ) × SaysCovered r ts c) ⊎ ((c : ℕ) × SaysNot r ts c)
  -- a smaller one is spent, unless d is covered within it
  pub less : b < length (literals d) → SaysSpent r ts b ⊎ ((c : ℕ) × (c ≤ b) × SaysCovered r ts c)

-- One literal, an exact count
abbrev pub CtExactCount : Type 0
CtExactCount =
    (T : List ℕ) (xs : List Made) → CtRun T xs → 1 ≤ length (ct_book T xs) → Units (ct_book T xs)
    → (d W ts : List ℕ) → Askable d W ts → (b : ℕ) → CtExact d b ts (ct_query (ct_tree T xs) d b W ts)

-- ---- saved trees

-- ct_check returns 0 exactly for the tree of some clauses, or of none
abbrev pub CtChecked : Type 0
CtChecked = (T : List ℕ) → (ct_check T ≡ 0) ↔ IsSaved T

-- what holds of reading back after the calls, into the output W with the told words ts
pub record CtReads (T : List ℕ) (xs : List Made) (W ts : List ℕ) : Type 0 where
  -- the tree passes the check
  pub passes : ct_check (ct_tree T xs) ≡ 0
  -- by its number each kept clause comes back, with its variables numbered by first appearance: 0 is returned, and its length told
  pub each : (p : Pair) → Memᴰ p (ct_book T xs)
      → ct_read_back (ct_tree T xs) p.number W ts
      ≡ record { number = 0; words = over (normal p.clause) W; told = told_by (length p.clause ∷ []) ts }
  -- 9 comes exactly for the other numbers
  pub unknown : (n : ℕ) → n < first_key → ((ct_read_back (ct_tree T xs) n W ts).number ≡ 9) ↔ ((p : Pair) → Memᴰ p (ct_book T xs) → p.number ≢ n)

-- the claim, for every list of calls
abbrev pub CtReadsBook : Type 0
CtReadsBook = (T : List ℕ) (xs : List Made) → CtRun T xs → (W : List ℕ) → max_words ≤ length W → (ts : List ℕ) → CtReads T xs W ts

-- a tree that is the tree of the pairs K, after further calls: calls from ct_fresh make it, of which all the above is claimed
pub record CtResumed (T : List ℕ) (K : List Pair) (xs : List Made) : Type 0 where
  pub calls : List Made
  pub run : CtRun T calls
  pub words : ct_tree T calls ≡ ct_after T xs
  pub book : ct_book T calls ≡ book_from (length T) K (calls_made xs)

-- the claim, for every saved tree
abbrev pub CtSavedIsMade : Type 0
CtSavedIsMade = (T : List ℕ) (K : List Pair) → IsTreeOf T K → (xs : List Made) → AllFit (calls_made xs) → CtResumed T K xs

-- ---- listing backward

-- 0 is returned with these numbers over the list's first words, and told how many and how many candidates; the list's further words stay
abbrev pub Lists : Handed → (list told numbers : List ℕ) (candidates : ℕ) → Type 0
Lists r L ts ns k = r ≡ record { number = 0; words = over ns L; told = told_by (length ns ∷ k ∷ []) ts }

-- 12 with the budget told, and 16 with nothing told; no word of the list is written
abbrev pub ListsSpent : Handed → (list told : List ℕ) (budget : ℕ) → Type 0
ListsSpent r L ts b = r ≡ record { number = 12; words = L; told = told_by (b ∷ []) ts }

abbrev pub ListsFull : Handed → (list told : List ℕ) → Type 0
ListsFull r L ts = r ≡ record { number = 16; words = L; told = ts }

-- what ct_backward hands over for the clause c, the budget b, the list L and the told words ts, where the pairs K are kept
pub record CtLists (K : List Pair) (c : List ℕ) (b : ℕ) (L ts : List ℕ) (r : Handed) : Type 0 where
  -- the numbers that are to be listed: exactly those of the pairs whose clause c subsumes; they rise, so that each stands once
  pub numbers : List ℕ
  pub exactly : (n : ℕ) → Memᴰ n numbers ↔ ((p : Pair) × Memᴰ p K × (p.number ≡ n) × Subsumes c p.clause)
  pub rise : Each ◌<◌ numbers
  -- they are listed, with the candidates in all, exactly if list and budget are enough
  pub listed : Lists r L ts numbers (tries_of c (queried K)) ↔ ((length numbers ≤ length L) × (tries_of c (queried K) ≤ b))
  -- 12 and 16 come exactly where they are met, going by rising number
  pub spent : ListsSpent r L ts b ↔ SpentAt c b L (queried K)
  pub full : ListsFull r L ts ↔ FullAt c b L (queried K)
  -- one of the three, and never anything else
  pub kinds : Lists r L ts numbers (tries_of c (queried K)) ⊎ (ListsSpent r L ts b ⊎ ListsFull r L ts)
  -- a budget that is enough for every query is enough for the listing
  pub enough : tries_of c (queried K) ≤ enough_budget

-- the claim, for every list of calls and every accepted clause, whose words have 16 bits
abbrev pub CtListsBook : Type 0
CtListsBook =
    (T : List ℕ) (xs : List Made) → CtRun T xs → (c : List ℕ) → Accepted c → Words c → (b : ℕ) (L ts : List ℕ)
    → CtLists (ct_book T xs) c b L ts (ct_backward (ct_tree T xs) c b L ts)

-- ---- nothing is lost on the way out

-- two different answers of a function differ in the number returned or, with three told words or more, in the told words
pub record ToldApart : Type 0 where
  pub freshened : (T U : List ℕ) → (ct_fresh T).number ≡ (ct_fresh U).number → (fresh T).answer ≡ (fresh U).answer
  pub inserted :
      (T c : List ℕ) (n : ℕ) (ts U e : List ℕ) (m : ℕ) (us : List ℕ) → 3 ≤ length ts → 3 ≤ length us
      → (ct_insert T c n ts).number ≡ (ct_insert U e m us).number → (ct_insert T c n ts).told ≡ (ct_insert U e m us).told
      → (insertion T c n).answer ≡ (insertion U e m).answer
  pub removed : (T : List ℕ) (n : ℕ) (U : List ℕ) (m : ℕ) → (ct_remove T n).number ≡ (ct_remove U m).number → (removal T n).answer ≡ (removal U m).answer
  pub asked :
      (T d : List ℕ) (b : ℕ) (X ts U e : List ℕ) (a : ℕ) (W us : List ℕ) → 3 ≤ length ts → 3 ≤ length us
      → (ct_query T d b X ts).number ≡ (ct_query U e a W us).number → (ct_query T d b X ts).told ≡ (ct_query U e a W us).told
      → (query T d b X).answer ≡ (query U e a W).answer
  pub bounded :
      (k q m : ℕ) (ts : List ℕ) (l r n : ℕ) (us : List ℕ) → 3 ≤ length ts → 3 ≤ length us
      → (ct_ceiling k q m ts).number ≡ (ct_ceiling l r n us).number → (ct_ceiling k q m ts).told ≡ (ct_ceiling l r n us).told
      → ceiling_call k q m ≡ ceiling_call l r n
  pub read :
      (T : List ℕ) (n : ℕ) (X ts U : List ℕ) (m : ℕ) (W us : List ℕ) → 3 ≤ length ts → 3 ≤ length us
      → (ct_read_back T n X ts).number ≡ (ct_read_back U m W us).number → (ct_read_back T n X ts).told ≡ (ct_read_back U m W us).told
      → (read_back T n X).answer ≡ (read_back U m W).answer
  pub listed :
      (T c : List ℕ) (b : ℕ) (L ts U e : List ℕ) (a : ℕ) (M us : List ℕ) → 3 ≤ length ts → 3 ≤ length us
      → (ct_backward T c b L ts).number ≡ (ct_backward U e a M us).number → (ct_backward T c b L ts).told ≡ (ct_backward U e a M us).told
      → (backward T c b L).answer ≡ (backward U e a M).answer
  pub checked : (T U : List ℕ) → ct_check T ≡ ct_check U → check T ≡ check U
