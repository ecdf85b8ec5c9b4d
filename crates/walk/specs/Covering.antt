-- What the queries of a tree answer, in terms of the clauses that it keeps.
use Rattle.std.specs.Prelude.{◌≡◌, ◌↔◌, ◌⊎◌, ℕ, ◌+◌, ◌*◌, ◌≤◌, ◌<◌, max, length, get_or, Err, Ok}
use mathlib.Core.List.{List, [], ◌∷◌, Memᴰ}
use Rattle.clause.specs.Lists.{All, Injective}
use Rattle.clause.specs.Clause.{max_literals, literals, vars, term_at, IsTerm, inst, Subsumes}
use Rattle.machine.specs.Machine.{State, initial}
use Rattle.tree.specs.Forest.{Forest}
use Rattle.tree.specs.Entries.{Pair}
use Rattle.walk.specs.Walk.{Answer, covered, not_covered, spent, broken, always, walk}
use Rattle.walk.specs.Ceiling.{ceiling, arrangements}
use Rattle.walk.specs.Query.{machine, query}
use Rattle.tree.specs.declared.Refusal.TheVariants.{Spent}
use Rattle.walk.specs.declared.Verdict.TheVariants.{Covered, NotCovered}

-- the most literals in a kept clause
abbrev pub most : List Pair → ℕ
most [] = 0
most (p ∷ K) = max (length (literals p.clause)) (most K)

-- every kept clause is a unit: it has a single literal
abbrev pub Units : List Pair → Type 0
Units = All (λ p. length (literals p.clause) ≡ 1)

-- some kept clause subsumes d
abbrev pub Subsumed : List Pair → List ℕ → Type 0
Subsumed K d = (p : Pair) × Memᴰ p K × Subsumes p.clause d

-- the witness words show c subsuming d: one replacement makes each literal of c the literal of d that is given for it, no two given the same,
-- and the variable of each Put the term at the position that is given for it
pub record Shows (c d witness : List ℕ) : Type 0 where
  pub replace : ℕ → List ℕ
  pub terms : (v : ℕ) → IsTerm (replace v)
  pub literal :
      (i : ℕ) → i < length (literals c)
      → (get_or witness i 0 < length (literals d)) × (inst replace (get_or (literals c) i []) ≡ get_or (literals d) (get_or witness i 0) [])
  pub apart : Injective (length (literals c)) (λ i. get_or witness i 0)
  pub position : (k : ℕ) → k < length (vars c)
      → (get_or witness (max_literals + k) 0 < length d) × (replace (get_or (vars c) k 0) ≡ term_at d (get_or witness (max_literals + k) 0))

-- the words for which c has no literal and no Put are untouched
pub record Untouched (c witness witness' : List ℕ) : Type 0 where
  pub long : length witness' ≡ length witness
  pub literal : (i : ℕ) → length (literals c) ≤ i → i < max_literals → get_or witness' i 0 ≡ get_or witness i 0
  pub position : (k : ℕ) → length (vars c) ≤ k → get_or witness' (max_literals + k) 0 ≡ get_or witness (max_literals + k) 0

-- the count of an answer. The zeros stand for no count: the walk without a budget is never spent, and where Answers holds it is not broken, since
-- with enough budget (`bounded`) the query is answered (`kinds`, `spends`) with just this count (`counts`, `counts_not`)
abbrev pub count_of : Answer State → ℕ
count_of (covered n s c) = c
count_of (not_covered c) = c
count_of spent = 0
count_of broken = 0

-- the candidates that the walk takes without a budget
abbrev pub candidates : Forest → (clause : List ℕ) → ℕ
candidates F d = count_of (walk (machine d) always F initial 0)

-- a query is answered covered
abbrev pub IsCovered : (slice clause : List ℕ) (budget : ℕ) (witness : List ℕ) → Type 0
IsCovered T d b W = (n : ℕ) × (c : ℕ) × ((query T d b W).answer ≡ Ok (Covered n c))

-- a query is answered not covered
abbrev pub IsNotCovered : (slice clause : List ℕ) (budget : ℕ) (witness : List ℕ) → Type 0
IsNotCovered T d b W = (c : ℕ) × ((query T d b W).answer ≡ Ok (NotCovered c))

-- a query is answered spent
abbrev pub IsSpent : (slice clause : List ℕ) (budget : ℕ) (witness : List ℕ) → Type 0
IsSpent T d b W = (query T d b W).answer ≡ Err (Spent b)

-- the query of the clause d on the slice T of the tree F that keeps the pairs K
pub record Answers (K : List Pair) (F : Forest) (T d : List ℕ) (b : ℕ) (W : List ℕ) : Type 0 where
  -- covered, not covered or spent, and never anything else
  pub kinds : IsCovered T d b W ⊎ (IsNotCovered T d b W ⊎ IsSpent T d b W)
  -- covered: the clause kept under that number subsumes d, and the witness shows it
  pub covers :
      (n c : ℕ) → (query T d b W).answer ≡ Ok (Covered n c)
      → (p : Pair) × Memᴰ p K × (p.number ≡ n) × Shows p.clause d (query T d b W).witness × Untouched p.clause W (query T d b W).witness
  -- not covered: none does, and nothing is written
  pub spares : (c : ℕ) → (query T d b W).answer ≡ Ok (NotCovered c) → (Subsumed K d → ⊥) × ((query T d b W).witness ≡ W)
  -- the count is the walk's
  pub counts : (n c : ℕ) → (query T d b W).answer ≡ Ok (Covered n c) → c ≡ candidates F d
  pub counts_not : (c : ℕ) → (query T d b W).answer ≡ Ok (NotCovered c) → c ≡ candidates F d
  -- spent exactly if the walk would take one candidate more than the budget
  pub spends : IsSpent T d b W ↔ (b < candidates F d)
  -- spent: nothing is written
  pub untouched : IsSpent T d b W → (query T d b W).witness ≡ W
  -- within the budget d is covered exactly if a kept clause subsumes it, and not covered exactly if none does
  pub decides : candidates F d ≤ b → IsCovered T d b W ↔ Subsumed K d
  pub denies : candidates F d ≤ b → IsNotCovered T d b W ↔ (Subsumed K d → ⊥)
  -- never more candidates than the ceiling
  pub bounded : candidates F d ≤ ceiling (length K) (length (literals d)) (most K)
  -- nor, since no literal is used twice on a path, than the arrangements of literals for each kept clause
  pub arranged : candidates F d ≤ length K * arrangements (length (literals d)) (most K)
