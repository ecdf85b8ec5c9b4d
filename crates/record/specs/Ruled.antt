-- What becomes of one record, by the clause book before it.
use Rattle.std.specs.Prelude.{◌≡◌, ◌↔◌, ◌≢◌, ℕ, ◌≤◌, ◌<◌, length, replicate, Err}
use mathlib.Core.List.{List, [], ◌∷◌, map, Memᴰ}
use Rattle.clause.specs.Lists.{Each}
use Rattle.clause.specs.Clause.{shape, Accepted, literals, Subsumes}
use Rattle.machine.specs.Machine.{State, initial}
use Rattle.tree.specs.Laid.{max_kept}
use Rattle.tree.specs.Entries.{Pair, entry}
use Rattle.tree.specs.Beginnings.{beginnings, different}
use Rattle.tree.specs.Refusal.{code_of}
use Rattle.walk.specs.Walk.{covered, up_to, walk}
use Rattle.walk.specs.Query.{machine, witness_words, shown, with_shown}
use Rattle.walk.specs.Covering.{Subsumed, Shows, candidates}
use Rattle.book.specs.Book.{without, tree_of}
use Rattle.record.specs.Answer.{budget, tree_words, Record}
use Rattle.clause.specs.declared.Fault.{Fault}
use Rattle.tree.specs.declared.Refusal.{Refusal}
use Rattle.tree.specs.declared.Refusal.TheVariants.{BadClause, NumberTaken, ListFull, NoRoom, Spent}
use Rattle.record.specs.declared.Setting.{Setting}
use Rattle.record.specs.declared.Setting.TheVariants.{Plain, Back}
use Rattle.record.specs.declared.Outcome.{Outcome}
use Rattle.record.specs.declared.Outcome.TheVariants.{Kept, Struck, Refused}

-- the pair of a record
abbrev pub pair_of : Record → Pair
pair_of x = record { number = x.number; clause = x.words }

-- a number is in the book
abbrev pub Numbered : List Pair → ℕ → Type 0
Numbered K n = (p : Pair) × Memᴰ p K × (p.number ≡ n)

-- the words that the tree of some pairs takes: as many as their sequences have different beginnings
abbrev pub words_of : List Pair → ℕ
words_of K = different (beginnings (map entry K))

-- the record's clause is accepted, and the walk over the tree of the book takes no more candidates than the budget
pub record Decided (K : List Pair) (x : Record) : Type 0 where
  pub accepted : Accepted x.words
  pub fits : candidates (tree_of K) x.words ≤ budget

-- and no clause of the book subsumes it
pub record Uncovered (K : List Pair) (x : Record) : Type 0 where
  pub decided : Decided K x
  pub unsubsumed : Subsumed K x.words → ⊥

-- and the book takes it: its number is new, there are fewer than 1,024 pairs without those that go, and the tree has room without them
pub record Takes (K L : List Pair) (x : Record) : Type 0 where
  pub uncovered : Uncovered K x
  pub new : Numbered K x.number → ⊥
  pub few : length L < max_kept
  pub room : words_of (pair_of x ∷ L) < tree_words

-- the book strikes it: the walk over the tree of the book ends at the number n after k candidates
pub record Strikes (K : List Pair) (x : Record) (n k : ℕ) : Type 0 where
  pub decided : Decided K x
  pub state : State
  pub walked : walk (machine x.words) (up_to budget) (tree_of K) initial 0 ≡ covered n state k
  pub count : k ≡ candidates (tree_of K) x.words
  -- the clause of the book with that number subsumes the record's, and the witness that the walk leaves shows it
  pub striking : Pair
  pub kept : Memᴰ striking K
  pub number : striking.number ≡ n
  pub subsumes : Subsumes striking.clause x.words
  pub shows : Shows striking.clause x.words (with_shown (shown state) (replicate witness_words 0))

-- why a record is refused, each with the code that is printed; K is the book, and L what is left of it without the pairs that the record would take out
pub data Reason (K L : List Pair) (x : Record) : Refusal → Type 0 where
  -- 3, 4, 5: its clause has that fault; a record of more than 64 words has the first
  faulty : (f : Fault) → shape x.words ≡ Err f → Reason K L x (BadClause f)
  -- 7: its number is in the book, also if that pair would be taken out
  number_taken : Uncovered K x → Numbered K x.number → Reason K L x NumberTaken
  -- 10: 1,024 pairs are left
  list_full : Uncovered K x → (Numbered K x.number → ⊥) → max_kept ≤ length L → Reason K L x ListFull
  -- 11: with it, the sequences would have more than 8,191 different beginnings
  no_room : Uncovered K x → (Numbered K x.number → ⊥) → length L < max_kept → tree_words ≤ words_of (pair_of x ∷ L) → Reason K L x NoRoom
  -- 12: the walk would take more candidates than the budget; no book of the program comes to that (`codes` of `RowClaims`)
  over_budget : Accepted x.words → budget < candidates (tree_of K) x.words → Reason K L x (Spent budget)

-- a record is kept
abbrev pub IsKept : Outcome → Type 0
IsKept o = (u : ℕ) × (o ≡ Kept u)

-- a record is struck
abbrev pub IsStruck : Outcome → Type 0
IsStruck o = (n : ℕ) × (k : ℕ) × (o ≡ Struck n k)

-- ---- what a record takes out

-- the book without the pairs of some numbers
abbrev pub without_all : (numbers : List ℕ) → List Pair → List Pair
without_all [] K = K
without_all (n ∷ ns) K = without_all ns (without n K)

-- a number is that of a clause of the book that the record's subsumes
abbrev pub SubsumedNumber : List Pair → Record → ℕ → Type 0
SubsumedNumber K x n = (p : Pair) × Memᴰ p K × (p.number ≡ n) × Subsumes x.words p.clause

-- the numbers that a record takes out where it goes in: none, or with backward striking exactly those of the clauses that it subsumes, rising
pub data Clears : Setting → List Pair → Record → (numbers : List ℕ) → Type 0 where
  nothing : {K : List Pair} {x : Record} → Clears Plain K x []
  subsumed : {K : List Pair} {x : Record} {ns : List ℕ} → Each ◌<◌ ns → ((n : ℕ) → Memᴰ n ns ↔ SubsumedNumber K x n) → Clears Back K x ns

-- what becomes of a record, by the setting and the book K before it; `removed` are the numbers that it takes out, and L is the book after it
pub record Ruled (s : Setting) (K : List Pair) (x : Record) (o : Outcome) (removed : List ℕ) (L : List Pair) : Type 0 where
  -- struck exactly if some clause of the book subsumes it, the walk fitting into the budget; and by which clause, with which count
  pub struck : IsStruck o ↔ (Decided K x × Subsumed K x.words)
  pub strikes : (n k : ℕ) → (o ≡ Struck n k) ↔ Strikes K x n k
  -- the numbers that it would take out
  pub cleared : List ℕ
  pub clears : Accepted x.words → Clears s K x cleared
  -- kept exactly if the book takes it, with the used words
  pub kept : (u : ℕ) → (o ≡ Kept u) ↔ (Takes K (without_all cleared K) x × (u ≡ words_of (pair_of x ∷ without_all cleared K)))
  -- refused exactly for a reason
  pub refused : (r : Refusal) → (o ≡ Refused r) ↔ Reason K (without_all cleared K) x r
  -- exactly where it is kept those numbers are removed, and its pair is in the book
  pub grows : IsKept o → (removed ≡ cleared) × (L ≡ pair_of x ∷ without_all cleared K)
  pub stays : (IsKept o → ⊥) → (removed ≡ []) × (L ≡ K)

-- the candidates of the record's query, where every clause of the book is a unit (has a single literal)
pub record RuledByUnits (K : List Pair) (x : Record) (o : Outcome) : Type 0 where
  -- kept, where the book has a clause already: exactly as many as the record has literals
  pub exact : 1 ≤ length K → IsKept o → candidates (tree_of K) x.words ≡ length (literals x.words)
  -- struck: the count on its line is at most that
  pub at_most : (n k : ℕ) → o ≡ Struck n k → k ≤ length (literals x.words)
  -- so 12 is never its code; unlike `codes` of `RowClaims` this does not rest on the most literals of a clause
  pub enough : (r : Refusal) → o ≡ Refused r → code_of r ≢ 12
