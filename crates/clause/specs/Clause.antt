-- Reading a clause: its shape, its literals, the terms in them, replacement of variables (substitution), subsumption.
use Rattle.std.specs.Prelude.{◌≡◌, cond, List, [], ◌∷◌, ◌++◌, map, ℕ, zero, suc, ◌+◌, ◌<◌, length, get_or, take, drop, ltb, Err, Ok, Result}
use Rattle.clause.specs.Word.{arity, Sort, symbol, variable, head, wrong, sort, if_head, if_variable}
use Rattle.clause.specs.Lists.{All, Injective}
use Rattle.clause.specs.declared.Fault.{Fault}
use Rattle.clause.specs.declared.Fault.TheVariants.{BadLength, Bad, Ninth}

-- the most words of a clause
abbrev pub max_words : ℕ
max_words = 64

-- the most literals of a clause
abbrev pub max_literals : ℕ
max_literals = 8

-- one word, at a place where `need` terms are still to come: what is found there, or how the reading goes on
unfoldable pub scan_word : Sort → (arity need lits at : ℕ) → (ℕ → ℕ → ℕ → Result ℕ Fault) → Result ℕ Fault
scan_word head a zero lits at rest = cond (ltb lits max_literals) (rest a (suc lits) (suc at)) (Err (Ninth at))
scan_word head a (suc k) lits at rest = Err (Bad at)
scan_word symbol a zero lits at rest = Err (Bad at)
scan_word symbol a (suc k) lits at rest = rest (a + k) lits (suc at)
scan_word variable a zero lits at rest = Err (Bad at)
scan_word variable a (suc k) lits at rest = rest (a + k) lits (suc at)
scan_word wrong a need lits at rest = Err (Bad at)

-- the reading from a place where `need` terms of the literal are still to come, `lits` literals have begun and `at` words are read
unfoldable pub scan : List ℕ → (need lits at : ℕ) → Result ℕ Fault
scan [] zero lits at = Ok lits
scan [] (suc k) lits at = Err (Bad at)
scan (w ∷ ws) need lits at = scan_word (sort w) (arity w) need lits at (scan ws)

-- the shape of a clause of 1 to max_words words
unfoldable pub shape : List ℕ → Result ℕ Fault
shape [] = Err BadLength
shape (w ∷ ws) = cond (ltb max_words (length (w ∷ ws))) (Err BadLength) (scan (w ∷ ws) 0 0 0)

-- an accepted clause
abbrev pub Accepted : List ℕ → Type 0
Accepted ws = (n : ℕ) × (shape ws ≡ Ok n)

-- the words before the first head
unfoldable pub before : List ℕ → List ℕ
before [] = []
before (w ∷ ws) = if_head (sort w) [] (w ∷ before ws)

-- the literals, each from its head up to the next
unfoldable pub literals : List ℕ → List (List ℕ)
literals [] = []
literals (w ∷ ws) = if_head (sort w) ((w ∷ before ws) ∷ []) [] ++ literals ws

-- how many words the first k terms take
unfoldable pub skip : ℕ → List ℕ → ℕ
skip k [] = zero
skip zero (w ∷ ws) = zero
skip (suc k) (w ∷ ws) = suc (skip (arity w + k) ws)

-- the words of the first term
unfoldable pub term : List ℕ → List ℕ
term ws = take (skip 1 ws) ws

-- the term at a position
abbrev pub term_at : List ℕ → ℕ → List ℕ
term_at ws at = term (drop at ws)

-- the positions where literals begin
unfoldable pub starts : List ℕ → List ℕ
starts [] = []
starts (w ∷ ws) = if_head (sort w) (0 ∷ []) [] ++ map suc (starts ws)

-- where literal j begins
abbrev pub start_of : List ℕ → ℕ → ℕ
start_of ws j = get_or (starts ws) j 0

-- the variables in the order in which they stand
unfoldable pub vars : List ℕ → List ℕ
vars [] = []
vars (w ∷ ws) = if_variable (sort w) (w ∷ []) [] ++ vars ws

-- a word inside a literal
abbrev pub Inside : Sort → Type 0
Inside symbol = Unit {0}
Inside variable = Unit {0}
Inside head = ⊥
Inside wrong = ⊥

-- exactly k terms by the arities of the words
pub data Shaped : ℕ → List ℕ → Type 0 where
  end : Shaped 0 []
  next_word : {w k : ℕ} {ws : List ℕ} → Shaped (arity w + k) ws → Shaped (suc k) (w ∷ ws)

-- all words stand inside a literal
abbrev pub Inner : List ℕ → Type 0
Inner = All (λ w. Inside (sort w))

-- exactly one term, and all of it inside a literal
abbrev pub IsTerm : List ℕ → Type 0
IsTerm ws = Shaped 1 ws × Inner ws

-- what a replacement of the variables, a substitution, makes of one word
unfoldable pub replaced : (ℕ → List ℕ) → ℕ → List ℕ
replaced θ w = if_variable (sort w) (θ w) (w ∷ [])

-- what it makes of words
unfoldable pub inst : (ℕ → List ℕ) → List ℕ → List ℕ
inst θ [] = []
inst θ (w ∷ ws) = replaced θ w ++ inst θ ws

-- clause c subsumes d: one substitution makes each literal of c the literal of d at a place of its own
pub record Subsumes (c d : List ℕ) : Type 0 where
  pub replace : ℕ → List ℕ
  pub terms : (v : ℕ) → IsTerm (replace v)
  -- the place that each literal falls on
  pub place : ℕ → ℕ
  pub inside : (i : ℕ) → i < length (literals c) → place i < length (literals d)
  -- no two fall on the same
  pub apart : Injective (length (literals c)) place
  pub covered : (i : ℕ) → i < length (literals c) → inst replace (get_or (literals c) i []) ≡ get_or (literals d) (place i) []
