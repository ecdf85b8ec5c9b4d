-- Reading a clause back from the keys of its path, the Success left out.
use Rattle.std.specs.Prelude.{◌≡◌, cond, List, [], ◌∷◌, ◌++◌, map, ℕ, zero, suc, ◌+◌, ◌<◌, get_or, eqb}
use Rattle.std.proofs.Math.Option.{Option, none, some}
use Rattle.clause.specs.Word.{variable, sort, if_variable}
use Rattle.clause.specs.Clause.{vars}
use Rattle.machine.specs.Instr.{Down, Right, Put, Push, Pop, Check, Compare, Instr, First, Do, Success, instr_of}
use Rattle.machine.specs.Compile.{first}

-- the variable with a number: kind 1, arity 0
unfoldable pub variable_word : ℕ → ℕ
variable_word n = 0x4000 + n

-- how many of the puts before m are the first of their variable, where o gives each put's first
unfoldable pub new_below : (o : ℕ → ℕ) (m : ℕ) → ℕ
new_below o zero = 0
new_below o (suc m) = new_below o m + cond (eqb (o m) m) 1 0

-- ---- a clause with its variables numbered by first appearance

-- a word with its variable renamed
unfoldable pub renamed : (ℕ → ℕ) → ℕ → ℕ
renamed f w = if_variable (sort w) (f w) w

-- for each put the first put of its variable
abbrev pub first_of : (puts : List ℕ) → ℕ → ℕ
first_of puts k = first (get_or puts k 0) puts

-- the number of a variable: how many other variables have appeared before its first put
unfoldable pub number_of : (puts : List ℕ) (v : ℕ) → ℕ
number_of puts v = new_below (first_of puts) (first v puts)

-- the clause with its variables renamed by first appearance from 0
unfoldable pub normal : List ℕ → List ℕ
normal c = map (renamed (λ v. variable_word (number_of (vars c) v))) c

-- the variables of the words are numbered by first appearance, where n have appeared before
pub data Numbered : ℕ → List ℕ → Type 0 where
  done : {n : ℕ} → Numbered n []
  other : {n w : ℕ} {ws : List ℕ} → (sort w ≡ variable → ⊥) → Numbered n ws → Numbered n (w ∷ ws)
  again : {n i : ℕ} {ws : List ℕ} → i < n → Numbered n ws → Numbered n (variable_word i ∷ ws)
  new : {n : ℕ} {ws : List ℕ} → Numbered (suc n) ws → Numbered n (variable_word n ∷ ws)

-- ---- reading back

-- the instructions of keys; a key that is no instruction's is passed over
unfoldable pub instructions : List ℕ → List Instr
instructions [] = []
instructions (x ∷ p) = elim (instr_of x) [ none ↦ instructions p | some i ↦ i ∷ instructions p ]

-- the put with which a step compares put k, or else another
unfoldable pub compared_by : Instr → (k other : ℕ) → ℕ
compared_by First k e = e
compared_by (Success n) k e = e
compared_by (Do Down) k e = e
compared_by (Do Right) k e = e
compared_by (Do (Put j)) k e = e
compared_by (Do (Push n)) k e = e
compared_by (Do (Pop n)) k e = e
compared_by (Do (Check w)) k e = e
compared_by (Do (Compare m j)) k e = cond (eqb j k) m e

-- the put of which put k is a repetition, by the first Compare of it; itself if there is none
unfoldable pub origin : List Instr → ℕ → ℕ
origin [] k = k
origin (i ∷ s) k = compared_by i k (origin s k)

-- the word that an instruction stands for, if it does for one, with the puts' variables numbered
unfoldable pub word_of : (ℕ → ℕ) → Instr → List ℕ
word_of ν First = []
word_of ν (Success n) = []
word_of ν (Do Down) = []
word_of ν (Do Right) = []
word_of ν (Do (Put k)) = variable_word (ν k) ∷ []
word_of ν (Do (Push n)) = []
word_of ν (Do (Pop n)) = []
word_of ν (Do (Check w)) = w ∷ []
word_of ν (Do (Compare m k)) = []

-- the words of instructions
unfoldable pub words_of : (ℕ → ℕ) → List Instr → List ℕ
words_of ν [] = []
words_of ν (i ∷ s) = word_of ν i ++ words_of ν s

-- the variable's number of put k: how many new variables the puts before its first put have
abbrev pub put_number : List Instr → ℕ → ℕ
put_number s k = new_below (origin s) (origin s k)

-- the clause read off instructions
unfoldable pub read_off : List Instr → List ℕ
read_off s = words_of (put_number s) s

-- the clause read off keys
unfoldable pub clause_of : List ℕ → List ℕ
clause_of p = read_off (instructions p)

-- the clause read off a path that is found, no words where none is
abbrev pub clause_at : (path : Option (List ℕ)) → List ℕ
clause_at none = []
clause_at (some p) = clause_of p
