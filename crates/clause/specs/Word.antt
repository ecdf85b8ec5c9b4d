-- A clause word: 16 bits, fields from the most significant bit: kind (2), arity (3), number (11).
use Rattle.std.specs.Prelude.{Bool, true, false, List, ℕ, zero, suc, ◌/◌, ◌%◌, ◌^◌, ◌<◌}
use Rattle.clause.specs.Lists.{All}

-- words of 16 bits
abbrev pub Words : List ℕ → Type 0
Words = All (λ w. w < 2 ^ 16)

-- the kind of a word: 0 function symbol, 1 variable, 2 head of a positive literal, 3 head of a negative literal
unfoldable pub kind : ℕ → ℕ
kind w = w / 0x4000 % 4

-- arities are below this: 0 to 7
abbrev pub arities : ℕ
arities = 8

-- the number of its arguments
unfoldable pub arity : ℕ → ℕ
arity w = w / 0x800 % arities

-- what a word is: a function symbol, a variable, the head of a literal, or a variable with arguments, which is none
pub data Sort : Type 0 where
  symbol variable head wrong : Sort
  deriving Discrete as sort-discrete

-- a word by its kind and its arity
unfoldable pub sort_by : ℕ → ℕ → Sort
sort_by zero a = symbol
sort_by (suc zero) zero = variable
sort_by (suc zero) (suc a) = wrong
sort_by (suc (suc k)) a = head

-- what a word is
unfoldable pub sort : ℕ → Sort
sort w = sort_by (kind w) (arity w)

-- the first of two for a head, the second for any other word
abbrev pub if_head {ℓ} : {A : Type ℓ} → Sort → A → A → A
if_head symbol a b = b
if_head variable a b = b
if_head head a b = a
if_head wrong a b = b

-- the first of two for a variable, the second for any other word
abbrev pub if_variable {ℓ} : {A : Type ℓ} → Sort → A → A → A
if_variable symbol a b = b
if_variable variable a b = a
if_variable head a b = b
if_variable wrong a b = b

-- the first of two for a word that stands inside a literal, the second for a head or no word
abbrev pub if_inside {ℓ} : {A : Type ℓ} → Sort → A → A → A
if_inside symbol a b = a
if_inside variable a b = a
if_inside head a b = b
if_inside wrong a b = b

-- whether a word is the head of a literal
abbrev pub is_head : Sort → Bool
is_head s = if_head s true false

-- whether a word stands inside a literal
abbrev pub is_inside : Sort → Bool
is_inside s = if_inside s true false
