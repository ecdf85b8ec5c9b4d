-- The index of a tree: for each head of a literal the place of its Check, in the row below the topmost First.
use Rattle.std.specs.Prelude.{◌≡◌, cond, List, ℕ, suc, ◌+◌, ◌%◌, ◌^◌, ◌<◌, eqb, length, get_or}
use Rattle.machine.specs.Instr.{First, operands, instr, key}
use Rattle.tree.specs.Forest.{Forest, empty, node, size, encode, WellFormed}
use Rattle.tree.specs.Laid.{most_words, parse, decode}

-- how many entries an index has: one for each clause word
abbrev pub entry_count : ℕ
entry_count = 2 ^ 16

-- the place of the sibling with a key, in a row that begins at the place p; `other` where there is none
unfoldable pub place_of : (key p : ℕ) → Forest → (other : ℕ) → ℕ
place_of k p empty o = o
place_of k p (node i B R) o = cond (eqb i k) p (place_of k (p + suc (size B)) R o)

-- what stands below it; nothing where there is none
unfoldable pub below_key : (key : ℕ) → Forest → Forest
below_key k empty = empty
below_key k (node i B R) = cond (eqb i k) B (below_key k R)

-- the row below the topmost word; that word stands at the place 0, so the row begins at 1
unfoldable pub top_row : Forest → Forest
top_row empty = empty
top_row (node i B R) = B

-- the place of a head's Check among the used words; 0 where there is none
abbrev pub head_at : Forest → (head : ℕ) → ℕ
head_at F h = place_of (instr 7 h) 1 (top_row F) 0

-- a row of Checks, of words of 16 bits
abbrev pub Checks : Forest → Type 0
Checks empty = Unit {0}
Checks (node i B R) = (i ≡ instr 7 (i % operands)) × (i % operands < entry_count) × Checks R

-- what the trees of clauses are: nothing, or one First with a row of Checks below it
pub data Headed : Forest → Type 0 where
  nothing : Headed empty
  headed : {B : Forest} → Checks B → Headed (node (key First) B empty)

-- the index of such a tree
pub record IndexOf (F : Forest) (heads : List ℕ) : Type 0 where
  pub tree : Headed F
  pub long : length heads ≡ entry_count
  pub place : (h : ℕ) → h < entry_count → get_or heads h 0 ≡ head_at F h

-- entries from which it can be made: those for no head of the tree are 0
pub record SpareFor (F : Forest) (heads : List ℕ) : Type 0 where
  pub tree : Headed F
  pub long : length heads ≡ entry_count
  pub spare : (h : ℕ) → h < entry_count → head_at F h ≡ 0 → get_or heads h 0 ≡ 0

-- the same of a slice
abbrev pub Indexed : (slice heads : List ℕ) → Type 0
Indexed T l = IndexOf (decode T) l

abbrev pub Renewable : (slice heads : List ℕ) → Type 0
Renewable T l = SpareFor (decode T) l

-- words that are those of a well-formed forest
pub record Encoded (words : List ℕ) : Type 0 where
  pub formed : WellFormed (parse words)
  pub same : words ≡ encode (parse words)
  pub few : length words < most_words
