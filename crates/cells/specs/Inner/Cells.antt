-- The walk's state in lent cells, and what the functions on them do.
use Rattle.std.specs.Prelude.{◌≡◌, ℕ, ◌+◌, ◌-◌, ◌/◌, ◌%◌, ◌^◌, ◌<◌, ◌≤◌, Bool, cond, List, [], ◌∷◌, map, length, take, drop, ◌==◌, bit_or, slice_index, slice_index_or, slice_set}
use Rattle.std.proofs.Math.Option.{Option, none, some}
use Rattle.clause.specs.Lists.{All}
use Rattle.clause.specs.Clause.{Accepted, literals, start_of, max_literals}
use Rattle.clause.specs.Positions.{jump, rights}
use Rattle.clause.specs.Inner.Tables.{at_ends, at_siblings, at_count}
use Rattle.machine.specs.Instr.{operands, instr}
use Rattle.machine.specs.Machine.{slots, State, starting}
use Rattle.machine.specs.Inner.Safe.{Safe}
use Rattle.walk.specs.Walk.{Part, tries, up_to}
use Rattle.walk.specs.Words.{walk_words}
use Rattle.walk.specs.Query.{machine}
use Rattle.cells.specs.declared.Above.{Above}
use Rattle.cells.specs.declared.Above.TheVariants.{First, Step}

-- Where a state stands in the cells: the candidates from 0 on, then the positions put, the positions pushed, and how many candidates there are.
abbrev pub puts_at : ℕ
puts_at = max_literals

abbrev pub pushes_at : ℕ
pushes_at = puts_at + slots

abbrev pub count_at : ℕ
count_at = pushes_at + slots

-- how many cells there are: any byte is the index of one
abbrev pub cell_count : ℕ
cell_count = 256

-- what stands for no position
abbrev pub no_position : ℕ
no_position = 255

-- the literals of a query as bits are below this
abbrev pub use_limit : ℕ
use_limit = 2 ^ max_literals

-- an undo is the index of a cell, times this, and the byte that it held
abbrev pub undo_base : ℕ
undo_base = cell_count

-- undos are below this
abbrev pub undo_limit : ℕ
undo_limit = 2 ^ 16

-- a trail below this has room for one more undo
abbrev pub trail_limit : ℕ
trail_limit = 2 ^ 48

-- how many candidates the cells hold
abbrev pub count_in : List ℕ → ℕ
count_in l = slice_index l count_at

-- whether there is a place for one more, and whether there is one
abbrev pub HasPlace : List ℕ → Type 0
HasPlace l = count_in l < max_literals

abbrev pub HasCandidate : List ℕ → Type 0
HasCandidate l = (1 ≤ count_in l) × (count_in l ≤ max_literals)

-- there are at most as many candidates as a clause may have literals, and each is below that number
abbrev pub HasLiterals : List ℕ → Type 0
HasLiterals l = (count_in l ≤ max_literals) × All (λ j. j < max_literals) (take (count_in l) l)

-- the position that a cell holds
unfoldable pub position_in : ℕ → Option ℕ
position_in x = cond (x == no_position) none (some x)

-- the positions in as many cells as a state has slots, from one on
unfoldable pub placed : ℕ → List ℕ → List (Option ℕ)
placed a l = map position_in (take slots (drop a l))

-- the state in a head and the cells; some cells no state uses
abbrev pub state_of : (head : ℕ) (cells : List ℕ) → State
state_of h l = record { chosen = take (count_in l) l; head = position_in h; puts = placed puts_at l; pushes = placed pushes_at l }

-- the tables of a query, laid out as those of a clause
pub record Tables (d l : List ℕ) : Type 0 where
  pub starts : (j : ℕ) → j < length (literals d) → slice_index l j ≡ start_of d j
  pub ends : (p : ℕ) → p < length d → slice_index l (at_ends + p) ≡ jump d 1 p
  pub rights : (p : ℕ) → p < length d → slice_index l (at_siblings + p) ≡ rights d p
  pub count : slice_index_or l at_count 0 ≡ length (literals d)

-- an accepted query with its tables, and a state whose candidates and positions lie in it
pub record Walkable (d t : List ℕ) (head : ℕ) (cells : List ℕ) : Type 0 where
  pub whole : Accepted d
  pub tables : Tables d t
  pub safe : Safe d (state_of head cells)
  pub size : length cells ≡ cell_count
  pub few : count_in cells ≤ max_literals

-- the cells with one of them stored back, by the undo in the lowest 16 bits of a number; 0 stands for none
unfoldable pub restored : ℕ → List ℕ → List ℕ
restored m l = cond (m == 0) l (slice_set l (m / undo_base % undo_base) (m % undo_base))

-- the cells with up to four of them stored back, the latest, in the lowest 16 bits, first
unfoldable pub unwound : ℕ → List ℕ → List ℕ
unwound t l = restored (t / 2 ^ 48) (restored (t / 2 ^ 32) (restored (t / 2 ^ 16) (restored t l)))

-- the operation of a tree word, above its operand and its extent
abbrev pub operation_of : ℕ → ℕ
operation_of w = w / 2 ^ 60

-- a key of a Check
abbrev pub IsCheck : ℕ → Type 0
IsCheck key = key / operands ≡ 7

-- the key of the Check that fits at a head
unfoldable pub wanted_at : List ℕ → ℕ → ℕ
wanted_at d h = instr 7 (slice_index d h)

-- only Checks that fail there stand between two places of a row
pub record Skipped (words : List ℕ) (at wanted : ℕ) (r : ℕ) : Type 0 where
  pub inside : r ≤ length words
  pub further : at ≤ r
  pub same : (d : List ℕ) (allow : ℕ → Bool) (s : State) (p c : ℕ) → s.head ≡ some p → wanted ≡ instr 7 (slice_index d p)
      → walk_words (machine d) allow (drop at words) s c ≡ walk_words (machine d) allow (drop r words) s c

-- what words stand below, by the head that is handed to them: below a First it is none
unfoldable pub above_of : ℕ → Above
above_of h = cond (h == no_position) First Step

-- some literals as a number, a bit for each
unfoldable pub bits_of : List ℕ → ℕ
bits_of [] = 0
bits_of (j ∷ js) = bit_or (2 ^ j) (bits_of js)

-- whether literal j is one of them
abbrev pub has_bit : (bits j : ℕ) → Bool
has_bit m j = m / 2 ^ j % 2 == 1

-- the literals that are used on the path, which a First is to pass over
unfoldable pub uses_of : Above → List ℕ → ℕ
uses_of First l = bits_of (take (count_in l) l)
uses_of Step l = 0

-- the cells with one candidate more, whatever it is, below a First
unfoldable pub reserved : Above → List ℕ → List ℕ
reserved First l = slice_set l count_at (count_in l + 1)
reserved Step l = l

-- the cells with literal j as the latest candidate
unfoldable pub candidate : Above → ℕ → List ℕ → List ℕ
candidate First j l = slice_set l (count_in l - 1) j
candidate Step j l = l

-- the cells without the latest candidate, where `kept` stood before
unfoldable pub released : Above → ℕ → List ℕ → List ℕ
released First kept l = slice_set (slice_set l (count_in l - 1) kept) count_at (count_in l - 1)
released Step kept l = l

-- what stands where the next candidate of a First is to be stored
unfoldable pub kept_in : Above → List ℕ → ℕ
kept_in First l = slice_index l (count_in l)
kept_in Step l = 0

-- the byte in what `reserve` gives, above the used literals
abbrev pub saved_byte : ℕ → ℕ
saved_byte m = m / use_limit % cell_count

-- how many literals are gone through: below a First the query's, of which those in use get no pass; below a step one pass is made
unfoldable pub passes_of : Above → ℕ → ℕ
passes_of First n = n
passes_of Step n = 1

-- the head at the beginning of pass j, and the state there
unfoldable pub pass_head : List ℕ → Above → (head j : ℕ) → ℕ
pass_head d First h j = start_of d j
pass_head d Step h j = h

unfoldable pub pass_state : List ℕ → Above → ℕ → State → State
pass_state d First j s = starting d s j
pass_state d Step j s = s

-- the walk below a node: from each candidate, or from the state itself
unfoldable pub entered : List ℕ → (budget : ℕ) → Above → (State → Part State) → State → Part State
entered d b First k s c = tries (machine d) (up_to b) k s (length (literals d)) 0 c
entered d b Step k s c = k s c
