-- What a word of a row comes to, and what its visit does to the cells.
use Rattle.std.specs.Prelude.{◌≡◌, Bool, true, false, cond, List, ℕ, ◌+◌, ◌-◌, ◌*◌, ◌≤◌, ◌<◌, ltb, eqb, length, get_or, set}
use Rattle.std.proofs.Math.Option.{Option, none, some}
use Rattle.clause.specs.Clause.{max_literals}
use Rattle.machine.specs.Instr.{Instr, First, Do, Success, Compare, instr_of}
use Rattle.machine.specs.Machine.{State, Effect, next, fails, stuck, step, finish, down, given, headed, putting, pushing, require, within, step_at}
use Rattle.tree.specs.Laid.{key_of}
use Rattle.walk.specs.Words.{extends}
use Rattle.cells.specs.Inner.Cells.{puts_at, pushes_at, count_at, undo_base, count_in, position_in, placed, state_of}
use Rattle.stepping.specs.declared.Visit.{Visit}
use Rattle.stepping.specs.declared.Visit.TheVariants.{Fails, Stuck, Hit, Tries, Below, Stored}

-- what a word comes to: past it, broken, the end, the candidates of a First, or the words below it
pub data Met : Type 0 where
  past bad : Met
  hit firsts below : State → Met

-- what a step comes to
unfoldable pub stepped : Effect State → Met
stepped (next s) = below s
stepped fails = past
stepped stuck = bad

-- what a Success comes to
unfoldable pub reached : Effect State → Met
reached (next s) = hit s
reached fails = past
reached stuck = bad

-- what an instruction comes to
unfoldable pub met_as : List ℕ → Option Instr → State → Met
met_as d none s = bad
met_as d (some (Success n)) s = reached (finish s)
met_as d (some First) s = cond (ltb (length s.chosen) max_literals) (firsts s) bad
met_as d (some (Do x)) s = stepped (step d x s)

-- what a word comes to, with so many words in its row from it on
unfoldable pub meeting : List ℕ → (w room : ℕ) → State → Met
meeting d w room s = cond (extends w (room - 1)) (met_as d (instr_of (key_of w)) s) bad

-- the same, as a visit tells it, with the state after it
unfoldable pub met_of : Visit → State → Met
met_of Fails s = past
met_of Stuck s = bad
met_of Hit s = hit s
met_of Tries s = firsts s
met_of (Below x) s = below s
met_of (Stored x u) s = below s

-- an operation with so many words: a Success has one
unfoldable pub with_words : (op words : ℕ) → Met → Met
with_words op n m = cond (eqb op 0) (cond (eqb n 1) m bad) m

-- What each operation comes to at a head, by its operand, as the code takes them one by one.
abbrev pub met_success : (words head : ℕ) → List ℕ → Met
met_success n h l = with_words 0 n (hit (state_of h l))

abbrev pub met_first : (head : ℕ) → List ℕ → Met
met_first h l = cond (ltb (count_in l) max_literals) (firsts (state_of h l)) bad

abbrev pub met_down : List ℕ → (head : ℕ) → List ℕ → Met
met_down d h l = stepped (given (down d h) (headed (state_of h l)))

abbrev pub met_moved : (to head : ℕ) → List ℕ → Met
met_moved x h l = stepped (given (position_in x) (headed (state_of h l)))

abbrev pub met_put : (k head : ℕ) → List ℕ → Met
met_put k h l = stepped (within k (next (putting (state_of h l) k h)))

abbrev pub met_push : (n to head : ℕ) → List ℕ → Met
met_push n x h l = stepped (within n (given (position_in x) (pushing (state_of h l) n)))

abbrev pub met_pop : (n head : ℕ) → List ℕ → Met
met_pop n h l = stepped (within n (given (get_or (placed pushes_at l) n none) (headed (state_of h l))))

abbrev pub met_check : List ℕ → (x head : ℕ) → List ℕ → Met
met_check d x h l = stepped (require fails (eqb (get_or d h 0) x) (next (state_of h l)))

abbrev pub met_compare : List ℕ → (m k head : ℕ) → List ℕ → Met
met_compare d m k h l = stepped (step_at d (Compare m k) (state_of h l) h)

-- the head after a visit at a head: another one where the walk goes on below
abbrev pub head_of : ℕ → Visit → ℕ
head_of h Fails = h
head_of h Stuck = h
head_of h Hit = h
head_of h Tries = h
head_of h (Below x) = x
head_of h (Stored x u) = x

-- the undo of a visit; 0 stands for none
abbrev pub undo_of : Visit → ℕ
undo_of Fails = 0
undo_of Stuck = 0
undo_of Hit = 0
undo_of Tries = 0
undo_of (Below x) = 0
undo_of (Stored x u) = u

-- whether a visit stores a position
abbrev pub stores : Visit → Bool
stores Fails = false
stores Stuck = false
stores Hit = false
stores Tries = false
stores (Below x) = false
stores (Stored x u) = true

-- what a visit does to the cells: one position is stored, and a number brings back what stood there, or they stay as they are
pub data Undoable (l : List ℕ) : Visit → List ℕ → Type 0 where
  plain : (v : Visit) → stores v ≡ false → Undoable l v l
  store : (h i x : ℕ) → puts_at ≤ i → i < count_at → get_or l i 0 < undo_base → Undoable l (Stored h (i * undo_base + get_or l i 0)) (set l i x)

-- a visit at a head: what the word comes to, and what was stored
pub record Visited (h : ℕ) (m : Met) (before after : List ℕ) (v : Visit) : Type 0 where
  pub comes : met_of v (state_of (head_of h v) after) ≡ m
  pub undoable : Undoable before v after
