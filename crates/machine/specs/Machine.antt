-- The machine on one query.
use Rattle.std.specs.Prelude.{Bool, true, false, ◌||◌, not, List, [], ◌∷◌, ◌++◌, ℕ, zero, suc, length, get_or, set, replicate, ltb, eqb}
use Rattle.std.proofs.Math.Option.{Option, none, some}
use Rattle.clause.specs.Word.{arity}
use Rattle.clause.specs.Positions.{jump, rights}
use Rattle.clause.specs.Clause.{term_at, start_of, max_literals}
use Rattle.clause.specs.Lists.{alike}
use Rattle.machine.specs.Instr.{Step, Down, Right, Put, Push, Pop, Check, Compare, Instr, First, Do, Success}

-- how many put and how many pushed positions there are
abbrev pub slots : ℕ
slots = 64

-- a position, where there is a term to stand at
unfoldable pub onto : (terms at : ℕ) → Option ℕ
onto zero at = none
onto (suc n) at = some at

-- to the first argument
unfoldable pub down : List ℕ → ℕ → Option ℕ
down d p = onto (arity (get_or d p 0)) (suc p)

-- to the right sibling
unfoldable pub right : List ℕ → ℕ → Option ℕ
right d p = onto (rights d p) (jump d 1 p)

-- the candidates so far, the head, and the put and pushed positions
pub record State : Type 0 where
  pub chosen : List ℕ
  pub head : Option ℕ
  pub puts : List (Option ℕ)
  pub pushes : List (Option ℕ)

-- no position put or pushed
unfoldable pub unfilled : List (Option ℕ)
unfilled = replicate slots none

-- the state before the first candidate
abbrev pub initial : State
initial = record { chosen = []; head = none; puts = unfilled; pushes = unfilled }

-- what a step comes to: the next state, a mismatch (of First: a literal that is used), or a step that cannot be taken
pub data Effect (S : Type 0) : Type 0 where
  next : S → Effect S
  fails stuck : Effect S

-- an effect, then what follows a next state
abbrev pub bind : {S : Type 0} → Effect S → (S → Effect S) → Effect S
bind (next s) f = f s
bind fails f = fails
bind stuck f = stuck

-- a state with another head
abbrev pub headed : State → ℕ → State
headed s p = record { chosen = s.chosen; head = some p; puts = s.puts; pushes = s.pushes }

-- with position p for Put k
abbrev pub putting : State → ℕ → ℕ → State
putting s k p = record { chosen = s.chosen; head = s.head; puts = set s.puts k (some p); pushes = s.pushes }

-- with position p for Push n
abbrev pub pushing : State → ℕ → ℕ → State
pushing s n p = record { chosen = s.chosen; head = s.head; puts = s.puts; pushes = set s.pushes n (some p) }

-- go on with a position if there is one
unfoldable pub given : Option ℕ → (ℕ → State) → Effect State
given none f = stuck
given (some p) f = next (f p)

-- go on if the test passes
unfoldable pub require : Effect State → Bool → Effect State → Effect State
require o true r = r
require o false r = o

-- the number of a Put, Push, Pop or Compare is below `slots`
abbrev pub within : ℕ → Effect State → Effect State
within n r = require stuck (ltb n slots) r

-- the whole terms at two positions are equal
unfoldable pub same_terms : List ℕ → ℕ → ℕ → Bool
same_terms d p q = alike (term_at d p) (term_at d q)

-- Compare with the two positions put
unfoldable pub compare_terms : List ℕ → State → Option ℕ → Option ℕ → Effect State
compare_terms d s none q = stuck
compare_terms d s (some p) none = stuck
compare_terms d s (some p) (some q) = require fails (same_terms d p q) (next s)

-- one step with the head at position p
unfoldable pub step_at : List ℕ → Step → State → ℕ → Effect State
step_at d Down s p = given (down d p) (headed s)
step_at d Right s p = given (right d p) (headed s)
step_at d (Put k) s p = within k (next (putting s k p))
step_at d (Push n) s p = within n (given (right d p) (pushing s n))
step_at d (Pop n) s p = within n (given (get_or s.pushes n none) (headed s))
step_at d (Check w) s p = require fails (eqb (get_or d p 0) w) (next s)
step_at d (Compare m k) s p = within m (within k (compare_terms d s (get_or s.puts m none) (get_or s.puts k none)))

-- before a candidate no step can be taken
unfoldable pub step_from : List ℕ → Step → State → Option ℕ → Effect State
step_from d x s none = stuck
step_from d x s (some p) = step_at d x s p

-- one step
unfoldable pub step : List ℕ → Step → State → Effect State
step d x s = step_from d x s s.head

-- literal j as the next candidate
abbrev pub starting : List ℕ → State → ℕ → State
starting d s j = record { chosen = s.chosen ++ (j ∷ []); head = some (start_of d j); puts = s.puts; pushes = s.pushes }

-- literal j is one of some candidates
unfoldable pub used : ℕ → List ℕ → Bool
used j [] = false
used j (i ∷ is) = eqb i j || used j is

-- First with literal j: a ninth cannot be taken, and a literal that is already used on this path fails, so that it is passed over
unfoldable pub enter : List ℕ → ℕ → State → Effect State
enter d j s = require stuck (ltb (length s.chosen) max_literals) (require fails (not (used j s.chosen)) (next (starting d s j)))

-- Success with the head, if there is one
unfoldable pub finish_from : State → Option ℕ → Effect State
finish_from s none = stuck
finish_from s (some p) = next s

-- Success, which cannot come before a candidate
unfoldable pub finish : State → Effect State
finish s = finish_from s s.head

-- First with the next of some candidates
unfoldable pub start : List ℕ → List ℕ → State → (List ℕ → State → Effect State) → Effect State
start d [] s rest = fails
start d (j ∷ js) s rest = bind (enter d j s) (rest js)

-- the instructions one after another, with the candidates that are given, and Success at the end
unfoldable pub run : List ℕ → List Instr → (candidates : List ℕ) → State → Effect State
run d [] js s = finish s
run d (First ∷ sequence) js s = start d js s (run d sequence)
run d (Do x ∷ sequence) js s = bind (step d x s) (run d sequence js)
run d (Success n ∷ sequence) js s = finish s
