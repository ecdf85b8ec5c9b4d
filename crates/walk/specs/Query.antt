-- The query call.
use Rattle.std.specs.Prelude.{cond, List, [], ◌∷◌, ◌++◌, map, ℕ, ◌+◌, ◌-◌, ltb, length, get_or, take, replicate, Err, Ok, Result}
use Rattle.std.proofs.Math.Option.{Option, none, some}
use Rattle.clause.specs.Clause.{max_literals, shape, literals}
use Rattle.machine.specs.Machine.{slots, State, initial, step, enter, finish}
use Rattle.tree.specs.Laid.{sized, used_of, region}
use Rattle.walk.specs.Walk.{Machine, Answer, covered, not_covered, spent, broken, up_to}
use Rattle.walk.specs.Words.{walk_words}
use Rattle.walk.specs.declared.Verdict.{Verdict}
use Rattle.walk.specs.declared.Verdict.TheVariants.{Covered, NotCovered}
use Rattle.tree.specs.declared.Refusal.{Refusal}
use Rattle.tree.specs.declared.Refusal.TheVariants.{BadSlice, Broken, BadClause, ShortWitness, Spent}
use Rattle.clause.specs.declared.Fault.{Fault}

-- the machine of a query
abbrev pub machine : List ℕ → Machine
machine d = record { State = State; step = step d; enter = enter d; finish = finish; query_literals = length (literals d) }

-- the least length of a witness
abbrev pub witness_words : ℕ
witness_words = max_literals + slots

-- what a state shows: the literal for literal i at i, the position for Put k at max_literals + k
unfoldable pub shown : State → List (Option ℕ)
shown s = take max_literals (map some s.chosen ++ replicate max_literals none) ++ s.puts

-- a witness with the words shown in it, its others untouched
abbrev pub with_shown : List (Option ℕ) → List ℕ → List ℕ
with_shown [] ws = ws
with_shown (o ∷ os) [] = []
with_shown (none ∷ os) (w ∷ ws) = w ∷ with_shown os ws
with_shown (some x ∷ os) (w ∷ ws) = x ∷ with_shown os ws

-- the answer, and the witness words afterwards
pub record Asked : Type 0 where
  pub answer : Result Verdict Refusal
  pub witness : List ℕ

-- a refused query leaves every word
abbrev pub unanswered : Refusal → List ℕ → Asked
unanswered r W = record { answer = Err r; witness = W }

-- what the walk's answer makes of a witness
abbrev pub answer_by : (budget : ℕ) (witness : List ℕ) → Answer State → Asked
answer_by b W (covered n s c) = record { answer = Ok (Covered n c); witness = with_shown (shown s) W }
answer_by b W (not_covered c) = record { answer = Ok (NotCovered c); witness = W }
answer_by b W spent = unanswered (Spent b) W
answer_by b W broken = unanswered Broken W

-- the walk over a slice
abbrev pub walk_slice : (slice clause : List ℕ) (budget : ℕ) → Answer State
walk_slice T d b = walk_words (machine d) (up_to b) (region T) initial 0

-- a query of a given shape
abbrev pub query_as : Result ℕ Fault → (slice clause : List ℕ) (budget : ℕ) (witness : List ℕ) → Asked
query_as (Err f) T d b W = unanswered (BadClause f) W
query_as (Ok q) T d b W =
    cond (ltb (length W) witness_words) (unanswered ShortWitness W)
    (cond (ltb (length T - 1) (used_of (get_or T 0 0))) (unanswered Broken W) (answer_by b W (walk_slice T d b)))

-- the query call
unfoldable pub query : (slice clause : List ℕ) (budget : ℕ) (witness : List ℕ) → Asked
query T d b W = cond (sized T) (query_as (shape d) T d b W) (unanswered BadSlice W)
