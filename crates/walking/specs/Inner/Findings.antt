-- What the walk's code finds.
use Rattle.std.specs.Prelude.{◌≡◌, List, ℕ, Result, Ok, Err, length}
use Rattle.std.proofs.Math.Option.{Option}
use Rattle.machine.specs.Machine.{State}
use Rattle.walk.specs.Walk.{Answer, covered, not_covered, spent, broken, Part, up_to}
use Rattle.walk.specs.Words.{walk_words}
use Rattle.walk.specs.Query.{machine, shown}
use Rattle.cells.specs.Inner.Cells.{no_position, state_of, above_of, entered}
use Rattle.walking.specs.declared.End.{End}
use Rattle.walking.specs.declared.End.TheVariants.{Found, Broken, Spent}

-- the walk below a node, by the head that it hands on and the cells
abbrev pub walk_below : (query words : List ℕ) (budget head : ℕ) (cells : List ℕ) → Part State
walk_below d ws b h l = entered d b (above_of h) (walk_words (machine d) (up_to b) ws) (state_of h l)

-- the walk of the topmost row, before the first candidate
abbrev pub walk_top : (query words : List ℕ) (budget : ℕ) (cells : List ℕ) → Answer State
walk_top d ws b l = walk_words (machine d) (up_to b) ws (state_of no_position l) 0

-- a walk's answer, with the witness words in place of the state
pub data Out : Type 0 where
  missed : ℕ → Out
  found : ℕ → List (Option ℕ) → ℕ → Out
  exhausted damaged : Out

-- what is seen of an answer
unfoldable pub seen : Answer State → Out
seen (covered n s c) = found n (shown s) c
seen (not_covered c) = missed c
seen spent = exhausted
seen broken = damaged

-- the same, as what a walk returns and the cells tell it: the count after a miss, or what ended it
unfoldable pub out_by : Result ℕ End → List ℕ → Out
out_by (Ok c) l = missed c
out_by (Err (Found n c)) l = found n (shown (state_of no_position l)) c
out_by (Err Broken) l = damaged
out_by (Err Spent) l = exhausted

-- a walk ended: what is seen of it, and after a miss the cells are as before
pub record Walked (a : Answer State) (before after : List ℕ) (r : Result ℕ End) : Type 0 where
  pub comes : out_by r after ≡ seen a
  pub back : (c : ℕ) → r ≡ Ok c → after ≡ before
  pub size : length after ≡ length before
