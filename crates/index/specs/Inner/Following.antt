-- Where the index is followed: the walk of the row of heads, and keys whose Check has an entry.
use Rattle.std.specs.Prelude.{◌≡◌, List, ◌∷◌, ℕ, ◌≤◌}
use Rattle.machine.specs.Instr.{First, instr, key}
use Rattle.machine.specs.Machine.{State}
use Rattle.tree.specs.Laid.{parse}
use Rattle.walk.specs.Walk.{Part, up_to}
use Rattle.walk.specs.Words.{walk_words}
use Rattle.walk.specs.Query.{machine}
use Rattle.cells.specs.Inner.Cells.{state_of}
use Rattle.index.specs.Inner.Heads.{head_at, Headed, Encoded}

-- the walk along a row, from a head and the cells
abbrev pub walk_row : (query words : List ℕ) (budget head : ℕ) (cells : List ℕ) → Part State
walk_row d ws b h l = walk_words (machine d) (up_to b) ws (state_of h l)

-- the keys begin with First and a Check, and the Check has its word at a place
pub record Leading (words keys : List ℕ) (p : ℕ) : Type 0 where
  pub encoded : Encoded words
  pub tree : Headed (parse words)
  pub head : ℕ
  pub rest : List ℕ
  pub begins : keys ≡ key First ∷ instr 7 head ∷ rest
  pub place : head_at (parse words) head ≡ p
  pub some : 1 ≤ p
