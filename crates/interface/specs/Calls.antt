-- The calls that C makes: the number returned and every lent word afterwards, as definitions of what went in.
use Rattle.std.specs.Prelude.{List, ℕ}
use Rattle.tree.specs.Calls.{fresh, insertion, removal}
use Rattle.walk.specs.Query.{query}
use Rattle.walk.specs.Ceiling.{ceiling_call}
use Rattle.readback.specs.Calls.{check, read_back}
use Rattle.backward.specs.Calls.{backward}
use Rattle.book.specs.Table.{Returned, said_ceiling, said_check, called, asked, given_back, backed}
use Rattle.interface.specs.Told.{number_of, Reply, replied}

-- the number returned, and the words of the tree, the witness, the output or the list afterwards
pub record Left : Type 0 where
  pub number : ℕ
  pub words : List ℕ

-- the same with the told words afterwards
pub record Handed : Type 0 where
  pub number : ℕ
  pub words : List ℕ
  pub told : List ℕ

-- of how a call comes out
abbrev pub left : Returned → Left
left r = record { number = number_of r.said.title; words = r.words }

-- the same with its values told
abbrev pub handed : Returned → (told : List ℕ) → Handed
handed r ts = record { number = (replied r.said ts).number; words = r.words; told = (replied r.said ts).told }

-- fresh
unfoldable pub ct_fresh : (tree : List ℕ) → Left
ct_fresh T = left (called (fresh T))

-- insertion
unfoldable pub ct_insert : (tree clause : List ℕ) (number : ℕ) (told : List ℕ) → Handed
ct_insert T c n ts = handed (called (insertion T c n)) ts

-- removal
unfoldable pub ct_remove : (tree : List ℕ) (number : ℕ) → Left
ct_remove T n = left (called (removal T n))

-- query, which leaves the tree
unfoldable pub ct_query : (tree clause : List ℕ) (budget : ℕ) (witness told : List ℕ) → Handed
ct_query T d b W ts = handed (asked (query T d b W)) ts

-- ceiling
unfoldable pub ct_ceiling : (kept q m : ℕ) (told : List ℕ) → Reply
ct_ceiling kept q m ts = replied (said_ceiling (ceiling_call kept q m)) ts

-- reading a clause back, which leaves the tree
unfoldable pub ct_read_back : (tree : List ℕ) (number : ℕ) (output told : List ℕ) → Handed
ct_read_back T n W ts = handed (given_back (read_back T n W)) ts

-- checking a tree, which leaves it: the number returned
unfoldable pub ct_check : (tree : List ℕ) → ℕ
ct_check T = number_of (said_check (check T)).title

-- listing backward, which leaves the tree
unfoldable pub ct_backward : (tree clause : List ℕ) (budget : ℕ) (list told : List ℕ) → Handed
ct_backward T c b L ts = handed (backed (backward T c b L)) ts
