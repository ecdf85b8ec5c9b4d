-- Positions in a clause: where terms end, and how many right siblings a term has. Heads have none: literals are never right siblings.
use Rattle.std.specs.Prelude.{List, [], ◌∷◌, map, ℕ, zero, suc, ◌+◌, length, get_or, drop}
use Rattle.clause.specs.Lists.{numbers_below}
use Rattle.clause.specs.Word.{arity}
use Rattle.clause.specs.Clause.{skip}

-- the position k terms further on
unfoldable pub jump : List ℕ → ℕ → ℕ → ℕ
jump d k p = p + skip k (drop p d)

-- where the term at each position ends
unfoldable pub ends : List ℕ → List ℕ
ends d = map (jump d 1) (numbers_below (length d))

-- the numbers of arguments still to come, innermost first, with one more of them unless it is 0
unfoldable pub push_due : ℕ → List ℕ → List ℕ
push_due zero due = due
push_due (suc n) due = suc n ∷ due

-- the right siblings of each word, read with the numbers of arguments still to come
unfoldable pub siblings : List ℕ → (due : List ℕ) → List ℕ
siblings [] due = []
siblings (w ∷ ws) [] = zero ∷ siblings ws (push_due (arity w) [])
siblings (w ∷ ws) (zero ∷ due) = zero ∷ siblings ws (push_due (arity w) due)
siblings (w ∷ ws) (suc n ∷ due) = n ∷ siblings ws (push_due (arity w) (push_due n due))

-- how many right siblings the term at a position has
abbrev pub rights : List ℕ → ℕ → ℕ
rights d p = get_or (siblings d []) p 0
