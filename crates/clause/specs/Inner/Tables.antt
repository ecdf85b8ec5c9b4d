-- The tables of a clause: where its literals start, where its terms end and how many right siblings they have.
use Rattle.std.specs.Prelude.{List, [], ◌∷◌, ◌++◌, ℕ, ◌+◌, length, take, drop, replicate}
use Rattle.clause.specs.Clause.{max_words, max_literals, starts}
use Rattle.clause.specs.Positions.{ends, siblings}
use Rattle.clause.specs.declared.Clause.{Clause}

-- the layout: where the literals start stands at 0, then where the terms end, their right siblings, and the number of literals
abbrev pub at_ends : ℕ
at_ends = max_literals

abbrev pub at_siblings : ℕ
at_siblings = at_ends + max_words

abbrev pub at_count : ℕ
at_count = at_siblings + max_words

-- how many entries the tables have
abbrev pub tables_size : ℕ
tables_size = at_count + 1

-- the first n of a list, filled up with zeros
unfoldable pub padded : ℕ → List ℕ → List ℕ
padded n l = take n (l ++ replicate n 0)

-- tables one after another: of the literals, of the ends, of the right siblings, and the number of literals
unfoldable pub packed : (starts ends siblings : List ℕ) (count : ℕ) → List ℕ
packed s e r n = padded max_literals s ++ padded max_words e ++ padded max_words r ++ (n ∷ [])

-- the tables of a clause
unfoldable pub tables_of : List ℕ → List ℕ
tables_of d = packed (starts d) (ends d) (siblings d []) (length (starts d))

-- the same as a struct
abbrev pub clause_of : List ℕ → Clause
clause_of d = record { tables = tables_of d }

-- the ends and the right siblings from a position on, as if the clause began there
unfoldable pub tables_from : List ℕ → ℕ → List ℕ
tables_from d p = packed [] (replicate p 0 ++ drop p (ends d)) (replicate p 0 ++ siblings (drop p d) []) 0
