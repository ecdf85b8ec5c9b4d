-- The cursor: from a term to its first argument, to its right sibling, and past it.
use Rattle.std.specs.Prelude.{List, [], ◌∷◌, ℕ, zero, suc, ◌+◌, get_or, drop, Option, None, Some, Result, Ok, Err}
use Rattle.clause.specs.Word.{arity, sort, if_inside}
use Rattle.reading.specs.declared.Cursor.{Cursor}

-- a literal's head, which has no right siblings
abbrev pub head_cursor : ℕ → Cursor
head_cursor at = record { at = at; left = 0 }

-- the first of some terms that stand from a position on
abbrev pub first_term : ℕ → ℕ → Option Cursor
first_term zero at = None
first_term (suc k) at = Some (record { at = at; left = k })

-- the first argument of the term at a cursor
abbrev pub go_down : List ℕ → Cursor → Option Cursor
go_down ws c = first_term (arity (get_or ws c.at 0)) (suc c.at)

-- the right sibling of the term at a cursor, which ends at a position
abbrev pub go_right : ℕ → Cursor → Option Cursor
go_right end c = first_term c.left end

-- past `need` terms, the first of which stands at a position; a word that stands inside no literal, or the end, breaks the rules
unfoldable pub past_terms : List ℕ → (need at left : ℕ) → Result Cursor ℕ
past_terms [] zero at left = Ok (record { at = at; left = left })
past_terms [] (suc k) at left = Err at
past_terms (w ∷ ws) zero at left = Ok (record { at = at; left = left })
past_terms (w ∷ ws) (suc k) at left = if_inside (sort w) (past_terms ws (arity w + k) (suc at) left) (Err at)

-- past the term at a cursor
unfoldable pub go_past : List ℕ → Cursor → Result Cursor ℕ
go_past ws c = past_terms (drop c.at ws) 1 c.at c.left
