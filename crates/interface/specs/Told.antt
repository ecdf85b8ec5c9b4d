-- How an answer is handed over: one number is returned, and values are told in lent words.
use Rattle.std.specs.Prelude.{List, [], ◌∷◌, ℕ}
use Rattle.book.specs.Table.{Title, Said, ready, kept, removed, is_covered, is_not_covered, returned, passed, read, listed, code}

-- the number returned: a refusal's code, else 0
abbrev pub number_of : Title → ℕ
number_of ready = 0
number_of kept = 0
number_of removed = 0
number_of is_covered = 0
number_of is_not_covered = 0
number_of returned = 0
number_of passed = 0
number_of read = 0
number_of listed = 0
number_of (code n) = n

-- the values told: those of the answer, after 1 for "covered", or after 0 and 0 in place of a clause's number for "not covered"
abbrev pub shown_as : Title → (values : List ℕ) → List ℕ
shown_as ready vs = vs
shown_as kept vs = vs
shown_as removed vs = vs
shown_as is_covered vs = 1 ∷ vs
shown_as is_not_covered vs = 0 ∷ 0 ∷ vs
shown_as returned vs = vs
shown_as passed vs = vs
shown_as read vs = vs
shown_as listed vs = vs
shown_as (code n) vs = vs

-- the values over the first words as far as these reach, the rest as before
abbrev pub told_by : (values told : List ℕ) → List ℕ
told_by [] ws = ws
told_by (v ∷ vs) [] = []
told_by (v ∷ vs) (w ∷ ws) = v ∷ told_by vs ws

-- the number returned, and the told words afterwards
pub record Reply : Type 0 where
  pub number : ℕ
  pub told : List ℕ

-- of what an answer says
abbrev pub replied : Said → (told : List ℕ) → Reply
replied s ts = record { number = number_of s.title; told = told_by (shown_as s.title s.values) ts }
