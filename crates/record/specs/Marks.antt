-- The marks: a byte for each number that a record can have, 1 if it is taken, 2 if it was and its clause is removed.
use Rattle.std.specs.Prelude.{List, [], ◌∷◌, ℕ, zero, suc, get_or, set}
use Rattle.record.specs.declared.Outcome.{Outcome}
use Rattle.record.specs.declared.Outcome.TheVariants.{Kept, Struck, Refused}

-- how many numbers a record can have: 16 bits
abbrev pub number_count : ℕ
number_count = 65_536

-- the mark of a number that is taken, and of one that was
abbrev pub taken : ℕ
taken = 1

abbrev pub was_taken : ℕ
was_taken = 2

-- a mark after a removal: that a number was kept stays
abbrev pub freed : (mark : ℕ) → ℕ
freed zero = 0
freed (suc k) = was_taken

-- the marks after the removal of some numbers
abbrev pub freeing : (numbers marks : List ℕ) → List ℕ
freeing [] m = m
freeing (n ∷ ns) m = freeing ns (set m n (freed (get_or m n 0)))

-- the marks after an outcome: a number that is kept is taken from then on, until it is removed
abbrev pub marked : Outcome → (number : ℕ) (removed marks : List ℕ) → List ℕ
marked (Kept used) n ns m = set (freeing ns m) n taken
marked (Struck k c) n ns m = m
marked (Refused r) n ns m = m
