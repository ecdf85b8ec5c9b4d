-- The table of sums from which the ceiling is taken.
use Rattle.std.specs.Prelude.{◌≡◌, List, [], ℕ, ◌-◌, ◌*◌, ◌≤◌, get_or}
use Rattle.clause.specs.Clause.{max_literals}
use Rattle.tree.specs.Laid.{max_kept}
use Rattle.walk.specs.Ceiling.{powers, full_budget}

-- a row for each q, in it an entry for each m, both counted from 1
abbrev pub Table : Type 0
Table = List (List ℕ)

-- its layout: the entry for q and m
abbrev pub entry : Table → (q m : ℕ) → ℕ
entry table q m = get_or (get_or table (q - 1) []) (m - 1) 0

-- each entry is the formula's sum for its q and m (a record, by which the checker finds the table where the code asks for it)
pub record Sums (table : Table) : Type 0 where
  pub at : (q m : ℕ) → 1 ≤ q → q ≤ max_literals → 1 ≤ m → m ≤ max_literals → entry table q m ≡ powers q m

-- a claim about a table: the full budget is its last entry times the most clauses
abbrev pub LastEntry : Table → Type 0
LastEntry table = full_budget ≡ max_kept * entry table max_literals max_literals
