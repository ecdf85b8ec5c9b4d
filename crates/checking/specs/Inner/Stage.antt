-- A pass over the words of a tree, as its callers see it.
use Rattle.std.specs.Prelude.{◌≡◌, true, false, List, [], ◌∷◌, ℕ, ◌≤◌, length, take, Option, Some, None, Result, Ok, Err}
use Rattle.tree.specs.Entries.{Entry}
use Rattle.readback.specs.Saved.{all_readable, numbers_of}
use Rattle.checking.specs.Inner.Scan.{scan_from, opens}
use Rattle.decompiling.specs.declared.Foreign.{Foreign}

-- the keys above the Success that it has come to, and the entries that are left
pub record Stage : Type 0 where
  pub path : List ℕ
  pub left : List Entry

-- from a place in words, with so many words above it by two arrays
abbrev pub stage : (words : List ℕ) (at above : ℕ) (keys ends : List ℕ) → Stage
stage ws at d ks es = record { path = take d ks; left = scan_from ws at (opens ks es d) }

-- one step: the number that it comes to, or the end, or a path that is no clause's
abbrev pub Steps : Stage → Result (Option ℕ) Foreign → Stage → Type 0
Steps s (Ok (Some n)) s' = s.left ≡ record { number = n; keys = s'.path } ∷ s'.left
Steps s (Ok None) s' = s.left ≡ []
Steps s (Err f) s' = all_readable s.left ≡ false

-- what is gathered of some entries: their numbers, where all are clauses'
abbrev pub Gathers : List Entry → Result ℕ Foreign → (numbers' : List ℕ) → Type 0
Gathers es (Ok n) ns = (all_readable es ≡ true) × (n ≤ length ns) × (take n ns ≡ numbers_of es)
Gathers es (Err f) ns = all_readable es ≡ false
