-- What the functions within insertion ask of their callers, and what they tell them.
use Rattle.std.specs.Prelude as std
use Rattle.std.specs.Prelude.{Some, None, ◌≡◌, true, List, ℕ, ◌-◌, ◌≤◌, T, length, drop}
use Rattle.std.proofs.Math.Option.{Option, none, some}
use Rattle.machine.specs.Compiled.{max_keys}
use Rattle.tree.specs.Forest.{Body}
use Rattle.tree.specs.Laid.{sized, row, rows, well_laid}
use Rattle.tree.specs.Inner.Merge.{behind, descend, from_top}
use Rattle.merging.specs.declared.Place.{Place}

-- the number of the clause that keeps a sequence, if one does
abbrev pub holder_of : std.Option ℕ → Option ℕ
holder_of None = none
holder_of (Some number) = some number

-- the words are siblings one after another, and so are those below each of them
pub record Nested (words : List ℕ) : Type 0 where
  pub top : T (row words 0 0 (length words))
  pub inside : T (rows words)

-- the keys lead to a place, where the first `shared` of them have a word, and to who keeps them
pub record LeadsTo (words keys : List ℕ) (r : Place) : Type 0 where
  pub within : r.at ≤ length words
  pub shares : r.shared ≤ length keys
  pub place : (from_top words keys).place ≡ r.at
  pub left : (from_top words keys).left ≡ drop r.shared keys
  pub holder : (from_top words keys).holder ≡ holder_of r.holder

-- k keys of cs have a word, and the others are looked for in the row from p up to t; `done` are the words before p, raised
pub record Descending (words cs : List ℕ) (p t k : ℕ) : Type 0 where
  pub order : p ≤ t
  pub room : t ≤ length words
  pub keys : k ≤ length cs
  pub bound : ℕ
  pub in_row : T (row (drop p words) bound 0 (t - p))
  pub in_rows : T (rows words)
  pub done : ℕ → List ℕ
  pub long : (r : ℕ) → length (done r) ≡ p
  pub goes : from_top words cs ≡ behind p done (descend (drop p words) 0 (t - p) (drop k cs))

-- keys of a sequence, or the last of them
pub record Writable (keys : List ℕ) : Type 0 where
  pub body : Body keys
  pub few : length keys ≤ max_keys

-- a well-laid slice, and keys of a sequence that may go into it
pub record Mergeable (tree keys : List ℕ) : Type 0 where
  pub size : sized tree ≡ true
  pub laid : well_laid tree ≡ true
  pub body : Body keys
  pub few : length keys ≤ max_keys
