-- A tree's words gone over in their order, with the words above each one: the definitions that the loops are proved against.
use Rattle.std.specs.Prelude.{◌≡◌, true, false, List, [], ◌∷◌, ◌++◌, ℕ, zero, suc, ◌+◌, ◌≤◌, ◌<◌, ltb, length, get_or, take, drop, Option, Some, None, Result, Ok, Err}
use Rattle.machine.specs.Compiled.{max_keys}
use Rattle.tree.specs.Keys.{first_key}
use Rattle.tree.specs.Laid.{key_of, extent_of}
use Rattle.tree.specs.Entries.{Entry}
use Rattle.readback.specs.Saved.{all_readable}
use Rattle.decompiling.specs.declared.Foreign.{Foreign}
use Rattle.checking.specs.declared.going.Success.{Success}

-- a word that others stand below: its key, and where its extent ends
pub record Open : Type 0 where
  pub key : ℕ
  pub end : ℕ

-- of words one above the other, the lowest first, those that reach past a place
unfoldable pub still_open : (at : ℕ) → List Open → List Open
still_open at [] = []
still_open at (o ∷ os) = elim (ltb at o.end) [ true ↦ o ∷ os | false ↦ still_open at os ]

-- their keys, the topmost first
unfoldable pub path_to : List Open → List ℕ
path_to [] = []
path_to (o ∷ os) = path_to os ++ (o.key ∷ [])

-- the Success words from a place on, each with the keys above it
unfoldable pub scan : (words : List ℕ) (at : ℕ) → List Open → List Entry
scan [] at os = []
scan (w ∷ ws) at os =
    elim (ltb (key_of w) first_key) [
      | true ↦ record { number = key_of w; keys = path_to (still_open at os) } ∷ scan ws (suc at) (still_open at os)
      | false ↦ scan ws (suc at) (record { key = key_of w; end = at + extent_of w } ∷ still_open at os)
    ]

-- from a place in words
abbrev pub scan_from : (words : List ℕ) (at : ℕ) → List Open → List Entry
scan_from ws at os = scan (drop at ws) at os

-- the words above by two arrays, the topmost first in them
unfoldable pub opens : (keys ends : List ℕ) (depth : ℕ) → List Open
opens ks es zero = []
opens ks es (suc d) = record { key = get_or ks d 0; end = get_or es d 0 } ∷ opens ks es d

-- r of them reach past a place
abbrev pub Closed : (ends : List ℕ) (depth at r : ℕ) → Type 0
Closed es d at r = (r ≤ d) × ((ks : List ℕ) → opens ks es r ≡ still_open at (opens ks es d))

-- what the pass needs of words: no extent reaches past them, and a word that is no Success has a word below it
pub data Nested : List ℕ → Type 0 where
  done : Nested []
  word : {w : ℕ} {ws : List ℕ} → extent_of w ≤ suc (length ws) → (first_key ≤ key_of w → 2 ≤ extent_of w) → Nested ws → Nested (w ∷ ws)

-- what comes next, from a place with so many words above, and the two arrays afterwards
abbrev pub Comes : (words : List ℕ) (from depth : ℕ) (keys ends : List ℕ) → Result (Option Success) Foreign → (keys' ends' : List ℕ) → Type 0
Comes ws from d ks es (Ok (Some s)) ks' es' =
    (from ≤ s.place) × (s.place < length ws) × (s.above ≤ max_keys)
    × (scan_from ws from (opens ks es d) ≡ record { number = key_of (get_or ws s.place 0); keys = take s.above ks' } ∷ scan_from ws (s.place + 1) (opens ks' es' s.above))
    × (key_of (get_or ws s.place 0) < first_key) × (length ks' ≡ max_keys) × (length es' ≡ max_keys)
Comes ws from d ks es (Ok None) ks' es' = scan_from ws from (opens ks es d) ≡ []
Comes ws from d ks es (Err f) ks' es' = all_readable (scan_from ws from (opens ks es d)) ≡ false
