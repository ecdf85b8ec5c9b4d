-- A saved slice: when it is the tree of some clauses, and the test of it.
use Rattle.std.specs.Prelude.{◌≡◌, ◌≢◌, Bool, true, false, ◌&&◌, not, List, [], ◌∷◌, map, ℕ, ◌^◌, ◌≤◌, ◌<◌, ltb, eqb, length, Err, Ok, Result}
use Rattle.clause.specs.Lists.{All, Each, alike}
use Rattle.clause.specs.Clause.{shape}
use Rattle.machine.specs.Compile.{Variants, keys}
use Rattle.tree.specs.Forest.{Forest, size, layout}
use Rattle.tree.specs.Laid.{max_kept, least_words, most_words}
use Rattle.tree.specs.Entries.{Entry, Pair, Sound, entry, build}
use Rattle.tree.specs.Laws.{paths_of}
use Rattle.readback.specs.Readback.{clause_of}
use Rattle.clause.specs.declared.Fault.{Fault}

-- the slice s is the tree of the pairs K: 2 to 65,536 words, at most 1,024 accepted clauses under different numbers, no two of them variants
pub record IsTreeOf (s : List ℕ) (K : List Pair) : Type 0 where
  pub low : least_words ≤ length s
  pub high : length s ≤ most_words
  pub few : length K ≤ max_kept
  pub sound : All Sound K
  pub numbers : Each (λ p q. p.number ≢ q.number) K
  pub clauses : Each (λ p q. Variants p.clause q.clause → ⊥) K
  pub room : size (build (map entry K)) < length s
  pub words : s ≡ layout (length s) (build (map entry K))

-- the slice is the tree of some clauses, or of none
abbrev pub IsSaved : List ℕ → Type 0
IsSaved s = (K : List Pair) × IsTreeOf s K

-- the clauses read off the paths of a tree, under their numbers
abbrev pub pairs_of : Forest → List Pair
pairs_of F = map (λ e. record { number = e.number; clause = clause_of e.keys }) (paths_of F)

-- ---- the test

-- the words have 16 bits
abbrev pub narrow : List ℕ → Bool
narrow [] = true
narrow (w ∷ ws) = ltb w (2 ^ 16) && narrow ws

-- a shape without a fault
abbrev pub is_whole : Result ℕ Fault → Bool
is_whole (Err f) = false
is_whole (Ok n) = true

-- words are an accepted clause of 16-bit words with these keys
unfoldable pub has_keys : (words keys : List ℕ) → Bool
has_keys c p = narrow c && (is_whole (shape c) && alike (keys c) p)

-- keys that some clause has: the clause read off them is accepted and has them (ReadbackLaws' `tested`)
unfoldable pub readable : List ℕ → Bool
readable p = has_keys (clause_of p) p

-- all paths are readable
abbrev pub all_readable : List Entry → Bool
all_readable [] = true
all_readable (e ∷ es) = readable e.keys && all_readable es

-- a number is none of some
abbrev pub is_new : ℕ → List ℕ → Bool
is_new n [] = true
is_new n (m ∷ ms) = not (eqb n m) && is_new n ms

-- numbers that differ
abbrev pub all_differ : List ℕ → Bool
all_differ [] = true
all_differ (n ∷ ns) = is_new n ns && all_differ ns

-- the numbers of paths
abbrev pub numbers_of : List Entry → List ℕ
numbers_of es = map (λ e. e.number) es

-- the paths are clauses under different numbers (ReadbackLaws' `tested_tree`)
unfoldable pub of_clauses : Forest → Bool
of_clauses F = all_readable (paths_of F) && all_differ (numbers_of (paths_of F))
