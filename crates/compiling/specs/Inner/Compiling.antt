-- The compiling as the code holds it. Only the contracts of its inner functions speak of this.
use Rattle.std.specs.Prelude.{◌≡◌, ℕ, ◌+◌, ◌≤◌, length, Option, Some, None}
use mathlib.Core.List.{List, [], ◌∷◌, ◌++◌, map}
use Rattle.std.proofs.lemmas.List.Edits.{sets}
use Rattle.clause.specs.Word.{arity}
use Rattle.machine.specs.Instr.{Step, Do, key}
use Rattle.machine.specs.Compile.{Saved, Place, ended, inside, Way, way, way_from, opening, begun, closing, act, puts_after, sequence_from}
use Rattle.compiling.specs.declared.keys.Keys.{Keys}
use Rattle.compiling.specs.declared.Spot.{Spot}

-- there is room for so many more keys
abbrev pub HasRoom : (more : ℕ) → Keys → Type 0
HasRoom n k = k.written + n ≤ length k.words.now

-- keys stored from `at` on, up to `end`
pub record Stored (new before : List ℕ) (at : ℕ) (after : List ℕ) (end : ℕ) : Type 0 where
  pub after_is : after ≡ sets before at new
  pub end_is : end ≡ at + length new

-- keys are written after those before, in the words that were lent
pub record Writes (new : List ℕ) (before after : Keys) : Type 0 where
  pub same : after.words.ghost_name ≡ before.words.ghost_name
  pub stored : Stored new before.words.now before.written after.words.now after.written

-- before the first literal
abbrev pub first_spot : Spot
first_spot = record { left = None; pushed = 0; from = 0; puts = []; saved = [] }

-- the place of a spot
abbrev pub place_in : Option ℕ → List Saved → Place
place_in None saved = ended
place_in (Some l) saved = inside l saved

abbrev pub place_of : Spot → Place
place_of s = place_in s.left s.saved

-- the key before a literal's first word
abbrev pub opening_keys : Spot → List ℕ
opening_keys s = map key (opening (place_of s))

-- a spot inside a literal, which begins here unless it has begun
pub record Opened (s : Spot) (left : ℕ) (r : Spot) : Type 0 where
  pub ways : (a n : ℕ) → way_from (place_of s) a n ≡ way a left r.saved n
  pub pushed : r.pushed ≡ s.pushed
  pub puts : r.puts ≡ s.puts
  pub from : r.from ≡ begun (place_of s) s.puts s.from
  pub saved_low : length r.saved ≤ length s.saved

-- the keys of steps
abbrev pub step_keys : List Step → List ℕ
step_keys steps = map key (map Do steps)

-- a way leads from one spot to another
pub record Went (t : Way) (s r : Spot) : Type 0 where
  pub place : place_of r ≡ t.place
  pub pushed : r.pushed ≡ t.pushed
  pub puts : r.puts ≡ s.puts
  pub from : r.from ≡ s.from
  pub saved_low : length r.saved ≤ r.pushed

-- no more positions are saved than were pushed, and the literal began at a put there is
pub record Orderly (s : Spot) : Type 0 where
  pub saved_low : length s.saved ≤ s.pushed
  pub from_low : s.from ≤ length s.puts

-- the way from a word at a spot
abbrev pub way_of : (w : ℕ) → Spot → Way
way_of w s = way_from (place_of s) (arity w) s.pushed

-- the keys of a word at a spot, and at a literal's end its Compares
abbrev pub head_keys : (w : ℕ) → Spot → List ℕ
head_keys w s = opening_keys s ++ (key (Do (act s.puts w)) ∷ step_keys (way_of w s).steps)

abbrev pub ending_keys : (w : ℕ) → Spot → List ℕ
ending_keys w s = step_keys (closing (way_of w s).place (puts_after s.puts w) (begun (place_of s) s.puts s.from))

unfoldable pub word_keys : (w : ℕ) → Spot → List ℕ
word_keys w s = head_keys w s ++ ending_keys w s

-- a spot, and the one after a word
pub record Turned (w : ℕ) (s r : Spot) : Type 0 where
  pub place : place_of r ≡ (way_of w s).place
  pub pushed : r.pushed ≡ (way_of w s).pushed
  pub puts : r.puts ≡ puts_after s.puts w
  pub from : r.from ≡ begun (place_of s) s.puts s.from
  pub orderly : Orderly r

-- the keys of the words to come
abbrev pub to_come : (words : List ℕ) → Spot → List ℕ
to_come words s = map key (sequence_from words (place_of s) s.puts s.from s.pushed)
