-- What holds of the slice and the marks from record to record.
use Rattle.std.specs.Prelude.{◌≡◌, ◌↔◌, List, ℕ, ◌+◌, ◌≤◌, ◌<◌, length, take, get_or}
use Rattle.clause.specs.Lists.{All}
use Rattle.tree.specs.Forest.{leaves}
use Rattle.tree.specs.Laid.{decode}
use Rattle.tree.specs.Entries.{Pair}
use Rattle.index.specs.Inner.Heads.{entry_count, Headed, Indexed, Renewable}
use Rattle.readback.specs.Saved.{IsTreeOf}
use Rattle.record.specs.Answer.{tree_words, Answered}
use Rattle.record.specs.Marks.{number_count, taken, marked}
use Rattle.record.specs.Output.{counted}
use Rattle.record.specs.Ruled.{Numbered}
use Rattle.record.specs.declared.Outcome.{Outcome}
use Rattle.record.specs.declared.Outcome.TheVariants.{Kept}
use Rattle.record.specs.declared.Came.{Came}
use Rattle.record.specs.declared.Totals.{Totals}

-- how many clauses a slice keeps
abbrev pub kept_in : (slice : List ℕ) → ℕ
kept_in T = leaves (decode T)

-- what holds from record to record: the slice is the tree of some pairs, their numbers have 16 bits, and exactly these are marked as taken
pub record Steady (slice marks : List ℕ) : Type 0 where
  pub slice_words : length slice ≡ tree_words
  pub mark_count : length marks ≡ number_count
  pub pairs : List Pair
  pub tree : IsTreeOf slice pairs
  pub small : All (λ p. p.number < number_count) pairs
  pub exactly : (n : ℕ) → n < number_count → (get_or marks n 0 ≡ taken) ↔ Numbered pairs n

-- the entries that the index had before a record, beside the slice after it: they stay where it has not gone in, and where no clause went out for it,
-- those for no head of the slice are 0
pub record Outdated (outcome : Outcome) (removed : ℕ) (slice heads : List ℕ) : Type 0 where
  pub tree : Headed (decode slice)
  pub long : length heads ≡ entry_count
  pub stays : ((used : ℕ) → outcome ≡ Kept used → ⊥) → Indexed slice heads
  pub more : removed ≡ 0 → Renewable slice heads

-- a record came out as it should: the outcome, the numbers at the beginning of a list that it takes out, the slice, and the marks
pub record CameOut (expected : Answered) (number : ℕ) (before : List ℕ) (came : Came) (list slice marks : List ℕ) : Type 0 where
  pub many : came.removed ≤ length list
  pub answer : record { outcome = came.outcome; removed = take came.removed list; slice = slice } ≡ expected
  pub marking : marks ≡ marked came.outcome number (take came.removed list) before

-- and so it goes on: the same holds of the slice and the marks after it; the numbers that it takes out have 16 bits, at most as many as the slice keeps,
-- and it takes their place; and where a total of kept clauses is right before it, it is so after it
pub record GoesOn (slice marks : List ℕ) (number : ℕ) (a : Answered) : Type 0 where
  pub steady : Steady a.slice (marked a.outcome number a.removed marks)
  pub small : All (λ n. n < number_count) a.removed
  pub few : length a.removed ≤ kept_in slice
  pub swap : kept_in a.slice + length a.removed ≤ kept_in slice + 1
  pub counts : (t : Totals) → t.kept ≡ kept_in slice → (counted a.outcome (length a.removed) t).kept ≡ kept_in a.slice
