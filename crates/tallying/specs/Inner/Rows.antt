-- What the rows of some numbers ask.
use Rattle.std.specs.Prelude.{◌≡◌, List, ℕ, ◌+◌, ◌*◌, ◌≤◌, length}
use Rattle.record.specs.Line.{longest_tally}
use Rattle.record.specs.Marks.{number_count}
use Rattle.record.specs.Counters.{counter_words}

-- so many numbers from one on have marks and counters, and their rows fit into the output from a place on
pub record Showable (marks counters : List ℕ) (from count at : ℕ) (output : List ℕ) : Type 0 where
  pub all_marks : length marks ≡ number_count
  pub all_counters : length counters ≡ counter_words
  pub numbers : from + count ≤ number_count
  pub room : at + count * longest_tally ≤ length output
