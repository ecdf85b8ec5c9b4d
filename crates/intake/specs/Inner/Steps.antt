-- What the functions that read the input promise.
use Rattle.std.specs.Prelude.{◌≡◌, List, ℕ, ◌+◌, ◌*◌, ◌≤◌, ◌<◌, length, take, get_or}
use Rattle.clause.specs.Clause.{max_words}
use Rattle.record.specs.Output.{field_of}
use Rattle.record.specs.declared.Setting.{Setting}
use Rattle.intake.specs.declared.Half.TheVariants.{Even}
use Rattle.intake.specs.declared.Stage.TheVariants.{AtNumber}
use Rattle.intake.specs.declared.Session.{Session}
use Rattle.intake.specs.declared.Portion.{Portion}
use Rattle.intake.specs.Feed.{store_of, proceeding, feed}

-- some of the input was read: feeding it, whatever the setting, the slice, the marks and the counters, is to go on with what it leads to and the words
-- that it leaves
pub record Stepped (session : Session) (input words : List ℕ) (step : Portion) (after : List ℕ) : Type 0 where
  pub some : 0 < step.taken
  pub inside : step.taken ≤ length input
  pub feeds : (v : Setting) (T m c : List ℕ)
      → feed v session (store_of words T m c) (take step.taken input) ≡ proceeding v step.next session.totals (store_of after T m c)

-- the input begins with a whole record of at most 64 words
pub record WholeRecord (session : Session) (input : List ℕ) (count : ℕ) : Type 0 where
  pub half : session.half ≡ Even
  pub stage : session.stage ≡ AtNumber
  pub few : count ≤ max_words
  pub inside : 4 + count * 2 ≤ length input
  pub counts : count ≡ field_of (get_or input 2 0) (get_or input 3 0)
