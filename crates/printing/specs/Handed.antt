-- What a run has read and handed on to be written, by its meters. Only the functions beside the system's calls move them.
use Rattle.std.specs.Prelude.{◌≡◌, true, false, None, List, ◌++◌, ℕ, ◌+◌, ◌*◌, ◌≤◌, ◌<◌, ◌^◌, length, take, drop}
use Rattle.record.specs.Line.{longest_tally, longest_records, totals_line}
use Rattle.record.specs.Marks.{number_count}
use Rattle.record.specs.declared.Setting.{Setting}
use Rattle.intake.specs.Feed.{fed_whole, printed_of}
use Rattle.printing.specs.declared.Meters.{Meters}

-- the meters of a run that has neither read nor written
abbrev pub first_meters : Meters
first_meters = record { read = 0; reads = 0; handed = 0; failed = false; ended = None }

-- so many bytes more can be counted as handed on
abbrev pub Holds : (bytes : ℕ) (meters : Meters) → Type 0
Holds n m = m.handed + n < 2 ^ 64

-- some text stands at a place of another one
abbrev pub StandsAt : (place : ℕ) (text whole : List ℕ) → Type 0
StandsAt n t w = take (length t) (drop n w) ≡ t

-- what may be handed on: it stands in what is printed of some bytes, as many as were read, right after what was handed on before, unless a write has failed
pub record NextPiece (meters : Meters) (text : List ℕ) : Type 0 where
  pub setting : Setting
  pub bytes : List ℕ
  pub many : meters.read ≡ length bytes
  pub stands : meters.failed ≡ false → StandsAt meters.handed text (printed_of setting bytes)

-- so many bytes were handed on, unless a write has failed, after which none are; nothing was read
pub record HandedOn (before : Meters) (bytes : ℕ) (after : Meters) : Type 0 where
  pub read : after.read ≡ before.read
  pub reads : after.reads ≡ before.reads
  pub ended : after.ended ≡ before.ended
  pub stopped : before.failed ≡ true → after ≡ before
  pub all : after.failed ≡ false → (before.failed ≡ false) × (after.handed ≡ before.handed + bytes)
  pub most : after.handed ≤ before.handed + bytes

-- the tally sheet of some bytes, as many as were read, comes next: they leave these marks, counters and records, and their lines and totals were handed on,
-- unless a write has failed
pub record SheetNext (marks counters : List ℕ) (records : ℕ) (meters : Meters) : Type 0 where
  pub setting : Setting
  pub bytes : List ℕ
  pub many : meters.read ≡ length bytes
  pub marked : (fed_whole setting bytes).store.marks ≡ marks
  pub counted : (fed_whole setting bytes).store.counters ≡ counters
  pub recorded : (fed_whole setting bytes).session.totals.records ≡ records
  pub handed : meters.failed ≡ false → let f = fed_whole setting bytes in meters.handed ≡ length (f.text ++ totals_line setting f.session.totals)
  pub fits : Holds (number_count * longest_tally + longest_records) meters
