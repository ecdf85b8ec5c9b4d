-- What a run promises of the bytes that it reads and of those that it hands on to be written.
use Rattle.std.specs.Prelude.{◌≡◌, false, List, ◌++◌, ℕ, ◌≤◌, ◌<◌, length}
use Rattle.record.specs.Settings.{setting_of}
use Rattle.record.specs.Output.{listing_of}
use Rattle.record.specs.Tally.{output_of}
use Rattle.record.specs.Sheet.{Bytes}
use Rattle.record.specs.Tallies.{most_bytes}
use Rattle.record.specs.Promise.{Promised}
use Rattle.intake.specs.Feed.{printed_of}
use Rattle.printing.specs.declared.Meters.{Meters}
use Rattle.streaming.specs.Fed.{may_read}

-- a run with an argument ended, and its meters say this
pub record RunEnds (argument : List ℕ) (meters : Meters) : Type 0 where
  -- some bytes, as many as its reads delivered; `take_block` says that each block is put after those before it (`Grows`)
  pub bytes : List ℕ
  pub small : Bytes bytes
  pub read : meters.read ≡ length bytes
  -- the reads ended, by one that said that there is no more or by one that failed, or a write failed (or all reads were made, which none does)
  pub ended : may_read meters ≡ false
  -- unless a write failed, as much was handed on as is printed of them, and never more; each piece stood at its place (`NextPiece`)
  pub handed : meters.failed ≡ false → meters.handed ≡ length (printed_of (setting_of argument) bytes)
  pub most : meters.handed ≤ length (printed_of (setting_of argument) bytes)
  -- what is printed of them begins with their listing, and is the output by its definition; and what the listing promises
  pub lists : (rest : List ℕ) × (printed_of (setting_of argument) bytes ≡ listing_of (setting_of argument) bytes ++ rest)
  pub output : length bytes < most_bytes → printed_of (setting_of argument) bytes ≡ output_of (setting_of argument) bytes
  pub promised : Promised (setting_of argument) bytes (listing_of (setting_of argument) bytes)
