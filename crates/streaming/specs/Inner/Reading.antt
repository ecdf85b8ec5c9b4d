-- What a read asks, and what it does to the meters.
use Rattle.std.specs.Prelude.{◌≡◌, None, List, ℕ, ◌+◌, ◌*◌, ◌≤◌, ◌<◌, length}
use Rattle.printing.specs.declared.Meters.{Meters}
use Rattle.streaming.specs.Fed.{block_bytes, most_reads}

-- one more read may be made
pub record Readable (input : List ℕ) (meters : Meters) : Type 0 where
  pub block : length input ≡ block_bytes
  pub more : meters.reads < most_reads
  pub goes_on : meters.ended ≡ None
  pub few : meters.read ≤ meters.reads * block_bytes

-- it was made, and so many bytes that it delivered stand at the beginning of the input's; where there are some, the reads have not ended
pub record Delivered (count : ℕ) (input : List ℕ) (before after : Meters) : Type 0 where
  pub inside : count ≤ length input
  pub read : after.read ≡ before.read + count
  pub reads : after.reads ≡ before.reads + 1
  pub handed : after.handed ≡ before.handed
  pub failed : after.failed ≡ before.failed
  pub goes_on : 0 < count → after.ended ≡ None
