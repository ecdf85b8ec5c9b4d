-- Where a run is before a block.
use Rattle.std.specs.Prelude.{◌≡◌, ℕ, ◌+◌, ◌*◌, ◌≤◌, length}
use Rattle.clause.specs.Clause.{max_words}
use Rattle.record.specs.declared.Setting.{Setting}
use Rattle.intake.specs.Feed.{Store}
use Rattle.intake.specs.declared.Session.{Session}
use Rattle.answering.specs.Inner.Steady.{kept_in, Steady}
use Rattle.feeding.specs.Inner.Blocks.{Within}
use Rattle.printing.specs.declared.Meters.{Meters}
use Rattle.streaming.specs.Fed.{block_bytes, most_reads, output_bytes, FedSoFar}

-- what was fed, what holds from record to record, and room in the meters and totals for the reads that may still come
pub record Running (setting : Setting) (session : Session) (store : Store) (meters : Meters) : Type 0 where
  pub stands : FedSoFar setting session store meters
  pub steady : Steady store.slice store.marks
  pub kept : session.totals.kept ≡ kept_in store.slice
  pub words : length store.words ≡ max_words
  pub reads : meters.reads ≤ most_reads
  pub read : meters.read ≤ meters.reads * block_bytes
  pub handed : meters.handed ≤ meters.reads * output_bytes
  pub counts : (n : ℕ) → n + meters.reads ≡ most_reads → Within session.totals (n * block_bytes) (most_reads * block_bytes)
