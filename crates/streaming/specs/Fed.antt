-- What a run has fed. Nothing says which bytes a read delivers, so this speaks of some bytes: as many as the meters say.
use Rattle.std.specs.Prelude.{◌≡◌, Bool, false, ◌&&◌, not, is_none, List, ◌++◌, ℕ, ◌+◌, ◌*◌, ◌≤◌, ltb, length}
use Rattle.tree.specs.Laid.{max_kept}
use Rattle.record.specs.Line.{longest_line, longest_removal}
use Rattle.record.specs.declared.Setting.{Setting}
use Rattle.record.specs.Sheet.{Bytes}
use Rattle.intake.specs.Feed.{Store, feed, first_session, first_store}
use Rattle.intake.specs.declared.Session.{Session}
use Rattle.printing.specs.declared.Meters.{Meters}

-- the most bytes of a block
abbrev pub block_bytes : ℕ
block_bytes = 16_384

-- the most reads of a run: so many that none uses them up
abbrev pub most_reads : ℕ
most_reads = 1_099_511_627_776

-- the most bytes that a block prints: a byte of it ends a record at most, which prints its line, and a clause is removed once, whether it is kept before
-- the block or by one of its records
abbrev pub output_bytes : ℕ
output_bytes = block_bytes * (longest_line + longest_removal) + max_kept * longest_removal

-- the buffers: a block, and an output in which the lines of any block fit
pub record Buffers (input output : List ℕ) : Type 0 where
  pub block : length input ≡ block_bytes
  pub room : output_bytes ≤ length output

-- whether one more block is read: the reads have not ended, no write has failed, and a read is left
abbrev pub may_read : Meters → Bool
may_read m = is_none m.ended && (not m.failed && ltb m.reads most_reads)

-- some bytes were fed from the start on, with a setting, and left the session and the lent words; they are as many as the reads delivered, and their lines
-- were handed on, unless a write has failed. `WholeInput` speaks of every input, so of these bytes
pub record FedSoFar (setting : Setting) (session : Session) (store : Store) (meters : Meters) : Type 0 where
  pub bytes : List ℕ
  pub small : Bytes bytes
  pub read : session ≡ (feed setting first_session first_store bytes).session
  pub lent : store ≡ (feed setting first_session first_store bytes).store
  pub many : meters.read ≡ length bytes
  pub handed : meters.failed ≡ false → meters.handed ≡ length (feed setting first_session first_store bytes).text
  pub most : meters.handed ≤ length (feed setting first_session first_store bytes).text

-- after a block the bytes that were fed are those before it and then the block's
abbrev pub Grows : Setting → Session → Store → Meters → (block : List ℕ) → Session → Store → (after : Meters) → Type 0
Grows v s m M block s' m' N = (F : FedSoFar v s m M) → (G : FedSoFar v s' m' N) × (G.bytes ≡ F.bytes ++ block)
