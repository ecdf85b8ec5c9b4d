-- The tally sheet as it is written, in blocks of numbers.
use Rattle.std.specs.Prelude.{ℕ}

-- the numbers whose rows are a block of the tally sheet
abbrev pub block_numbers : ℕ
block_numbers = 8_192
