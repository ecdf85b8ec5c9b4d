-- Whether words are a whole clause.
use Rattle.std.specs.Prelude.{Bool, true, false, Err, Ok, Result, ℕ}
use Rattle.clause.specs.declared.Fault.{Fault}

-- whether a shape is that of a whole clause
abbrev pub is_whole : Result ℕ Fault → Bool
is_whole (Err f) = false
is_whole (Ok n) = true
