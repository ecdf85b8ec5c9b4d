-- What a caller of `compile` has: the keys are the first words.
use mathlib.Core.Path.{◌≡◌, ap}
use mathlib.Core.List.{List}
use Prim.Native.Nat.{ℕ, ◌≤◌}
use native.Mathlib.Omega.{arith}
use lib.ListN.{length, take, drop, length-append}
use lib.Seq.{take-append_seam}
use Rattle.machine.specs.Compile.{keys}
use Rattle.machine.specs.Compiled.{Compiled}

pub compiled_fits : {c before : List ℕ} {n : ℕ} {after : List ℕ} → Compiled c before n after → n ≤ length after
compiled_fits {c} {before} C = omega (arith, C.answer_is, ap length C.after_is, length-append (keys c) (drop (length (keys c)) before))

pub compiled_keys : {c before : List ℕ} {n : ℕ} {after : List ℕ} → Compiled c before n after → take n after ≡ keys c
compiled_keys {c} {before} C = rw (C.answer_is, C.after_is) (take-append_seam (keys c) (drop (length (keys c)) before))
