-- The words from `i` on are still to be stored.
use mathlib.Core.Path.{◌≡◌}
use Prim.Native.Nat.{◌-◌, ◌*◌}
use lib.ListN.{take, drop}
use lib.Seq.{sets}
use Rattle.record.specs.Output.{fields}
use Rattle.intake.proofs.input.read_words.Given as goal

abbrev pub invariant-loop-i : goal.invariant-loop-i
invariant-loop-i l =
    sets l.initial.words 0 (fields (take (l.count * 2) l.input)) ≡ sets l.words l.i (fields (take ((l.count - l.i) * 2) (drop (l.i * 2) l.input)))
