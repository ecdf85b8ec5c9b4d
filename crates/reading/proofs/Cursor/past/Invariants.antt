-- `past` reads one term. The invariant: the rest is past the terms still to come, which are never many more than the words.
use mathlib.Core.Path.{◌≡◌}
use Prim.Native.Nat.{◌≤◌, ◌+◌, ◌-◌}
use lib.ListN.{length, drop}
use Rattle.reading.specs.Inner.Cursor.{past_terms, go_past}
use Rattle.reading.proofs.Cursor.past.Given as goal

abbrev pub invariant-loop-need : goal.invariant-loop-need
invariant-loop-need l = (l.need ≤ length l.words + 7) × (go_past l.words l.self ≡ past_terms (drop l.at l.words) l.need l.at l.self.left)

abbrev pub decreases-loop-need : goal.decreases-loop-need
decreases-loop-need l = length l.words - l.at
