-- The lines from number `number-index` on are still to be put.
use mathlib.Core.Path.{◌≡◌}
use Prim.Native.Nat.{◌+◌, ◌*◌, ◌≤◌}
use lib.ListN.{length, drop}
use Rattle.record.specs.Text.{put_at}
use Rattle.record.specs.Line.{longest_removal, removal_lines}
use Rattle.lines.proofs.Page.put_removals.Given as goal

abbrev pub invariant-loop-number : goal.invariant-loop-number
invariant-loop-number l =
    let p = l.self in
    let q = l.initial.self in
    (p.bytes.ghost_name ≡ q.bytes.ghost_name) × (length p.bytes.now ≡ length q.bytes.now) × (p.at ≤ q.at + l.number-index * longest_removal)
    × (put_at (removal_lines l.by l.numbers) q.bytes.now q.at ≡ put_at (removal_lines l.by (drop l.number-index l.numbers)) p.bytes.now p.at)
