-- `merging::insert_at` meets its contract.
use mathlib.Core.Path.{ap, ◌∙◌}
use Prim.Native.Nat.{◌+◌, ◌≤◌}
use native.Mathlib.Omega.{arith}
use lib.ListN.{length}
use Rattle.merging.proofs.Chain.{tail_writable}
use Rattle.merging.proofs.Putting.{end_of, new_of, slice_parts, place_inside, insert_cramped, insert_room, insert_kept}
use Rattle.merging.proofs.insert_at.Goals as goal

pub returns-then-end-new : goal.returns-then-end-new
returns-then-end-new c = insert_cramped c.args.number c.args.shared c.requires.0 c.requires.1 (omega (arith, c.if-end-new.true, c.used-end.ensures))

pub raise-requires : goal.raise-requires
raise-requires c =
    let P = slice_parts c.requires.0 in
    (rw (c.used-end.ensures, P.part) P.rows, omega (arith, c.requires.0.few))

pub overflow_add-from : goal.overflow_add-from
overflow_add-from c = omega (arith, place_inside c.requires.0 c.requires.1)

pub offset_bounds-tree-from : goal.offset_bounds-tree-from
offset_bounds-tree-from c = omega (arith, place_inside c.requires.0 c.requires.1)

pub slice_bounds-put_in-count : goal.slice_bounds-put_in-count
slice_bounds-put_in-count c = omega (arith, place_inside c.requires.0 c.requires.1)

pub slice_bounds-put_in-start : goal.slice_bounds-put_in-start
slice_bounds-put_in-start c = omega (arith, place_inside c.requires.0 c.requires.1)

pub put_in-requires : goal.put_in-requires
put_in-requires c =
    let long = (rw c.used-end.ensures at c.raise.auto.words) ∙ ap length (slice_parts c.requires.0).part in
    let room : end_of c.args.tree.now + new_of c.args.keys.now c.args.shared ≤ length c.args.tree.now =
    omega (arith, c.if-end-new.false, c.used-end.ensures) in (
      tail_writable c.args.keys.now c.args.shared c.requires.2 c.requires.0.body c.requires.0.few,
      rw c.used-end.ensures (insert_room c.args.number c.args.shared c.requires.0 c.requires.1 room c.raise.new.words long),
    )

pub returns : goal.returns
returns c =
    let e = c.used-end.ensures in
    let P = slice_parts c.requires.0 in
    let long = (rw e at c.raise.auto.words) ∙ ap length P.part in
    let room : end_of c.args.tree.now + new_of c.args.keys.now c.args.shared ≤ length c.args.tree.now =
    omega (arith, c.if-end-new.false, e) in
    rw (c.one_more.ensures, e)
    (insert_kept c.args.number c.args.shared c.requires.0 c.requires.1 room c.raise.new.words long _
    (rw (e, P.part) at c.raise.ensures) (rw e at c.put_in.ensures))
