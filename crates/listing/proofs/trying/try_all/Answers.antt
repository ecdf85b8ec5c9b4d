-- `try_all` meets its contract: the clauses before the place are queried.
use Prim.Native.Nat.{◌^◌}
use native.Mathlib.Nat.{lt_of_le_of_lt}
use native.Mathlib.Omega.{arith}
use Rattle.clause.proofs.Lists.{all_below}
use Rattle.listing.proofs.Turns.{lone_made, trying_first, trying_end, trying_ready, trying_spent}
use Rattle.listing.proofs.Turns.{other_few, trying_other, found_few, trying_full, trying_found}
use Rattle.tree.proofs.Refused.{answer_as, refusal_in}
use Rattle.listing.proofs.trying.try_all.Goals as goal
use Rattle.listing.proofs.trying.try_all.Goals.{in-NotCovered, in-Covered+else-many-room}

pub loop-place-init : goal.loop-place-init
loop-place-init c =
    let p = c.requires in
    let w = all_below (2 ^ 16) c.args.clause.now (λ j. omega (arith, c.type_inv.clause j)) in
    trying_first _ _ _ c.told-numbers
    record { accepts = p.0; words = w; pairs = p.1; few = omega (arith, c.len-place-end.ensures.is, c.len-place-end.ensures.few); tree = lone_made _ p.0 w c.insert.ensures }

pub decide-requires : goal.decide-requires
decide-requires c = trying_ready c.loop-place.invariant c.at-number.ensures

pub returns-in_default : goal.returns-in_default
returns-in_default c = trying_spent c.loop-place.invariant c.at-number.ensures c.decide.ensures (refusal_in _ c.in_default.not-Ok).1

pub overflow_add-tried : goal.overflow_add-tried
overflow_add-tried c =
    let h = other_few c.loop-place.invariant c.at-number.ensures c.decide.ensures (answer_as c.in-Ok.is c.in-NotCovered.is) in
    record { fits = lt_of_le_of_lt h c.ranges.budget.fits }

pub overflow_add-tried-in-Covered : goal.overflow_add-tried-in-Covered
overflow_add-tried-in-Covered c =
    let h = found_few c.loop-place.invariant c.at-number.ensures c.decide.ensures (answer_as c.in-Ok.is c.in-Covered.is) in
    record { fits = lt_of_le_of_lt h c.ranges.budget.fits }

pub returns-then-many-room : goal.returns-then-many-room
returns-then-many-room c = trying_full c.loop-place.invariant c.at-number.ensures c.decide.ensures (answer_as c.in-Ok.is c.in-Covered.is) (omega arith)

pub loop-place-preserved : goal.loop-place-preserved
loop-place-preserved c =
    let g = c.loop-place.invariant in
    let f = c.at-number.ensures in
    elim c.match-verdict.branch [
      | in-NotCovered w ↦ rw (w.numbers-is, w.many-is, w.tried-is) (trying_other g f c.decide.ensures (answer_as c.in-Ok.is w.in-NotCovered.is))
      | in-Covered+else-many-room w ↦
          rw (w.numbers-is, w.many-is, w.tried-is) (trying_found g f c.decide.ensures (answer_as c.in-Ok.is w.in-Covered.is) (omega (arith, w.if-many-room.false)))
    ]

pub returns : goal.returns
returns c = trying_end c.loop-place.invariant (omega arith) (omega arith)
