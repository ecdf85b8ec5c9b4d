-- `place_below` meets its contract.
use native.Mathlib.Omega.{arith}
use Rattle.index.proofs.Below.{leads_below}
use Rattle.index.proofs.placing.place_below.Goals as goal

pub overflow_add-at : goal.overflow_add-at
overflow_add-at c = let b = leads_below c.requires.0 c.requires.1 in omega (arith, b.order, b.room)

pub offset_bounds-words-at : goal.offset_bounds-words-at
offset_bounds-words-at c = let b = leads_below c.requires.0 c.requires.1 in omega (arith, b.order, b.room)

pub bounds-words-at : goal.bounds-words-at
bounds-words-at c = let b = leads_below c.requires.0 c.requires.1 in omega (arith, b.order, b.room)

pub overflow_add-at-2 : goal.overflow_add-at-2
overflow_add-at-2 c =
    let p = c.requires in
    let b = leads_below p.0 p.1 in
    omega (arith, c.extent.ensures, b.room)

pub follow-requires : goal.follow-requires
follow-requires c = let p = c.requires in rw c.extent.ensures (leads_below p.0 p.1)
