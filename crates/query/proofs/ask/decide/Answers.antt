-- `decide` meets its contract: the walk, and what it comes to.
use mathlib.Core.Path.{ap}
use Prim.Native.Nat.{ℕ, ◌+◌}
use Rattle.query.proofs.Asking.{fresh_ready, decided}
use Rattle.query.proofs.Packed.{clause_read}
use native.Mathlib.Omega.{arith}
use Rattle.tree.proofs.Grow.{sized_low, sized_high, laid_room}
use Rattle.query.proofs.ask.decide.Goals as goal

pub bounds-tree-0 : goal.bounds-tree-0
bounds-tree-0 c = omega (arith, sized_low c.args.tree.now c.requires.0)

pub overflow_add-end : goal.overflow_add-end
overflow_add-end c = record { fits = omega (arith, c.used-end.ensures, laid_room c.args.tree.now c.requires.1, sized_high c.args.tree.now c.requires.0) }

pub slice_bounds-walk_top-end : goal.slice_bounds-walk_top-end
slice_bounds-walk_top-end c = omega (arith, c.used-end.ensures, laid_room c.args.tree.now c.requires.1)

pub walk_top-finding-requires : goal.walk_top-finding-requires
walk_top-finding-requires c = fresh_ready c.requires.2 (clause_read c.args.words.now c.requires.2 _ c.of-clause.ensures)

pub returns : goal.returns
returns c =
    let a = c.args in
    decided a.tree.now a.words.now a.budget c.requires.0 c.requires.1 c.requires.2 (ap (λ (u : ℕ). u + 1) c.used-end.ensures)
    c.walk_top-finding.ensures.comes (c.told.ensures _ _)
