-- `query_indexed` meets its contract: the reading, and then the walk by the index.
use mathlib.Core.Path.{refl, sym, ap, ◌∙◌}
use Prim.Native.Nat.{ℕ, ◌+◌}
use native.Mathlib.Omega.{arith}
use Rattle.clause.specs.Clause.{Accepted}
use Rattle.tree.proofs.Grow.{sized_low, sized_high, laid_room}
use Rattle.index.proofs.Noting.{decode_region, laid_encoded}
use Rattle.index.proofs.Reading.{whole_accepted, undecided}
use Rattle.query.proofs.Asking.{used_part, fresh_ready, decided}
use Rattle.query.proofs.Packed.{clause_read}
use Rattle.index.proofs.indexed.query_indexed.Goals as goal
use Rattle.index.proofs.indexed.query_indexed.Goals.{Joined-not-is_whole, then-not-is_whole+in-Ok, else-not-is_whole}

pub returns-in_default : goal.returns-in_default
returns-in_default c =
    undecided c.args.tree.now c.args.words.now c.args.budget c.requires.0 c.unwrap_err.ensures c.read-shape.ensures refl

-- the clause is accepted
accepted : (c : Joined-not-is_whole) → Accepted c.args.words.now
accepted c =
    elim c.if-not-is_whole.branch [
      | then-not-is_whole+in-Ok w ↦ (_, sym w.read-shape.ensures ∙ w.in-Ok.is)
      | else-not-is_whole w ↦ whole_accepted c.args.words.now c.is_whole.ensures w.if-not-is_whole.false
    ]

pub of-clause-requires : goal.of-clause-requires
of-clause-requires c = accepted (goal.at.of-clause-requires c).Joined-not-is_whole

pub bounds-tree-0 : goal.bounds-tree-0
bounds-tree-0 c = omega (arith, sized_low c.args.tree.now c.requires.0)

pub overflow_add-end : goal.overflow_add-end
overflow_add-end c = record { fits = omega (arith, c.used-end.ensures, laid_room c.args.tree.now c.requires.1, sized_high c.args.tree.now c.requires.0) }

pub slice_bounds-walk_heads-end : goal.slice_bounds-walk_heads-end
slice_bounds-walk_heads-end c = omega (arith, c.used-end.ensures, laid_room c.args.tree.now c.requires.1)

pub walk_heads-finding-requires : goal.walk_heads-finding-requires
walk_heads-finding-requires c =
    let whole = accepted (goal.at.walk_heads-finding-requires c).Joined-not-is_whole in
    let T = c.args.tree.now in
    let part = used_part T (omega (arith, sized_low T c.requires.0)) (ap (λ (n : ℕ). n + 1) c.used-end.ensures) in (
      rw part (laid_encoded T c.requires.0 c.requires.1),
      rw (part, ← decode_region T) c.requires.2,
      fresh_ready whole (clause_read c.args.words.now whole _ c.of-clause.ensures),
      refl,
    )

pub returns : goal.returns
returns c =
    let whole = accepted (goal.at.returns c).Joined-not-is_whole in
    let a = c.args in
    decided a.tree.now a.words.now a.budget c.requires.0 c.requires.1 whole (ap (λ (u : ℕ). u + 1) c.used-end.ensures)
    c.walk_heads-finding.ensures.comes (c.told.ensures _ _)
