-- `search` meets its contract.
use mathlib.Core.Path.{ap, ◌∙◌}
use Prim.Native.Nat.{ℕ, ◌+◌}
use Rattle.query.specs.Inner.Telling.{told_out}
use Rattle.query.proofs.Asking.{fresh_ready, searched}
use Rattle.query.proofs.Packed.{clause_read}
use Rattle.query.proofs.ask.search.Goals as goal

pub walk_top-finding-requires : goal.walk_top-finding-requires
walk_top-finding-requires c = fresh_ready c.requires.0 (clause_read c.args.words.now c.requires.0 _ c.of-clause.ensures)

pub returns : goal.returns
returns c =
    let a = c.args in
    c.answer.ensures ∙ ap (told_out a.budget a.witness.now) c.walk_top-finding.ensures.comes
    ∙ searched a.tree.now a.words.now a.budget a.witness.now c.requires.1 (ap (λ (u : ℕ). u + 1) c.header-header.ensures.0)
