-- `reindex` meets its contract: the entries stay, or the places are noted anew, after a removal over no entries.
use mathlib.Core.Path.{◌∙◌}
use native.Mathlib.Omega.{arith}
use Rattle.answering.proofs.Renewing.{cleared_spare}
use Rattle.answering.proofs.indexing.reindex.Goals as goal
use Rattle.answering.proofs.indexing.reindex.Goals.{then-came-gt0, else-came-gt0}

pub returns-in_default : goal.returns-in_default
returns-in_default c = c.requires.2.stays c.in_default.not-Kept

pub renew-requires : goal.renew-requires
renew-requires c =
    let o = c.requires.2 in (
      c.requires.0,
      c.requires.1,
      elim c.if-came-gt0.branch [
        | then-came-gt0 w ↦ cleared_spare c.args.tree.now o.tree (w.heads-is ∙ rw o.long at (w.fill.ensures.after (λ _ e. e)))
        | else-came-gt0 w ↦ rw w.heads-is (o.more (omega (arith, w.if-came-gt0.false)))
      ],
    )
