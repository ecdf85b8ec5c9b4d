-- `merging::first_success` meets its contract.
use mathlib.Core.Path.{sym, ap, ◌∙◌}
use mathlib.Core.List.{[]}
use native.Mathlib.Omega.{arith}
use Rattle.tree.specs.Inner.Merge.{Descent}
use Rattle.tree.proofs.Hops.{key_at, descend_found, descend_done}
use Rattle.merging.proofs.Descending.{is_success}
use Rattle.merging.proofs.first_success.Goals as goal

pub returns-then-at-end : goal.returns-then-at-end
returns-then-at-end c = let a = c.args in sym (ap (λ (d : Descent). d.holder) (descend_done a.words.now a.at a.end (omega arith) []))

pub returns : goal.returns
returns c =
    let a = c.args in
    sym (ap (λ (d : Descent). d.holder) (descend_found a.words.now a.at a.end (omega arith) (omega arith))
    ∙ is_success _ (key_at a.words.now a.at) c.key-first.ensures (omega arith))
