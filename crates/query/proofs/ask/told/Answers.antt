-- `told` meets its contract, by cases.
use mathlib.Core.Path.{◌≡◌, sym, ap, ◌∙◌}
use mathlib.Core.List.{List}
use Prim.Native.Nat.{ℕ}
use Rattle.std.specs.Prelude.{Result, Err}
use Rattle.walking.specs.declared.End.{End}
use Rattle.walking.specs.Inner.Findings.{out_by}
use Rattle.query.specs.Inner.Telling.{told_out}
use Rattle.query.proofs.ask.told.Goals as goal

-- what is told goes by what is found
same : (b : ℕ) (W cells : List ℕ) {r s : Result ℕ End} → r ≡ s → (told_out b W (out_by s cells)).answer ≡ (told_out b W (out_by r cells)).answer
same b W cells e = sym (ap (λ (r : Result ℕ End). (told_out b W (out_by r cells)).answer) e)

pub returns-in-Ok : goal.returns-in-Ok
unfolding out_by told_out
returns-in-Ok c = λ W cells. same c.args.budget W cells c.in-Ok.is

pub returns-in-Err-Found : goal.returns-in-Err-Found
unfolding out_by told_out
returns-in-Err-Found c = λ W cells. same c.args.budget W cells (c.in-Err-Found.is ∙ ap (λ (e : End). Err e) (rw c.in-Err-Found.is at c.in-Err-Found.field-0-is))

pub returns-in-Err-Broken : goal.returns-in-Err-Broken
unfolding out_by told_out
returns-in-Err-Broken c = λ W cells. same c.args.budget W cells (c.in-Err-Broken.is ∙ ap (λ (e : End). Err e) (rw c.in-Err-Broken.is at c.in-Err-Broken.field-0-is))

pub returns-in-Err-Spent : goal.returns-in-Err-Spent
unfolding out_by told_out
returns-in-Err-Spent c = λ W cells. same c.args.budget W cells (c.in-Err-Spent.is ∙ ap (λ (e : End). Err e) (rw c.in-Err-Spent.is at c.in-Err-Spent.field-0-is))
