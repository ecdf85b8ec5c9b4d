-- `is_path` meets its contract: the clause read off has the keys, or no clause has.
use mathlib.Core.Path.{sym, ◌∙◌}
use Rattle.decompiling.proofs.Wording.{unreadable, written_test}
use Rattle.decompiling.proofs.is_path.Goals as goal

pub returns-in_default : goal.returns-in_default
returns-in_default c = sym (unreadable c.args.keys.now (rw c.in_default.is at c.read_off-found.ensures))

pub returns : goal.returns
returns c = c.has_keys.ensures ∙ written_test _ _ _ _ (rw c.in-Ok.is at c.read_off-found.ensures)
