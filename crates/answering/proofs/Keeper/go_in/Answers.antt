-- By the setting.
use Rattle.answering.proofs.Keeping.{in_plain, in_back}
use Rattle.answering.proofs.Keeper.go_in.Goals as goal

pub returns-in-Plain-clause-came : goal.returns-in-Plain-clause-came
returns-in-Plain-clause-came c =
    let a = c.args in
    in_plain a.setting a.self.now.tree.now a.words.now a.number c.in-Plain.is c.keep.ensures.entered c.keep.ensures.marking

pub returns-in-Back-clause-came : goal.returns-in-Back-clause-came
returns-in-Back-clause-came c =
    let a = c.args in
    in_back a.setting a.self.now.tree.now a.words.now a.number c.in-Back.is c.strike_back.ensures.came
