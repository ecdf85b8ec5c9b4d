-- One more of a kind, by cases.
use Rattle.feeding.proofs.feeding.count_outcome.Goals as goal

pub returns-in-Kept : goal.returns-in-Kept
returns-in-Kept c = rw c.in-Kept.is

pub returns-in-Struck : goal.returns-in-Struck
returns-in-Struck c = rw c.in-Struck.is

pub returns-in-Refused : goal.returns-in-Refused
returns-in-Refused c = rw c.in-Refused.is
