-- `read_known` meets its contract: the path to the number, and the clause read off it.
use native.Mathlib.Omega.{arith}
use Rattle.checking.proofs.Slices.{passed_sized, passed_laid, passed_clauses, read_none, read_some, found_read}
use Rattle.checking.proofs.read_known.Goals as goal

pub over-pass-requires : goal.over-pass-requires
over-pass-requires c = (passed_sized _ c.requires.0, passed_laid _ c.requires.0)

pub path_to-requires : goal.path_to-requires
path_to-requires c = rw c.over-pass.ensures (passed_clauses _ c.requires.0)

pub returns-in_default : goal.returns-in_default
returns-in_default c = read_none _ c.requires.0 _ (omega arith) _ c.requires.1 (rw c.over-pass.ensures at c.in_default.ensures)

pub unwrap-requires : goal.unwrap-requires
unwrap-requires c = found_read _ c.requires.0 _ _ _ _ c.read_off.result (rw c.over-pass.ensures at c.in-Some.ensures) c.read_off.ensures

pub returns : goal.returns
returns c =
    read_some _ c.requires.0 _ (omega arith) _ c.requires.1 _ (rw c.over-pass.ensures at c.in-Some.ensures) _ _ (rw c.unwrap.ensures at c.read_off.ensures)
