-- What became of the record, by cases.
use native.Mathlib.Omega.{arith}
use Rattle.record.specs.Line.{named, space, says_kept, says_struck, says_refused}
use Rattle.record.proofs.Text.{decimal_length}
use Rattle.lines.proofs.Writing.{joined, named_put}
use borrow.Author.Rules.{rules}
use Rattle.lines.proofs.Page.put_outcome.Goals as goal

pub put_named-requires : goal.put_named-requires
put_named-requires c = omega (arith, c.requires, decimal_length 19 c.in-Kept.used (search rules))

pub put_named-requires-in-Struck : goal.put_named-requires-in-Struck
put_named-requires-in-Struck c = omega (arith, c.requires, decimal_length 9 c.in-Struck.covering (search rules))

pub put_named-requires-in-Struck-2 : goal.put_named-requires-in-Struck-2
put_named-requires-in-Struck-2 c =
    let w = c.in-Struck in
    omega (arith, c.requires, named_put says_struck 9 w.covering (search rules) c.put_named-in-Struck.ensures, decimal_length 19 w.candidates (search rules))

pub put_named-requires-in-Refused : goal.put_named-requires-in-Refused
put_named-requires-in-Refused c = omega (arith, c.requires, decimal_length 2 c.code.result (search rules))

pub returns-in-Kept-clause-short : goal.returns-in-Kept-clause-short
returns-in-Kept-clause-short c = omega (arith, named_put says_kept 19 c.in-Kept.used (search rules) c.put_named.ensures)

pub returns-in-Struck : goal.returns-in-Struck
returns-in-Struck c =
    let w = c.in-Struck in
    let p = c.put_named-in-Struck.ensures in
    let q = c.put_named-in-Struck-2.ensures in record {
      text = rw w.is (joined (named says_struck w.covering) (named space w.candidates) p q);
      short = omega (arith, named_put says_struck 9 w.covering (search rules) p, named_put space 19 w.candidates (search rules) q);
    }

pub returns-in-Refused-clause-short : goal.returns-in-Refused-clause-short
returns-in-Refused-clause-short c = omega (arith, named_put says_refused 2 c.code.result (search rules) c.put_named-in-Refused.ensures)
