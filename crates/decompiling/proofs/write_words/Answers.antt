-- `write_words` meets its contract: the words of the first keys are written.
use Rattle.std.proofs.lemmas.Result.{err_from_is_err_and}
use Rattle.decompiling.proofs.Wording.{writing_first, writing_end, writing_word, writing_silent, writing_many, writing_outside}
use native.Mathlib.Omega.{arith}
use Rattle.decompiling.proofs.write_words.Goals as goal
use Rattle.decompiling.proofs.write_words.Goals.{in-Some+else-count-ge-WORDS, in_default}

pub loop-key-init : goal.loop-key-init
loop-key-init c = let p = c.requires in writing_first _ _ _ _ p.0 p.1 p.2

pub returns-in_err-word : goal.returns-in_err-word
returns-in_err-word c =
    let e = err_from_is_err_and c.from_residual.result c.from_residual.ensures.1 in
    rw e.1 (writing_outside c.loop-key.invariant (omega arith) c.in_err-word.ensures)

pub returns-then-count-ge-WORDS : goal.returns-then-count-ge-WORDS
returns-then-count-ge-WORDS c =
    writing_many c.loop-key.invariant (omega arith) c.in-Some.word (rw c.in-Some.is at c.in_ok-word.ensures) (omega arith)

pub loop-key-preserved : goal.loop-key-preserved
loop-key-preserved c =
    let l = c.loop-key in
    let e = c.in_ok-word.ensures in
    elim c.match-branch-2.branch [
      | in-Some+else-count-ge-WORDS w ↦
          rw (w.out-is, w.count-is) (writing_word l.invariant (omega arith) w.in-Some.word (rw w.in-Some.is at e) (omega (arith, w.if-count-ge-WORDS.false)))
      | in_default w ↦ rw (w.out-is, w.count-is) (writing_silent l.invariant (omega arith) (rw w.in_default.is at e))
    ]

pub returns : goal.returns
returns c = writing_end c.loop-key.invariant (omega arith)
