-- `compile` writes the keys of a clause, word by word.
use mathlib.Core.Path.{refl}
use native.Mathlib.Omega.{arith}
use borrow.Author.Rules.{rules}
use Rattle.compiling.proofs.Turns.{compiling_starts, compiling_room, compiling_goes_on, compiling_ends}
use Rattle.compiling.proofs.compile.Goals as goal

pub loop-word-init : goal.loop-word-init
loop-word-init c = compiling_starts _ c.new-spot.ensures

pub compile_word-requires : goal.compile_word-requires
compile_word-requires c =
    let C = c.loop-word.invariant in (
      omega (arith, C.pushed_low, c.requires.0),
      omega (arith, C.puts_low, c.requires.0),
      C.orderly,
      compiling_room C c.requires.0 c.requires.1 refl (omega arith),
    )

pub loop-word-preserved : goal.loop-word-preserved
loop-word-preserved c = compiling_goes_on c.loop-word.invariant (omega arith) c.compile_word.ensures.0 c.compile_word.ensures.1

pub returns : goal.returns
returns c =
    let C = c.loop-word.invariant in
    let e = compiling_ends C (omega arith) c.requires.0 c.requires.1 refl in
    record { answer_is = e.answer_is; after_is = search (rules, C.writes.same, e.after_is) }
