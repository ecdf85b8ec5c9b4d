-- `onward` writes the way from a word to the next one of its literal: five ways, by the word's arguments, its right siblings and the positions saved.
use mathlib.Core.Path.{◌≡◌, ap}
use native.Mathlib.Omega.{arith}
use lib.ListN.{length}
use Rattle.compiling.specs.Inner.Saved.{saved_of}
use Rattle.compiling.proofs.Writing.{writes_none, writes_append, wrote}
use Rattle.compiling.proofs.Spots.{push_keys, down_keys, right_keys, pop_keys, end_keys, went_push, went_down, went_right, went_pop, went_out}
use Rattle.compiling.proofs.Spot.onward.Goals as goal
use Rattle.compiling.proofs.Spot.onward.Goals.{then-left-gt0, else-left-gt0}

pub push-requires-then-left-gt0 : goal.push-requires-then-left-gt0
push-requires-then-left-gt0 c =
    let a = c.args in
    omega (arith, c.requires, ap length (push_keys a.arity a.left a.self.now c.requires.0 c.if-arity-gt0.true c.if-left-gt0.true))

pub push-requires-then-arity-gt0 : goal.push-requires-then-arity-gt0
push-requires-then-arity-gt0 c =
    let a = c.args in
    elim c.if-left-gt0.branch [
      | then-left-gt0 w ↦
          let e = ap length (push_keys a.arity a.left a.self.now c.requires.0 c.if-arity-gt0.true w.if-left-gt0.true) in
          rw w.keys-is (omega (arith, c.requires, e, wrote w.push-then-left-gt0.ensures))
      | else-left-gt0 w ↦
          let e = ap length (down_keys a.arity a.left a.self.now c.requires.0 c.if-arity-gt0.true (omega (arith, w.if-left-gt0.false))) in
          rw w.keys-is (omega (arith, c.requires, e))
    ]

pub returns-after-left-gt0 : goal.returns-after-left-gt0
returns-after-left-gt0 c =
    let a = c.args in
    let s = a.self.now in
    let h = c.if-arity-gt0.true in
    let d = c.push-then-arity-gt0.ensures in
    elim c.if-left-gt0.branch [
      | then-left-gt0 w ↦
          let g = w.if-left-gt0.true in
          let d' = rw w.keys-is at d in
          rw (w.self-is, push_keys a.arity a.left s c.requires.0 h g)
          (went_push a.arity a.left s c.requires.0 h g _ w.push.ensures, writes_append w.push-then-left-gt0.ensures d')
      | else-left-gt0 w ↦
          let e : a.left ≡ 0 = omega (arith, w.if-left-gt0.false) in
          let d' = rw w.keys-is at d in
          rw (w.self-is, down_keys a.arity a.left s c.requires.0 h e) (went_down a.arity a.left s c.requires.0 h e, d')
    ]

pub push-requires-then-left-gt0-2 : goal.push-requires-then-left-gt0-2
push-requires-then-left-gt0-2 c =
    let a = c.args in
    omega (arith, c.requires, ap length (right_keys a.arity a.left a.self.now c.requires.0 (omega arith) c.if-left-gt0-2.true))

pub returns-then-left-gt0-2 : goal.returns-then-left-gt0-2
returns-then-left-gt0-2 c =
    let a = c.args in
    let s = a.self.now in
    let e : a.arity ≡ 0 = omega (arith, c.if-arity-gt0.false) in
    let g = c.if-left-gt0-2.true in
    (went_right a.arity a.left s c.requires.0 e g, rw (right_keys a.arity a.left s c.requires.0 e g) c.push-then-left-gt0-2.ensures)

pub push-requires-in-Some : goal.push-requires-in-Some
push-requires-in-Some c =
    let a = c.args in
    let k = pop_keys a.arity a.left a.self.now c.requires.0 (omega arith) (omega arith) (saved_of c.in-Some.top) c.pop.new.self c.in-Some.ensures in
    omega (arith, c.requires, ap length k)

pub returns-in-Some : goal.returns-in-Some
returns-in-Some c =
    let a = c.args in
    let s = a.self.now in
    let e : a.arity ≡ 0 = omega (arith, c.if-arity-gt0.false) in
    let f : a.left ≡ 0 = omega (arith, c.if-left-gt0-2.false) in
    let p = saved_of c.in-Some.top in
    let g = c.in-Some.ensures in
    let k = pop_keys a.arity a.left s c.requires.0 e f p c.pop.new.self g in
    (went_pop a.arity a.left s c.requires.0 e f p c.pop.new.self g, rw k c.push-in-Some.ensures)

pub returns-in_default : goal.returns-in_default
returns-in_default c =
    let a = c.args in
    let s = a.self.now in
    let e : a.arity ≡ 0 = omega (arith, c.if-arity-gt0.false) in
    let f : a.left ≡ 0 = omega (arith, c.if-left-gt0-2.false) in
    let g = c.in_default.ensures in
    (went_out a.arity a.left s c.requires.0 e f g.0 _ g.1, rw (end_keys a.arity a.left s c.requires.0 e f g.0) (writes_none _))
