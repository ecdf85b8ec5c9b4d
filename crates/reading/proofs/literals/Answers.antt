-- `literals` reads the literals. The invariant: the rest is the reading from here on, `count` literals having been read.
use mathlib.Core.Path.{◌≡◌, refl, sym, ap, ◌∙◌}
use mathlib.Core.List.{List}
use Prim.Native.Nat.{ℕ, ◌+◌}
use native.Mathlib.Numerals.{add-one}
use native.Mathlib.Omega.{arith}
use lib.ListN.{get_or}
use borrow.Author.Rules.{rules}
use Rattle.clause.specs.Word.{arity}
use Rattle.reading.specs.Inner.Cursor.{head_cursor, go_down}
use Rattle.std.specs.Prelude.{Option, Result, ℕ}
use Rattle.reading.specs.declared.Cursor.{Cursor}
use Rattle.reading.proofs.Past.{past_on}
use Rattle.reading.proofs.Scanning.{read_on, first_at, read_off, read_right, scan_none, scan_other, scan_ninth, scan_down}
use Rattle.reading.proofs.literals.Goals as goal
use Rattle.clause.specs.declared.Fault.{Fault}

-- what is read from here on, by where the argument is
onward : {s : Result ℕ Fault} (q : List ℕ) (at count : ℕ) {m n : Option Cursor} → s ≡ read_on q at count m → m ≡ n → s ≡ read_on q at count n
onward q at count e f = e ∙ ap (read_on q at count) f

pub loop-argument-init : goal.loop-argument-init
loop-argument-init c = (search rules, λ h e. cc, refl)

pub returns-in_default-passed : goal.returns-in_default-passed
returns-in_default-passed c =
    sym (onward c.args.words.now _ _ c.loop-argument.invariant.2 c.in-Some.is ∙ read_off _ _ _ _ (sym c.past-passed.ensures ∙ c.unwrap_err.ensures))

pub loop-argument-smaller-in-Some : goal.loop-argument-smaller-in-Some
loop-argument-smaller-in-Some c =
    let h = past_on _ _ _ (sym c.past-passed.ensures ∙ c.in-Ok.is) in
    omega (arith, h, c.loop-argument.invariant.1 _ c.in-Some.is)

pub loop-argument-preserved-in-Some : goal.loop-argument-preserved-in-Some
loop-argument-preserved-in-Some c =
    let n = c.in-Ok.next in
    let here = c.in-Some.here in (
      c.loop-argument.invariant.0,
      λ s f. first_at here.left n.at s (sym c.right-argument.ensures ∙ f),
      onward c.args.words.now _ _ c.loop-argument.invariant.2 c.in-Some.is
          ∙ read_right _ _ _ n (sym c.past-passed.ensures ∙ c.in-Ok.is)
          ∙ ap (read_on c.args.words.now n.at c.loop-argument.count) (sym c.right-argument.ensures),
    )

pub returns-then-at-words : goal.returns-then-at-words
returns-then-at-words c = sym (onward c.args.words.now _ _ c.loop-argument.invariant.2 c.in_default.is ∙ scan_none _ _ _ c.if-at-words.true)

pub returns-then-not-is_head : goal.returns-then-not-is_head
returns-then-not-is_head c =
    sym (onward c.args.words.now _ _ c.loop-argument.invariant.2 c.in_default.is
    ∙ scan_other _ _ _ c.if-at-words.false (sym c.is_head.ensures ∙ c.if-not-is_head.true))

pub returns-then-count-ge-LITERALS : goal.returns-then-count-ge-LITERALS
returns-then-count-ge-LITERALS c =
    sym (onward c.args.words.now _ _ c.loop-argument.invariant.2 c.in_default.is
    ∙ scan_ninth _ _ _ c.if-at-words.false (sym c.is_head.ensures ∙ c.if-not-is_head.false) c.if-count-ge-LITERALS.true)

pub loop-argument-smaller : goal.loop-argument-smaller
loop-argument-smaller c = omega (arith, c.if-at-words.false)

pub loop-argument-preserved : goal.loop-argument-preserved
loop-argument-preserved c =
    let q = c.args.words.now in
    let d : c.down-argument.result ≡ go_down q (head_cursor c.loop-argument.at) = rw c.head.ensures at c.down-argument.ensures in (
      omega (arith, c.if-count-ge-LITERALS.false),
      λ s g. rw add-one (first_at (arity (get_or q c.loop-argument.at 0)) _ s (sym d ∙ g)),
      onward c.args.words.now _ _ c.loop-argument.invariant.2 c.in_default.is
          ∙ scan_down q _ _ c.if-at-words.false (sym c.is_head.ensures ∙ c.if-not-is_head.false) c.if-count-ge-LITERALS.false
          ∙ ap (read_on q (c.loop-argument.at + 1) (c.loop-argument.count + 1)) (sym d),
    )
