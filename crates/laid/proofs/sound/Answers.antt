-- Each test of the code decides the definition's.
use mathlib.Core.Path.{sym, ◌∙◌}
use Prim.Native.Nat.{◌*◌, ◌^◌, ◌≤◌, ◌<◌}
use native.Mathlib.Omega.{arith}
use borrow.Author.Tests.{lt-ltb, le-ltb, le-leb, lt-leb}
use Rattle.tree.specs.Keys.{first_key, lawful}
use Rattle.tree.specs.Laid.{key_of}
use Rattle.laid.proofs.WellLaid.{sound_success, sound_inner}
use Rattle.laid.proofs.sound.Goals as goal

pub returns-then-k-lt-FIRST : goal.returns-then-k-lt-FIRST
returns-then-k-lt-FIRST c = let w = c.args.w in rw c.extent-e.ensures (sym (sound_success w (omega arith)))

pub returns-then-k-ge-END : goal.returns-then-k-ge-END
unfolding lawful
returns-then-k-ge-END c =
    let w = c.args.w in
    let large : 9 * 2 ^ 32 ≤ key_of w = omega arith in
    sym (sound_inner w (omega arith) (omega arith) ∙ rw (le-ltb (key_of w) (9 * 2 ^ 32) large))

pub returns-then-k-ge-PUT : goal.returns-then-k-ge-PUT
unfolding lawful
returns-then-k-ge-PUT c =
    let w = c.args.w in
    let small : key_of w < 9 * 2 ^ 32 = omega arith in
    let more : 4 * 2 ^ 32 ≤ key_of w = omega arith in
    sym (sound_inner w (omega arith) (omega arith)
    ∙ rw (lt-ltb (key_of w) (9 * 2 ^ 32) small, le-ltb (key_of w) first_key (omega arith), le-leb (4 * 2 ^ 32) (key_of w) more))

pub returns : goal.returns
unfolding lawful
returns c =
    let w = c.args.w in
    let less : key_of w < 4 * 2 ^ 32 = omega arith in
    rw c.key-k.ensures
    (sym (sound_inner w (omega arith) (omega arith)
    ∙ rw (lt-ltb (key_of w) (9 * 2 ^ 32) (omega arith), le-ltb (key_of w) first_key (omega arith), lt-leb (4 * 2 ^ 32) (key_of w) less)))
