-- `merging::write_chain` meets its contract: the first `i` of the new words are written.
use mathlib.Core.Path.{◌≡◌, refl}
use native.Mathlib.Omega.{arith}
use lib.ListN.{length}
use Rattle.tree.specs.Inner.Merge.{new_words}
use Rattle.merging.proofs.Chain.{over_set, new_length, new_key, written, body_small}
use Rattle.merging.proofs.write_chain.Goals as goal

pub word-requires : goal.word-requires
word-requires c = (omega (arith, body_small c.args.keys.now c.requires.0.body c.loop-i.i), omega (arith, c.requires.0.few))

pub loop-i-preserved : goal.loop-i-preserved
loop-i-preserved c =
    let l = c.loop-i in
    let a = c.args in
    let N = new_words a.keys.now a.number in
    let m : length N ≡ length a.words.now = omega (arith, new_length a.keys.now a.number, c.requires.1) in
    (refl, rw (l.invariant.1, c.word.ensures, ← new_key a.keys.now a.number l.i (omega arith)) (over_set N a.words.now l.i m (omega (arith, c.requires.1))))

pub returns : goal.returns
returns c =
    let l = c.loop-i in
    let a = c.args in
    rw c.word-2.ensures (written a.keys.now a.words.now l.words a.number l.i (omega arith) c.requires.1 l.invariant.1)
