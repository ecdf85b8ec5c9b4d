-- `insert_read` meets its contract: the clause's keys are compiled, and their insertion on the words is insertion.
use mathlib.Core.Path.{sym, ◌∙◌}
use Prim.Native.Nat.{ℕ, ◌^◌, ◌<◌}
use native.Mathlib.Omega.{arith}
use lib.ListN.{get_or}
use Rattle.clause.proofs.Literals.{accepted}
use Rattle.tree.proofs.ByWords.{insertion_words}
use Rattle.merging.proofs.KeysOf.{all_below, keys_body, keys_few}
use Rattle.machine.proofs.Compiled.{compiled_keys}
use Rattle.insertion.proofs.insert_read.Goals as goal

pub compile-count-requires : goal.compile-count-requires
compile-count-requires c = ((accepted c.args.words.now c.requires.2).fits, omega arith)

pub insert_laid-requires : goal.insert_laid-requires
insert_laid-requires c =
    let e = compiled_keys c.compile-count.ensures in
    let bound : (i : ℕ) → get_or c.args.words.now i 0 < 2 ^ 16 = λ i. omega (arith, c.type_inv.words i) in
    record {
      size = c.requires.0;
      laid = c.requires.1;
      body = rw e (keys_body c.args.words.now c.requires.2 bound);
      few = rw e (keys_few c.args.words.now c.requires.2);
    }

pub returns : goal.returns
returns c =
    let a = c.args in
    let q = c.requires.2 in
    let bound : (i : ℕ) → get_or a.words.now i 0 < 2 ^ 16 = λ i. omega (arith, c.type_inv.words i) in
    c.insert_laid.ensures ∙ rw (compiled_keys c.compile-count.ensures)
    (sym (insertion_words a.tree.now c.requires.0 c.requires.1 a.words.now a.number q.0 q.1 (all_below (2 ^ 16) a.words.now bound) (omega arith)))
