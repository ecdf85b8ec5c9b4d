-- The keys of a sequence may stand in a tree.
use mathlib.Core.List.{List, map}
use Prim.Native.Nat.{ℕ, ◌+◌, ◌*◌, ◌^◌, ◌≤◌, ◌<◌}
use native.Mathlib.Omega.{arith}
use lib.Dec.{T}
use borrow.Author.Tests.{lt-ltb, le-ltb, le-leb}
use Rattle.clause.specs.Lists.{All, none, also}
use Rattle.machine.specs.Instr.{Down, Right, Put, Push, Pop, Check, Compare, Instr, First, Do, Success, instr, key}
use Rattle.tree.specs.Keys.{first_key, lawful}
use Rattle.tree.specs.Forest.{Body}
use Rattle.machine.proofs.Keys.{Plain}

lawful_operand : (op x : ℕ) → 4 ≤ op → op ≤ 8 → x < 2 ^ 32 → T (lawful (instr op x))
unfolding lawful
lawful_operand op x h g l =
    rw (lt-ltb (instr op x) (9 * 2 ^ 32) (omega arith), le-ltb (instr op x) first_key (omega arith), le-leb (4 * 2 ^ 32) (instr op x) (omega arith)) tt

plain_legal : (i : Instr) → Plain i → T (lawful (key i))
unfolding key lawful
plain_legal First h = tt
plain_legal (Do Down) h = tt
plain_legal (Do Right) h = tt
plain_legal (Do (Put k)) h = lawful_operand 4 k (omega arith) (omega arith) h
plain_legal (Do (Push n)) h = lawful_operand 5 n (omega arith) (omega arith) h
plain_legal (Do (Pop n)) h = lawful_operand 6 n (omega arith) (omega arith) h
plain_legal (Do (Check w)) h = lawful_operand 7 w (omega arith) (omega arith) h
plain_legal (Do (Compare m k)) h = lawful_operand 8 (m * 2 ^ 16 + k) (omega arith) (omega arith) (omega arith)
plain_legal (Success n) h = absurd h

plain_inner : (i : Instr) → Plain i → first_key ≤ key i
unfolding key
plain_inner First h = omega arith
plain_inner (Do Down) h = omega arith
plain_inner (Do Right) h = omega arith
plain_inner (Do (Put k)) h = omega arith
plain_inner (Do (Push n)) h = omega arith
plain_inner (Do (Pop n)) h = omega arith
plain_inner (Do (Check w)) h = omega arith
plain_inner (Do (Compare m k)) h = omega arith
plain_inner (Success n) h = absurd h

pub plain_body : {sequence : List Instr} → All Plain sequence → Body (map key sequence)
plain_body none = tt
plain_body (also {x = i} h p) = record { inside = plain_inner i h; legal = plain_legal i h; rest = plain_body p }
