-- What is claimed of the table's names and of the book's tests: nothing is lost by the names, and the tests ask what docs/REFERENCE.md says ("Lists of calls").
use Rattle.std.specs.Prelude.{◌≡◌, ◌↔◌, ◌≢◌, true, ℕ, length, Result, ⊤}
use mathlib.Core.List.{List, [], ◌++◌, map, Memᴰ}
use Rattle.clause.specs.Lists.{All, Each}
use Rattle.clause.specs.Clause.{Accepted}
use Rattle.machine.specs.Instr.{Instr}
use Rattle.machine.specs.Compile.{Variants, compile, keys}
use Rattle.tree.specs.Beginnings.{beginnings, different}
use Rattle.tree.specs.Changes.{numbered, varied}
use Rattle.book.specs.Table.{said_call, said_query, said_ceiling, said_check, said_read, said_back}
use Rattle.tree.specs.Entries.{Pair, Sound, entry}
use Rattle.clause.specs.Word.{Words}
use Rattle.walk.specs.declared.Verdict.{Verdict}
use Rattle.tree.specs.declared.Done.{Done}
use Rattle.backward.specs.declared.Listed.{Listed}
use Rattle.tree.specs.declared.Refusal.{Refusal}

-- a beginning of a sequence, of one instruction or more
abbrev pub IsBeginning : (beginning sequence : List Instr) → Type 0
IsBeginning b is = (b ≢ []) × (rest : List Instr) × (b ++ rest ≡ is)

-- the different beginnings that the sequences of a book's clauses have, each Success with its clause's number
pub record AllBeginnings (K : List Pair) (bs : List (List Instr)) : Type 0 where
  pub differ : Each (λ a b. a ≢ b) bs
  pub exactly : (b : List Instr) → Memᴰ b bs ↔ ((p : Pair) × Memᴰ p K × IsBeginning b (compile p.clause p.number))

-- the claim
pub record BookLaws : Type 0 where
  -- no two answers to a call are said the same
  pub call : (a b : Result Done Refusal) → said_call a ≡ said_call b → a ≡ b
  pub query : (a b : Result Verdict Refusal) → said_query a ≡ said_query b → a ≡ b
  pub ceiling : (a b : Result ℕ Refusal) → said_ceiling a ≡ said_ceiling b → a ≡ b
  pub check : (a b : Result ⊤ Refusal) → said_check a ≡ said_check b → a ≡ b
  pub read : (a b : Result ℕ Refusal) → said_read a ≡ said_read b → a ≡ b
  pub back : (a b : Result Listed Refusal) → said_back a ≡ said_back b → a ≡ b
  -- a number is in the book
  pub number : (n : ℕ) (K : List Pair) → (numbered n (map entry K) ≡ true) ↔ ((p : Pair) × Memᴰ p K × (p.number ≡ n))
  -- a variant of a clause is in the book
  pub variant :
      (c : List ℕ) (K : List Pair) → Accepted c → Words c → All Sound K
      → (varied (keys c) (map entry K) ≡ true) ↔ ((p : Pair) × Memᴰ p K × Variants c p.clause)
  -- the beginnings that the book counts
  pub counted : (K : List Pair) → All Sound K → (bs : List (List Instr)) × AllBeginnings K bs × (length bs ≡ different (beginnings (map entry K)))
