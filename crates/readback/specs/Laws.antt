-- What is claimed of reading back and of checking, so that their definitions can be believed.
use Rattle.std.specs.Prelude.{◌≡◌, ◌↔◌, ◌≢◌, true, ℕ, ◌≤◌, ◌<◌, length, Ok}
use Rattle.std.proofs.Math.Option.{some}
use mathlib.Core.List.{List, Memᴰ}
use Rattle.clause.specs.Word.{Words}
use Rattle.clause.specs.Clause.{Accepted, max_words}
use Rattle.machine.specs.Compile.{Variants, keys}
use Rattle.tree.specs.Keys.{first_key}
use Rattle.tree.specs.Forest.{find}
use Rattle.tree.specs.Laid.{sized, well_laid, decode}
use Rattle.tree.specs.Entries.{Pair}
use Rattle.readback.specs.Readback.{normal, Numbered, clause_of}
use Rattle.readback.specs.Saved.{IsTreeOf, IsSaved, pairs_of, readable, of_clauses}
use Rattle.readback.specs.Calls.{over, unread, read_back}
use Rattle.tree.specs.declared.Refusal.TheVariants.{NoSuchNumber}

-- an accepted clause of 16-bit words
pub record Good (c : List ℕ) : Type 0 where
  pub accepted : Accepted c
  pub words : Words c

-- what such a clause comes to, compiled and read back: the same clause with its variables numbered by first appearance
pub record ReadsBack (c : List ℕ) : Type 0 where
  pub read : clause_of (keys c) ≡ normal c
  pub good : Good (normal c)
  pub same_keys : keys (normal c) ≡ keys c
  pub numbered : Numbered 0 (normal c)
  -- one already so numbered comes back equal
  pub same : Numbered 0 c → clause_of (keys c) ≡ c

-- keys that such a clause has
pub record IsPath (p : List ℕ) : Type 0 where
  pub clause : List ℕ
  pub good : Good clause
  pub is : keys clause ≡ p

-- the clause read off keys is such a clause, and has them
pub record Readable (p : List ℕ) : Type 0 where
  pub good : Good (clause_of p)
  pub is : keys (clause_of p) ≡ p

-- what reading a number of a slice back gives, where it gives k words over the output W
pub record IsRead (T : List ℕ) (n : ℕ) (W : List ℕ) (k : ℕ) : Type 0 where
  -- a clause that is accepted, in the output's first k words
  pub clause : List ℕ
  pub good : Good clause
  pub length_is : k ≡ length clause
  pub output : (read_back T n W).output ≡ over clause W
  -- its compiled sequence is exactly the path to the number's Success
  pub path : find n (decode T) ≡ some (keys clause)
  -- and its variables are numbered by first appearance
  pub numbered : Numbered 0 clause

-- reading back from a slice where the pairs K are kept, into the output W
pub record ReadsKept (T : List ℕ) (K : List Pair) (W : List ℕ) : Type 0 where
  -- by its number each clause comes back, with its variables numbered by first appearance, and the other words stay
  pub each : (p : Pair) → Memᴰ p K
      → read_back T p.number W ≡ record { answer = Ok (length p.clause); output = over (normal p.clause) W }
  -- that is the clause up to variable names, and word for word if its variables were so numbered
  pub variant : (p : Pair) → Memᴰ p K → Variants (normal p.clause) p.clause
  pub same : (p : Pair) → Memᴰ p K → Numbered 0 p.clause → normal p.clause ≡ p.clause
  -- 9 comes exactly for the other numbers
  pub unknown : (n : ℕ) → n < first_key → (read_back T n W ≡ unread NoSuchNumber W) ↔ ((p : Pair) → Memᴰ p K → p.number ≢ n)

-- the claim
pub record ReadbackLaws : Type 0 where
  pub back : (c : List ℕ) → Good c → ReadsBack c
  -- keys are those of some clause exactly if they are those of the clause read off them, which is what is tested
  pub paths : (p : List ℕ) → IsPath p ↔ Readable p
  pub tested : (p : List ℕ) → (readable p ≡ true) ↔ IsPath p
  -- clauses are variants exactly if they are equal with their variables numbered by first appearance
  pub variants : (c d : List ℕ) → Good c → Good d → Variants c d ↔ (normal c ≡ normal d)
  -- a well-laid slice passes the test for 14, in both calls, exactly if it is the tree of some clauses
  pub tested_tree : (T : List ℕ) → sized T ≡ true → well_laid T ≡ true → (of_clauses (decode T) ≡ true) ↔ IsSaved T
  -- then it is that of the clauses read off its paths
  pub pairs : (T : List ℕ) → IsSaved T → IsTreeOf T (pairs_of (decode T))
  -- what is read back, from any slice, and from the tree of some clauses
  pub reads : (T : List ℕ) (n : ℕ) (W : List ℕ) (k : ℕ) → n < first_key → (read_back T n W).answer ≡ Ok k → IsRead T n W k
  pub kept : (T : List ℕ) (K : List Pair) → IsTreeOf T K → (W : List ℕ) → max_words ≤ length W → ReadsKept T K W
