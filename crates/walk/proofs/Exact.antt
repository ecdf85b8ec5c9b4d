-- Candidates that are known beforehand: none where there is no First, and the query's literals, each once, under a First with no other below it.
use mathlib.Core.Path.{◌≡◌}
use mathlib.Core.Bool.{Bool}
use mathlib.Core.Logic.{◌≢◌}
use mathlib.Core.Option.{Option, none, some}
use Prim.Native.Nat.{ℕ, zero, suc, ◌+◌, ◌*◌, ◌≤◌}
use native.Mathlib.Omega.{arith}
use Rattle.machine.specs.Instr.{Instr, First, Do, Success, key, instr_of}
use Rattle.machine.specs.Machine.{fails}
use Rattle.tree.specs.Forest.{Forest, empty, node}
use Rattle.walk.specs.Walk.{Machine, Answer, covered, Part, and_then, tries, visit_at, walk}
use Rattle.machine.proofs.Keys.{instr_of_first}
use Rattle.walk.proofs.Count.{Ends, of_covered, of_not_covered, of_broken, ends_map, ends_then, ends_follow, ends_attempt}
use Rattle.walk.proofs.Shallow.{ShallowAt, Shallow}

-- the answer of a part that begins at the count c and has x candidates: all are counted where nothing is found, no more where something is
abbrev pub Exactly : {S : Type 0} → (c x : ℕ) → Answer S → Type 0
Exactly c x a = Ends (λ d. d ≤ c + x) (λ d. d ≡ c + x) a

-- one part, then the next
pub exactly_then : {S : Type 0} {a : Answer S} {k : Part S} (c x y : ℕ) → Exactly c x a → ((d : ℕ) → Exactly d y (k d)) → Exactly c (x + y) (and_then a k)
exactly_then c x y h f = ends_then h (λ d l. omega arith) (λ d l. ends_map (λ e m. omega arith) (λ e m. omega arith) (f d))

-- in this state no literal is passed over
abbrev pub PassesNone : (M : Machine) → M.State → Type 0
PassesNone M s = (j : ℕ) → M.enter j s ≢ fails

module _ (M : Machine) (allow : ℕ → Bool) where
  -- n candidates, each with x below it
  pub exactly_tries :
      (x : ℕ) (below : M.State → Part M.State) → ((s : M.State) (c : ℕ) → Exactly c x (below s c)) → (s : M.State) → PassesNone M s
      → (n j c : ℕ) → Exactly c (n * suc x) (tries M allow below s n j c)
  exactly_tries x below f s h zero j c = of_not_covered {c = c} (omega arith)
  exactly_tries x below f s h (suc n) j c =
      ends_map (λ d l. omega arith) (λ d l. omega arith)
      (exactly_then c (suc x) (n * suc x)
      (ends_attempt allow below c (M.enter j s) (λ e. absurd (h j e)) (λ t e. ends_map (λ d l. omega arith) (λ d l. omega arith) (f t (suc c))))
      (exactly_tries x below f s h n (suc j)))

  -- a node without First
  flat_visit :
      (o : Option Instr) (B : Forest) → (Shallow B 0 → (s : M.State) (c : ℕ) → Exactly c 0 (walk M allow B s c)) → ShallowAt o 0 (Shallow B)
      → (s : M.State) (c : ℕ) → Exactly c 0 (visit_at M allow o (walk M allow B) s c)
  flat_visit none B below h s c = of_broken
  flat_visit (some (Success n)) B below h s c = ends_follow (covered n) c (M.finish s) (omega arith) (λ t e. of_covered {c = c} (omega arith))
  flat_visit (some First) B below h s c = absurd h
  flat_visit (some (Do x)) B below h s c = ends_follow (walk M allow B) c (M.step x s) (omega arith) (λ t e. below h t c)

  -- a forest without First: no candidate
  pub flat_walk : (F : Forest) → Shallow F 0 → (s : M.State) (c : ℕ) → Exactly c 0 (walk M allow F s c)
  flat_walk empty h s c = of_not_covered {c = c} (omega arith)
  flat_walk (node i B R) h s c = exactly_then c 0 0 (flat_visit (instr_of i) B (flat_walk B) h.0 s c) (flat_walk R h.1 s)

  -- a First over such a forest: the query's literals
  pub first_walk : (B : Forest) → Shallow B 0 → (s : M.State) → PassesNone M s → (c : ℕ)
      → Exactly c M.query_literals (walk M allow (node (key First) B empty) s c)
  first_walk B flat s h c =
      let q : ℕ = M.query_literals in
      rw instr_of_first
      (ends_map (λ d l. omega arith) (λ d l. omega arith)
      (exactly_then c (q * 1) 0 (exactly_tries 0 (walk M allow B) (flat_walk B flat) s h q 0 c) (λ d. of_not_covered {c = d} (omega arith))))
