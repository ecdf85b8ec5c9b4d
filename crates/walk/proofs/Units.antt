-- A tree that keeps units, clauses of a single literal: a First with no other below it, so that its candidates are the query's literals.
use mathlib.Core.Path.{◌≡◌, sym, ◌∙◌}
use mathlib.Core.Bool.{Bool}
use mathlib.Core.List.{List, [], ◌∷◌, map}
use Prim.Native.Nat.{ℕ, ◌≤◌}
use native.Mathlib.Omega.{arith}
use lib.ListN.{length}
use Rattle.clause.specs.Lists.{All, none, also}
use Rattle.clause.specs.Clause.{Accepted, literals}
use Rattle.machine.specs.Instr.{First, key}
use Rattle.machine.specs.Machine.{State, initial}
use Rattle.tree.specs.Forest.{Forest, empty, node}
use Rattle.tree.specs.Entries.{Mirrors, Pair, Sound, entry}
use Rattle.walk.specs.Walk.{Answer, covered, not_covered, spent, broken, always, walk}
use Rattle.walk.specs.Query.{machine}
use Rattle.walk.specs.Covering.{most, Units, Subsumed, count_of, candidates}
use Rattle.machine.proofs.Keys.{instr_of_first}
use Rattle.machine.proofs.Effects.{fails≢next}
use Rattle.machine.proofs.Candidates.{enter_initial}
use Rattle.tree.proofs.Mirror.{same_book, mirrors_empty}
use Rattle.walk.proofs.Paths.{Finds}
use Rattle.walk.proofs.Search.{Decides, found, nothing}
use Rattle.walk.proofs.Formed.{formed_full}
use Rattle.walk.proofs.Count.{of_not_covered, ends_map}
use Rattle.walk.proofs.Shallow.{Shallow, shallow}
use Rattle.walk.proofs.Exact.{Exactly, PassesNone, first_walk}
use Rattle.walk.proofs.Kept.{kept_short, one_first}
use Rattle.walk.proofs.Covering.{counted_le, walk_decides, finds_subsumed}

-- no kept clause has more than one literal
most_unit : {K : List Pair} → Units K → most K ≤ 1
most_unit none = omega arith
most_unit (also e u) = omega (arith, most_unit u)

-- before the first candidate no literal is passed over
initial_passes : (d : List ℕ) → PassesNone (machine d) initial
initial_passes d j e = fails≢next (sym e ∙ enter_initial d j)

module _ (K : List Pair) (F : Forest) (S : All Sound K) (R : Mirrors F (map entry K)) (units : Units K) where
  -- below the First there is none
  pub none_below : (B : Forest) → F ≡ node (key First) B empty → Shallow B 0
  none_below B e =
      let f : Shallow F 1 = shallow F 1 (formed_full 0 F R.formed) (λ p n l. omega (arith, kept_short K F S R p n l, most_unit units)) in
      (rw instr_of_first at (rw e at f)).0

  -- where something is kept, the candidates of every walk are the query's literals
  pub unit_walk : 1 ≤ length K → (d : List ℕ) (allow : ℕ → Bool) → Exactly 0 (length (literals d)) (walk (machine d) allow F initial 0)
  unit_walk h d allow =
      let (B, e) = one_first K F S R h in
      rw e (first_walk (machine d) allow B (none_below B e) initial (initial_passes d) 0)

  -- where moreover no kept clause subsumes the query, it takes all of them
  pub units_exact : 1 ≤ length K → (d : List ℕ) → Accepted d → (Subsumed K d → ⊥) → candidates F d ≡ length (literals d)
  units_exact h d D free = go (walk (machine d) always F initial 0) (walk_decides K F S R d D) (unit_walk h d always)
    where
      go : (a : Answer State) → Decides (Finds (machine d) F initial) a → Exactly 0 (length (literals d)) a → count_of a ≡ length (literals d)
      go (covered n t c) (found f) e = absurd (free (finds_subsumed K F S R d D n t f))
      go (not_covered c) (nothing g) (of_not_covered e) = omega arith
      go spent right e = elim right [ ]
      go broken right e = elim right [ ]

-- no query takes more, also where nothing is kept
pub units_bounded : (K : List Pair) (F : Forest) → All Sound K → Mirrors F (map entry K) → Units K → (d : List ℕ) → candidates F d ≤ length (literals d)
units_bounded [] F S R units d = rw (same_book F empty [] [] R mirrors_empty (λ cs n. (λ l. l, λ l. l))) (omega arith)
units_bounded (p ∷ K) F S R units d =
    counted_le (ends_map (λ c l. omega arith) (λ c l. omega arith) (unit_walk (p ∷ K) F S R units (omega arith) d always))
