-- A row of different Checks is walked as the one with the word at the head; and the trees of clauses have such a row below their First.
use mathlib.Core.Path.{◌≡◌, refl, ap, ◌∙◌}
use mathlib.Core.Logic.{◌≢◌}
use mathlib.Core.Bool.{Bool}
use mathlib.Core.Option.{some}
use mathlib.Core.List.{List, [], ◌∷◌, map}
use Prim.Native.Nat.{ℕ, ◌%◌, ◌^◌, ◌<◌}
use native.Mathlib.Omega.{arith}
use native.Mathlib.Decide.{ℕ_discrete}
use lib.ListN.{length, get_or, drop}
use borrow.Author.Tests.{eq-eqb, ne_eqb}
use Rattle.clause.specs.Lists.{All}
use Rattle.clause.specs.Clause.{literals}
use Rattle.clause.proofs.Lists.{all_mem}
use Rattle.machine.specs.Instr.{Check, First, Do, operands, instr, key, instr_of}
use Rattle.machine.specs.Machine.{State, step, step_from, step_at, require}
use Rattle.machine.proofs.Keys.{instr_of_first, instr_of_step}
use Rattle.tree.specs.Keys.{next_key}
use Rattle.tree.specs.Forest.{Forest, empty, node, Formed, Has, deeper}
use Rattle.tree.specs.Entries.{Mirrors, Pair, Sound, entry}
use Rattle.tree.proofs.Paths.{front}
use Rattle.tree.proofs.Pairs.{kept_pair}
use Rattle.tree.proofs.Mirror.{same_book, mirrors_empty}
use Rattle.index.specs.Inner.Heads.{below_key, Checks, Headed, nothing, headed}
use Rattle.index.proofs.Places.{below_here, below_later, below_absent}
use Rattle.index.proofs.Paths.{begins, checks_of}
use Rattle.walk.specs.Walk.{not_covered, Part, tries, visit, walk}
use Rattle.walk.specs.Query.{machine}
use Rattle.walk.proofs.Kept.{one_first}
use Rattle.walking.proofs.Passes.{then_none}

-- ---- the law

module _ (d : List ℕ) (allow : ℕ → Bool) (s : State) (p : ℕ) (at : s.head ≡ some p) where
  -- the instruction of a Check's key
  check_instr : (i : ℕ) → i ≡ instr 7 (i % operands) → instr_of i ≡ some (Do (Check (i % operands)))
  unfolding key
  check_instr i e = ap instr_of e ∙ instr_of_step (Check (i % operands)) (omega arith)

  -- at a Check the walk goes below where the word at the head is the Check's own, and past it with any other
  check_hits : (i : ℕ) → i ≡ instr 7 (i % operands) → (B : State → Part State) (c : ℕ) → i ≡ instr 7 (get_or d p 0)
      → visit (machine d) allow i B s c ≡ B s c
  unfolding step step_from step_at require
  check_hits i e B c g = rw (check_instr i e, at, eq-eqb (get_or d p 0) (i % operands) (omega arith))

  check_fails : (i : ℕ) → i ≡ instr 7 (i % operands) → (B : State → Part State) (c : ℕ) → i ≢ instr 7 (get_or d p 0)
      → visit (machine d) allow i B s c ≡ not_covered c
  unfolding step step_from step_at require
  check_fails i e B c g = rw (check_instr i e, at, ne_eqb (get_or d p 0) (i % operands) (λ z. g (omega (arith, e, z))))

  pub row_by_head : (b : ℕ) (F : Forest) → Formed b F → Checks F → (c : ℕ)
      → walk (machine d) allow F s c ≡ walk (machine d) allow (below_key (instr 7 (get_or d p 0)) F) s c
  unfolding below_key
  row_by_head b empty f C c = refl
  row_by_head b (node i B R) f C c = go (ℕ_discrete i (instr 7 (get_or d p 0))) (row_by_head (next_key i) R f.rest C.2)
    where
      go : Dec (i ≡ instr 7 (get_or d p 0))
          → ((c : ℕ) → walk (machine d) allow R s c ≡ walk (machine d) allow (below_key (instr 7 (get_or d p 0)) R) s c)
          → walk (machine d) allow (node i B R) s c ≡ walk (machine d) allow (below_key (instr 7 (get_or d p 0)) (node i B R)) s c
      go (yes e) ih =
          let none : below_key (instr 7 (get_or d p 0)) R ≡ empty = below_absent (next_key i) (instr 7 (get_or d p 0)) R f.rest (omega arith) in
          rw (check_hits i C.0 (walk (machine d) allow B) c e, below_here (instr 7 (get_or d p 0)) i B R e)
          (then_none (walk (machine d) allow B s c) (walk (machine d) allow R s) (λ n. rw none at (ih n)))
      go (no e) ih = rw (check_fails i C.0 (walk (machine d) allow B) c e, below_later (instr 7 (get_or d p 0)) i B R e) (ih c)

-- the topmost First: its candidates, each with the row below it
pub first_by_head : (d : List ℕ) (allow : ℕ → Bool) (B : Forest) (s : State) (c : ℕ)
    → walk (machine d) allow (node (key First) B empty) s c ≡ tries (machine d) allow (walk (machine d) allow B) s (length (literals d)) 0 c
first_by_head d allow B s c = rw instr_of_first (then_none (tries (machine d) allow (walk (machine d) allow B) s (length (literals d)) 0 c) not_covered (λ n. refl))

-- ---- the trees of clauses

pub kept_headed : (K : List Pair) (F : Forest) → All Sound K → Mirrors F (map entry K) → Headed F
kept_headed [] F S R = rw (same_book F empty [] [] R mirrors_empty (λ cs n. (λ l. l, λ l. l))) nothing
kept_headed (q ∷ K) F S R =
    let (B, e) = one_first (q ∷ K) F S R (omega arith) in
    let f : Formed 0 (node (key First) B empty) = rw e at R.formed in
    rw e (headed (checks_of 0 B f.below (λ cs n t. begin cs n (rw e (deeper t)))))
  where
    begin : (cs : List ℕ) (n : ℕ) → Has F (key First ∷ cs) n → (w : ℕ) × (w < 2 ^ 16) × (front cs n ≡ instr 7 w)
    begin cs n t =
        let (p, m, is, at) = kept_pair (q ∷ K) (key First ∷ cs) n ((R.paths (key First ∷ cs) n).0 t) in
        let o = all_mem S m in
        let g = begins p.clause o.accepted o.words in
        let same : cs ≡ instr 7 g.word ∷ g.rest = ap (drop 1) (is ∙ g.same) in
        (g.word, g.small, ap (λ (ds : List ℕ). front ds n) same)
