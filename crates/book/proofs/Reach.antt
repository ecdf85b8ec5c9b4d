-- Every list of calls leaves the slice of the tree of the clauses that it keeps; so its queries are answered by those clauses.
use Rattle.std.specs.Prelude.{Ok}
use mathlib.Core.Path.{◌≡◌, refl, sym, ap, ◌∙◌}
use mathlib.Core.Bool.{Bool, true, false, cond, and-eq-true_iff}
use mathlib.Core.List.{List, [], ◌∷◌}
use lib.Dec.{leb}
use borrow.Author.Tests.{leb-true}
use Prim.Native.Nat.{ℕ, ◌≤◌}
use lib.ListN.{length, replicate, length-map}
use Rattle.clause.specs.Clause.{Accepted}
use Rattle.machine.specs.Instr.{key}
use Rattle.machine.specs.Compile.{sequence}
use Rattle.machine.specs.Compiled.{max_keys}
use Rattle.machine.specs.Machine.{initial}
use Rattle.tree.specs.Forest.{Forest, empty, layout, Has}
use Rattle.tree.specs.Laid.{sized}
use Rattle.walk.specs.Walk.{up_to, walk}
use Rattle.walk.specs.Query.{machine, witness_words, answer_by, query}
use Rattle.walk.specs.Covering.{Answers}
use Rattle.tree.specs.Calls.{refused, fresh}
use Rattle.book.specs.Book.{Call, AllFit, after, slice_of, book_step, book_from, book_of, tree_of}
use Rattle.book.specs.Claims.{Run, Reached, Reach, Demand2}
use Rattle.clause.proofs.Lists.{all_mem}
use Rattle.clause.proofs.Literals.{accepted}
use Rattle.machine.proofs.Length.{sequence_length}
use Rattle.tree.proofs.Pairs.{kept_pair}
use Rattle.walk.proofs.Covering.{query_tree, answers}
use Rattle.book.proofs.Holds.{Holds, holds_empty, fresh_layout, holds_tree, holds_leaves, holds_numbers, holds_clauses}
use Rattle.book.proofs.Step.{Steps, steps}
use Rattle.tree.specs.Entries.{Pair}
use Rattle.tree.specs.declared.Refusal.TheVariants.{BadSlice}
use Rattle.tree.specs.declared.Done.TheVariants.{Ready}

-- the tree that a slice holds
pub record Laid (len : ℕ) (K : List Pair) (T : List ℕ) : Type 0 where
  pub tree : Forest
  pub holds : Holds len K tree
  pub slice : T ≡ layout len tree

laid_after : (len : ℕ) (xs : List Call) (K : List Pair) (F : Forest) → 2 ≤ len → len ≤ 65_536 → AllFit xs → Holds len K F
    → Laid len (book_from len K xs) (after (layout len F) xs)
laid_after len [] K F low high fit h = record { tree = F; holds = h; slice = refl }
laid_after len (x ∷ xs) K F low high fit h =
    let s : Steps len K F x = steps len K F h low high x fit.0 in
    rw s.slice (laid_after len xs (book_step len K x) s.tree low high fit.1 s.holds)

-- a path is the sequence of a kept clause
short_path : {len : ℕ} {K : List Pair} {F : Forest} → Holds len K F → (cs : List ℕ) (n : ℕ) → Has F cs n → length cs ≤ max_keys
short_path {K = K} h cs n p =
    let (q, m, e, f) = kept_pair K cs n ((h.keeps.mirrors.paths cs n).0 p) in
    let l = sequence_length q.clause (accepted q.clause (all_mem h.sound m).accepted) in
    rw (e, length-map (sequence q.clause) key) l

-- a slice on which fresh has answered "ready"
pub record Usable (T : List ℕ) : Type 0 where
  pub low : 2 ≤ length T
  pub high : length T ≤ 65_536
  pub slice : (fresh T).slice ≡ layout (length T) empty

ready : (T : List ℕ) → (fresh T).answer ≡ Ok Ready → Usable T
unfolding fresh
ready T e = go (sized T) refl e
  where
    go : (b : Bool) → sized T ≡ b → (cond b (record { answer = Ok Ready; slice = replicate (length T) 0 }) (refused BadSlice T)).answer ≡ Ok Ready → Usable T
    go true u v =
        let (l, h) = (and-eq-true_iff (leb 2 (length T)) (leb (length T) 65_536)).0 u in
        let low : 2 ≤ length T = leb-true 2 (length T) l in
        record { low = low; high = leb-true (length T) 65_536 h; slice = rw u (fresh_layout (length T) low) }
    go false u v = cc

module _ (T : List ℕ) (xs : List Call) (R : Run T xs) where
  pub start : Usable T
  start = ready T R.ready

  pub laid : Laid (length T) (book_of (length T) xs) (slice_of T xs)
  laid = rw start.slice (laid_after (length T) xs [] empty start.low start.high R.fit (holds_empty (length T) start.low))

  reached : Reached T xs
  reached =
      record {
        slice = laid.slice ∙ ap (layout (length T)) (sym (holds_tree laid.holds));
        tree = rw (holds_tree laid.holds) laid.holds.keeps.mirrors;
        numbers = holds_numbers laid.holds;
        clauses = holds_clauses laid.holds;
        few = laid.holds.few;
        short = λ cs n k. short_path laid.holds cs n (rw (holds_tree laid.holds) at k);
        changes = λ x f. rw laid.slice (steps (length T) (book_of (length T) xs) laid.tree laid.holds start.low start.high x f).changes;
      }

  module _ (d : List ℕ) (D : Accepted d) (b : ℕ) (W : List ℕ) (long : witness_words ≤ length W) where
    pub answered : Answers (book_of (length T) xs) (tree_of (book_of (length T) xs)) (slice_of T xs) d b W
    answered =
        let h = laid.holds in
        rw (holds_tree h, laid.slice)
        (answers (book_of (length T) xs) laid.tree h.sound h.keeps.mirrors (holds_leaves h) d D (length T) start.low start.high h.room b W long)

    -- the answer is that of the walk over the tree of the kept clauses
    pub walked : query (slice_of T xs) d b W ≡ answer_by b W (walk (machine d) (up_to b) (tree_of (book_of (length T) xs)) initial 0)
    walked =
        let h = laid.holds in
        rw (holds_tree h, laid.slice) (query_tree (length T) laid.tree start.low start.high h.room d D b W long h.keeps.mirrors.formed)

-- Reach
pub reach : Reach
reach = reached

-- Demand 2
pub demand2 : Demand2
demand2 = answered
