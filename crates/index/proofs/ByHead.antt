-- The walk of a tree of clauses by its index: the topmost First, and from each candidate the Check of its head.
use Prim.Native.Nat.{ℕ, suc, ◌+◌, ◌-◌, ◌≤◌, ◌<◌}
use mathlib.Core.Path.{◌≡◌, refl, sym, ap, ◌∙◌}
use mathlib.Core.Logic.{◌≢◌}
use mathlib.Core.Bool.{Bool, false}
use mathlib.Core.Option.{some}
use mathlib.Core.List.{List, [], ◌∷◌, append-nil}
use native.Mathlib.Omega.{arith}
use native.Mathlib.Numerals.{add-one}
use lib.ListN.{length, get_or, take, drop}
use borrow.Author.Tests.{ne_eqb}
use Rattle.clause.specs.Clause.{literals}
use Rattle.machine.specs.Instr.{First, instr, key}
use Rattle.machine.specs.Machine.{State, used}
use Rattle.tree.specs.Forest.{Forest, empty, node, size, encode, Formed, WellFormed}
use Rattle.tree.specs.Laid.{most_words, extent_of, parse}
use Rattle.tree.proofs.Words.{length_encode}
use Rattle.index.specs.Inner.Heads.{entry_count, place_of, below_key, top_row, head_at, Checks, Headed, nothing, headed, IndexOf, Encoded}
use Rattle.index.proofs.Places.{Found, found_at, none_below}
use Rattle.walk.specs.Walk.{Answer, not_covered, tries, up_to, walk}
use Rattle.walk.specs.Words.{walk_words}
use Rattle.walk.specs.Query.{machine}
use Rattle.cells.specs.Inner.Cells.{no_position, count_in, above_of, entered, state_of, Walkable}
use Rattle.cells.specs.declared.Above.TheVariants.{Step}
use Rattle.cells.proofs.Places.{few_words}
use Rattle.walking.specs.Inner.Findings.{walk_below, walk_top, Walked}
use Rattle.std.specs.Prelude.{Result}
use Rattle.walking.specs.declared.End.{End}
use Rattle.walk.proofs.Encoded.{walk_words_encode}
use Rattle.index.proofs.Rows.{row_by_head, first_by_head}

-- any head but that before a candidate is that of a step
step_above : (h : ℕ) → h ≢ no_position → above_of h ≡ Step
unfolding above_of
step_above h n = rw (ne_eqb h no_position n)

-- the row of heads: the words after the topmost one
pub record Row (W : List ℕ) (B : Forest) : Type 0 where
  pub words : drop 1 W ≡ encode B
  pub formed : Formed 0 B
  pub checks : Checks B
  pub top : W ≡ encode (node (key First) B empty)
  pub whole : WellFormed (node (key First) B empty)
  pub tree : parse W ≡ node (key First) B empty

module _ (W : List ℕ) (E : Encoded W) where
  -- where there are words there is one First, with the row below it
  row_at : (F : Forest) → parse W ≡ F → Headed F → 1 ≤ length W → (B : Forest) × Row W B
  row_at F e nothing l = absurd (let z : length W ≡ 0 = ap length E.same ∙ rw e in omega arith)
  row_at F e (headed {B} c) l =
      let w : W ≡ encode (node (key First) B empty) = E.same ∙ ap encode e in
      let f : WellFormed (node (key First) B empty) = rw e at E.formed in
      (B, record { words = ap (drop 1) w ∙ append-nil (encode B); formed = f.below; checks = c; top = w; whole = f; tree = e })

  pub row_of : Headed (parse W) → 1 ≤ length W → (B : Forest) × Row W B
  row_of h l = row_at (parse W) refl h l

  module _ (d : List ℕ) (allow : ℕ → Bool) (s : State) where
    -- the topmost First: its candidates, each with the row of heads
    pub top_first : {B : Forest} → Row W B → (c : ℕ)
        → walk_words (machine d) allow W s c ≡ tries (machine d) allow (walk_words (machine d) allow (drop 1 W)) s (length (literals d)) 0 c
    top_first {B} R c =
        let n : length W ≡ suc (size B + 0) = ap length R.top ∙ length_encode (node (key First) B empty) in
        rw (R.words, walk_words_encode (machine d) allow 0 B R.formed (omega (arith, n, E.few)))
        (ap (λ (l : List ℕ). walk_words (machine d) allow l s c) R.top
        ∙ ap (λ f. f s c) (walk_words_encode (machine d) allow 0 (node (key First) B empty) R.whole (omega (arith, n, E.few)))
        ∙ first_by_head d allow B s c)

    module _ (p : ℕ) (at : s.head ≡ some p) {B : Forest} (R : Row W B) (c : ℕ) where
      abbrev k : ℕ
      k = instr 7 (get_or d p 0)

      many : size B < most_words
      many = let n : length W ≡ suc (size B + 0) = ap length R.top ∙ length_encode (node (key First) B empty) in omega (arith, n, E.few)

      -- the row is walked as what stands below the Check of the word at the head
      as_below : walk_words (machine d) allow (drop 1 W) s c ≡ walk (machine d) allow (below_key k B) s c
      as_below =
          ap (λ (l : List ℕ). walk_words (machine d) allow l s c) R.words
          ∙ ap (λ f. f s c) (walk_words_encode (machine d) allow 0 B R.formed (omega (arith, many)))
          ∙ row_by_head d allow s p at 0 B R.formed R.checks c

      pub head_missed : place_of k 1 B 0 ≡ 0 → walk_words (machine d) allow (drop 1 W) s c ≡ not_covered c
      head_missed z = as_below ∙ rw (none_below k 1 B (omega arith) z)

      -- and so is the part of the words that stands there
      pub head_found : {a : ℕ} → a ≡ place_of k 1 B 0 → a ≢ 0 → {x : ℕ} → x ≡ extent_of (get_or W a 0)
          → (1 ≤ x) × (a + x ≤ length W) × (walk_words (machine d) allow (drop 1 W) s c ≡ walk_words (machine d) allow (take (a + x - (a + 1)) (drop (a + 1) W)) s c)
      head_found {a} e n {x} f =
          let g : Found W a (below_key k B) = rw e (found_at 0 W k 1 B (omega (arith, E.few)) R.words R.formed (λ z. n (e ∙ z))) in
          let y : x ≡ suc (size (below_key k B)) = f ∙ g.extent in
          let m : a + x - (a + 1) ≡ size (below_key k B) = omega arith in
          let part : take (a + x - (a + 1)) (drop (a + 1) W) ≡ encode (below_key k B) = rw (m, add-one a) g.words in (
            omega arith,
            omega (arith, g.inside),
            as_below
                ∙ sym (ap (λ f. f s c) (walk_words_encode (machine d) allow 0 (below_key k B) g.formed (omega (arith, g.inside, E.few))))
                ∙ ap (λ (l : List ℕ). walk_words (machine d) allow l s c) (sym part),
          )

-- the entry of a head is the place of its Check in the row
pub entry_place : {W H : List ℕ} {B : Forest} → IndexOf (parse W) H → Row W B → (h : ℕ) → h < entry_count → get_or H h 0 ≡ place_of (instr 7 h) 1 B 0
unfolding top_row
entry_place I R h u = I.place h u ∙ ap (λ F. head_at F h) R.tree

-- what a walk below a step has found is what the walk along the row has
pub walked_step : (ws : List ℕ) (b c : ℕ) {d t : List ℕ} {h : ℕ} {l after : List ℕ} {r : Result ℕ End} {a : Answer State} → Walkable d t h l → h < length d
    → a ≡ walk_words (machine d) (up_to b) ws (state_of h l) c → Walked (walk_below d ws b h l c) l after r → Walked a l after r
unfolding entered
walked_step ws b c {h = h} R g e w = rw e (rw (step_above h (λ z. omega (arith, few_words R))) at w)

-- what the passes below the topmost First have found is what the walk of all words has
pub walked_top : (W d : List ℕ) (b : ℕ) {l after : List ℕ} {r : Result ℕ End} → Encoded W → Headed (parse W) → 1 ≤ length W
    → Walked (walk_below d (drop 1 W) b no_position l 0) l after r → Walked (walk_top d W b l) l after r
unfolding entered above_of
walked_top W d b {l} E h n w = rw (top_first W E d (up_to b) (state_of no_position l) (row_of W E h n).1 0) w

-- without words nothing is covered
pub top_none : (W d : List ℕ) (allow : ℕ → Bool) (s : State) (c : ℕ) → length W ≡ 0 → walk_words (machine d) allow W s c ≡ not_covered c
top_none [] d allow s c e = refl
top_none (w ∷ ws) d allow s c e = absurd (omega arith)

-- before the first candidate no literal is in use
pub none_used : (j : ℕ) (l : List ℕ) → count_in l ≡ 0 → used j (take (count_in l) l) ≡ false
unfolding used
none_used j l e = rw e refl
