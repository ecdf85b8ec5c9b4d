-- What a visit does to the cells is what the definition's step does to the state.
use Prim.Native.Nat.{ℕ, zero, suc, ◌+◌, ◌-◌, ◌*◌, ◌/◌, ◌%◌, ◌^◌, ◌≤◌, ◌<◌}
use mathlib.Core.Path.{◌≡◌, refl, sym, ap, ◌∙◌}
use mathlib.Core.Bool.{Bool, true, false, cond}
use mathlib.Core.Option.{Option, none, some}
use mathlib.Core.List.{List}
use native.Mathlib.Omega.{arith}
use lib.Dec.{ltb, eqb}
use lib.ListN.{length, get_or, take, drop, set}
use lib.Seq.{length-take-le}
use native.Mathlib.Decide.{ℕ_discrete}
use borrow.Author.Tests.{lt-ltb, le-ltb, eq-eqb, ne_eqb}
use Rattle.clause.specs.Word.{arity}
use Rattle.clause.specs.Clause.{max_words, max_literals, term_at}
use Rattle.clause.specs.Positions.{jump, rights}
use Rattle.clause.proofs.Literals.{accepted}
use Rattle.clause.proofs.Ends.{jump_from, jump_one, jump_le, term_part}
use Rattle.clause.proofs.Siblings.{right_inside}
use Rattle.machine.specs.Machine.{slots, State, Effect, onto, down, right, next, fails, given, headed}
use Rattle.machine.specs.Machine.{putting, pushing, require, within, same_terms, compare_terms, step_at, step_from, step, finish, finish_from}
use Rattle.machine.specs.Instr.{Step, Down, Right, Put, Push, Pop, Check, Compare, Instr, First, Do, Success, instruction}
use Rattle.walk.specs.Words.{extends}
use Rattle.clause.specs.Inner.Tables.{at_ends, at_siblings}
use Rattle.cells.specs.Inner.Cells.{puts_at, pushes_at, cell_count, no_position, undo_base, count_in}
use Rattle.cells.specs.Inner.Cells.{position_in, placed, state_of, Tables, Walkable}
use Rattle.stepping.specs.Inner.Visits.{Met, past, bad, hit, firsts, stepped, reached, with_words, met_as, meeting, met_of, head_of, stores, plain, store, Visited}
use Rattle.stepping.specs.declared.Visit.{Visit}
use Rattle.stepping.specs.declared.Visit.TheVariants.{Fails, Stuck, Below, Stored}
use Rattle.tree.specs.Laid.{extent_of}
use Rattle.cells.proofs.Region.{instr_of_word}
use Rattle.cells.proofs.Rows.{extends_in, extends_more}
use Rattle.cells.proofs.Places.{place_none, place_some, placed_get, state_put, state_push, few_words}

-- a visit that stores nothing
pub stays : (v : Visit) (h : ℕ) (l : List ℕ) {m : Met} → stores v ≡ false → met_of v (state_of (head_of h v) l) ≡ m → Visited h m l l v
stays v h l n e = record { comes = e; undoable = plain v n }

-- a broken node, and one that fails
pub sticks : (h : ℕ) (l : List ℕ) {m : Met} → bad ≡ m → Visited h m l l Stuck
unfolding met_of
sticks h l e = stays Stuck h l refl e

pub misses : (h : ℕ) (l : List ℕ) {m : Met} → past ≡ m → Visited h m l l Fails
unfolding met_of
misses h l e = stays Fails h l refl e

-- another head
pub moved_none : (h : ℕ) (l : List ℕ) {to : ℕ} → to ≡ no_position → bad ≡ stepped (given (position_in to) (headed (state_of h l)))
unfolding met_of stepped given
moved_none h l e = rw (place_none e)

pub moved_some : (h : ℕ) (l : List ℕ) {to : ℕ} → (to ≡ no_position → ⊥) → met_of (Below to) (state_of to l) ≡ stepped (given (position_in to) (headed (state_of h l)))
unfolding met_of stepped given
moved_some h l n = rw (place_some n)

-- a number that is no slot
pub over : (k : ℕ) (o : Effect State) → slots ≤ k → bad ≡ stepped (within k o)
unfolding met_of stepped require
over k o h = rw (le-ltb k slots h)

-- the arguments and the right sibling
pub down_none : (d : List ℕ) (p : ℕ) → arity (get_or d p 0) ≡ 0 → position_in no_position ≡ down d p
unfolding down onto
down_none d p e = rw e (place_none refl)

pub down_some : (d : List ℕ) (p : ℕ) → p < max_words → (arity (get_or d p 0) ≡ 0 → ⊥) → position_in (p + 1) ≡ down d p
unfolding down onto
down_some d p h n =
    let e : arity (get_or d p 0) ≡ suc (arity (get_or d p 0) - 1) = omega arith in
    let f : p + 1 ≡ suc p = omega arith in
    rw (e, f) (place_some {x = suc p} (λ z. omega arith))

pub down_stuck : (d : List ℕ) (h : ℕ) (l : List ℕ) → arity (get_or d h 0) ≡ 0 → bad ≡ stepped (given (down d h) (headed (state_of h l)))
down_stuck d h l e = moved_none h l {to = no_position} refl ∙ ap (λ (o : Option ℕ). stepped (given o (headed (state_of h l)))) (down_none d h e)

pub down_below : (d : List ℕ) (h : ℕ) (l : List ℕ) → (h < length d) × (length d ≤ max_words) → (arity (get_or d h 0) ≡ 0 → ⊥)
    → met_of (Below (h + 1)) (state_of (h + 1) l) ≡ stepped (given (down d h) (headed (state_of h l)))
down_below d h l p n = moved_some h l {to = h + 1} (λ z. omega (arith, p)) ∙ ap (λ (o : Option ℕ). stepped (given o (headed (state_of h l)))) (down_some d h (omega (arith, p)) n)

module _ (d t : List ℕ) (h : ℕ) (l : List ℕ) (R : Walkable d t h l) (inside : h < length d) where
  pub right_none : get_or t (at_siblings + h) 0 ≡ 0 → position_in no_position ≡ right d h
  unfolding right onto
  right_none e = rw (sym (R.tables.rights h inside) ∙ e) (place_none refl)

  pub right_some : (get_or t (at_siblings + h) 0 ≡ 0 → ⊥) → {x : ℕ} → x ≡ get_or t (at_ends + h) 0 → (position_in x ≡ right d h) × (x < max_words)
  unfolding right onto
  right_some n e =
      let r : rights d h ≡ suc (rights d h - 1) = omega (arith, R.tables.rights h inside) in
      let j = right_inside d (accepted d R.whole) h (rights d h - 1) inside r in
      let w = few_words R in
      (rw (e, R.tables.ends h inside, r) (place_some {x = jump d 1 h} (λ z. omega arith)), rw (e, R.tables.ends h inside) (omega arith))

-- Put and Push
module _ (h : ℕ) (l : List ℕ) (few : count_in l ≤ max_literals) where
  pub put_visit : (k : ℕ) → k < slots → h < max_words → get_or l (puts_at + k) 0 < undo_base
      → Visited h (stepped (within k (next (putting (state_of h l) k h)))) l (set l (puts_at + k) h)
      (Stored h ((puts_at + k) * undo_base + get_or l (puts_at + k) 0))
  unfolding met_of stepped require
  put_visit k g v b =
      record {
        comes = rw (lt-ltb k slots g, state_put h l few k h g (omega arith));
        undoable = store h (puts_at + k) h (omega arith) (omega arith) b;
      }

  pub push_visit : (n x : ℕ) → n < slots → x < cell_count → (x ≡ no_position → ⊥) → get_or l (pushes_at + n) 0 < undo_base
      → Visited h (stepped (within n (given (position_in x) (pushing (state_of h l) n)))) l (set l (pushes_at + n) x)
      (Stored h ((pushes_at + n) * undo_base + get_or l (pushes_at + n) 0))
  unfolding met_of stepped require given
  push_visit n x g v ne b =
      record {
        comes = rw (lt-ltb n slots g, place_some ne, state_push h l few n x g (omega arith));
        undoable = store h (pushes_at + n) x (omega arith) (omega arith) b;
      }

pub push_none : (n : ℕ) (s : State) {x : ℕ} → x ≡ no_position → n < slots → bad ≡ stepped (within n (given (position_in x) (pushing s n)))
unfolding met_of stepped require given
push_none n s e g = rw (lt-ltb n slots g, place_none e)

-- Pop
pub pop_visit : (h : ℕ) (l : List ℕ) → length l ≡ cell_count → (n : ℕ) → n < slots → stepped (given (position_in (get_or l (pushes_at + n) 0)) (headed (state_of h l)))
    ≡ stepped (within n (given (get_or (placed pushes_at l) n none) (headed (state_of h l))))
unfolding require
pop_visit h l s n g = rw (lt-ltb n slots g, placed_get pushes_at l n g (omega arith))

-- Check
pub check_same : (h : ℕ) (s : State) (a b : ℕ) → a ≡ b → met_of (Below h) s ≡ stepped (require fails (eqb a b) (next s))
unfolding met_of stepped require
check_same h s a b e = rw (eq-eqb a b e)

pub check_other : (s : State) (a b : ℕ) → (a ≡ b → ⊥) → past ≡ stepped (require fails (eqb a b) (next s))
unfolding met_of stepped require
check_other s a b n = rw (ne_eqb a b n)

-- Compare
-- the part that a term is
module _ (d t : List ℕ) (T : Tables d t) (p : ℕ) (h : p < length d) {e : ℕ} (f : e ≡ get_or t (at_ends + p) 0) where
  pub part_start : p < e
  part_start = omega (arith, f, T.ends p h, jump_one d p h, jump_from d (arity (get_or d p 0)) (suc p))

  pub part_end : e ≤ length d
  part_end = rw (f, T.ends p h) (jump_le d 1 p (omega arith))

  pub part_term : take (e - p) (drop p d) ≡ term_at d p
  part_term = rw (f, T.ends p h) (term_part d p)

module _ (d t : List ℕ) (h : ℕ) (l : List ℕ) (R : Walkable d t h l) (m k : ℕ) where
  pub compare_over_m : slots ≤ m → bad ≡ stepped (step_at d (Compare m k) (state_of h l) h)
  unfolding step_at met_of stepped require
  compare_over_m g = rw (le-ltb m slots g)

  module _ (u : m < slots) where
    pub compare_over_k : slots ≤ k → bad ≡ stepped (step_at d (Compare m k) (state_of h l) h)
    unfolding step_at met_of stepped require
    compare_over_k g = rw (lt-ltb m slots u, le-ltb k slots g)

    module _ (v : k < slots) where
      compare_places : step_at d (Compare m k) (state_of h l) h ≡ compare_terms d (state_of h l) (position_in (get_or l (puts_at + m) 0)) (position_in (get_or l (puts_at + k) 0))
      unfolding step_at require
      compare_places =
          let s = R.size in
          rw (lt-ltb m slots u, lt-ltb k slots v, placed_get puts_at l m u (omega arith), placed_get puts_at l k v (omega arith))

      pub compare_no_m : {p : ℕ} → p ≡ get_or l (puts_at + m) 0 → p ≡ no_position → bad ≡ stepped (step_at d (Compare m k) (state_of h l) h)
      unfolding met_of stepped compare_terms
      compare_no_m e f = rw (compare_places, place_none (sym e ∙ f))

      module _ {p : ℕ} (e : p ≡ get_or l (puts_at + m) 0) (n : p ≡ no_position → ⊥) where
        pub compare_no_k : {q : ℕ} → q ≡ get_or l (puts_at + k) 0 → q ≡ no_position → bad ≡ stepped (step_at d (Compare m k) (state_of h l) h)
        unfolding met_of stepped compare_terms
        compare_no_k f g = rw (compare_places, ← e, place_some n, place_none (sym f ∙ g))

        pub put_inside_m : p < length d
        put_inside_m = R.safe.puts m p (placed_get puts_at l m u (omega (arith, R.size)) ∙ rw (← e) (place_some n))

        module _ {q : ℕ} (f : q ≡ get_or l (puts_at + k) 0) (o : q ≡ no_position → ⊥) where
          pub put_inside_k : q < length d
          put_inside_k = R.safe.puts k q (placed_get puts_at l k v (omega (arith, R.size)) ∙ rw (← f) (place_some o))

          compare_both : step_at d (Compare m k) (state_of h l) h ≡ require fails (same_terms d p q) (next (state_of h l))
          unfolding compare_terms
          compare_both = rw (compare_places, ← e, ← f, place_some n, place_some o)

          pub compare_same : same_terms d p q ≡ true → met_of (Below h) (state_of h l) ≡ stepped (step_at d (Compare m k) (state_of h l) h)
          unfolding met_of stepped require
          compare_same g = rw (compare_both, g)

          pub compare_other : same_terms d p q ≡ false → past ≡ stepped (step_at d (Compare m k) (state_of h l) h)
          unfolding met_of stepped require
          compare_other g = rw (compare_both, g)

-- a head that stands in the query
module _ (d t : List ℕ) (h : ℕ) (l : List ℕ) (R : Walkable d t h l) where
  pub head_some : h < length d → position_in h ≡ some h
  head_some g = let w = few_words R in place_some {x = h} (λ z. omega arith)

  pub chosen_length : length (take (count_in l) l) ≡ count_in l
  chosen_length = length-take-le (count_in l) l (omega (arith, R.size, R.few))

-- an instruction at a head
module _ (d : List ℕ) (s : State) (p : ℕ) (e : s.head ≡ some p) where
  pub do_met : (x : Step) → met_as d (some (Do x)) s ≡ stepped (step_at d x s p)
  unfolding met_as step step_from
  do_met x = rw e

  pub success_met : (n : ℕ) → met_as d (some (Success n)) s ≡ hit s
  unfolding met_as finish finish_from reached
  success_met n = rw e

-- the instruction of an operation over 8
pub nothing_over : (op x : ℕ) → 9 ≤ op → instruction op x ≡ none
unfolding instruction
nothing_over zero x h = absurd (omega arith)
nothing_over (suc zero) x h = absurd (omega arith)
nothing_over (suc (suc zero)) x h = absurd (omega arith)
nothing_over (suc (suc (suc zero))) x h = absurd (omega arith)
nothing_over (suc (suc (suc (suc zero)))) x h = absurd (omega arith)
nothing_over (suc (suc (suc (suc (suc zero))))) x h = absurd (omega arith)
nothing_over (suc (suc (suc (suc (suc (suc zero)))))) x h = absurd (omega arith)
nothing_over (suc (suc (suc (suc (suc (suc (suc zero))))))) x h = absurd (omega arith)
nothing_over (suc (suc (suc (suc (suc (suc (suc (suc zero)))))))) x h = absurd (omega arith)
nothing_over (suc (suc (suc (suc (suc (suc (suc (suc (suc op))))))))) x h = refl

-- First is the instruction of operation 1 alone
first_op : (op x : ℕ) → instruction op x ≡ some First → op ≡ 1
unfolding instruction
first_op zero x e = cc
first_op (suc zero) x e = refl
first_op (suc (suc zero)) x e = cc
first_op (suc (suc (suc zero))) x e = cc
first_op (suc (suc (suc (suc zero)))) x e = cc
first_op (suc (suc (suc (suc (suc zero))))) x e = cc
first_op (suc (suc (suc (suc (suc (suc zero)))))) x e = cc
first_op (suc (suc (suc (suc (suc (suc (suc zero))))))) x e = cc
first_op (suc (suc (suc (suc (suc (suc (suc (suc zero)))))))) x e = cc
first_op (suc (suc (suc (suc (suc (suc (suc (suc (suc op))))))))) x e = cc

-- any instruction but First before a candidate
pub early : (d : List ℕ) (op x : ℕ) (s : State) → s.head ≡ none → (op ≡ 1 → ⊥) → met_as d (instruction op x) s ≡ bad
unfolding met_as step step_from stepped finish finish_from reached
early d op x s e n = go (instruction op x) refl
  where
    go : (o : Option Instr) → instruction op x ≡ o → met_as d o s ≡ bad
    go none f = refl
    go (some First) f = absurd (n (first_op op x f))
    go (some (Do y)) f = rw e
    go (some (Success m)) f = rw e

-- a word of a row, by its operation
module _ (d : List ℕ) (w room : ℕ) (s : State) where
  pub met_unfit : extends w (room - 1) ≡ false → meeting d w room s ≡ bad
  unfolding meeting
  met_unfit e = rw e

  module _ (ok : extends w (room - 1) ≡ true) where
    pub met_word : {op x : ℕ} → op ≡ w / 2 ^ 60 → x ≡ w / 2 ^ 28 % 2 ^ 32 → meeting d w room s ≡ met_as d (instruction op x) s
    unfolding meeting
    met_word e f = rw (ok, instr_of_word w, e, f)

  -- a word with an extent in the row: a Success still has to have one word

  module _ (some-room : 1 ≤ room) {n : ℕ} (e : n ≡ extent_of w) (some_words : n ≡ 0 → ⊥) (inside : n ≤ room) where
    pub met_sized : {op x : ℕ} → op ≡ w / 2 ^ 60 → x ≡ w / 2 ^ 28 % 2 ^ 32 → meeting d w room s ≡ with_words op n (met_as d (instruction op x) s)
    unfolding with_words
    met_sized {op} {x} f g = go (ℕ_discrete op 0) (ℕ_discrete n 1)
      where
        go : Dec (op ≡ 0) → Dec (n ≡ 1) → meeting d w room s ≡ cond (eqb op 0) (cond (eqb n 1) (met_as d (instruction op x) s) bad) (met_as d (instruction op x) s)
        go (no z) q = rw (ne_eqb op 0 z) (met_word (extends_in w room some-room e some_words inside (λ y. absurd (z (f ∙ y)))) f g)
        go (yes z) (yes q) = rw (eq-eqb op 0 z, eq-eqb n 1 q) (met_word (extends_in w room some-room e some_words inside (λ y. q)) f g)
        go (yes z) (no q) = rw (eq-eqb op 0 z, ne_eqb n 1 q) (met_unfit (extends_more w room some-room e some_words inside (sym f ∙ z) q))

-- any word but a First before a candidate
pub met_early : (d : List ℕ) (w room : ℕ) (s : State) {op : ℕ} → op ≡ w / 2 ^ 60 → (op ≡ 1 → ⊥) → s.head ≡ none → meeting d w room s ≡ bad
met_early d w room s {op} e n h = go (extends w (room - 1)) refl
  where
    go : (v : Bool) → extends w (room - 1) ≡ v → meeting d w room s ≡ bad
    go false f = met_unfit d w room s f
    go true f = met_word d w room s f e refl ∙ early d op (w / 2 ^ 28 % 2 ^ 32) s h n

-- a First in the row
pub met_tries : (d t : List ℕ) (h : ℕ) (l : List ℕ) → Walkable d t h l → (w room : ℕ) → extends w (room - 1) ≡ true → {op : ℕ} → op ≡ w / 2 ^ 60 → op ≡ 1
    → meeting d w room (state_of h l) ≡ cond (ltb (count_in l) max_literals) (firsts (state_of h l)) bad
unfolding meeting met_as instruction
met_tries d t h l R w room ok e f = rw (ok, instr_of_word w, sym e ∙ f, chosen_length d t h l R)

-- only a Success has to have one word
pub sized_other : (op n : ℕ) {m k : Met} → (op ≡ 0 → ⊥) → m ≡ k → with_words op n m ≡ k
unfolding with_words
sized_other op n z e = rw (ne_eqb op 0 z) e

pub act_success : (d t : List ℕ) (h : ℕ) (l : List ℕ) → Walkable d t h l → h < length d → (x : ℕ) → met_as d (instruction 0 x) (state_of h l) ≡ hit (state_of h l)
unfolding instruction
act_success d t h l R inside x = success_met d (state_of h l) h (head_some d t h l R inside) x

pub act_first : (d t : List ℕ) (h : ℕ) (l : List ℕ) → Walkable d t h l → (op x : ℕ) → op ≡ 1
    → met_as d (instruction op x) (state_of h l) ≡ cond (ltb (count_in l) max_literals) (firsts (state_of h l)) bad
unfolding met_as instruction
act_first d t h l R op x e = rw (e, chosen_length d t h l R)

-- the operations at a head
module _ (d t : List ℕ) (h : ℕ) (l : List ℕ) (R : Walkable d t h l) (inside : h < length d) (op x : ℕ) where
  at_step : (y : Step) → instruction op x ≡ some (Do y) → met_as d (instruction op x) (state_of h l) ≡ stepped (step_at d y (state_of h l) h)
  at_step y e = rw e (do_met d (state_of h l) h (head_some d t h l R inside) y)

  pub act_down : op ≡ 2 → met_as d (instruction op x) (state_of h l) ≡ stepped (given (down d h) (headed (state_of h l)))
  unfolding instruction step_at
  act_down e = at_step Down (rw e)

  pub act_right : op ≡ 3 → met_as d (instruction op x) (state_of h l) ≡ stepped (given (right d h) (headed (state_of h l)))
  unfolding instruction step_at
  act_right e = at_step Right (rw e)

  pub act_put : op ≡ 4 → met_as d (instruction op x) (state_of h l) ≡ stepped (within x (next (putting (state_of h l) x h)))
  unfolding instruction step_at
  act_put e = at_step (Put x) (rw e)

  pub act_push : op ≡ 5 → met_as d (instruction op x) (state_of h l) ≡ stepped (within x (given (right d h) (pushing (state_of h l) x)))
  unfolding instruction step_at
  act_push e = at_step (Push x) (rw e)

  pub act_pop : op ≡ 6 → met_as d (instruction op x) (state_of h l) ≡ stepped (within x (given (get_or (placed pushes_at l) x none) (headed (state_of h l))))
  unfolding instruction step_at
  act_pop e = at_step (Pop x) (rw e)

  pub act_check : op ≡ 7 → met_as d (instruction op x) (state_of h l) ≡ stepped (require fails (eqb (get_or d h 0) x) (next (state_of h l)))
  unfolding instruction step_at
  act_check e = at_step (Check x) (rw e)

  pub act_compare : op ≡ 8 → met_as d (instruction op x) (state_of h l) ≡ stepped (step_at d (Compare (x / 2 ^ 16) (x % 2 ^ 16)) (state_of h l) h)
  unfolding instruction
  act_compare e = at_step (Compare (x / 2 ^ 16) (x % 2 ^ 16)) (rw e)

  pub act_over : 9 ≤ op → bad ≡ met_as d (instruction op x) (state_of h l)
  unfolding met_as met_of
  act_over g = rw (nothing_over op x g)
