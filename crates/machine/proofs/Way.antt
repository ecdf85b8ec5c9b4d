-- The way from one word of a literal to the next: the machine follows it in the query.
use mathlib.Core.Path.{◌≡◌, refl, sym, ◌∙◌}
use mathlib.Core.Logic.{◌≢◌}
use mathlib.Core.Option.{Option, none, some}
use mathlib.Core.List.{List, [], ◌∷◌, ◌++◌, map}
use Prim.Native.Nat.{ℕ, zero, suc, ◌+◌, ◌<◌}
use native.Mathlib.Nat.{zero-add, suc-add, add-zero}
use native.Mathlib.Omega.{arith}
use lib.ListN.{length, get_or, set, length-set}
use lib.Seq.{get_or-set_same, get_or-set_other}
use borrow.Author.Tests.{lt-ltb}
use Rattle.clause.specs.Word.{arity}
use Rattle.machine.specs.Instr.{Push, Down, Right, Pop, Instr, Do}
use Rattle.machine.specs.Compile.{Saved, Place, ended, inside, Way, way}
use Rattle.machine.specs.Machine.{slots, onto, down, right, State, headed, pushing, given, require, step_at, step_from, step, run}
use Rattle.clause.proofs.Jump.{jump_zero, jump_suc}
use Rattle.clause.specs.Positions.{jump, rights}
use Rattle.clause.proofs.Literals.{Clause}
use Rattle.clause.proofs.Siblings.{rights_down, rights_right}

-- how many terms of the literal come after the one at hand, and how many with it
unfoldable pub after : ℕ → List Saved → ℕ
after l [] = l
after l (v ∷ saved) = l + suc (after v.left saved)

unfoldable pub need : Place → ℕ
need ended = 0
need (inside l saved) = suc (after l saved)

after_suc : (l : ℕ) (saved : List Saved) → after (suc l) saved ≡ suc (after l saved)
unfolding after
after_suc l [] = refl
after_suc l (v ∷ saved) = suc-add l (suc (after v.left saved))

-- the way leads past the word, to its arguments and all that was to come
pub need_way : (a l : ℕ) (saved : List Saved) (n : ℕ) → need (way a l saved n).place ≡ a + after l saved
unfolding need way after
need_way (suc a) (suc l) saved n = simp (after_suc, suc-add)
need_way (suc a) zero [] n = simp (suc-add, add-zero)
need_way (suc a) zero (v ∷ saved) n = simp (suc-add, zero-add)
need_way zero (suc l) saved n = simp (after_suc, zero-add)
need_way zero zero (v ∷ saved) n = simp zero-add
need_way zero zero [] n = simp zero-add

-- the pushed positions, the latest at e: each lies past the terms that come before it
abbrev pub Stacked : List ℕ → List (Option ℕ) → (n e : ℕ) → List Saved → Type 0
Stacked d pushes n e [] = Unit {0}
Stacked d pushes n e (v ∷ saved) =
    (v.slot < n) × (get_or pushes v.slot none ≡ some e) × (rights d e ≡ v.left) × Stacked d pushes n (jump d (suc v.left) e) saved

-- a push under a new number leaves the others
stacked_push : (d : List ℕ) (pushes : List (Option ℕ)) (n e : ℕ) (saved : List Saved) (c : Option ℕ) → Stacked d pushes n e saved
    → Stacked d (set pushes n c) (suc n) e saved
stacked_push d pushes n e [] c h = tt
stacked_push d pushes n e (v ∷ saved) c h =
    let g : v.slot < n = h.0 in
    let o : v.slot ≢ n = omega arith in
    (omega arith, rw get_or-set_other h.1, h.2, stacked_push d pushes n (jump d (suc v.left) e) saved c h.3)

-- the machine stands at position p, at a place of the literal
unfoldable pub StandsAt : List ℕ → State → (n p : ℕ) → Place → Type 0
StandsAt d s n p ended = (c : ℕ) × (s.head ≡ some c)
StandsAt d s n p (inside l saved) = (s.head ≡ some p) × (rights d p ≡ l) × Stacked d s.pushes n (jump d (suc l) p) saved

-- one instruction of a way
module _ (d : List ℕ) (sequence : List Instr) (js : List ℕ) (s : State) {c c' : ℕ} (at : s.head ≡ some c) where
  run_down : down d c ≡ some c' → run d (Do Down ∷ sequence) js s ≡ run d sequence js (headed s c')
  unfolding run step step_from step_at given
  run_down e = rw (at, e)

  run_right : right d c ≡ some c' → run d (Do Right ∷ sequence) js s ≡ run d sequence js (headed s c')
  unfolding run step step_from step_at given
  run_right e = rw (at, e)

  run_push : (n : ℕ) → n < slots → right d c ≡ some c' → run d (Do (Push n) ∷ sequence) js s ≡ run d sequence js (pushing s n c')
  unfolding run step step_from step_at given require
  run_push n h e = rw (at, lt-ltb n slots h, e)

  run_pop : (n : ℕ) → n < slots → get_or s.pushes n none ≡ some c' → run d (Do (Pop n) ∷ sequence) js s ≡ run d sequence js (headed s c')
  unfolding run step step_from step_at given require
  run_pop n h e = rw (at, lt-ltb n slots h, e)

-- what no way changes
pub record KeepsPuts (s t : State) : Type 0 where
  pub chosen : t.chosen ≡ s.chosen
  pub puts : t.puts ≡ s.puts
  pub pushes : length t.pushes ≡ length s.pushes

-- the machine has come to q, the next word of the literal
pub record Moved (d : List ℕ) (s : State) (q : ℕ) (w : Way) : Type 0 where
  pub state : State
  pub moves : (sequence : List Instr) (js : List ℕ) → run d (map Do w.steps ++ sequence) js s ≡ run d sequence js state
  pub stands : StandsAt d state w.pushed q w.place
  pub keeps : KeepsPuts s state

-- q is where the next word is, from a word with arity a at p
pub record Onto (d : List ℕ) (a p q : ℕ) : Type 0 where
  pub spans : jump d a q ≡ jump d 1 p
  pub steps : (b : ℕ) → a ≡ suc b → (q ≡ suc p) × (arity (get_or d p 0) ≡ a)

down_is : (d : List ℕ) (p a : ℕ) → arity (get_or d p 0) ≡ suc a → down d p ≡ some (suc p)
unfolding down onto
down_is d p a e = rw e

right_is : (d : List ℕ) (p l : ℕ) → rights d p ≡ suc l → right d p ≡ some (jump d 1 p)
unfolding right onto
right_is d p l e = rw e

lands : {d : List ℕ} {p q : ℕ} → Onto d 0 p q → q ≡ jump d 1 p
lands {d} {p} {q} o = sym (jump_zero d q) ∙ o.spans

kept : (s : State) (c : ℕ) → KeepsPuts s (headed s c)
kept s c = record { chosen = refl; puts = refl; pushes = refl }

module _ (d : List ℕ) (D : Clause d) (s : State) (p q n : ℕ) (h : p < length d) where
  pub move : (a l : ℕ) (saved : List Saved) → Onto d a p q → n < slots → length s.pushes ≡ slots → StandsAt d s n p (inside l saved)
      → Moved d s q (way a l saved n)
  unfolding StandsAt way
  move (suc a) (suc l) saved o room g st =
      let r = jump d 1 p in
      let (is-next, is-arity) = o.steps a refl in
      record {
        state = headed (pushing s n r) (suc p);
        moves =
            λ sequence js. run_push d (Do Down ∷ sequence) js s st.0 n room (right_is d p l st.1)
            ∙ run_down d sequence js (pushing s n r) st.0 (down_is d p a is-arity);
        stands = (
          rw is-next,
          rw is-next (rights_down d D p a h is-arity),
          (
            omega arith,
            rw o.spans (get_or-set_same s.pushes n (some r) none (omega arith)),
            rw o.spans (rights_right d D p l h st.1),
            rw o.spans (stacked_push d s.pushes n _ saved (some r) (rw jump_suc at st.2)),
          ),
        );
        keeps = record { chosen = refl; puts = refl; pushes = length-set s.pushes n (some r) };
      }
  move (suc a) zero saved o room g st =
      let (is-next, is-arity) = o.steps a refl in
      record {
        state = headed s (suc p);
        moves = λ sequence js. run_down d sequence js s st.0 (down_is d p a is-arity);
        stands = (rw is-next, rw is-next (rights_down d D p a h is-arity), rw o.spans st.2);
        keeps = kept s _;
      }
  move zero (suc l) saved o room g st =
      record {
        state = headed s (jump d 1 p);
        moves = λ sequence js. run_right d sequence js s st.0 (right_is d p l st.1);
        stands = (rw (lands o), rw (lands o) (rights_right d D p l h st.1), rw (lands o) (rw jump_suc at st.2));
        keeps = kept s _;
      }
  move zero zero (v ∷ saved) o room g st =
      record {
        state = headed s (jump d 1 p);
        moves = λ sequence js. run_pop d sequence js s st.0 v.slot (omega arith) st.2.1;
        stands = (rw (lands o), rw (lands o) st.2.2, rw (lands o) st.2.3);
        keeps = kept s _;
      }
  move zero zero [] o room g st =
      record { state = s; moves = λ sequence js. refl; stands = (_, st.0); keeps = record { chosen = refl; puts = refl; pushes = refl } }
