-- The sequence of one literal against one literal of the query: it goes as matching word by word does.
use mathlib.Core.Path.{◌≡◌, refl, sym, ap, ◌∙◌}
use mathlib.Core.Logic.{◌≢◌}
use mathlib.Core.Option
use mathlib.Core.Option.{Option, none, some}
use mathlib.Core.Bool.{Bool, true, false, cond}
use mathlib.Core.List.{List, [], ◌∷◌, ◌++◌, map, append-nil}
use Prim.Native.Nat.{ℕ, zero, suc, ◌+◌, ◌≤◌, ◌<◌}
use native.Mathlib.Nat.{zero-add, add-zero, suc-ne-zero}
use native.Mathlib.Omega.{arith}
use lib.ListN.{length, drop, get_or}
use lib.Seq.{sets}
use lib.Dec.{eqb}
use borrow.Author.Tests.{lt-ltb, eqb-true}
use Rattle.clause.specs.Word.{arity, variable, sort-discrete, sort, if_variable}
use Rattle.clause.specs.Clause.{Shaped, end, next_word}
use Rattle.machine.specs.Instr.{Put, Check, Instr, Do}
use Rattle.machine.specs.Compile.{Saved, Place, ended, inside, way, way_from, opening, begun, closing, compares, act, puts_after, sequence_from}
use Rattle.machine.specs.Machine.{slots, State, Effect, fails, putting, require, step_at, step_from, step, run}
use Rattle.clause.proofs.Lists.{length-snoc}
use Rattle.clause.proofs.Skip.{Enough}
use Rattle.clause.proofs.Literals.{Clause}
use Rattle.clause.proofs.Terms.{if-other, variable_arity}
use Rattle.clause.proofs.Jump.{jump_zero, jump_word, enough_here, enough_word, enough_term}
use Rattle.machine.proofs.Way.{need, after, need_way, StandsAt, KeepsPuts, Moved, Onto, move}
use Rattle.clause.specs.Positions.{jump}

-- the words of a literal matched at p word by word, a variable with the whole term there: the positions of the variables
unfoldable pub flat : List ℕ → List ℕ → ℕ → Option (List ℕ)
flat d [] p = some []
flat d (w ∷ ws) p =
    if_variable (sort w) (Option.map (λ ps. p ∷ ps) (flat d ws (jump d 1 p))) (cond (eqb (get_or d p 0) w) (flat d ws (suc p)) none)

-- the variables put after some words
unfoldable pub puts_all : List ℕ → List ℕ → List ℕ
puts_all puts [] = puts
puts_all puts (w ∷ ws) = puts_all (puts_after puts w) ws

-- a list of k terms has a word exactly if k is positive
pub shaped_cons : {k w : ℕ} {ws : List ℕ} → Shaped k (w ∷ ws) → k ≢ 0
shaped_cons (next_word h) = suc-ne-zero _

pub shaped_nil : {k : ℕ} → Shaped k [] → k ≡ 0
shaped_nil end = refl

pub shaped_tail : {k w : ℕ} {ws : List ℕ} → Shaped (suc k) (w ∷ ws) → Shaped (arity w + k) ws
shaped_tail (next_word h) = h

-- one more push at most
pushed_way : (a l : ℕ) (saved : List Saved) (n : ℕ) → (way a l saved n).pushed ≤ suc n
unfolding way
pushed_way (suc a) (suc l) saved n = omega arith
pushed_way (suc a) zero saved n = omega arith
pushed_way zero (suc l) saved n = omega arith
pushed_way zero zero (v ∷ saved) n = omega arith
pushed_way zero zero [] n = omega arith

module _ (d : List ℕ) (sequence : List Instr) (js : List ℕ) (s : State) {c : ℕ} (at : s.head ≡ some c) where
  run_put : (k : ℕ) → k < slots → run d (Do (Put k) ∷ sequence) js s ≡ run d sequence js (putting s k c)
  unfolding run step step_from step_at require
  run_put k h = rw (at, lt-ltb k slots h)

  run_check : (w : ℕ) → eqb (get_or d c 0) w ≡ true → run d (Do (Check w) ∷ sequence) js s ≡ run d sequence js s
  unfolding run step step_from step_at require
  run_check w e = rw (at, e)

  run_miss : (w : ℕ) → eqb (get_or d c 0) w ≡ false → run d (Do (Check w) ∷ sequence) js s ≡ fails
  unfolding run step step_from step_at require
  run_miss w e = rw (at, e)

module _ (d rest : List ℕ) (from : ℕ) (js : List ℕ) where
  -- the literal is matched, its variables are put, and the machine goes on behind it
  pub record After (s : State) (k : ℕ) (puts : List ℕ) (o : Effect State) (ps : List ℕ) : Type 0 where
    pub state : State
    pub pushed : ℕ
    pub goes : o ≡ run d (map Do (compares puts from) ++ sequence_from rest ended puts from pushed) js state
    pub chosen : state.chosen ≡ s.chosen
    pub stored : state.puts ≡ sets s.puts k (map some ps)
    pub pushes : length state.pushes ≡ slots
    pub cursor : ℕ
    pub placed : state.head ≡ some cursor
    pub room : pushed + length rest ≤ slots

  pub data Agrees (s : State) (k : ℕ) (puts : List ℕ) (o : Effect State) : Option (List ℕ) → Type 0 where
    miss : o ≡ fails → Agrees s k puts o none
    hit : {ps : List ℕ} → After s k puts o ps → Agrees s k puts o (some ps)

  -- the machine is about to match ws at p
  pub record Aligned (ws : List ℕ) (place : Place) (puts : List ℕ) (n p : ℕ) (s : State) : Type 0 where
    pub shaped : Shaped (need place) ws
    pub enough : Enough (need place) (drop p d)
    pub stands : StandsAt d s n p place
    pub put_room : length puts + length (ws ++ rest) ≤ slots
    pub push_room : n + length (ws ++ rest) ≤ slots
    pub pushes : length s.pushes ≡ slots

  abbrev Reaches : List ℕ → Type 0
  Reaches ws = (place : Place) (puts : List ℕ) (n p : ℕ) (s : State) → Aligned ws place puts n p s
      → Agrees s (length puts) (puts_all puts ws) (run d (map Do (closing place puts from) ++ sequence_from (ws ++ rest) place puts from n) js s) (flat d ws p)

  unmoved : {s : State} → KeepsPuts s s
  unmoved = record { chosen = refl; puts = refl; pushes = refl }

  -- what comes after a later state comes after an earlier one
  after_from : {s t : State} {k k' : ℕ} {puts : List ℕ} {o o' : Effect State} (ps ps' : List ℕ) → o ≡ o' → t.chosen ≡ s.chosen
      → sets t.puts k' (map some ps') ≡ sets s.puts k (map some ps) → After t k' puts o' ps' → After s k puts o ps
  after_from ps ps' e c p a =
      record {
        state = a.state;
        pushed = a.pushed;
        goes = e ∙ a.goes;
        chosen = a.chosen ∙ c;
        stored = a.stored ∙ p;
        pushes = a.pushes;
        cursor = a.cursor;
        placed = a.placed;
        room = a.room;
      }

  agrees_kept : {r : Option (List ℕ)} {s t : State} {k : ℕ} {puts : List ℕ} {o o' : Effect State} → KeepsPuts s t → o ≡ o' → Agrees t k puts o' r
      → Agrees s k puts o r
  agrees_kept K e (miss f) = miss (e ∙ f)
  agrees_kept K e (hit {ps} a) = hit {ps = ps} (after_from ps ps e K.chosen (rw K.puts refl) a)

  agrees_put : (p : ℕ) {r : Option (List ℕ)} {s : State} {k : ℕ} {puts : List ℕ} {o o' : Effect State} → o ≡ o'
      → Agrees (putting s k p) (suc k) puts o' r
      → Agrees s k puts o (Option.map (λ ps. p ∷ ps) r)
  agrees_put p e (miss f) = miss (e ∙ f)
  agrees_put p e (hit {ps} a) = hit {ps = p ∷ ps} (after_from (p ∷ ps) ps e refl refl a)

  module _ (D : Clause d) (w : ℕ) (ws : List ℕ) (ih : Reaches ws) (l : ℕ) (saved : List Saved) (puts : List ℕ) (n p : ℕ) where
    -- the sequence after the instruction of word w
    onward : List ℕ → List Instr
    onward puts' =
        let t = way (arity w) l saved n in
        map Do t.steps ++ (map Do (closing t.place puts' from) ++ sequence_from (ws ++ rest) t.place puts' from t.pushed)

    -- from a word that was matched the machine goes on with the others
    go_on : (q : ℕ) (puts' : List ℕ) (s : State) → Onto d (arity w) p q → Enough (arity w + after l saved) (drop q d)
        → length puts' ≤ suc (length puts)
        → Aligned (w ∷ ws) (inside l saved) puts n p s → Agrees s (length puts') (puts_all puts' ws) (run d (onward puts') js s) (flat d ws q)
    unfolding onward need
    go_on q puts' s o e h r =
        let m : Moved d s q (way (arity w) l saved n) = move d D s p q n (enough_here d _ p r.enough) (arity w) l saved o (omega arith) r.pushes r.stands in
        agrees_kept m.keeps (m.moves _ js)
        (ih _ puts' _ q m.state
        record {
          shaped = rw need_way (shaped_tail r.shaped);
          enough = rw need_way e;
          stands = m.stands;
          put_room = omega arith;
          push_room = omega (arith, pushed_way (arity w) l saved n);
          pushes = m.keeps.pushes ∙ r.pushes;
        })

    -- a variable takes the whole term at p
    reach_variable : (s : State) → sort w ≡ variable → Aligned (w ∷ ws) (inside l saved) puts n p s
        → Agrees s (length puts) (puts_all (puts ++ (w ∷ [])) ws) (run d (Do (Put (length puts)) ∷ onward (puts ++ (w ∷ []))) js s)
        (Option.map (λ ps. p ∷ ps) (flat d ws (jump d 1 p)))
    unfolding need StandsAt
    reach_variable s e r =
        let z : arity w ≡ 0 = variable_arity w e in
        let o : Onto d (arity w) p (jump d 1 p) = record { spans = rw z (jump_zero d (jump d 1 p)); steps = λ b f. absurd (omega arith) } in
        agrees_put p (run_put d (onward (puts ++ (w ∷ []))) js s r.stands.0 (length puts) (omega arith))
        (rw length-snoc at (go_on (jump d 1 p) (puts ++ (w ∷ [])) (putting s (length puts) p) o (rw (z, zero-add) (enough_term d _ p r.enough))
        (rw length-snoc (omega arith))
        record { shaped = r.shaped; enough = r.enough; stands = r.stands; put_room = r.put_room; push_room = r.push_room; pushes = r.pushes }))

    -- another word is at p, or does not match
    reach_other : (s : State) (b : Bool) → eqb (get_or d p 0) w ≡ b → Aligned (w ∷ ws) (inside l saved) puts n p s
        → Agrees s (length puts) (puts_all puts ws) (run d (Do (Check w) ∷ onward puts) js s) (cond b (flat d ws (suc p)) none)
    unfolding need StandsAt
    reach_other s false e r = miss (run_miss d (onward puts) js s r.stands.0 w e)
    reach_other s true e r =
        let m : get_or d p 0 ≡ w = eqb-true (get_or d p 0) w e in
        let o : Onto d (arity w) p (suc p) =
        record { spans = sym (simp (m, add-zero) at (jump_word d 0 p (enough_here d _ p r.enough))); steps = λ b f. (refl, ap arity m) } in
        agrees_kept unmoved (run_check d (onward puts) js s r.stands.0 w e)
        (go_on (suc p) puts s o (rw m at (enough_word d _ p r.enough)) (omega arith) r)

    reach_word : (s : State) → Aligned (w ∷ ws) (inside l saved) puts n p s
        → Agrees s (length puts) (puts_all puts (w ∷ ws)) (run d (sequence_from (w ∷ (ws ++ rest)) (inside l saved) puts from n) js s) (flat d (w ∷ ws) p)
    unfolding flat puts_all sequence_from act puts_after opening way_from begun onward
    reach_word s r = go (sort-discrete (sort w) variable)
      where
        go : Dec (sort w ≡ variable)
            → Agrees s (length puts) (puts_all puts (w ∷ ws)) (run d (sequence_from (w ∷ (ws ++ rest)) (inside l saved) puts from n) js s) (flat d (w ∷ ws) p)
        go (yes e) = rw e (reach_variable s e r)
        go (no e) = simp (if-other, e, append-nil) (reach_other s (eqb (get_or d p 0) w) refl r)

  pub reach : Clause d → (ws : List ℕ) → Reaches ws
  unfolding flat puts_all closing need StandsAt
  reach D [] ended puts n p s r =
      hit record {
        state = s;
        pushed = n;
        goes = refl;
        chosen = refl;
        stored = refl;
        pushes = r.pushes;
        cursor = r.stands.0;
        placed = r.stands.1;
        room = r.push_room;
      }
  reach D [] (inside l saved) puts n p s r = absurd (omega (arith, shaped_nil r.shaped))
  reach D (w ∷ ws) ended puts n p s r = absurd (omega (arith, shaped_cons r.shaped))
  reach D (w ∷ ws) (inside l saved) puts n p s r = reach_word D w ws (reach D ws) l saved puts n p s r
