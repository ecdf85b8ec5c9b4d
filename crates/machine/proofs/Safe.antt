-- On an accepted query no instruction, of any sequence, leads out of the query.
use mathlib.Core.Path.{◌≡◌, refl, sym, ◌∙◌, subst}
use mathlib.Core.Option.{Option, none, some, some-injective, none-ne-some}
use mathlib.Core.Bool.{Bool, true, false}
use mathlib.Core.List.{List}
use Prim.Native.Nat.{ℕ, zero, suc, ◌<◌}
use native.Mathlib.Decide.{ℕ_discrete, dec_lt}
use native.Mathlib.Omega.{arith}
use lib.ListN.{length, get_or, set}
use lib.Seq.{get_or-set_same, get_or-set_other, set_out}
use Rattle.clause.specs.Lists.{none as All-none, also}
use Rattle.clause.specs.Clause.{literals, start_of}
use Rattle.machine.specs.Instr.{Step, Down, Right, Put, Push, Pop, Check, Compare}
use Rattle.machine.specs.Machine.{onto, down, right, State, initial, headed, pushing, given, Effect, next, fails, stuck, require, compare_terms}
use Rattle.machine.specs.Machine.{step_at, step_from, step, starting}
use Rattle.machine.specs.Inner.Safe.{Safe}
use Rattle.clause.proofs.Lists.{all_append}
use Rattle.clause.proofs.Literals.{Clause}
use Rattle.clause.proofs.Siblings.{enough_start, down_inside, right_inside}
use Rattle.machine.proofs.Effects.{fails≢next, stuck≢next}
use Rattle.machine.proofs.Table.{unfilled_get}
use Rattle.clause.proofs.Jump.{enough_here}

-- a position that is stood at
onto_some : (terms at : ℕ) {q : ℕ} → onto terms at ≡ some q → (l : ℕ) × (terms ≡ suc l) × (at ≡ q)
unfolding onto
onto_some zero at {q} e = absurd (none-ne-some q e)
onto_some (suc l) at e = (l, refl, cc)

module _ (d : List ℕ) (D : Clause d) (p q : ℕ) (h : p < length d) where
  pub down_in : down d p ≡ some q → q < length d
  unfolding down
  down_in e = let (a, f, g) = onto_some _ _ e in rw (← g) (down_inside d D p a h f)

  pub right_in : right d p ≡ some q → q < length d
  unfolding right
  right_in e = let (l, f, g) = onto_some _ _ e in rw (← g) (right_inside d D p l h f)

pub start_in : (d : List ℕ) → Clause d → (j : ℕ) → j < length (literals d) → start_of d j < length d
start_in d D j h = enough_here d 0 (start_of d j) (enough_start d D j h)

-- what holds of all entries of a table holds after one more
set_entry : {A : Type 0} (P : A → Type 0) (l : List (Option A)) (n : ℕ) (x : A) → P x → ((k : ℕ) (a : A) → get_or l k none ≡ some a → P a)
    → (k : ℕ) (a : A) → get_or (set l n (some x)) k none ≡ some a → P a
set_entry P l n x p h k a e = go (ℕ_discrete k n) (dec_lt n (length l))
  where
    go : Dec (k ≡ n) → Dec (n < length l) → P a
    go (no m) b = h k a (sym (get_or-set_other l n k (some x) none m) ∙ e)
    go (yes q) (yes b) = let f : x ≡ a = some-injective x a (sym (get_or-set_same l n (some x) none b) ∙ rw q at e) in rw f at p
    go (yes q) (no b) = h k a (rw (set_out l n (some x) (omega arith)) at e)

-- an effect that goes on had its test passed, or its position given
goes : (o : Effect State) (b : Bool) (r : Effect State) {t : State} → ((t : State) → o ≡ next t → ⊥) → require o b r ≡ next t → r ≡ next t
unfolding require
goes o true r n e = e
goes o false r n e = absurd (n _ e)

given_next : (o : Option ℕ) (f : ℕ → State) {t : State} → given o f ≡ next t → (c : ℕ) × (o ≡ some c) × (f c ≡ t)
unfolding given
given_next none f e = absurd (stuck≢next e)
given_next (some c) f e = (c, refl, cc)

module _ (d : List ℕ) (D : Clause d) (s : State) (S : Safe d s) where
  becomes : {r : Effect State} {t u : State} → r ≡ next t → r ≡ next u → Safe d u → Safe d t
  becomes {t = t} {u} e f h = let g : u ≡ t = cc in rw g at h

  headed_safe : (c : ℕ) → c < length d → Safe d (headed s c)
  headed_safe c v = record { chosen = S.chosen; head = λ c' e. subst (λ p. p < length d) (some-injective c c' e) v; puts = S.puts; pushes = S.pushes }

  pushed_safe : (n : ℕ) (c : ℕ) → c < length d → Safe d (pushing s n c)
  pushed_safe n c v = record { chosen = S.chosen; head = S.head; puts = S.puts; pushes = set_entry (λ p. p < length d) s.pushes n c v S.pushes }

  -- a head that is given
  given_safe : (o : Option ℕ) → ((c : ℕ) → o ≡ some c → c < length d) → {t : State} → given o (headed s) ≡ next t → Safe d t
  given_safe o h e = let (c, f, g) = given_next o (headed s) e in rw g at (headed_safe c (h c f))

  -- a new candidate
  pub starting_safe : (j : ℕ) → j < length (literals d) → Safe d (starting d s j)
  starting_safe j h =
      record {
        chosen = all_append S.chosen (also h All-none);
        head = λ c e. subst (λ p. p < length d) (some-injective _ c e) (start_in d D j h);
        puts = S.puts;
        pushes = S.pushes;
      }

  compare_safe : (p q : Option ℕ) {t : State} → compare_terms d s p q ≡ next t → Safe d t
  unfolding compare_terms
  compare_safe none q e = absurd (stuck≢next e)
  compare_safe (some p) none e = absurd (stuck≢next e)
  compare_safe (some p) (some q) e = becomes (goes fails _ _ (λ t. fails≢next) e) refl S

  step_at_safe : (x : Step) (c : ℕ) → c < length d → {t : State} → step_at d x s c ≡ next t → Safe d t
  unfolding step_at
  step_at_safe Down c v e = given_safe (down d c) (λ c'. down_in d D c c' v) e
  step_at_safe Right c v e = given_safe (right d c) (λ c'. right_in d D c c' v) e
  step_at_safe (Put k) c v e =
      becomes (goes stuck _ _ (λ t. stuck≢next) e) refl
      (record { chosen = S.chosen; head = S.head; puts = set_entry (λ p. p < length d) s.puts k c v S.puts; pushes = S.pushes })
  step_at_safe (Push n) c v e =
      let (c', f, g) = given_next (right d c) (pushing s n) (goes stuck _ _ (λ t. stuck≢next) e) in
      rw g at (pushed_safe n c' (right_in d D c c' v f))
  step_at_safe (Pop n) c v e = given_safe (get_or s.pushes n none) (S.pushes n) (goes stuck _ _ (λ t. stuck≢next) e)
  step_at_safe (Check w) c v e = becomes (goes fails _ _ (λ t. fails≢next) e) refl S
  step_at_safe (Compare m k) c v e = compare_safe _ _ (goes stuck _ _ (λ t. stuck≢next) (goes stuck _ _ (λ t. stuck≢next) e))

  -- any step
  pub step_safe : (x : Step) {t : State} → step d x s ≡ next t → Safe d t
  unfolding step step_from
  step_safe x {t} e = go s.head refl e
    where
      go : (o : Option ℕ) → s.head ≡ o → step_from d x s o ≡ next t → Safe d t
      go none f e = absurd (stuck≢next e)
      go (some c) f e = step_at_safe x c (S.head c f) e

-- a step that goes on leaves the candidates, and a head
pub record Leaves (s t : State) : Type 0 where
  pub candidates : t.chosen ≡ s.chosen
  pub position : ℕ
  pub there : t.head ≡ some position

module _ (d : List ℕ) (s : State) (p : ℕ) (h : s.head ≡ some p) where
  given_leaves : (o : Option ℕ) {t : State} → given o (headed s) ≡ next t → Leaves s t
  given_leaves o e = let (q, f, g) = given_next o (headed s) e in rw (← g) (record { candidates = refl; position = q; there = refl })

  -- with the head where it was
  same_leaves : {t u : State} → next u ≡ next t → u.chosen ≡ s.chosen → u.head ≡ some p → Leaves s t
  same_leaves {t} {u} e c f = let g : u ≡ t = cc in rw (← g) (record { candidates = c; position = p; there = f })

  compare_leaves : (a b : Option ℕ) {t : State} → compare_terms d s a b ≡ next t → Leaves s t
  unfolding compare_terms
  compare_leaves none b e = absurd (stuck≢next e)
  compare_leaves (some a) none e = absurd (stuck≢next e)
  compare_leaves (some a) (some b) e = same_leaves (goes fails _ _ (λ t. fails≢next) e) refl h

  step_at_leaves : (x : Step) (c : ℕ) {t : State} → step_at d x s c ≡ next t → Leaves s t
  unfolding step_at
  step_at_leaves Down c e = given_leaves (down d c) e
  step_at_leaves Right c e = given_leaves (right d c) e
  step_at_leaves (Put k) c e = same_leaves (goes stuck _ _ (λ t. stuck≢next) e) refl h
  step_at_leaves (Push n) c e =
      let (q, f, g) = given_next (right d c) (pushing s n) (goes stuck _ _ (λ t. stuck≢next) e) in
      rw (← g) (record { candidates = refl; position = p; there = h })
  step_at_leaves (Pop n) c e = given_leaves (get_or s.pushes n none) (goes stuck _ _ (λ t. stuck≢next) e)
  step_at_leaves (Check w) c e = same_leaves (goes fails _ _ (λ t. fails≢next) e) refl h
  step_at_leaves (Compare m k) c e = compare_leaves _ _ (goes stuck _ _ (λ t. stuck≢next) (goes stuck _ _ (λ t. stuck≢next) e))

pub step_leaves : (d : List ℕ) (s : State) (x : Step) {t : State} → step d x s ≡ next t → Leaves s t
unfolding step step_from
step_leaves d s x {t} e = go s.head refl e
  where
    go : (o : Option ℕ) → s.head ≡ o → step_from d x s o ≡ next t → Leaves s t
    go none f e = absurd (stuck≢next e)
    go (some c) f e = step_at_leaves d s c f x c e

pub initial_safe : (d : List ℕ) → Safe d initial
initial_safe d =
    record {
      chosen = All-none;
      head = λ c e. absurd (none-ne-some c e);
      puts = λ k p e. absurd (none-ne-some p (sym (unfilled_get k) ∙ e));
      pushes = λ n c e. absurd (none-ne-some c (sym (unfilled_get n) ∙ e));
    }
