-- The Compares at a literal's end: they pass exactly if each of its variables stands for the term of its first put.
use mathlib.Core.Path.{◌≡◌, refl, sym, ap, ◌∙◌}
use mathlib.Core.Option.{none, some}
use mathlib.Core.Bool.{Bool, true, false, cond, and-eq-true_iff, true≢false}
use mathlib.Core.List.{List, [], ◌∷◌, ◌++◌, map}
use Prim.Native.Nat.{ℕ, zero, suc, ◌≤◌, ◌<◌}
use native.Mathlib.Decide.{ℕ_discrete}
use native.Mathlib.Omega.{arith}
use lib.ListN.{length, get_or}
use lib.Dec.{eqb, ltb, leb}
use borrow.Author.Tests.{lt-ltb, le-leb, eq-eqb, eqb-true, ltb-true, leb-true}
use Rattle.clause.specs.Lists.{All, none as All-none, also, alike}
use Rattle.clause.specs.Clause.{term_at}
use Rattle.machine.specs.Instr.{Step, Compare, Instr, Do}
use Rattle.machine.specs.Compile.{first, repeats, compares}
use Rattle.machine.specs.Machine.{slots, State, Effect, next, fails, require, compare_terms, same_terms, step_at, step_from, step, run}
use Rattle.clause.proofs.Lists.{alike_same, alike_refl, all_flat_map, flat_map_all, all_up_to, numbers_below_all, all_head, all_tail}
use Rattle.machine.proofs.Effects.{fails≢next}

first_here : (u : ℕ) (us : List ℕ) → first u (u ∷ us) ≡ 0
unfolding first
first_here u us = rw (eq-eqb u u refl)

-- the first put of a variable is not later than any other, and puts that variable
pub first_le : (us : List ℕ) (k : ℕ) → k < length us → first (get_or us k 0) us ≤ k
unfolding first
first_le [] k h = absurd (omega arith)
first_le (u ∷ us) zero h = omega (arith, first_here u us)
first_le (u ∷ us) (suc k) h = go (eqb u (get_or us k 0)) (first_le us k (omega arith))
  where
    go : (b : Bool) → first (get_or us k 0) us ≤ k → cond b zero (suc (first (get_or us k 0) us)) ≤ suc k
    go true i = omega arith
    go false i = omega arith

pub first_get : (us : List ℕ) (k : ℕ) → k < length us → get_or us (first (get_or us k 0) us) 0 ≡ get_or us k 0
unfolding first
first_get [] k h = absurd (omega arith)
first_get (u ∷ us) zero h = rw (first_here u us)
first_get (u ∷ us) (suc k) h = go (eqb u (get_or us k 0)) refl (first_get us k (omega arith))
  where
    go : (b : Bool) → eqb u (get_or us k 0) ≡ b → get_or us (first (get_or us k 0) us) 0 ≡ get_or us k 0
        → get_or (u ∷ us) (cond b zero (suc (first (get_or us k 0) us))) 0 ≡ get_or us k 0
    go true e i = eqb-true u (get_or us k 0) e
    go false e i = i

-- what a test of `repeats` says
pub repeats_true : (puts : List ℕ) (from m k : ℕ) → repeats puts from m k ≡ true → (from ≤ k) × (m < k) × (first (get_or puts k 0) puts ≡ m)
unfolding repeats
repeats_true puts from m k e =
    let (a, b) = (and-eq-true_iff (leb from k) _).0 e in
    let (b, c) = (and-eq-true_iff (ltb m k) _).0 b in
    (leb-true from k a, ltb-true m k b, eqb-true _ m c)

repeats_first : (puts : List ℕ) (from k : ℕ) → from ≤ k → first (get_or puts k 0) puts < k → repeats puts from (first (get_or puts k 0) puts) k ≡ true
unfolding repeats
repeats_first puts from k h g = rw (le-leb from k h, lt-ltb _ k g, eq-eqb (first (get_or puts k 0) puts) _ refl)

-- what holds of all Compares holds of each, and the other way round
module _ {κ} {P : Step → Type κ} (puts : List ℕ) (from : ℕ) where
  pub compares_all : ((m k : ℕ) → m < length puts → k < length puts → repeats puts from m k ≡ true → P (Compare m k)) → All P (compares puts from)
  unfolding compares
  compares_all h =
      all_flat_map _ (all_up_to (length puts) (λ m i. all_flat_map _ (all_up_to (length puts) (λ k j. go m k i j (repeats puts from m k) refl))))
    where
      go : (m k : ℕ) → m < length puts → k < length puts → (b : Bool) → repeats puts from m k ≡ b → All P (cond b (Compare m k ∷ []) [])
      go m k i j true e = also (h m k i j e) All-none
      go m k i j false e = All-none

  pub compares_each : All P (compares puts from) → (m k : ℕ) → m < length puts → k < length puts → repeats puts from m k ≡ true → P (Compare m k)
  unfolding compares
  compares_each p m k i j e =
      all_head (rw e at (numbers_below_all (length puts) (flat_map_all _ _ (numbers_below_all (length puts) (flat_map_all _ _ p) m i)) k j))

-- an effect goes on as r does if P holds, and fails if it does not
pub data GoesIf (P : Type 0) (o r : Effect State) : Type 0 where
  holds : P → o ≡ r → GoesIf P o r
  refuted : (P → ⊥) → o ≡ fails → GoesIf P o r

pub goes_if_iff : {P Q : Type 0} {o r : Effect State} → (P → Q) → (Q → P) → GoesIf P o r → GoesIf Q o r
goes_if_iff f g (holds p e) = holds (f p) e
goes_if_iff f g (refuted n e) = refuted (λ q. n (g q)) e

pub goes_if_from : {P : Type 0} {o o' r : Effect State} → o ≡ o' → GoesIf P o' r → GoesIf P o r
goes_if_from e (holds p f) = holds p (e ∙ f)
goes_if_from e (refuted n f) = refuted n (e ∙ f)

-- an effect that can go on does so exactly if P holds
pub goes_if_next : {P : Type 0} {o : Effect State} {s t : State} → GoesIf P o (next t) → o ≡ next s → P
goes_if_next (holds p e) f = p
goes_if_next (refuted n e) f = absurd (fails≢next (sym e ∙ f))

pub goes_if_then : {P : Type 0} {o r : Effect State} → GoesIf P o r → P → o ≡ r
goes_if_then (holds p e) q = e
goes_if_then (refuted n e) q = absurd (n q)

-- a list of tests passes whole, or fails
abbrev Passes : List ℕ → State → Step → Type 0
Passes d s x = step d x s ≡ next s

module _ (d : List ℕ) (sequence : List Instr) (js : List ℕ) (s : State) where
  run_next : (x : Step) (after : List Instr) → step d x s ≡ next s → run d (Do x ∷ after) js s ≡ run d after js s
  unfolding run
  run_next x after e = rw e

  run_fail : (x : Step) (after : List Instr) → step d x s ≡ fails → run d (Do x ∷ after) js s ≡ fails
  unfolding run
  run_fail x after e = rw e

  run_tests : {tests : List Step} → All (λ x. GoesIf (Passes d s x) (step d x s) (next s)) tests
      → GoesIf (All (Passes d s) tests) (run d (map Do tests ++ sequence) js s) (run d sequence js s)
  run_tests All-none = holds All-none refl
  run_tests (also {x = x} (refuted n e) p) = refuted (λ q. n (all_head q)) (run_fail x _ e)
  run_tests (also {x = x} {xs = xs} (holds h e) p) = go (run_tests p)
    where
      go : GoesIf (All (Passes d s) xs) (run d (map Do xs ++ sequence) js s) (run d sequence js s)
          → GoesIf (All (Passes d s) (x ∷ xs)) (run d (Do x ∷ (map Do xs ++ sequence)) js s) (run d sequence js s)
      go (holds q f) = holds (also h q) (run_next x _ e ∙ f)
      go (refuted n f) = refuted (λ q. n (all_tail q)) (run_next x _ e ∙ f)

-- from put `from` on each variable stands for the term of its first put
abbrev pub Consistent : List ℕ → (puts poss : List ℕ) (from : ℕ) → Type 0
Consistent d puts poss from = (k : ℕ) → from ≤ k → k < length puts → term_at d (get_or poss (first (get_or puts k 0) puts) 0) ≡ term_at d (get_or poss k 0)

module _ (d : List ℕ) (s : State) (c : ℕ) (at : s.head ≡ some c) (m k p q : ℕ) (i : m < slots) (j : k < slots)
    (e : get_or s.puts m none ≡ some p) (f : get_or s.puts k none ≡ some q) where
  compare_is : step d (Compare m k) s ≡ require fails (alike (term_at d p) (term_at d q)) (next s)
  unfolding step step_from step_at require compare_terms same_terms
  compare_is = rw (at, lt-ltb m slots i, lt-ltb k slots j, e, f)

  step_compare : GoesIf (term_at d p ≡ term_at d q) (step d (Compare m k) s) (next s)
  unfolding require
  step_compare = rw compare_is (go (alike (term_at d p) (term_at d q)) refl)
    where
      go : (b : Bool) → alike (term_at d p) (term_at d q) ≡ b → GoesIf (term_at d p ≡ term_at d q) (require fails b (next s)) (next s)
      go true t = holds (alike_same _ _ t) refl
      go false t = refuted (λ g. let u : alike (term_at d p) (term_at d q) ≡ true = rw g (alike_refl (term_at d q)) in true≢false (sym u ∙ t)) refl

module _ (d : List ℕ) (sequence : List Instr) (js : List ℕ) (s : State) (c : ℕ) (at : s.head ≡ some c) (puts poss : List ℕ) (few : length puts ≤ slots)
    (filled : (i : ℕ) → i < length puts → get_or s.puts i none ≡ some (get_or poss i 0)) where
  -- one of the Compares
  one : (m k : ℕ) → m < length puts → k < length puts
      → GoesIf (term_at d (get_or poss m 0) ≡ term_at d (get_or poss k 0)) (step d (Compare m k) s) (next s)
  one m k i j = step_compare d s c at m k (get_or poss m 0) (get_or poss k 0) (omega arith) (omega arith) (filled m i) (filled k j)

  all_pass : (from : ℕ) → Consistent d puts poss from → All (Passes d s) (compares puts from)
  all_pass from h =
      compares_all puts from λ m k i j e.
      let (a, b, f) = repeats_true puts from m k e in
      goes_if_then (one m k i j) (rw f at (h k a j))

  consistent : (from : ℕ) → All (Passes d s) (compares puts from) → Consistent d puts poss from
  consistent from p k h j = go (ℕ_discrete (first (get_or puts k 0) puts) k)
    where
      go : Dec (first (get_or puts k 0) puts ≡ k) → term_at d (get_or poss (first (get_or puts k 0) puts) 0) ≡ term_at d (get_or poss k 0)
      go (yes e) = ap (λ i. term_at d (get_or poss i 0)) e
      go (no n) =
          let g : first (get_or puts k 0) puts < k = omega (arith, first_le puts k j) in
          let e = compares_each puts from p (first (get_or puts k 0) puts) k (omega arith) j (repeats_first puts from k h g) in
          goes_if_next (one (first (get_or puts k 0) puts) k (omega arith) j) e

  pub run_compares : (from : ℕ) → GoesIf (Consistent d puts poss from) (run d (map Do (compares puts from) ++ sequence) js s) (run d sequence js s)
  run_compares from =
      goes_if_iff (consistent from) (all_pass from)
      (run_tests d sequence js s
      (compares_all puts from λ m k i j e. goes_if_iff (λ h. goes_if_then (one m k i j) h) (λ h. goes_if_next (one m k i j) h) (one m k i j)))
