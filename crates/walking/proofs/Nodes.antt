-- What follows a word of a row, by what it comes to.
use Prim.Native.Nat.{ℕ, zero, suc, ◌+◌, ◌-◌, ◌/◌, ◌%◌, ◌^◌, ◌≤◌, ◌<◌}
use mathlib.Core.Path.{◌≡◌, refl, sym, ◌∙◌}
use mathlib.Core.Bool.{Bool, true, false, cond, ◌&&◌, ◌||◌, not, and-eq-true_iff}
use mathlib.Core.Option.{Option, none, some}
use mathlib.Core.List.{List}
use native.Mathlib.Omega.{arith}
use lib.Dec.{leb, ltb, eqb}
use lib.ListN.{length, get_or, take, drop}
use borrow.Author.Tests.{leb-true, lt-leb}
use Rattle.clause.specs.Clause.{literals, max_literals}
use Rattle.machine.specs.Instr.{Instr, First, Do, Success, instruction, instr_of}
use Rattle.machine.specs.Machine.{State, Effect, next, fails, stuck, step, enter, finish, require}
use Rattle.tree.specs.Keys.{first_key}
use Rattle.tree.specs.Laid.{key_of, extent_of}
use Rattle.walk.specs.Walk.{covered, not_covered, broken, Part, and_then, follow, tries, visit_at, up_to}
use Rattle.walk.specs.Words.{extends, walk_words}
use Rattle.walk.specs.Query.{machine}
use Rattle.cells.specs.Inner.Cells.{entered}
use Rattle.cells.specs.declared.Above.TheVariants.{First as Above-as-First}
use Rattle.cells.proofs.Region.{instr_of_word}
use Rattle.cells.proofs.Rows.{row_broken, row_node}
use Rattle.stepping.specs.Inner.Visits.{Met, past, bad, hit, firsts, below, stepped, reached, met_as, meeting}

-- a word that extends has an extent within its region
pub extends_within : (w n : ℕ) → extends w n ≡ true → (1 ≤ extent_of w) × (extent_of w ≤ suc n)
unfolding extends
extends_within w n h =
    let low : Bool = leb 1 (extent_of w) in
    let high : Bool = leb (extent_of w) (suc n) in
    let (front, last) = (and-eq-true_iff (low && high) (not (ltb (key_of w) first_key) || eqb (extent_of w) 1)).0 h in
    let (l, u) = (and-eq-true_iff low high).0 front in
    (leb-true 1 (extent_of w) l, leb-true (extent_of w) (suc n) u)

-- a word that extends has an extent
pub extends_some : (w n : ℕ) → extends w n ≡ true → 1 ≤ extent_of w
unfolding extends
extends_some w n e = go (extent_of w) refl
  where
    go : (x : ℕ) → extent_of w ≡ x → 1 ≤ extent_of w
    go zero f = let z : false ≡ true = rw (lt-leb 1 (extent_of w) (omega arith)) at e in cc
    go (suc x) f = omega arith

-- what follows a word: what it comes to, with the walk below it
unfoldable pub going_on : List ℕ → (budget number : ℕ) → Met → (State → Part State) → Part State
going_on d b n past k c = not_covered c
going_on d b n bad k c = broken
going_on d b n (hit s) k c = covered n s c
going_on d b n (firsts s) k c = entered d b Above-as-First k s c
going_on d b n (below s) k c = k s c

-- the number of a Success is its operand
number : (op x n : ℕ) → instruction op x ≡ some (Success n) → n ≡ x
unfolding instruction
number zero x n e = cc
number (suc zero) x n e = cc
number (suc (suc zero)) x n e = cc
number (suc (suc (suc zero))) x n e = cc
number (suc (suc (suc (suc zero)))) x n e = cc
number (suc (suc (suc (suc (suc zero))))) x n e = cc
number (suc (suc (suc (suc (suc (suc zero)))))) x n e = cc
number (suc (suc (suc (suc (suc (suc (suc zero))))))) x n e = cc
number (suc (suc (suc (suc (suc (suc (suc (suc zero)))))))) x n e = cc
number (suc (suc (suc (suc (suc (suc (suc (suc (suc op))))))))) x n e = cc

module _ (d : List ℕ) (b n : ℕ) (k : State → Part State) (s : State) (c : ℕ) where
  follow_step : (o : Effect State) → follow o k c ≡ going_on d b n (stepped o) k c
  unfolding going_on stepped
  follow_step (next t) = refl
  follow_step fails = refl
  follow_step stuck = refl

  follow_finish : (o : Effect State) → follow o (covered n) c ≡ going_on d b n (reached o) k c
  unfolding going_on reached
  follow_finish (next t) = refl
  follow_finish fails = refl
  follow_finish stuck = refl

  -- a First: with eight candidates so far it is broken
  try_first : (q : ℕ) → length (literals d) ≡ suc q → (e : Bool) → ltb (length s.chosen) max_literals ≡ e
      → tries (machine d) (up_to b) k s (length (literals d)) 0 c ≡ going_on d b n (cond (ltb (length s.chosen) max_literals) (firsts s) bad) k c
  unfolding going_on entered enter require
  try_first q l true e = rw e
  try_first q l false e = rw (e, l, e)

  visit_met : (q : ℕ) → length (literals d) ≡ suc q → (o : Option Instr) → ((m : ℕ) → o ≡ some (Success m) → m ≡ n)
      → visit_at (machine d) (up_to b) o k s c ≡ going_on d b n (met_as d o s) k c
  unfolding going_on met_as
  visit_met q l none i = refl
  visit_met q l (some First) i = try_first q l (ltb (length s.chosen) max_literals) refl
  visit_met q l (some (Do x)) i = follow_step (step d x s)
  visit_met q l (some (Success m)) i = rw (i m refl) (follow_finish (finish s))

-- at the first word of a row: what it comes to, then its siblings
module _ (d : List ℕ) (b : ℕ) (T : List ℕ) (h : 0 < length T) (s : State) (c : ℕ) (q : ℕ) (l : length (literals d) ≡ suc q) where
  pub meets :
      (x : ℕ) → x ≡ extent_of (get_or T 0 0)
      → walk_words (machine d) (up_to b) T s c
      ≡ and_then (going_on d b (get_or T 0 0 / 2 ^ 28 % 2 ^ 32) (meeting d (get_or T 0 0) (length T) s) (walk_words (machine d) (up_to b) (take (x - 1) (drop 1 T))) c)
      (walk_words (machine d) (up_to b) (drop x T) s)
  unfolding meeting going_on
  meets x e = go (extends (get_or T 0 0) (length T - 1)) refl
    where
      no_more : length T - 0 - 1 ≡ length T - 1
      no_more = omega arith

      go :
          (v : Bool) → extends (get_or T 0 0) (length T - 1) ≡ v
          → walk_words (machine d) (up_to b) T s c
          ≡ and_then (going_on d b (get_or T 0 0 / 2 ^ 28 % 2 ^ 32) (meeting d (get_or T 0 0) (length T) s) (walk_words (machine d) (up_to b) (take (x - 1) (drop 1 T))) c)
          (walk_words (machine d) (up_to b) (drop x T) s)
      go false f = rw (row_broken (machine d) (up_to b) T 0 h s c (rw no_more f), f)
      go true f =
          let w = get_or T 0 0 in
          let k = walk_words (machine d) (up_to b) (take (x - 1) (drop 1 T)) in
          let y : 0 + x - (0 + 1) ≡ x - 1 = omega arith in
          let z : 0 + x ≡ x = omega arith in
          let u : 0 + 1 ≡ 1 = omega arith in
          let r = row_node (machine d) (up_to b) T 0 h s c x e (rw e (extends_some w (length T - 1) f)) (rw no_more f) in
          rw (y, u, z) at r
          ∙ rw (f, visit_met d b (w / 2 ^ 28 % 2 ^ 32) k s c q l (instr_of (key_of w)) (λ m g. number (w / 2 ^ 60) (w / 2 ^ 28 % 2 ^ 32) m (sym (instr_of_word w) ∙ g)))
