-- The numbers of the pairs whose clauses a given one subsumes.
use mathlib.Core.Path.{◌≡◌, refl, sym, ap}
use mathlib.Core.List.Memᴰ
use mathlib.Core.List.{List, [], ◌∷◌, Memᴰ}
use Prim.Native.Nat.{ℕ, ◌*◌, ◌≤◌, ◌<◌}
use native.Mathlib.Nat.{mul-le-mul_right}
use native.Mathlib.Omega.{arith}
use lib.ListN.{length}
use Rattle.clause.specs.Lists.{All, none, also, Each, nobody, besides}
use Rattle.clause.specs.Word.{Words}
use Rattle.clause.specs.Clause.{max_literals, Accepted, Subsumes}
use Rattle.machine.specs.Machine.{State}
use Rattle.tree.specs.Entries.{Pair}
use Rattle.tree.specs.Laid.{max_kept}
use Rattle.walk.specs.Walk.{Answer}
use Rattle.walk.specs.Ceiling.{arrangements, enough_budget}
use Rattle.walk.specs.Covering.{candidates}
use Rattle.backward.specs.Listing.{lone}
use Rattle.backward.specs.Laws.{tries_of, Picks, done, picked, passed}
use Rattle.backward.proofs.Lone.{Tries, subsuming, other, beyond, lone_tries, lone_few}
use Rattle.backward.proofs.Rising.{Below}

-- accepted clauses
abbrev pub AllAccepted : List Pair → Type 0
AllAccepted = All (λ p. Accepted p.clause)

module _ {c : List ℕ} where
  -- a number is picked exactly if it is that of a pair whose clause c subsumes
  pub picks_pair : {R : List Pair} {ns : List ℕ} {n : ℕ} → Picks c R ns → Memᴰ n ns → (p : Pair) × Memᴰ p R × (p.number ≡ n) × Subsumes c p.clause
  picks_pair done m = absurd (Memᴰ.not-nil m)
  picks_pair (picked {p = p} u P) (Memᴰ.head e) = (p, Memᴰ.head refl, sym e, u)
  picks_pair (picked u P) (Memᴰ.tail m) = let (q, i, e, v) = picks_pair P m in (q, Memᴰ.tail i, e, v)
  picks_pair (passed u P) m = let (q, i, e, v) = picks_pair P m in (q, Memᴰ.tail i, e, v)

  pub pair_picks : {R : List Pair} {ns : List ℕ} (p : Pair) → Picks c R ns → Memᴰ p R → Subsumes c p.clause → Memᴰ p.number ns
  pair_picks p done x7 u = elim x7 [ ]
  pair_picks p (picked v P) (Memᴰ.head e) u = Memᴰ.head (ap (λ x. x.number) e)
  pair_picks p (picked v P) (Memᴰ.tail m) u = Memᴰ.tail (pair_picks p P m u)
  pair_picks p (passed v P) (Memᴰ.head e) u = absurd (v (rw e at u))
  pair_picks p (passed v P) (Memᴰ.tail m) u = pair_picks p P m u

  -- what holds of the numbers of all pairs holds of those picked
  picks_all : {Q : ℕ → Type 0} {R : List Pair} {ns : List ℕ} → Picks c R ns → All (λ p. Q p.number) R → All Q ns
  picks_all done a = none
  picks_all (picked u P) (also h a) = also h (picks_all P a)
  picks_all (passed u P) (also h a) = picks_all P a

  -- they are at most as many
  pub picks_few : {R : List Pair} {ns : List ℕ} → Picks c R ns → length ns ≤ length R
  picks_few done = omega arith
  picks_few (picked u P) = omega (arith, picks_few P)
  picks_few (passed u P) = omega (arith, picks_few P)

  -- they rise where all numbers do
  pub picks_rise : {R : List Pair} {ns : List ℕ} → Picks c R ns → Each Below R → Each ◌<◌ ns
  picks_rise done e = nobody
  picks_rise (picked {p = p} u P) (besides a e) = besides {x = p.number} (picks_all P a) (picks_rise P e)
  picks_rise (passed u P) (besides a e) = picks_rise P e

module _ (c : List ℕ) (C : Accepted c) (w : Words c) where
  -- of accepted clauses there are such numbers
  pub picks : (R : List Pair) → AllAccepted R → (ns : List ℕ) × Picks c R ns
  picks [] a = ([], done)
  picks (p ∷ R) (also h a) = go (lone_tries c C w p.clause h (candidates (lone c) p.clause)) (picks R a)
    where
      go : {x : Answer State} → Tries c p.clause (candidates (lone c) p.clause) x → (ns : List ℕ) × Picks c R ns → (ns : List ℕ) × Picks c (p ∷ R) ns
      go (subsuming u e l) (ns, P) = (p.number ∷ ns, picked u P)
      go (other u e l) (ns, P) = (ns, passed u P)
      go (beyond l) (ns, P) = absurd (omega arith)

  -- their queries take at most so many candidates each
  tries_few : {R : List Pair} → AllAccepted R → tries_of c R ≤ length R * arrangements max_literals max_literals
  tries_few none = omega arith
  tries_few (also {x = p} {xs = R} h a) = omega (arith, lone_few c C w p.clause h, tries_few a)

  -- so the budget that is enough for a query of the most clauses is enough for all queries of so many
  pub tries_enough : {R : List Pair} → AllAccepted R → length R ≤ max_kept → tries_of c R ≤ enough_budget
  tries_enough a few = omega (arith, tries_few a, mul-le-mul_right (arrangements max_literals max_literals) few)
