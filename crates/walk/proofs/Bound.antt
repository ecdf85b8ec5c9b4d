-- A walk that uses no literal twice on a path counts at most leaves × (q + q·(q − 1) + ..), of m summands where no path has more than m Firsts; so at
-- most leaves × (q + q² + .. + q^m).
use mathlib.Core.Path.{◌≡◌, refl, ◌∙◌}
use mathlib.Core.Bool.{Bool}
use mathlib.Core.Logic.{◌≢◌}
use mathlib.Core.Option.{Option, none, some}
use mathlib.Core.List.{List}
use Prim.Native.Nat.{ℕ, zero, suc, ◌+◌, ◌-◌, ◌*◌, ◌^◌, ◌≤◌, ◌<◌, suc-le-suc}
use native.Mathlib.Nat.{mul-add, add-mul, mul-suc, mul_left_comm, mul-le-mul, mul-le-mul_left, pow-succ', pow-zero}
use native.Mathlib.Omega.{arith}
use Rattle.clause.specs.Clause.{max_literals}
use Rattle.machine.specs.Instr.{Step, Instr, First, Do, Success, instr_of}
use Rattle.machine.specs.Machine.{Effect, next, fails, stuck}
use Rattle.tree.specs.Keys.{next_key}
use Rattle.tree.specs.Laid.{max_kept}
use Rattle.tree.specs.Forest.{Forest, empty, node, leaf?, leaves, Formed}
use Rattle.walk.specs.Walk.{Machine, Answer, covered, Part, and_then, attempt, tries, visit_at, walk}
use Rattle.walk.specs.Ceiling.{powers, arrangements, full_budget, enough_budget}
use Rattle.tree.proofs.InsertWords.{leaf_number}
use Rattle.walk.proofs.Paths.{Leads, FullAt, Full, firsts}
use Rattle.walk.proofs.Shallow.{ShallowAt, Shallow, shallow}
use Rattle.walk.proofs.Count.{Counts, of_covered, of_not_covered, of_broken, counts_map, ends_then, ends_follow, ends_attempt}

-- the powers, first factor first
powers_suc : (q m : ℕ) → powers q (suc m) ≡ q * suc (powers q m)
powers_suc q zero = rw (pow-succ', pow-zero) (omega arith)
powers_suc q (suc m) =
    omega (
      arith,
      powers_suc q m,
      pow-succ' q (suc m),
      mul-suc q (powers q m),
      mul-suc q (powers q m + q ^ suc m),
      mul-add q (powers q m) (q ^ suc m),
    )

-- the powers rise with both of their numbers
pub powers_le : (q q' m m' : ℕ) → q ≤ q' → m ≤ m' → powers q m ≤ powers q' m'
powers_le q q' zero m' h g = omega arith
powers_le q q' (suc m) zero h g = absurd (omega arith)
powers_le q q' (suc m) (suc m') h g = rw (powers_suc q m, powers_suc q' m') (mul-le-mul h (suc-le-suc (powers_le q q' m m' h (omega arith))))

-- the arrangements do too, and are no more than the powers
pub arrangements_le : (q q' m m' : ℕ) → q ≤ q' → m ≤ m' → arrangements q m ≤ arrangements q' m'
arrangements_le q q' zero m' h g = omega arith
arrangements_le q q' (suc m) zero h g = absurd (omega arith)
arrangements_le q q' (suc m) (suc m') h g = mul-le-mul h (suc-le-suc (arrangements_le (q - 1) (q' - 1) m m' (omega arith) (omega arith)))

pub arrangements_powers : (f q m : ℕ) → f ≤ q → arrangements f m ≤ powers q m
arrangements_powers f q zero h = omega arith
arrangements_powers f q (suc m) h = rw (powers_suc q m) (mul-le-mul h (suc-le-suc (arrangements_powers (f - 1) q m (omega arith))))

-- so the full budget is no less than the one that is enough
pub enough_full : enough_budget ≤ full_budget
enough_full = mul-le-mul_left max_kept (arrangements_powers max_literals max_literals max_literals (omega arith))

-- a well-formed forest with a node has a leaf
leaves_pos : (b : ℕ) (F : Forest) → Formed b F → F ≢ empty → 0 < leaves F
leaves_pos b empty f h = absurd (h refl)
leaves_pos b (node i empty R) f h = omega (arith, leaf_number i f.shape)
leaves_pos b (node i (node j C S) R) f h = omega (arith, leaves_pos 0 (node j C S) f.below (λ e. cc))

-- a part of the walk that counts at most x
abbrev Adds : {S : Type 0} → ℕ → Part S → Type 0
Adds x k = (c : ℕ) → Counts (λ d. d ≤ c + x) (k c)

-- one part, then the next
adds_then : {S : Type 0} {a : Answer S} {k : Part S} (x y c : ℕ) → Counts (λ d. d ≤ c + x) a → Adds y k → Counts (λ d. d ≤ c + (x + y)) (and_then a k)
adds_then x y c h k = ends_then h (λ d l. omega arith) (λ d l. counts_map (λ e l'. omega arith) (k d))

-- n candidates, with l × g at most below each, come to at most l × (n × (1 + g))
spread : (n l g : ℕ) → 0 < l → n * suc (l * g) ≤ l * (n * suc g)
spread n l g h = rw (mul_left_comm l n (suc g)) (mul-le-mul_left n (omega (arith, mul-suc l g)))

-- how many literals a machine does not pass over in a state: among n from literal j on
pub record Spares (M : Machine) : Type 0 where
  pub spare : (n j : ℕ) → M.State → ℕ
  -- one that is passed over does not count, one that is taken does, and after it there is one less
  pub over : (n j : ℕ) (s : M.State) → spare n (suc j) s ≤ spare (suc n) j s
  pub taken : (n j : ℕ) (s t : M.State) → M.enter j s ≡ next t → spare n (suc j) s < spare (suc n) j s
  pub less : (j : ℕ) (s t : M.State) → j < M.query_literals → M.enter j s ≡ next t → spare M.query_literals 0 t < spare M.query_literals 0 s
  pub few : (s : M.State) → spare M.query_literals 0 s ≤ M.query_literals
  -- a step leaves them
  pub steady : (x : Step) (s t : M.State) → M.step x s ≡ next t → spare M.query_literals 0 t ≡ spare M.query_literals 0 s

module _ (M : Machine) (P : Spares M) (allow : ℕ → Bool) where
  abbrev q : ℕ
  q = M.query_literals

  -- n literals from j on, at most r of them not passed over, each of these with at most x below it
  adds_tries : (x : ℕ) (below : M.State → Part M.State) (s : M.State)
      → ((j : ℕ) (t : M.State) → j < q → M.enter j s ≡ next t → Adds x (below t))
      → (n j : ℕ) → n + j ≤ q → (r : ℕ) → P.spare n j s ≤ r → Adds (r * suc x) (tries M allow below s n j)
  adds_tries x below s h zero j l r g c = of_not_covered {c = c} (omega arith)
  adds_tries x below s h (suc n) j l r g c = go (adds_tries x below s h n (suc j) (omega arith)) (M.enter j s) refl r g
    where
      go :
          ((r : ℕ) → P.spare n (suc j) s ≤ r → Adds (r * suc x) (tries M allow below s n (suc j)))
          → (o : Effect M.State) → M.enter j s ≡ o → (r : ℕ) → P.spare (suc n) j s ≤ r
          → Counts (λ d. d ≤ c + r * suc x) (and_then (attempt allow o below c) (tries M allow below s n (suc j)))
      go rest fails e r g = rest r (omega (arith, P.over n j s)) c
      go rest stuck e r g = of_broken
      go rest (next t) e zero g = absurd (omega (arith, P.taken n j s t e))
      go rest (next t) e (suc r) g =
          counts_map (λ d u. omega arith)
          (adds_then (suc x) (r * suc x) c
          (ends_attempt allow below c (next t) (λ f. omega arith) (λ u f. counts_map (λ d v. omega arith) (h j u (omega arith) (e ∙ f) (suc c))))
          (rest r (omega (arith, P.taken n j s t e))))

  -- a node
  adds_visit :
      (o : Option Instr) (B : Forest) (m : ℕ) → Formed 0 B → FullAt o B (Full B) → ShallowAt o m (Shallow B)
      → ((m : ℕ) → Full B → Shallow B m → (s : M.State) (f : ℕ) → P.spare q 0 s ≤ f → Adds (leaves B * arrangements f m) (walk M allow B s))
      → (s : M.State) (f : ℕ) → P.spare q 0 s ≤ f → Adds (leaves B * arrangements f m) (visit_at M allow o (walk M allow B) s)
  adds_visit none B m b f h ih s r g c = of_broken
  adds_visit (some (Success n)) B m b f h ih s r g c = ends_follow (covered n) c (M.finish s) (omega arith) (λ t e. of_covered {c = c} (omega arith))
  adds_visit (some First) B zero b f h ih s r g c = elim h [ ]
  adds_visit (some First) B (suc m) b f h ih s r g c =
      let l : ℕ = leaves B in
      let a : ℕ = arrangements (r - 1) m in
      let fits : r * suc (l * a) ≤ l * (r * suc a) = spread r l a (leaves_pos 0 B b f.0) in
      counts_map (λ e u. omega arith)
      (adds_tries (l * a) (walk M allow B) s (λ j t i e. ih m f.1 h t (r - 1) (omega (arith, P.less j s t i e))) q 0 (omega arith) r g c)
  adds_visit (some (Do x)) B m b f h ih s r g c =
      ends_follow (walk M allow B) c (M.step x s) (omega arith) (λ t e. ih m f.1 h t r (omega (arith, P.steady x s t e)) c)

  -- a forest
  adds_walk : (F : Forest) (m b : ℕ) → Formed b F → Full F → Shallow F m → (s : M.State) (r : ℕ) → P.spare q 0 s ≤ r
      → Adds (leaves F * arrangements r m) (walk M allow F s)
  adds_walk empty m b g f h s r l c = of_not_covered {c = c} (omega arith)
  adds_walk (node i B R) m b g f h s r l c =
      let p : ℕ = arrangements r m in
      counts_map (λ e u. omega (arith, add-mul (leaf? i) (leaves B + leaves R) p, add-mul (leaves B) (leaves R) p))
      (adds_then (leaves B * p) (leaves R * p) c
      (adds_visit (instr_of i) B m g.below f.0 h.0 (λ m'. adds_walk B m' 0 g.below) s r l c)
      (adds_walk R m (next_key i) g.rest f.1 h.1 s r l))

  -- the count is at most the arrangements, times the leaves
  pub count_bound :
      (F : Forest) (m : ℕ) → Formed 0 F → Full F → ((p : List ℕ) (n : ℕ) → Leads F p n → firsts p ≤ m)
      → (s : M.State) → Counts (λ c. c ≤ leaves F * arrangements q m) (walk M allow F s 0)
  count_bound F m g f h s = counts_map (λ c l. omega arith) (adds_walk F m 0 g f (shallow F m f h) s q (P.few s) 0)
