-- The paths of a well-formed forest, listed: each once, as many as its Success nodes.
use mathlib.Core.Path.{◌≡◌, refl, ap}
use mathlib.Core.Logic.{◌⊎◌, inl, inr}
use mathlib.Core.List.{List, [], ◌∷◌, ◌++◌, map, tail-eq_of_cons-eq}
use Prim.Native.Nat.{ℕ, ◌≤◌}
use native.Mathlib.Omega.{arith}
use lib.Dec.{T}
use lib.ListN.{length, length-append, length-map}
use borrow.Author.Tests.{lt-ltb, le-ltb}
use Rattle.clause.specs.Lists.{All, none, also}
use Rattle.tree.specs.Keys.{first_key, lawful, next_key}
use Rattle.tree.specs.Forest.{Forest, empty, node, leaves, Formed, Has, leaf, deeper, further}
use Rattle.tree.specs.Entries.{Entry, Listed}
use Rattle.tree.specs.Inner.Books.{Apart}
use Rattle.tree.specs.Laws.{under, paths_of}
use Rattle.tree.proofs.Paths.{has_front}
use Rattle.tree.proofs.Held.{has_success}

-- ---- lists of entries

module _ (fs : List Entry) (cs : List ℕ) (n : ℕ) where
  listed_left : (es : List Entry) → Listed es cs n → Listed (es ++ fs) cs n
  listed_left [] p = absurd p
  listed_left (e ∷ es) (inl q) = inl q
  listed_left (e ∷ es) (inr p) = inr (listed_left es p)

  listed_right : (es : List Entry) → Listed fs cs n → Listed (es ++ fs) cs n
  listed_right [] p = p
  listed_right (e ∷ es) p = inr (listed_right es p)

  listed_cases : (es : List Entry) → Listed (es ++ fs) cs n → Listed es cs n ⊎ Listed fs cs n
  listed_cases [] p = inr p
  listed_cases (e ∷ es) (inl q) = inl (inl q)
  listed_cases (e ∷ es) (inr p) = go (listed_cases es p)
    where
      go : Listed es cs n ⊎ Listed fs cs n → Listed (e ∷ es) cs n ⊎ Listed fs cs n
      go (inl q) = inl (inr q)
      go (inr q) = inr q

listed_under : (i : ℕ) (cs : List ℕ) (n : ℕ) (es : List Entry) → Listed es cs n → Listed (map (under i) es) (i ∷ cs) n
listed_under i cs n [] p = absurd p
listed_under i cs n (e ∷ es) (inl (q, r)) = inl (ap (λ (l : List ℕ). i ∷ l) q, r)
listed_under i cs n (e ∷ es) (inr p) = inr (listed_under i cs n es p)

under_listed : (i : ℕ) (cs : List ℕ) (n : ℕ) (es : List Entry) → Listed (map (under i) es) cs n → (ds : List ℕ) × (cs ≡ i ∷ ds) × Listed es ds n
under_listed i cs n [] p = absurd p
under_listed i cs n (e ∷ es) (inl (q, r)) = (e.keys, q, inl (refl, r))
under_listed i cs n (e ∷ es) (inr p) = let (ds, q, r) = under_listed i cs n es p in (ds, q, inr r)

-- what holds of all that is listed
pub all_listed {κ} : {P : Entry → Type κ} (es : List Entry) → ((e : Entry) → Listed es e.keys e.number → P e) → All P es
all_listed [] f = none
all_listed (e ∷ es) f = also (f e (inl (refl, refl))) (all_listed es (λ d p. f d (inr p)))

-- ---- the paths of a forest

below_listed : (i : ℕ) (B R : Forest) (cs : List ℕ) (n : ℕ) → Listed (paths_of B) cs n → Listed (paths_of (node i B R)) (i ∷ cs) n
below_listed i empty R cs n p = absurd p
below_listed i (node j C S) R cs n p = listed_left (paths_of R) (i ∷ cs) n (map (under i) (paths_of (node j C S))) (listed_under i cs n (paths_of (node j C S)) p)

rest_listed : (i : ℕ) (B R : Forest) (cs : List ℕ) (n : ℕ) → Listed (paths_of R) cs n → Listed (paths_of (node i B R)) cs n
rest_listed i empty R cs n p = inr p
rest_listed i (node j C S) R cs n p = listed_right (paths_of R) cs n (map (under i) (paths_of (node j C S))) p

pub has_listed : {F : Forest} {cs : List ℕ} {n : ℕ} → Has F cs n → Listed (paths_of F) cs n
has_listed leaf = inl (refl, refl)
has_listed (deeper {c = c} {n = n} {cs = cs} {B = B} {R = R} p) = below_listed c B R cs n (has_listed p)
has_listed (further {i = i} {n = n} {cs = cs} {B = B} {R = R} p) = rest_listed i B R cs n (has_listed p)

pub listed_has : (F : Forest) (cs : List ℕ) (n : ℕ) → Listed (paths_of F) cs n → Has F cs n
listed_has empty cs n p = absurd p
listed_has (node i empty R) cs n (inl (q, r)) = rw (q, r) leaf
listed_has (node i empty R) cs n (inr p) = further (listed_has R cs n p)
listed_has (node i (node j C S) R) cs n p =
    go (listed_cases (paths_of R) cs n (map (under i) (paths_of (node j C S))) p) (λ ds. listed_has (node j C S) ds n) (listed_has R cs n)
  where
    go : Listed (map (under i) (paths_of (node j C S))) cs n ⊎ Listed (paths_of R) cs n → ((ds : List ℕ) → Listed (paths_of (node j C S)) ds n → Has (node j C S) ds n)
        → (Listed (paths_of R) cs n → Has R cs n) → Has (node i (node j C S) R) cs n
    go (inl q) ih jh = let (ds, e, r) = under_listed i cs n (paths_of (node j C S)) q in rw e (deeper (ih ds r))
    go (inr q) ih jh = further (jh q)

-- ---- each path once

apart_append : (es fs : List Entry) → Apart es → Apart fs → ((cs : List ℕ) (n m : ℕ) → Listed es cs n → Listed fs cs m → ⊥) → Apart (es ++ fs)
apart_append [] fs a b d = b
apart_append (e ∷ es) fs a b d =
    record { body = a.body; number = a.number; new = λ m p. new m (listed_cases fs e.keys m es p); rest = apart_append es fs a.rest b (λ cs n m p q. d cs n m (inr p) q) }
  where
    new : (m : ℕ) → Listed es e.keys m ⊎ Listed fs e.keys m → ⊥
    new m (inl p) = a.new m p
    new m (inr p) = d e.keys e.number m (inl (refl, refl)) p

apart_under : (i : ℕ) (es : List Entry) → first_key ≤ i → T (lawful i) → Apart es → Apart (map (under i) es)
apart_under i [] h t a = tt
apart_under i (e ∷ es) h t a =
    record {
      body = record { inside = h; legal = t; rest = a.body };
      number = a.number;
      new = λ m p. let (ds, q, r) = under_listed i (i ∷ e.keys) m es p in a.new m (rw (tail-eq_of_cons-eq q) r);
      rest = apart_under i es h t a.rest;
    }

pub apart_paths : (b : ℕ) (F : Forest) → Formed b F → Apart (paths_of F)
apart_paths b empty f = tt
apart_paths b (node i empty R) f =
    record {
      body = tt;
      number = f.shape;
      new = λ m p. let h = listed_has R [] m p in let u = has_front f.rest h in let v = has_success (next_key i) f.rest h in omega arith;
      rest = apart_paths (next_key i) R f.rest;
    }
apart_paths b (node i (node j C S) R) f =
    apart_append (map (under i) (paths_of (node j C S))) (paths_of R) (apart_under i (paths_of (node j C S)) f.shape f.legal (apart_paths 0 (node j C S) f.below))
    (apart_paths (next_key i) R f.rest) λ cs n m p q.
    let (ds, e, r) = under_listed i cs n (paths_of (node j C S)) p in
    let h : Has R (i ∷ ds) m = rw e at (listed_has R cs m q) in
    let u = has_front f.rest h in
    omega arith

pub length_paths : (b : ℕ) (F : Forest) → Formed b F → length (paths_of F) ≡ leaves F
length_paths b empty f = refl
length_paths b (node i empty R) f = rw (lt-ltb i first_key f.shape) (omega (arith, length_paths (next_key i) R f.rest))
length_paths b (node i (node j C S) R) f =
    rw (le-ltb i first_key f.shape, length-append, length-map)
    (omega (arith, length_paths 0 (node j C S) f.below, length_paths (next_key i) R f.rest))
