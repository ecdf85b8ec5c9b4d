-- The used words of a well-laid slice, which the pass goes over.
use mathlib.Core.Path.{◌≡◌, refl, sym, ap, ◌∙◌}
use mathlib.Core.Bool.{Bool, true, false, cond, true≢false, and-eq-true_iff}
use mathlib.Core.Option.{none, some}
use mathlib.Core.List.{List, [], ◌∷◌}
use Prim.Native.Nat.{ℕ, ◌^◌, ◌≤◌, ◌<◌}
use native.Mathlib.Omega.{arith}
use lib.Dec.{eqb}
use lib.ListN.{length}
use Rattle.std.specs.Prelude.{Result, Ok, Err, IsOk}
use Rattle.clause.specs.Clause.{max_words}
use Rattle.tree.specs.Keys.{first_key}
use Rattle.tree.specs.Forest.{size, encode, find}
use Rattle.tree.specs.Laid.{max_kept, region, sized, well_laid, decode}
use Rattle.tree.specs.Entries.{Entry}
use Rattle.tree.specs.Laws.{Stands, paths_of, first_with}
use Rattle.tree.proofs.Grow.{laid_decode, sized_high}
use Rattle.tree.proofs.Words.{region_layout}
use Rattle.tree.proofs.Laws.{tree_laws}
use Rattle.readback.specs.Saved.{readable, all_readable, of_clauses}
use Rattle.readback.specs.Calls.{check, unread, written_out, read_back}
use Rattle.tree.specs.declared.Refusal.TheVariants.{NoSuchNumber}
use Rattle.readback.proofs.Listed.{length_paths}
use Rattle.readback.proofs.Laws.{Passing, check_passing, written_is}
use Rattle.decompiling.specs.Inner.Reader.{Written}
use Rattle.decompiling.specs.declared.Foreign.{Foreign}
use Rattle.decompiling.proofs.Wording.{unreadable}
use Rattle.checking.specs.Inner.Scan.{Nested, scan}
use Rattle.checking.proofs.Scanning.{scan_paths, nested_forest}

module _ (T : List ℕ) (s : sized T ≡ true) (w : well_laid T ≡ true) where
  stands : Stands T (decode T)
  stands = laid_decode T (omega (arith, sized_high T s)) (rw w tt)

  region_is : region T ≡ encode (decode T)
  region_is = ap region stands.words ∙ region_layout (length T) (decode T) (omega (arith, stands.room, sized_high T s))

  small : size (decode T) < 2 ^ 28
  small = omega (arith, stands.room, sized_high T s)

  pub region_paths : scan (region T) 0 [] ≡ paths_of (decode T)
  region_paths = ap (λ l. scan l 0 []) region_is ∙ scan_paths (decode T) stands.formed small

  pub region_nested : Nested (region T)
  region_nested = rw region_is (nested_forest (decode T) stands.formed small)

  pub paths_few : length (paths_of (decode T)) ≤ max_kept
  paths_few = omega (arith, length_paths 0 (decode T) stands.formed, stands.small)

  -- the path that is found
  path_found : (n : ℕ) → n < first_key → first_with n (paths_of (decode T)) ≡ find n (decode T)
  path_found n l = sym ((tree_laws.paths (decode T) stands.formed).first n l)

-- ---- what is tested, and what is read

-- the paths of clauses are readable
found_readable : (n : ℕ) (es : List Entry) (p : List ℕ) → all_readable es ≡ true → first_with n es ≡ some p → readable p ≡ true
found_readable n [] p r e = cc
found_readable n (d ∷ es) p r e = go (eqb d.number n) e (found_readable n es p)
  where
    both : (readable d.keys ≡ true) × (all_readable es ≡ true)
    both = (and-eq-true_iff (readable d.keys) (all_readable es)).0 r

    go : (b : Bool) → cond b (some d.keys) (first_with n es) ≡ some p → (all_readable es ≡ true → first_with n es ≡ some p → readable p ≡ true) → readable p ≡ true
    go true e ih = let q : d.keys ≡ p = cc in rw q at both.0
    go false e ih = ih both.1 e

-- what is readable is read off
pub is_read : (p W U : List ℕ) (r : Result ℕ Foreign) → readable p ≡ true → Written p W r U → IsOk r
is_read p W U (Ok n) e w = refl
is_read p W U (Err f) e w = absurd (true≢false (sym e ∙ unreadable p w))

module _ (T : List ℕ) (passed : check T ≡ Ok tt) where
  passing : Passing T
  passing = check_passing T passed

  pub passed_sized : sized T ≡ true
  passed_sized = passing.right_size

  pub passed_laid : well_laid T ≡ true
  passed_laid = passing.laid

  pub passed_clauses : all_readable (paths_of (decode T)) ≡ true
  unfolding of_clauses
  passed_clauses = ((and-eq-true_iff (all_readable (paths_of (decode T))) _).0 passing.of_clauses_lem).0

  -- what is found is a path that a clause has
  pub found_read : (n : ℕ) (p W U : List ℕ) (r : Result ℕ Foreign) → first_with n (paths_of (decode T)) ≡ some p → Written p W r U → IsOk r
  found_read n p W U r e = is_read p W U r (found_readable n (paths_of (decode T)) p passed_clauses e)

  module _ (n : ℕ) (l : n < first_key) (W : List ℕ) (room : max_words ≤ length W) where
    found : read_back T n W ≡ written_out (first_with n (paths_of (decode T))) W
    found = written_is T n W passing room ∙ ap (λ o. written_out o W) (sym (path_found T passed_sized passed_laid n l))

    pub read_none : first_with n (paths_of (decode T)) ≡ none → unread NoSuchNumber W ≡ read_back T n W
    unfolding written_out
    read_none e = sym (found ∙ rw e)

    pub read_some : (p : List ℕ) → first_with n (paths_of (decode T)) ≡ some p → (U : List ℕ) (k : ℕ) → Written p W (Ok k) U
        → record { answer = Ok k; output = U } ≡ read_back T n W
    unfolding written_out
    read_some p e U k (a, b, c) = sym (found ∙ rw (e, c, a))
