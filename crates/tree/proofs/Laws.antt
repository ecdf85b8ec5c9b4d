-- The claims of specs/Laws.
use mathlib.Core.Path.{◌≡◌, refl, sym, ap, ◌∙◌}
use mathlib.Core.Logic.{◌↔◌}
use mathlib.Core.Bool.{Bool, true, false, cond}
use mathlib.Core.Option.{Option, none, some}
use mathlib.Core.List.{List, [], ◌∷◌, ◌++◌, map}
use Prim.Native.Nat.{ℕ, ◌^◌, ◌≤◌, ◌<◌}
use native.Mathlib.Omega.{arith}
use lib.Dec.{eqb}
use lib.ListN.{length}
use borrow.Author.Tests.{ne_eqb}
use Rattle.machine.specs.Instr.{key, Success}
use Rattle.tree.specs.Keys.{first_key, next_key}
use Rattle.tree.specs.Forest.{Forest, empty, node, Formed, WellFormed, Has, find, Free, holder}
use Rattle.tree.specs.Laid.{well_laid, decode}
use Rattle.tree.specs.Entries.{Entry}
use Rattle.tree.specs.Laws.{Slices, under, paths_of, first_with, Paths, TreeLaws}
use Rattle.clause.proofs.Tests.{T_true}
use Rattle.tree.proofs.Keys.{instr_order}
use Rattle.tree.proofs.Paths.{same_paths}
use Rattle.tree.proofs.InsertForest.{ins_formed, ins_paths}
use Rattle.tree.proofs.Delete.{find_none, find_some, del_formed, del_paths}
use Rattle.tree.proofs.Held.{has_number, Holding, holding}
use Rattle.tree.proofs.Count.{book_size}
use Rattle.tree.proofs.Words.{decode_layout}
use Rattle.tree.proofs.Grow.{laid_iff}

slices : (s : List ℕ) → length s ≤ 2 ^ 28 → Slices s
slices s u =
    record {
      laid = (λ e. (laid_iff s u).0 (rw e tt), λ F. T_true (well_laid s) ((laid_iff s u).1 F));
      decoded = λ F S. ap decode S.words ∙ decode_layout (length s) F (omega (arith, S.room));
    }

-- nothing is something
none≢some : {A : Type 0} {a : A} → none ≡ some a → ⊥
none≢some e = cc

-- ---- the first with a number

module _ (n : ℕ) (l : n < first_key) where
  first_under : (i : ℕ) (es fs : List Entry)
      → first_with n (map (under i) es ++ fs) ≡ elim (first_with n es) [ some cs ↦ some (i ∷ cs) | none ↦ first_with n fs ]
  first_under i [] fs = refl
  first_under i (e ∷ es) fs = go (eqb e.number n) (first_under i es fs)
    where
      go : (b : Bool) → first_with n (map (under i) es ++ fs) ≡ elim (first_with n es) [ some cs ↦ some (i ∷ cs) | none ↦ first_with n fs ]
          → cond b (some (i ∷ e.keys)) (first_with n (map (under i) es ++ fs))
          ≡ elim (cond b (some e.keys) (first_with n es)) [ some cs ↦ some (i ∷ cs) | none ↦ first_with n fs ]
      go true ih = refl
      go false ih = ih

  first_found : (b : ℕ) (F : Forest) → Formed b F → find n F ≡ first_with n (paths_of F)
  unfolding find
  first_found b empty f = refl
  first_found b (node i empty R) f = go (eqb i n) refl (first_found (next_key i) R f.rest)
    where
      go : (t : Bool) → eqb i n ≡ t → find n R ≡ first_with n (paths_of R) → find n (node i empty R) ≡ cond (eqb i n) (some []) (first_with n (paths_of R))
      go true e ih = rw (e, find)
      go false e ih = rw (e, find) ih
  first_found b (node i (node j C S) R) f =
      let ne : eqb i n ≡ false = ne_eqb i n (λ e. omega (arith, f.shape)) in
      let B : List Entry = paths_of (node j C S) in
      rw (ne, find, first_found 0 (node j C S) f.below)
      (ap (λ (o : Option (List ℕ)). elim (first_with n B) [ some cs ↦ some (i ∷ cs) | none ↦ o ]) (first_found (next_key i) R f.rest)
      ∙ sym (first_under i B (paths_of R)))

module _ (F : Forest) (f : WellFormed F) where
  held : (cs : List ℕ) (m : ℕ) (o : Option ℕ) → Holding cs F o → (o ≡ some m) ↔ Has F cs m
  held cs m none h = (λ e. absurd (none≢some e), λ p. absurd (h m p))
  held cs m (some k) h = (λ e. let g : k ≡ m = cc in rw g at h, λ p. ap some (has_number 0 f h p))

  free : (cs : List ℕ) (o : Option ℕ) → Holding cs F o → (o ≡ none) ↔ Free cs F
  free cs none h = (λ e. h, λ g. refl)
  free cs (some k) h = (λ e. absurd (none≢some (sym e)), λ g. absurd (g k h))

  missing : (n : ℕ) → n < first_key → (o : Option (List ℕ)) → find n F ≡ o → (find n F ≡ none) ↔ ((cs : List ℕ) → Has F cs n → ⊥)
  missing n l none e = (λ u. find_none n F l f u, λ g. e)
  missing n l (some cs) e = (λ u. absurd (none≢some (sym u ∙ e)), λ g. absurd (g cs (find_some n F l f cs e)))

  paths : Paths F
  paths =
      record {
        held = λ cs m. held cs m (holder cs F) (holding 0 cs F f);
        free = λ cs. free cs (holder cs F) (holding 0 cs F f);
        taken = λ n cs l e. find_some n F l f cs e;
        missing = λ n l. missing n l (find n F) refl;
        first = λ n l. first_found n l 0 F f;
        inserted = λ cs n b l g. (ins_formed cs n F f b l g, ins_paths cs n F f b);
        removed = λ n cs l e. (del_formed n F l f cs e, del_paths n F l f cs e);
        only = λ G g e. same_paths 0 0 F G f g (λ cs n. (e cs n).0) (λ cs n. (e cs n).1);
        counted = book_size F;
      }

success : (n : ℕ) → key (Success n) ≡ n
unfolding key
success n = omega arith

pub tree_laws : TreeLaws
tree_laws = record { success = success; order = instr_order; slices = slices; paths = paths }
