-- The count of a query, where units are kept: the proof of `ExactCount`.
use Rattle.std.specs.Prelude.{Ok}
use mathlib.Core.Path.{◌≡◌, ◌∙◌}
use mathlib.Core.Logic.{◌⊎◌, inl, inr}
use mathlib.Core.List.{List}
use Prim.Native.Nat.{ℕ, ◌≤◌, ◌<◌}
use native.Mathlib.Omega.{arith}
use lib.ListN.{length}
use Rattle.clause.specs.Clause.{Accepted, literals}
use Rattle.tree.specs.Forest.{Forest}
use Rattle.tree.specs.Entries.{Pair}
use Rattle.walk.specs.Query.{witness_words, query}
use Rattle.walk.specs.Covering.{Units, Subsumed, candidates, IsCovered, IsNotCovered, IsSpent, Answers}
use Rattle.walk.specs.declared.Verdict.TheVariants.{Covered, NotCovered}
use Rattle.walk.proofs.Units.{units_exact, units_bounded}
use Rattle.walk.proofs.Covering.{fits_decided, decided_fits}
use Rattle.book.specs.Book.{Call, slice_of, book_of, tree_of}
use Rattle.book.specs.Claims.{Run, Exact, ExactCount}
use Rattle.book.proofs.Holds.{Holds, holds_tree}
use Rattle.book.proofs.Reach.{laid, answered}

-- ---- a tree of units

module _ {len : ℕ} {K : List Pair} {F : Forest} (h : Holds len K F) (units : Units K) (d : List ℕ) where
  -- no more candidates than the query has literals
  pub holds_few : candidates F d ≤ length (literals d)
  holds_few = units_bounded K F h.sound h.keeps.mirrors units d

  -- and no less, where at least one is kept and none subsumes it
  pub holds_exact : 1 ≤ length K → Accepted d → (Subsumed K d → ⊥) → candidates F d ≡ length (literals d)
  holds_exact some D free = units_exact K F h.sound h.keeps.mirrors units some d D free

-- ---- a list of calls

module _ (T : List ℕ) (xs : List Call) (R : Run T xs) (some : 1 ≤ length (book_of (length T) xs)) (units : Units (book_of (length T) xs))
    (d : List ℕ) (D : Accepted d) (b : ℕ) (W : List ℕ) (long : witness_words ≤ length W) where
  abbrev K : List Pair
  K = book_of (length T) xs

  abbrev S : List ℕ
  S = slice_of T xs

  held : Holds (length T) K (tree_of K)
  held = rw (holds_tree (laid T xs R).holds) (laid T xs R).holds

  asked : Answers K (tree_of K) S d b W
  asked = answered T xs R d D b W long

  exact : (c : ℕ) → (query S d b W).answer ≡ Ok (NotCovered c) → c ≡ length (literals d)
  exact c e = asked.counts_not c e ∙ holds_exact held units d some D (asked.spares c e).0

  less : b < length (literals d) → IsCovered S d b W ⊎ (IsNotCovered S d b W ⊎ IsSpent S d b W)
      → IsSpent S d b W ⊎ ((n : ℕ) × (c : ℕ) × ((query S d b W).answer ≡ Ok (Covered n c)) × (c ≤ b))
  less h (inl (n, c, e)) = inr (n, c, e, omega (arith, asked.counts n c e, decided_fits asked (inl (n, c, e))))
  less h (inr (inl (c, e))) = absurd (omega (arith, exact c e, asked.counts_not c e, decided_fits asked (inr (c, e))))
  less h (inr (inr s)) = inl s

  counted : Exact T xs d b W
  counted =
      record {
        exact = λ c e. exact c e;
        at_most = λ n c e. omega (arith, asked.counts n c e, holds_few held units d);
        enough = λ h. fits_decided asked (omega (arith, holds_few held units d));
        less = λ h. less h asked.kinds;
      }

-- the claim
pub exact_count : ExactCount
exact_count T xs R some units d D b W long = counted T xs R some units d D b W long
