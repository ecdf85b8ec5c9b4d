-- The rule of a table at each entry, from one test over the whole table.
use mathlib.Core.Path.{ap, sym}
use mathlib.Core.Bool.{Bool, true, ◌&&◌}
use Prim.Native.Nat.{ℕ, zero, suc, ◌*◌, ◌≤◌}
use native.Mathlib.Omega.{arith}
use lib.Dec.{T, eqb, eqb→eq}
use Rattle.clause.specs.Clause.{max_literals}
use Rattle.clause.proofs.Tests.{and_l, and_r}
use Rattle.tree.specs.Laid.{max_kept}
use Rattle.walk.specs.Ceiling.{powers}
use Rattle.ceiling.specs.Table.{Table, entry, Sums, LastEntry}

-- a test passes at each number from 1 to n
abbrev each : ℕ → (ℕ → Bool) → Bool
each zero f = true
each (suc n) f = f 1 && each n (λ k. f (suc k))

-- so at any one of them
each_at : (n : ℕ) (f : ℕ → Bool) → T (each n f) → (k : ℕ) → 1 ≤ k → k ≤ n → T (f k)
each_at zero f t k a b = absurd (omega arith)
each_at (suc n) f t zero a b = absurd (omega arith)
each_at (suc n) f t (suc zero) a b = and_l (f 1) (each n (λ k. f (suc k))) t
each_at (suc n) f t (suc (suc k)) a b =
    each_at n (λ k. f (suc k)) (and_r (f 1) (each n (λ k. f (suc k))) t) (suc k) (omega arith) (omega arith)

-- the test of an entry, of a row, of a table
abbrev is_sum : Table → (q m : ℕ) → Bool
is_sum table q m = eqb (entry table q m) (powers q m)

abbrev row_of_sums : Table → ℕ → Bool
row_of_sums table q = each max_literals (is_sum table q)

abbrev pub table_of_sums : Table → Bool
table_of_sums table = each max_literals (row_of_sums table)

-- where it passes, the table has its rule
pub sums_by_test : (table : Table) → T (table_of_sums table) → Sums table
sums_by_test table t =
    record {
      at = λ q m a b c d.
          eqb→eq (entry table q m) (powers q m) (each_at max_literals (is_sum table q) (each_at max_literals (row_of_sums table) t q a b) m c d);
    }

-- and the full budget is its last entry times the most clauses
pub last_entry : (table : Table) → Sums table → LastEntry table
last_entry table s = ap (λ n. max_kept * n) (sym (s.at max_literals max_literals (omega arith) (omega arith) (omega arith) (omega arith)))
