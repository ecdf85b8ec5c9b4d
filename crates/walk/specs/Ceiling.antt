-- The ceiling of a walk's count, and a closer bound.
use Rattle.std.specs.Prelude.{◌≡◌, cond, ◌&&◌, ℕ, zero, suc, ◌+◌, ◌-◌, ◌*◌, ◌^◌, leb, Err, Ok, Result}
use Rattle.clause.specs.Clause.{max_literals}
use Rattle.tree.specs.Laid.{max_kept}
use Rattle.tree.specs.declared.Refusal.TheVariants.{BadSize}
use Rattle.tree.specs.declared.Refusal.{Refusal}

-- q + q² + .. + q^m
abbrev pub powers : ℕ → ℕ → ℕ
powers q zero = zero
powers q (suc m) = powers q m + q ^ suc m

-- kept × (q + q² + .. + q^m)
abbrev pub ceiling : (kept q m : ℕ) → ℕ
ceiling kept q m = kept * powers q m

-- q + q·(q − 1) + .. of m summands: the ways to take 1 to m of q literals one after another, none of them twice
abbrev pub arrangements : ℕ → ℕ → ℕ
arrangements q zero = zero
arrangements q (suc m) = q * suc (arrangements (q - 1) m)

-- the greatest ceiling, the full budget
abbrev pub full_budget : ℕ
full_budget = ceiling max_kept max_literals max_literals

-- a claim: what it comes to
abbrev pub FullBudget : Type 0
FullBudget = full_budget ≡ 19_634_135_040

-- the most arrangements, for the most clauses: a budget that is enough on every tree made by calls
abbrev pub enough_budget : ℕ
enough_budget = max_kept * arrangements max_literals max_literals

-- a claim: what it comes to
abbrev pub EnoughBudget : Type 0
EnoughBudget = enough_budget ≡ 112_230_400

-- the ceiling call
abbrev pub ceiling_call : (kept q m : ℕ) → Result ℕ Refusal
ceiling_call kept q m =
    cond (leb kept max_kept && leb 1 q && leb q max_literals && leb 1 m && leb m max_literals) (Ok (ceiling kept q m)) (Err BadSize)
