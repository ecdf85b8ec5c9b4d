-- Pairs, and the sequences that a tree holds for them.
use mathlib.Core.Path.{◌≡◌, refl, ap}
use mathlib.Core.Logic.{inl, inr}
use mathlib.Core.List.{List, [], ◌∷◌, map, Memᴰ}
use Prim.Native.Nat.{ℕ}
use Rattle.machine.specs.Compile.{keys}
use Rattle.tree.specs.Entries.{Listed, Pair, entry}

-- what is kept is some pair's
pub kept_pair : (K : List Pair) (cs : List ℕ) (n : ℕ) → Listed (map entry K) cs n
    → (p : Pair) × Memᴰ p K × (cs ≡ keys p.clause) × (n ≡ p.number)
kept_pair [] cs n k = absurd k
kept_pair (p ∷ K) cs n (inl q) = (p, Memᴰ.head refl, q.0, q.1)
kept_pair (p ∷ K) cs n (inr k) = let (r, m, e, f) = kept_pair K cs n k in (r, Memᴰ.tail m, e, f)

-- and what each pair has is kept
pub pair_kept : (K : List Pair) (p : Pair) → Memᴰ p K → Listed (map entry K) (keys p.clause) p.number
pair_kept [] p x' = elim x' [ ]
pair_kept (r ∷ K) p (Memᴰ.head e) = inl (ap (λ x. keys x.clause) e, ap (λ x. x.number) e)
pair_kept (r ∷ K) p (Memᴰ.tail m) = inr (pair_kept K p m)
