-- No path has more than m Firsts, read off the forest.
use mathlib.Core.Path.{◌≡◌, refl}
use mathlib.Core.Logic.{inl, inr}
use mathlib.Core.Option.{Option, none, some}
use mathlib.Core.List.{List, ◌∷◌}
use Prim.Native.Nat.{ℕ, zero, suc, ◌≤◌}
use native.Mathlib.Omega.{arith}
use Rattle.machine.specs.Instr.{Instr, First, Do, Success, instr_of}
use Rattle.tree.specs.Forest.{Forest, empty, node}
use Rattle.walk.proofs.Paths.{LeadsAt, Leads, FullAt, Full, firsts}
use Rattle.walk.proofs.Smooth.{some_path}

-- no path by a node has more than m Firsts
abbrev pub ShallowAt : Option Instr → ℕ → (ℕ → Type 0) → Type 0
ShallowAt none m below = Unit {0}
ShallowAt (some (Success n)) m below = Unit {0}
ShallowAt (some First) zero below = ⊥
ShallowAt (some First) (suc m) below = below m
ShallowAt (some (Do x)) m below = below m

-- no path of a forest has more
abbrev pub Shallow : Forest → ℕ → Type 0
Shallow empty m = Unit {0}
Shallow (node i B R) m = ShallowAt (instr_of i) m (Shallow B) × Shallow R m

-- a node none of whose paths has more than m Firsts
shallow_at :
    (o : Option Instr) (i : ℕ) (B : Forest) (m : ℕ) → instr_of i ≡ o
    → ((m : ℕ) → Full B → ((p : List ℕ) (n : ℕ) → Leads B p n → firsts p ≤ m) → Shallow B m)
    → FullAt o B (Full B) → ((p : List ℕ) (n : ℕ) → LeadsAt o i (Leads B) p n → firsts p ≤ m) → ShallowAt o m (Shallow B)
shallow_at none i B m e ih f h = tt
shallow_at (some (Success n)) i B m e ih f h = tt
shallow_at (some First) i B zero e ih f h =
    let (p, n, l) = some_path B f.0 f.1 in
    absurd (omega (arith, rw e at (h (i ∷ p) n (p, refl, l))))
shallow_at (some First) i B (suc m) e ih f h = ih m f.1 (λ p n l. omega (arith, rw e at (h (i ∷ p) n (p, refl, l))))
shallow_at (some (Do x)) i B m e ih f h = ih m f.1 (λ p n l. rw e at (h (i ∷ p) n (p, refl, l)))

-- a forest none of whose paths has more
pub shallow : (F : Forest) (m : ℕ) → Full F → ((p : List ℕ) (n : ℕ) → Leads F p n → firsts p ≤ m) → Shallow F m
shallow empty m f h = tt
shallow (node i B R) m f h =
    (shallow_at (instr_of i) i B m refl (shallow B) f.0 (λ p n l. h p n (inl l)), shallow R m f.1 (λ p n l. h p n (inr l)))
