-- The walk's view of a well-formed forest.
use mathlib.Core.Path.{refl}
use mathlib.Core.Logic.{◌≢◌, inl, inr}
use mathlib.Core.Option.{Option, none, some}
use mathlib.Core.List.{List, ◌∷◌}
use Prim.Native.Nat.{ℕ, zero, suc, ◌*◌, ◌/◌, ◌%◌, ◌^◌, ◌≤◌, ◌<◌}
use native.Mathlib.Omega.{arith}
use lib.Dec.{T}
use Rattle.machine.specs.Instr.{Instr, First, Do, Success, instruction, instr_of}
use Rattle.tree.specs.Keys.{first_key, lawful, next_key}
use Rattle.tree.specs.Forest.{Forest, empty, node, Formed, Has, leaf, deeper, further}
use Rattle.machine.proofs.Keys.{instr_of_success}
use Rattle.tree.proofs.Keys.{lawful_small}
use Rattle.walk.proofs.Paths.{LeadsAt, Leads, FullAt, Full}

-- an instruction that is no Success
abbrev Inside : Option Instr → Type 0
Inside none = ⊥
Inside (some First) = Unit {0}
Inside (some (Do x)) = Unit {0}
Inside (some (Success n)) = ⊥

inside_op : (op x : ℕ) → 1 ≤ op → op ≤ 8 → Inside (instruction op x)
unfolding instruction
inside_op zero x h g = absurd (omega arith)
inside_op (suc zero) x h g = tt
inside_op (suc (suc zero)) x h g = tt
inside_op (suc (suc (suc zero))) x h g = tt
inside_op (suc (suc (suc (suc zero)))) x h g = tt
inside_op (suc (suc (suc (suc (suc zero))))) x h g = tt
inside_op (suc (suc (suc (suc (suc (suc zero)))))) x h g = tt
inside_op (suc (suc (suc (suc (suc (suc (suc zero))))))) x h g = tt
inside_op (suc (suc (suc (suc (suc (suc (suc (suc zero)))))))) x h g = tt
inside_op (suc (suc (suc (suc (suc (suc (suc (suc (suc n))))))))) x h g = absurd (omega arith)

-- a key of a well-formed forest that is no clause number
inside : (i : ℕ) → first_key ≤ i → T (lawful i) → Inside (instr_of i)
unfolding instr_of
inside i h t =
    let u : i < 9 * 2 ^ 32 = lawful_small i t in
    inside_op (i / 2 ^ 32) (i % 2 ^ 32) (omega arith) (omega arith)

node≢empty : (i : ℕ) (B R : Forest) → node i B R ≢ empty
node≢empty i B R e = cc

full_inside : (o : Option Instr) (i : ℕ) (B R : Forest) → Inside o → Full (node i B R) → FullAt o (node i B R) (Full (node i B R))
full_inside none i B R h f = h
full_inside (some First) i B R h f = (node≢empty i B R, f)
full_inside (some (Do x)) i B R h f = (node≢empty i B R, f)
full_inside (some (Success n)) i B R h f = tt

-- every node but a Success has something below it
pub formed_full : (b : ℕ) (F : Forest) → Formed b F → Full F
formed_full b empty f = tt
formed_full b (node i empty R) f = (rw (instr_of_success i f.shape) tt, formed_full (next_key i) R f.rest)
formed_full b (node i (node j C S) R) f =
    (full_inside (instr_of i) j C S (inside i f.shape f.legal) (formed_full 0 (node j C S) f.below), formed_full (next_key i) R f.rest)

leads_down : (o : Option Instr) (i : ℕ) (B R : Forest) → Inside o → (p : List ℕ) (n : ℕ) → ((p : List ℕ) → Leads B p n → Has B p n)
    → LeadsAt o i (Leads B) p n → Has (node i B R) p n
leads_down none i B R h p n ih l = absurd h
leads_down (some First) i B R h p n ih (p', e, l) = rw e (deeper (ih p' l))
leads_down (some (Do x)) i B R h p n ih (p', e, l) = rw e (deeper (ih p' l))
leads_down (some (Success m)) i B R h p n ih l = absurd h

leads_inside : (o : Option Instr) (i : ℕ) (B : Forest) → Inside o → (p : List ℕ) (n : ℕ) → Leads B p n → LeadsAt o i (Leads B) (i ∷ p) n
leads_inside none i B h p n l = h
leads_inside (some First) i B h p n l = (p, refl, l)
leads_inside (some (Do x)) i B h p n l = (p, refl, l)
leads_inside (some (Success m)) i B h p n l = absurd h

-- the forest's paths are the walk's
pub has_leads : (b : ℕ) (F : Forest) → Formed b F → (p : List ℕ) (n : ℕ) → Has F p n → Leads F p n
has_leads b empty f p n h = elim h [ ]
has_leads b (node i B R) f p n (further h) = inr (has_leads (next_key i) R f.rest p n h)
has_leads b (node i empty R) f p n leaf = inl (rw (instr_of_success i f.shape) (refl, refl))
has_leads b (node i empty R) f _ n (deeper {cs = cs} h) = elim h [ ]
has_leads b (node i (node j C S) R) f p n (deeper {cs = cs} h) =
    inl (leads_inside (instr_of i) i (node j C S) (inside i f.shape f.legal) cs n (has_leads 0 (node j C S) f.below cs n h))

-- the walk's paths are the forest's
pub leads_has : (b : ℕ) (F : Forest) → Formed b F → (p : List ℕ) (n : ℕ) → Leads F p n → Has F p n
leads_has b empty f p n l = elim l [ ]
leads_has b (node i B R) f p n (inr l) = further (leads_has (next_key i) R f.rest p n l)
leads_has b (node i empty R) f p n (inl l) = let (e, g) = rw (instr_of_success i f.shape) at l in rw (e, g) leaf
leads_has b (node i (node j C S) R) f p n (inl l) =
    leads_down (instr_of i) i (node j C S) R (inside i f.shape f.legal) p n (λ p'. leads_has 0 (node j C S) f.below p' n) l
