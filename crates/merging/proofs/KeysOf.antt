-- The keys of an accepted clause may be inserted.
use mathlib.Core.List.{List, [], ◌∷◌}
use Prim.Native.Nat.{ℕ, suc, ◌^◌, ◌≤◌, ◌<◌}
use lib.ListN.{length, get_or, length-map}
use Rattle.clause.specs.Lists.{All, none, also}
use Rattle.clause.specs.Clause.{Accepted}
use Rattle.clause.proofs.Literals.{accepted}
use Rattle.machine.specs.Instr.{key}
use Rattle.machine.specs.Compile.{sequence, keys}
use Rattle.machine.specs.Compiled.{max_keys}
use Rattle.machine.proofs.Codes.{sequence_plain}
use Rattle.machine.proofs.Length.{sequence_length}
use Rattle.tree.specs.Forest.{Body}
use Rattle.tree.proofs.Plain.{plain_body}

-- the elements of a slice are below a bound
pub all_below : (n : ℕ) (l : List ℕ) → ((i : ℕ) → get_or l i 0 < n) → All (λ w. w < n) l
all_below n [] f = none
all_below n (x ∷ l) f = also (f 0) (all_below n l (λ i. f (suc i)))

module _ (c : List ℕ) (a : Accepted c) where
  pub keys_body : ((i : ℕ) → get_or c i 0 < 2 ^ 16) → Body (keys c)
  keys_body f = plain_body (sequence_plain c (accepted c a) (all_below (2 ^ 16) c f))

  pub keys_few : length (keys c) ≤ max_keys
  keys_few = rw (length-map (sequence c) key) (sequence_length c (accepted c a))
