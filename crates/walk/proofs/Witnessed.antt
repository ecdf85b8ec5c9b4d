-- What stands in a witness after its words are written.
use mathlib.Core.Path.{◌≡◌, refl, sym, ◌∙◌}
use mathlib.Core.Option.{Option, none, some, some-injective, none-ne-some}
use mathlib.Core.List.{List, [], ◌∷◌, ◌++◌, map}
use Prim.Native.Nat.{ℕ, zero, suc, ◌+◌, ◌-◌, ◌≤◌, ◌<◌}
use native.Mathlib.Omega.{arith}
use lib.ListN.{length, get_or, take, replicate, length-append, length-map, length-replicate, get_or-replicate, get_or-append}
use lib.Seq.{length-take-le, get_or-append-add, get_or-take}
use Rattle.clause.specs.Clause.{max_literals}
use Rattle.machine.specs.Machine.{State}
use Rattle.walk.specs.Query.{shown, with_shown}
use Rattle.clause.proofs.Lists.{get_or-map-lt}

pub with_shown_there : (os : List (Option ℕ)) (ws : List ℕ) (i x : ℕ) → i < length ws → get_or os i none ≡ some x → get_or (with_shown os ws) i 0 ≡ x
with_shown_there [] ws i x h e = absurd (none-ne-some x e)
with_shown_there (o ∷ os) [] i x h e = absurd (omega arith)
with_shown_there (none ∷ os) (w ∷ ws) zero x h e = absurd (none-ne-some x e)
with_shown_there (none ∷ os) (w ∷ ws) (suc i) x h e = with_shown_there os ws i x (omega arith) e
with_shown_there (some y ∷ os) (w ∷ ws) zero x h e = some-injective y x e
with_shown_there (some y ∷ os) (w ∷ ws) (suc i) x h e = with_shown_there os ws i x (omega arith) e

pub with_shown_elsewhere : (os : List (Option ℕ)) (ws : List ℕ) (i : ℕ) → get_or os i none ≡ none → get_or (with_shown os ws) i 0 ≡ get_or ws i 0
with_shown_elsewhere [] ws i e = refl
with_shown_elsewhere (o ∷ os) [] i e = refl
with_shown_elsewhere (none ∷ os) (w ∷ ws) zero e = refl
with_shown_elsewhere (none ∷ os) (w ∷ ws) (suc i) e = with_shown_elsewhere os ws i e
with_shown_elsewhere (some y ∷ os) (w ∷ ws) zero e = absurd (none-ne-some y (sym e))
with_shown_elsewhere (some y ∷ os) (w ∷ ws) (suc i) e = with_shown_elsewhere os ws i e

pub length_with_shown : (os : List (Option ℕ)) (ws : List ℕ) → length (with_shown os ws) ≡ length ws
length_with_shown [] ws = refl
length_with_shown (o ∷ os) [] = refl
length_with_shown (none ∷ os) (w ∷ ws) = rw (length_with_shown os ws)
length_with_shown (some y ∷ os) (w ∷ ws) = rw (length_with_shown os ws)

module _ (s : State) where
  abbrev front : List (Option ℕ)
  front = map some s.chosen ++ replicate max_literals none

  length_front : length (take max_literals front) ≡ max_literals
  length_front = length-take-le max_literals front (simp (length-append, length-map, length-replicate) (omega arith))

  -- the literal for literal i stands at i
  pub shown_front : (i : ℕ) → i < max_literals → i < length s.chosen → get_or (shown s) i none ≡ some (get_or s.chosen i 0)
  unfolding shown
  shown_front i h g =
      get_or-append (take max_literals front) s.puts none i (rw length_front (omega arith)) ∙ get_or-take max_literals front i none (omega arith)
      ∙ get_or-append (map some s.chosen) (replicate max_literals none) none i (rw length-map g) ∙ get_or-map-lt some s.chosen i 0 none g

  pub shown_literal : (i : ℕ) → length s.chosen ≤ max_literals → i < length s.chosen → get_or (shown s) i none ≡ some (get_or s.chosen i 0)
  shown_literal i h g = shown_front i (omega arith) g

  -- nothing stands behind the literals
  pub shown_none : (i : ℕ) → length s.chosen ≤ i → i < max_literals → get_or (shown s) i none ≡ none
  unfolding shown
  shown_none i h g =
      let n : ℕ = i - length s.chosen in
      let e : length (map {B = Option ℕ} some s.chosen) + n ≡ i = rw length-map (omega arith) in
      get_or-append (take max_literals front) s.puts none i (rw length_front g) ∙ get_or-take max_literals front i none g
      ∙ rw (← e) (get_or-append-add (map some s.chosen) (replicate max_literals none) n none ∙ get_or-replicate max_literals n none none (omega arith))

  -- the position for Put k stands at max_literals + k
  pub shown_position : (k : ℕ) → get_or (shown s) (max_literals + k) none ≡ get_or s.puts k none
  unfolding shown
  shown_position k =
      let e = get_or-append-add (take max_literals front) s.puts k none in
      rw length_front at e
