-- The spot as it goes from word to word.
use mathlib.Core.Path.{◌≡◌, refl, sym, ap, ◌∙◌}
use mathlib.Core.List.{List, [], ◌∷◌, map}
use Prim.Native.Nat.{ℕ, zero, suc, ◌+◌, ◌-◌, ◌≤◌, ◌<◌}
use native.Mathlib.Omega.{arith}
use native.Mathlib.Numerals.{add-one}
use lib.ListN.{length}
use Rattle.std.specs.Prelude.{Some, None}
use Rattle.machine.specs.Instr.{Down, Right, Push, Pop, key}
use Rattle.machine.specs.Compile.{Saved, ended, inside, Way, way, way_from, opening, begun}
use Rattle.compiling.specs.Inner.Compiling.{Writes, place_in, opening_keys, Opened, step_keys, Went}
use Rattle.compiling.specs.declared.keys.Keys.{Keys}
use Rattle.compiling.specs.declared.Spot.{Spot}
use Rattle.compiling.proofs.Writing.{writes_none}

-- ---- a literal goes on, or begins

pub open_on : (s : Spot) (l : ℕ) (k : Keys) → s.left ≡ Some l → Opened s l s × Writes (opening_keys s) k k
unfolding way_from opening begun
open_on s l k e = (
  record {
    ways = λ a n. ap (λ o. way_from (place_in o s.saved) a n) e;
    pushed = refl;
    puts = refl;
    from = sym (ap (λ o. begun (place_in o s.saved) s.puts s.from) e);
    saved_low = omega arith;
  },
  let h : opening_keys s ≡ [] = ap (λ o. map key (opening (place_in o s.saved))) e in rw h (writes_none k),
)

-- First is written
pub opening_one : (s : Spot) → s.left ≡ None → opening_keys s ≡ 0x1_0000_0000 ∷ []
unfolding opening key
opening_one s e = ap (λ o. map key (opening (place_in o s.saved))) e

pub open_new : (s : Spot) (n : ℕ) (v : List Saved) → s.left ≡ None → n ≡ length s.puts → v ≡ []
    → Opened s 0 (record { left = s.left; pushed = s.pushed; from = n; puts = s.puts; saved = v })
unfolding way_from begun
open_new s n v e f g =
    record {
      ways = λ a m. ap (λ o. way_from (place_in o s.saved) a m) e ∙ ap (λ v. way a 0 v m) (sym g);
      pushed = refl;
      puts = refl;
      from = f ∙ sym (ap (λ o. begun (place_in o s.saved) s.puts s.from) e);
      saved_low = rw g (omega arith);
    }

-- ---- the five ways, by what the code tests

way_push : (a l : ℕ) (saved : List Saved) (n : ℕ) → 0 < a → 0 < l
    → way a l saved n ≡ record { steps = Push n ∷ Down ∷ []; place = inside (a - 1) (record { slot = n; left = l - 1 } ∷ saved); pushed = n + 1 }
unfolding way
way_push zero l saved n h g = absurd (omega arith)
way_push (suc a) zero saved n h g = absurd (omega arith)
way_push (suc a) (suc l) saved n h g =
    let e : suc a - 1 ≡ a = omega arith in
    let f : suc l - 1 ≡ l = omega arith in
    rw (e, f, add-one)

way_down : (a : ℕ) (saved : List Saved) (n : ℕ) → 0 < a → way a 0 saved n ≡ record { steps = Down ∷ []; place = inside (a - 1) saved; pushed = n }
unfolding way
way_down zero saved n h = absurd (omega arith)
way_down (suc a) saved n h = let e : suc a - 1 ≡ a = omega arith in rw e

way_right : (l : ℕ) (saved : List Saved) (n : ℕ) → 0 < l → way 0 l saved n ≡ record { steps = Right ∷ []; place = inside (l - 1) saved; pushed = n }
unfolding way
way_right zero saved n h = absurd (omega arith)
way_right (suc l) saved n h = let e : suc l - 1 ≡ l = omega arith in rw e

way_pop : (v : Saved) (saved : List Saved) (n : ℕ) → way 0 0 (v ∷ saved) n ≡ record { steps = Pop v.slot ∷ []; place = inside v.left saved; pushed = n }
unfolding way
way_pop v saved n = refl

way_end : (n : ℕ) → way 0 0 [] n ≡ record { steps = []; place = ended; pushed = n }
unfolding way
way_end n = refl

-- at most one more position is pushed
pub way_pushed : (a l : ℕ) (saved : List Saved) (n : ℕ) → (way a l saved n).pushed ≤ n + 1
unfolding way
way_pushed (suc a) (suc l) saved n = omega arith
way_pushed (suc a) zero saved n = omega arith
way_pushed zero (suc l) saved n = omega arith
way_pushed zero zero (v ∷ saved) n = omega arith
way_pushed zero zero [] n = omega arith

-- what each of them writes, and the spot that it leads to
module _ (a l : ℕ) (s : Spot) (low : length s.saved ≤ s.pushed) where
  abbrev pub here : Way
  here = way a l s.saved s.pushed

  module _ (h : 0 < a) (g : 0 < l) where
    pub push_keys : step_keys here.steps ≡ (0x5_0000_0000 + s.pushed) ∷ 0x2_0000_0000 ∷ []
    unfolding key
    push_keys = rw (way_push a l s.saved s.pushed h g) (ap (λ x. x ∷ 0x2_0000_0000 ∷ []) (omega arith))

    pub went_push : (v : List Saved) → v ≡ record { slot = s.pushed; left = l - 1 } ∷ s.saved
        → Went here s (record { left = Some (a - 1); pushed = s.pushed + 1; from = s.from; puts = s.puts; saved = v })
    went_push v e =
        rw (way_push a l s.saved s.pushed h g)
        (record { place = ap (inside (a - 1)) e; pushed = refl; puts = refl; from = refl; saved_low = rw e (omega arith) })

  module _ (h : 0 < a) (e : l ≡ 0) where
    pub down_keys : step_keys here.steps ≡ 0x2_0000_0000 ∷ []
    unfolding key
    down_keys = rw (e, way_down a s.saved s.pushed h)

    pub went_down : Went here s (record { left = Some (a - 1); pushed = s.pushed; from = s.from; puts = s.puts; saved = s.saved })
    went_down = rw (e, way_down a s.saved s.pushed h) (record { place = refl; pushed = refl; puts = refl; from = refl; saved_low = low })

  module _ (e : a ≡ 0) (g : 0 < l) where
    pub right_keys : step_keys here.steps ≡ 0x3_0000_0000 ∷ []
    unfolding key
    right_keys = rw (e, way_right l s.saved s.pushed g)

    pub went_right : Went here s (record { left = Some (l - 1); pushed = s.pushed; from = s.from; puts = s.puts; saved = s.saved })
    went_right = rw (e, way_right l s.saved s.pushed g) (record { place = refl; pushed = refl; puts = refl; from = refl; saved_low = low })

  module _ (e : a ≡ 0) (f : l ≡ 0) where
    module _ (p : Saved) (v : List Saved) (g : s.saved ≡ p ∷ v) where
      pub pop_keys : step_keys here.steps ≡ (0x6_0000_0000 + p.slot) ∷ []
      unfolding key
      pop_keys = rw (e, f, g, way_pop p v s.pushed) (ap (λ x. x ∷ []) (omega arith))

      pub went_pop : Went here s (record { left = Some p.left; pushed = s.pushed; from = s.from; puts = s.puts; saved = v })
      went_pop =
          let n : length v ≤ s.pushed = omega (arith, ap length g, low) in
          rw (e, f, g, way_pop p v s.pushed) (record { place = refl; pushed = refl; puts = refl; from = refl; saved_low = n })

    module _ (g : s.saved ≡ []) where
      pub end_keys : step_keys here.steps ≡ []
      end_keys = rw (e, f, g, way_end s.pushed)

      pub went_out : (v : List Saved) → v ≡ [] → Went here s (record { left = None; pushed = s.pushed; from = s.from; puts = s.puts; saved = v })
      went_out v i = rw (e, f, g, way_end s.pushed) (record { place = refl; pushed = refl; puts = refl; from = refl; saved_low = rw i (omega arith) })
