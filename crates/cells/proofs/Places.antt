-- The state in the cells: what a store changes in it, and what a cell says.
use Rattle.std.proofs.Common.{◌≡◌, ℕ, zero, suc, ◌+◌, ◌-◌, ◌*◌, ◌/◌, ◌%◌, ◌^◌, ◌<◌, ◌≤◌, Bool, true, false, cond, eqb, List, [], ◌∷◌, map, length, get_or, take, drop, set, sym, refl, ap, ◌∙◌, add-one, arith, length-drop, length-set, length-take, get_or-drop, get_or-set_other, get_or-take, get_or-set_same, take-suc-set, drop-set-lt, set-set, eq-eqb, ne_eqb, eqb-true}
use mathlib.Core.Option.{none, some}
use lib.Seq.{take-set-le, take-set-lt, drop-set-add, set-get_or, set_comm}
use Rattle.clause.specs.Clause.{max_words, max_literals, literals, start_of}
use Rattle.clause.proofs.Lists.{get_or-map-lt}
use Rattle.clause.proofs.Literals.{accepted}
use Rattle.machine.specs.Machine.{slots}
use Rattle.machine.proofs.Safe.{start_in}
use Rattle.cells.specs.Inner.Cells.{puts_at, pushes_at, count_at, cell_count, no_position, undo_base, count_in, HasPlace, position_in, placed, state_of, restored}
use Rattle.cells.specs.Inner.Cells.{unwound, above_of, reserved, candidate, released, kept_in, pass_head, pass_state, Walkable}
use Rattle.cells.specs.declared.Above.{Above}
use Rattle.cells.specs.declared.Above.TheVariants.{First, Step}

pub place_none : {x : ℕ} → x ≡ no_position → position_in x ≡ none
unfolding position_in
place_none {x} e = rw (eq-eqb x no_position e)

pub place_some : {x : ℕ} → (x ≡ no_position → ⊥) → position_in x ≡ some x
unfolding position_in
place_some {x} n = rw (ne_eqb x no_position n)

-- what words stand below, by the test of the head
pub above_first : (h : ℕ) → above_of h ≡ First → h ≡ no_position
unfolding above_of
above_first h e = go (eqb h no_position) refl e
  where
    go : (b : Bool) → eqb h no_position ≡ b → cond b First Step ≡ First → h ≡ no_position
    go true f g = eqb-true h no_position f
    go false f g = cc

pub above_step : (h : ℕ) → above_of h ≡ Step → h ≡ no_position → ⊥
unfolding above_of
above_step h e z = let f : above_of h ≡ First = rw (eq-eqb h no_position z) in cc

map_set : {A B : Type 0} (f : A → B) (l : List A) (i : ℕ) (a : A) → map f (set l i a) ≡ set (map f l) i (f a)
map_set f [] i a = refl
map_set f (x ∷ l) zero a = refl
map_set f (x ∷ l) (suc i) a = rw (map_set f l i a)

-- the cells of the slots from a on, after a store before them, behind them, or among them
module _ (a : ℕ) (l : List ℕ) where
  pub placed_before : (i x : ℕ) → i < a → placed a (set l i x) ≡ placed a l
  unfolding placed
  placed_before i x h = rw (drop-set-lt a l i x h)

  pub placed_behind : (i x : ℕ) → a + slots ≤ i → placed a (set l i x) ≡ placed a l
  unfolding placed
  placed_behind i x h =
      let e : i ≡ a + (i - a) = omega arith in
      let f : drop a (set l i x) ≡ set (drop a l) (i - a) x = ap (λ (n : ℕ). drop a (set l n x)) e ∙ drop-set-add a l (i - a) x in
      rw (f, take-set-le slots (drop a l) (i - a) x (omega arith))

  pub placed_at : (k x : ℕ) → k < slots → placed a (set l (a + k) x) ≡ set (placed a l) k (position_in x)
  unfolding placed
  placed_at k x h = rw (drop-set-add a l k x, take-set-lt slots (drop a l) k x h, map_set position_in (take slots (drop a l)) k x)

  pub placed_get : (k : ℕ) → k < slots → a + k < length l → get_or (placed a l) k none ≡ position_in (get_or l (a + k) 0)
  unfolding placed
  placed_get k h g =
      let n : k < length (take slots (drop a l)) = simp (length-take, length-drop) (omega arith) in
      get_or-map-lt position_in (take slots (drop a l)) k 0 none n ∙ rw (get_or-take slots (drop a l) k 0 h, get_or-drop a l k 0)

-- what a state says after a Put or a Push
module _ (h : ℕ) (l : List ℕ) (few : count_in l ≤ max_literals) where
  count_other : (i x : ℕ) → i < count_at → count_in (set l i x) ≡ count_in l
  count_other i x g = get_or-set_other l i count_at x 0 (λ e. omega arith)

  chosen_other : (i x : ℕ) → puts_at ≤ i → i < count_at → take (count_in (set l i x)) (set l i x) ≡ take (count_in l) l
  chosen_other i x g k = rw (count_other i x k, take-set-le (count_in l) l i x (omega arith))

  pub state_put : (k x : ℕ) → k < slots → x < no_position
      → state_of h (set l (puts_at + k) x) ≡ record { chosen = take (count_in l) l; head = position_in h; puts = set (placed puts_at l) k (some x); pushes = placed pushes_at l }
  state_put k x g v =
      rw (
        chosen_other (puts_at + k) x (omega arith) (omega arith),
        placed_at puts_at l k x g,
        placed_before pushes_at l (puts_at + k) x (omega arith),
        place_some {x = x} (λ e. omega arith),
      )

  pub state_push : (n x : ℕ) → n < slots → x < no_position
      → state_of h (set l (pushes_at + n) x) ≡ record { chosen = take (count_in l) l; head = position_in h; puts = placed puts_at l; pushes = set (placed pushes_at l) n (some x) }
  state_push n x g v =
      rw (
        chosen_other (pushes_at + n) x (omega arith) (omega arith),
        placed_behind puts_at l (pushes_at + n) x (omega arith),
        placed_at pushes_at l n x g,
        place_some {x = x} (λ e. omega arith),
      )

-- the cells while the candidates of a First are tried, with x as the latest
abbrev pub waiting : Above → ℕ → List ℕ → List ℕ
waiting above x l = candidate above x (reserved above l)

-- the place for a candidate
module _ (l : List ℕ) (size : length l ≡ cell_count) (few : HasPlace l) where
  open_count : count_in (set l count_at (count_in l + 1)) ≡ count_in l + 1
  open_count = get_or-set_same l count_at (count_in l + 1) 0 (omega arith)

  -- the place is the one after the earlier candidates
  waiting_cells : (x : ℕ) → waiting First x l ≡ set (set l count_at (count_in l + 1)) (count_in l) x
  unfolding reserved candidate
  waiting_cells x = let e : count_in l + 1 - 1 ≡ count_in l = omega arith in rw (open_count, e)

  waiting_count : (x : ℕ) → count_in (waiting First x l) ≡ count_in l + 1
  waiting_count x =
      rw (waiting_cells x) (get_or-set_other (set l count_at (count_in l + 1)) (count_in l) count_at x 0 (λ e. omega arith) ∙ open_count)

-- a place is made, filled anew, and taken away again
module _ (above : Above) (l : List ℕ) (size : length l ≡ cell_count) (few : above ≡ First → HasPlace l) where
  pub waiting_reserve : reserved above l ≡ waiting above (kept_in above l) l
  unfolding reserved candidate kept_in
  waiting_reserve = go above refl
    where
      go : (b : Above) → above ≡ b → reserved b l ≡ waiting b (kept_in b l) l
      go Step e = refl
      go First e =
          let n = count_in l in
          let o : get_or (set l count_at (n + 1)) n 0 ≡ get_or l n 0 = get_or-set_other l count_at n (n + 1) 0 (λ z. omega (arith, few e)) in
          sym (waiting_cells l size (few e) (get_or l n 0) ∙ rw (← o, set-get_or (set l count_at (n + 1)) n 0))

  pub waiting_next : (x j : ℕ) → candidate above j (waiting above x l) ≡ waiting above j l
  unfolding candidate
  waiting_next x j = go above refl
    where
      go : (b : Above) → above ≡ b → candidate b j (waiting b x l) ≡ waiting b j l
      go Step e = refl
      go First e =
          let n = count_in l in
          let z : n + 1 - 1 ≡ n = omega arith in
          rw (waiting_count l size (few e) x, z, waiting_cells l size (few e) x, waiting_cells l size (few e) j, set-set (set l count_at (n + 1)) n x j)

  pub waiting_release : (x : ℕ) → released above (kept_in above l) (waiting above x l) ≡ l
  unfolding reserved candidate released kept_in
  waiting_release x = go above refl
    where
      go : (b : Above) → above ≡ b → released b (kept_in b l) (waiting b x l) ≡ l
      go Step e = refl
      go First e =
          let n = count_in l in
          let z : n + 1 - 1 ≡ n = omega arith in
          rw (
            waiting_count l size (few e) x,
            z,
            waiting_cells l size (few e) x,
            set-set (set l count_at (n + 1)) n x (get_or l n 0),
            set_comm l count_at n (n + 1) (get_or l n 0) (λ y. omega (arith, few e)),
            set-get_or l n 0,
            set-set l count_at (n + 1) n,
            set-get_or l count_at 0,
          )

  pub waiting_size : (x : ℕ) → length (waiting above x l) ≡ length l
  unfolding reserved candidate
  waiting_size x = go above
    where
      go : (b : Above) → length (waiting b x l) ≡ length l
      go Step = refl
      go First = simp length-set

  pub waiting_few : count_in l ≤ max_literals → (x : ℕ) → (count_in (waiting above x l) ≤ max_literals) × (above ≡ First → 1 ≤ count_in (waiting above x l))
  unfolding reserved candidate
  waiting_few low x = go above refl
    where
      go : (b : Above) → above ≡ b → (count_in (waiting b x l) ≤ max_literals) × (b ≡ First → 1 ≤ count_in (waiting b x l))
      go Step e = (low, λ f. cc)
      go First e = let n = waiting_count l size (few e) x in (omega (arith, n, few e), λ f. omega (arith, n))

-- a candidate begins: its state
module _ (d t : List ℕ) (h : ℕ) (l : List ℕ) (R : Walkable d t h l) (j : ℕ) where
  pub start_small : j < length (literals d) → start_of d j < max_words
  start_small g = let C = accepted d R.whole in omega (arith, start_in d C j g, C.fits)

  pub waiting_state : (above : Above) → (above ≡ First → (HasPlace l) × (j < length (literals d)))
      → state_of (pass_head d above h j) (waiting above j l) ≡ pass_state d above j (state_of h l)
  unfolding reserved candidate pass_head pass_state
  waiting_state Step m = refl
  waiting_state First m =
      let n = count_in l in
      let s = R.size in
      let g : n < max_literals = (m refl).0 in
      let c : count_in (set (set l count_at (n + 1)) n j) ≡ suc n = rw (← waiting_cells l s g j) (waiting_count l s g j) ∙ add-one n in
      let p : position_in (start_of d j) ≡ some (start_of d j) = place_some {x = start_of d j} (λ z. omega (arith, start_small (m refl).1)) in
      rw (
        waiting_cells l s g j,
        c,
        p,
        take-suc-set (set l count_at (n + 1)) n j (simp length-set (omega arith)),
        take-set-le n l count_at (n + 1) (omega arith),
        placed_before puts_at (set l count_at (n + 1)) n j (omega arith),
        placed_behind puts_at l count_at (n + 1) (omega arith),
        placed_before pushes_at (set l count_at (n + 1)) n j (omega arith),
        placed_behind pushes_at l count_at (n + 1) (omega arith),
      )

-- storing back
pub restored_none : (l : List ℕ) → restored 0 l ≡ l
unfolding restored
restored_none l = refl

pub restored_size : (m : ℕ) (l : List ℕ) → length (restored m l) ≡ length l
unfolding restored
restored_size m l = go (eqb m 0)
  where
    go : (b : Bool) → length (cond b l (set l (m / undo_base % undo_base) (m % undo_base))) ≡ length l
    go true = refl
    go false = length-set l (m / undo_base % undo_base) (m % undo_base)

-- a number that isn't 0 stores back by its lowest 16 bits
pub restored_low : (t m : ℕ) (l : List ℕ) → m < 2 ^ 16 → (m ≡ 0 → ⊥) → restored (t * 2 ^ 16 + m) l ≡ restored m l
unfolding restored
restored_low t m l h n =
    let e : (t * 2 ^ 16 + m) / undo_base % undo_base ≡ m / undo_base % undo_base = omega arith in
    let f : (t * 2 ^ 16 + m) % undo_base ≡ m % undo_base = omega arith in
    rw (ne_eqb (t * 2 ^ 16 + m) 0 (λ z. n (omega arith)), ne_eqb m 0 n, e, f)

pub unwound_none : (l : List ℕ) → unwound 0 l ≡ l
unfolding unwound restored
unwound_none l = refl

-- the latest undo first, then the others
pub unwound_next : (t : ℕ) (l : List ℕ) → t < 2 ^ 64 → unwound t l ≡ unwound (t / 2 ^ 16) (restored t l)
unfolding unwound
unwound_next t l h =
    let a : t / 2 ^ 16 / 2 ^ 16 ≡ t / 2 ^ 32 = omega arith in
    let b : t / 2 ^ 16 / 2 ^ 32 ≡ t / 2 ^ 48 = omega arith in
    let c : t / 2 ^ 16 / 2 ^ 48 ≡ 0 = omega arith in
    rw (a, b, c, restored_none)

pub unwound_traced : (t m : ℕ) (l : List ℕ) → t < 2 ^ 48 → m < 2 ^ 16 → (m ≡ 0 → ⊥) → unwound (t * 2 ^ 16 + m) l ≡ unwound t (restored m l)
unwound_traced t m l h k n =
    let e : (t * 2 ^ 16 + m) / 2 ^ 16 ≡ t = omega arith in
    unwound_next (t * 2 ^ 16 + m) l (omega arith) ∙ rw (e, restored_low t m l k n)

-- a query has at most 64 words
pub few_words : {d t : List ℕ} {h : ℕ} {l : List ℕ} → Walkable d t h l → length d ≤ max_words
few_words {d} R = (accepted d R.whole).fits
