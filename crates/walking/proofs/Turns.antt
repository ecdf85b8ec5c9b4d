-- The passes over the words below a node, as the walk's code takes them: where the node is entered, between two passes, and where a pass begins.
use Prim.Native.Nat.{ℕ, ◌+◌, ◌-◌, ◌%◌, ◌≤◌, ◌<◌, min}
use mathlib.Core.Path.{◌≡◌, refl, sym, ap, ◌∙◌}
use mathlib.Core.Bool.{true, false}
use mathlib.Core.Logic.{◌⊎◌, inl, inr, ⊎_elim}
use mathlib.Core.List.{List}
use native.Mathlib.Omega.{arith}
use lib.ListN.{length, get_or}
use Rattle.clause.specs.Clause.{max_literals, literals}
use Rattle.clause.proofs.Lists.{all-weaken}
use Rattle.clause.proofs.Literals.{accepted}
use Rattle.machine.specs.Machine.{State, used}
use Rattle.machine.specs.Inner.Safe.{Safe}
use Rattle.machine.proofs.Safe.{start_in, starting_safe}
use Rattle.walk.specs.Walk.{Answer, covered, not_covered, broken, Part, and_then, up_to}
use Rattle.walk.specs.Words.{walk_words}
use Rattle.walk.specs.Query.{machine}
use Rattle.clause.specs.Inner.Tables.{at_count}
use Rattle.cells.specs.Inner.Cells.{cell_count, no_position, HasPlace, HasCandidate, HasLiterals, state_of, Walkable}
use Rattle.cells.specs.Inner.Cells.{use_limit, bits_of, has_bit, uses_of, saved_byte, above_of, reserved, candidate, released, kept_in, pass_head, pass_state, passes_of, entered}
use Rattle.cells.specs.declared.Above.{Above}
use Rattle.cells.specs.declared.Above.TheVariants.{First, Step}
use Rattle.walking.specs.Inner.Findings.{Walked}
use Rattle.std.specs.Prelude.{Ok, Err}
use Rattle.walking.specs.declared.End.{End}
use Rattle.walking.specs.declared.End.TheVariants.{Found, Broken, Spent}
use Rattle.cells.proofs.Places.{place_some, above_first, above_step, waiting, waiting_reserve, waiting_next, waiting_release, waiting_size, waiting_few, waiting_state}
use Rattle.cells.proofs.Bits.{bits_used, low_bit}
use Rattle.stepping.proofs.Visits.{chosen_length}
use Rattle.walking.proofs.Passes.{runs, runs_whole, runs_end, runs_over, runs_first, runs_plain, runs_spent}
use Rattle.walking.proofs.Passes.{then_on, then_broken, then_covered, then_found, walked_missed, walked_spent, walked_broken, walked_found, walked_same}

-- a clause has no more literals than may be gone through
pub few_passes : {d t l : List ℕ} {h p last : ℕ} (above : Above) → Walkable d t h l → p ≡ passes_of above (get_or t at_count 0) → last ≡ min p max_literals
    → last ≡ passes_of above (get_or t at_count 0)
unfolding passes_of
few_passes {d = d} First w e m = omega (arith, e, m, w.tables.count, (accepted d w.whole).few)
few_passes Step w e m = omega (arith, e, m)

-- the literal of a pass
pass_literal : {above : Above} {last q j : ℕ} → above ≡ First → last ≡ passes_of above q → {n : ℕ} → q ≡ n → j < last → j < n
unfolding passes_of
pass_literal {last = last} {q} {j} e f g h = let z : last ≡ q = f ∙ rw e in omega arith

-- the candidates in the cells are literals
pub walkable_literals : {d t : List ℕ} {h : ℕ} {l : List ℕ} → Walkable d t h l → HasLiterals l
walkable_literals {d} R = let f = (accepted d R.whole).few in (R.few, all-weaken (λ j g. omega (arith, f)) R.safe.chosen)

-- the next pass
turn :
    (d : List ℕ) (b : ℕ) (k : State → Part State) (above : Above) (s : State) → (above ≡ First → length s.chosen < max_literals)
    → (last j n n' : ℕ) → j < last → ((above ≡ First) × (used j s.chosen ≡ false) × (n < b) × (n' ≡ n + 1)) ⊎ ((above ≡ Step) × (n' ≡ n))
    → {u : State} → u ≡ pass_state d above j s
    → runs d b above k s (last - j) j n ≡ and_then (k u n') (runs d b above k s (last - (j + 1)) (j + 1))
turn d b k above s few last j n n' more kind e =
    rw e (⊎_elim
    (λ w. rw w.3 (runs_first d b k s (few w.0) w.0 last j n more w.1 w.2))
    (λ w. rw w.1 (runs_plain d b k s w.0 last j n more))
    kind)

-- the state at the beginning of a pass
module _ (d t : List ℕ) (h : ℕ) (l : List ℕ) (R : Walkable d t h l) (above : Above) (j : ℕ) (more : above ≡ First → (HasPlace l) × (j < length (literals d))) where
  start_ready : Walkable d t (pass_head d above h j) (waiting above j l)
  unfolding pass_state
  start_ready =
      record {
        whole = R.whole;
        tables = R.tables;
        safe = rw (waiting_state d t h l R j above more) (go above refl);
        size = waiting_size above l R.size (λ e. (more e).0) j ∙ R.size;
        few = (waiting_few above l R.size (λ e. (more e).0) R.few j).0;
      }
    where
      go : (b : Above) → above ≡ b → Safe d (pass_state d b j (state_of h l))
      go Step e = R.safe
      go First e = starting_safe d (accepted d R.whole) (state_of h l) R.safe j (more e).1

  start_inside : (above ≡ Step → h < length d) → pass_head d above h j < length d
  unfolding pass_head
  start_inside g = go above refl
    where
      go : (b : Above) → above ≡ b → pass_head d b h j < length d
      go Step e = g e
      go First e = start_in d (accepted d R.whole) j (more e).1

-- a First, which hands on no head, finds a place for one candidate more
pub first_few : (h : ℕ) (l : List ℕ) → (h ≡ no_position → HasPlace l) → {above : Above} → above ≡ above_of h → above ≡ First → HasPlace l
first_few h l room f e = room (above_first h (sym f ∙ e))

-- a node is entered: whether it is a First, how many literals are gone through, and what is saved: the literals used, and what stood where the candidate is to stand
pub record Entry (d t words : List ℕ) (b h : ℕ) (l : List ℕ) (n₀ : ℕ) (above : Above) (last saved : ℕ) (l₁ : List ℕ) : Type 0 where
  pub ready : Walkable d t h l
  pub room : h ≡ no_position → HasPlace l
  pub by_head : above ≡ above_of h
  pub times : last ≡ passes_of above (get_or t at_count 0)
  pub uses : saved % use_limit ≡ uses_of above l
  pub keeps : saved_byte saved ≡ kept_in above l
  pub reserves : l₁ ≡ reserved above l

-- between two passes: a place for the candidate, and the walk is the passes that are left; without the place the cells are those at the entry
pub record Between (d words : List ℕ) (b h n₀ : ℕ) (above : Above) (last saved : ℕ) (l₁ cells : List ℕ) (n j : ℕ) : Type 0 where
  pub inside : j ≤ last
  pub latest : ℕ
  pub place : cells ≡ candidate above latest l₁
  pub same :
      entered d b above (walk_words (machine d) (up_to b) words) (state_of h (released above (saved_byte saved) l₁)) n₀
      ≡ runs d b above (walk_words (machine d) (up_to b) words) (state_of h (released above (saved_byte saved) l₁)) (last - j) j n

-- a pass begins: its count, its head and its cells
pub record Begun (d t words : List ℕ) (b h : ℕ) (l : List ℕ) (n₀ : ℕ) (above : Above) (last saved : ℕ) (l₁ cells : List ℕ) (n j n₁ here : ℕ) (out : List ℕ) : Type 0 where
  pub entry : Entry d t words b h l n₀ above last saved l₁
  pub between : Between d words b h n₀ above last saved l₁ cells n j
  pub more : j < last
  pub counted : ((above ≡ First) × (has_bit saved j ≡ false) × (n < b) × (n₁ ≡ n + 1)) ⊎ ((above ≡ Step) × (n₁ ≡ n))
  pub head : here ≡ pass_head d above h j
  pub stored : out ≡ candidate above j cells

module _ {d t words : List ℕ} {b h : ℕ} {l : List ℕ} {n₀ : ℕ} {above : Above} {last saved : ℕ} {l₁ : List ℕ} (E : Entry d t words b h l n₀ above last saved l₁) where
  abbrev k : State → Part State
  k = walk_words (machine d) (up_to b) words

  abbrev s : State
  s = state_of h l

  size : length l ≡ cell_count
  size = E.ready.size

  few : above ≡ First → HasPlace l
  few = first_few h l E.room E.by_head

  -- any other head stands in the query
  inside : above ≡ Step → h < length d
  inside e = E.ready.safe.head h (place_some (above_step h (sym E.by_head ∙ e)))

  -- the walk is entered by the head
  asked : entered d b (above_of h) k s n₀ ≡ entered d b above k s n₀
  asked = ap (λ (f : Above). entered d b f k s n₀) (sym E.by_head)

  chosen_few : above ≡ First → length s.chosen < max_literals
  chosen_few e = rw (chosen_length d t h l E.ready) (few e)

  literal : {j : ℕ} → j < last → above ≡ First → j < length (literals d)
  literal m e = pass_literal e E.times E.ready.tables.count m

  pub small : {j : ℕ} → j < last → above ≡ First → j < max_literals
  small m e = omega (arith, literal m e, (accepted d E.ready.whole).few)

  -- a literal is used where it has its bit
  pub by_bit : above ≡ First → {j : ℕ} → j < last → has_bit saved j ≡ used j s.chosen
  unfolding uses_of
  by_bit e {j} m =
      let bits : saved % use_limit ≡ bits_of s.chosen = E.uses ∙ rw e in
      sym (low_bit saved j (small m e)) ∙ ap (λ (n : ℕ). has_bit n j) bits ∙ bits_used s.chosen j

  base : released above (saved_byte saved) l₁ ≡ l
  base = rw (E.keeps, E.reserves ∙ waiting_reserve above l size few) (waiting_release above l size few (kept_in above l))

  -- before the first pass
  pub entry_start : Between d words b h n₀ above last saved l₁ l₁ n₀ 0
  entry_start =
      record {
        inside = omega arith;
        latest = kept_in above l;
        place = E.reserves ∙ waiting_reserve above l size few ∙ ap (candidate above (kept_in above l)) (sym E.reserves);
        same = sym (runs_whole d b k _ above (E.times ∙ ap (passes_of above) E.ready.tables.count) n₀);
      }

  module _ {cells : List ℕ} {n j : ℕ} (B : Between d words b h n₀ above last saved l₁ cells n j) where
    held : cells ≡ waiting above B.latest l
    held = B.place ∙ ap (candidate above B.latest) E.reserves

    left : entered d b above k s n₀ ≡ runs d b above k s (last - j) j n
    left = rw base at B.same

    pub between_size : length cells ≡ cell_count
    between_size = rw held (waiting_size above l size few B.latest) ∙ size

    pub between_room : above ≡ First → HasCandidate cells
    between_room e = let f = waiting_few above l size few E.ready.few B.latest in rw held (f.1 e, f.0)

    pub between_literal : j < last → above ≡ First → HasCandidate cells × (j < length (literals d))
    between_literal m e = (between_room e, literal m e)

    -- no pass is left
    pub between_ends : last ≤ j → {out : List ℕ} → out ≡ released above (saved_byte saved) cells → Walked (entered d b (above_of h) k s n₀) l out (Ok n)
    between_ends m o = walked_missed (asked ∙ left ∙ runs_end d b k s above last j n m) (o ∙ rw (E.keeps, held) (waiting_release above l size few B.latest))

    -- literal j is used: it is passed over
    pub between_over : above ≡ First → j < last → has_bit saved j ≡ true → Between d words b h n₀ above last saved l₁ cells n (j + 1)
    between_over e m u =
        record {
          inside = omega arith;
          latest = B.latest;
          place = B.place;
          same = rw base (left ∙ runs_over d b k s (chosen_few e) e last j n m (sym (by_bit e m) ∙ u));
        }

    -- the budget is spent
    pub between_spent : above ≡ First → j < last → has_bit saved j ≡ false → b ≤ n → Walked (entered d b (above_of h) k s n₀) l cells (Err Spent)
    between_spent e m u g = walked_spent (asked ∙ left ∙ runs_spent d b k s (chosen_few e) e last j n m (sym (by_bit e m) ∙ u) g) (between_size ∙ sym size)

module _ {d t words : List ℕ} {b h : ℕ} {l : List ℕ} {n₀ : ℕ} {above : Above} {last saved : ℕ} {l₁ cells : List ℕ} {n j n₁ here : ℕ} {out : List ℕ}
    (P : Begun d t words b h l n₀ above last saved l₁ cells n j n₁ here out) where
  abbrev E : Entry d t words b h l n₀ above last saved l₁
  E = P.entry

  abbrev row : State → Part State
  row = walk_words (machine d) (up_to b) words

  abbrev whole : Answer State
  whole = entered d b (above_of h) row (state_of h l) n₀

  more : above ≡ First → (HasPlace l) × (j < length (literals d))
  more e = (few E e, literal E P.more e)

  begun : out ≡ waiting above j l
  begun = P.stored ∙ rw (held E P.between) (waiting_next above l (size E) (few E) P.between.latest j)

  pub begun_ready : Walkable d t here out × (here < length d)
  begun_ready = (
    rw (P.head, begun) (start_ready d t h l E.ready above j more),
    rw P.head (start_inside d t h l E.ready above j more (inside E)),
  )

  counted : ((above ≡ First) × (used j (state_of h l).chosen ≡ false) × (n < b) × (n₁ ≡ n + 1)) ⊎ ((above ≡ Step) × (n₁ ≡ n))
  counted = ⊎_elim (λ w. inl (w.0, sym (by_bit E w.0 P.more) ∙ w.1, w.2, w.3)) inr P.counted

  -- the walk from this pass on
  next : entered d b above row (state_of h l) n₀ ≡ and_then (row (state_of here out) n₁) (runs d b above row (state_of h l) (last - (j + 1)) (j + 1))
  next =
      left E P.between
      ∙ turn d b row above (state_of h l) (chosen_few E) last j n n₁ P.more counted (rw (P.head, begun) (waiting_state d t h l E.ready j above more))

  -- its row misses
  pub pass_missed : {c : ℕ} {after : List ℕ} → row (state_of here out) n₁ ≡ not_covered c → after ≡ out → Between d words b h n₀ above last saved l₁ after c (j + 1)
  pass_missed e f =
      record {
        inside = let m = P.more in omega arith;
        latest = j;
        place = f ∙ begun ∙ ap (candidate above j) (sym E.reserves);
        same = rw (base E) (next ∙ then_on _ e);
      }

  -- its row ends with anything else
  module _ {after : List ℕ} (sized : length after ≡ cell_count) where
    pub pass_broken : row (state_of here out) n₁ ≡ broken → Walked whole l after (Err Broken)
    pass_broken e = walked_broken (asked E ∙ next ∙ then_broken _ e) (sized ∙ sym (size E))

    pub pass_found : (x : ℕ) {m i c : ℕ} → row (state_of here out) n₁ ≡ covered m (state_of x after) c → i ≡ m → Walked whole l after (Err (Found i c))
    pass_found x e f = walked_found x f (asked E ∙ next ∙ then_covered _ e) (sized ∙ sym (size E))

  pub pass_ends :
      {m after : List ℕ} {r : End} {a : Answer State} → length m ≡ cell_count → row (state_of here out) n₁ ≡ a → Walked a m after (Err r)
      → Walked whole l after (Err r)
  pass_ends z e w = walked_same (asked E ∙ next ∙ then_found _ e w) w (z ∙ sym (size E))
