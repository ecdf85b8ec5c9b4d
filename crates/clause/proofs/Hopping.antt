-- The way over a clause from literal to literal, which notes where each of them starts.
use mathlib.Core.Path.{◌≡◌, refl, sym, ap, ◌∙◌}
use mathlib.Core.List.{List, [], ◌∷◌, ◌++◌, flatten, append_assoc, append-nil}
use Prim.Native.Nat.{ℕ, suc, ◌+◌, ◌<◌, ◌≤◌}
use native.Mathlib.Decide.{dec_lt}
use native.Mathlib.Numerals.{add-one}
use native.Mathlib.Omega.{arith}
use lib.ListN.{length, get_or, take, drop, set, length-append}
use lib.Seq.{take_all, take-suc, length-take-le}
use Rattle.clause.specs.Word.{arity}
use Rattle.clause.specs.Clause.{Accepted, max_literals, literals, starts, start_of, skip}
use Rattle.clause.specs.Positions.{jump, ends, siblings}
use Rattle.clause.specs.Inner.Tables.{at_ends, at_count, packed, tables_of, tables_from}
use Rattle.clause.proofs.Lists.{all_get}
use Rattle.clause.proofs.Skip.{skip_shaped}
use Rattle.clause.proofs.Jump.{enough_here}
use Rattle.clause.proofs.Literals.{accepted, literal_shaped}
use Rattle.clause.proofs.Starts.{length_starts, found}
use Rattle.clause.proofs.Ends.{ends_at, jump_one, jump_from}
use Rattle.clause.proofs.Siblings.{starts_before, no_words_before, enough_start}
use Rattle.clause.proofs.Packing.{end_at, set_start, set_count}

flatten_snoc : (ls : List (List ℕ)) (l : List ℕ) → flatten (ls ++ (l ∷ [])) ≡ flatten ls ++ l
unfolding flatten
flatten_snoc [] l = append-nil l
flatten_snoc (x ∷ ls) l = rw (flatten_snoc ls l) (sym (append_assoc x (flatten ls) l))

-- so many literals are passed, and where each of them starts is noted
pub record Hopped (d : List ℕ) (count at : ℕ) (table : List ℕ) : Type 0 where
  pub few : count ≤ length (literals d)
  pub place : at ≡ length (flatten (take count (literals d)))
  pub is : table ≡ packed (take count (starts d)) (ends d) (siblings d []) 0

pub hopped_none : (d table : List ℕ) → table ≡ tables_from d 0 → Hopped d 0 0 table
unfolding tables_from flatten
hopped_none d table e = record { few = omega arith; place = refl; is = e }

module _ (d : List ℕ) (A : Accepted d) (count at : ℕ) {table : List ℕ} (H : Hopped d count at table) where
  -- where words are left, a literal is
  hopped_more : at < length d → count < length (literals d)
  hopped_more h = go (dec_lt count (length (literals d)))
    where
      go : Dec (count < length (literals d)) → count < length (literals d)
      go (yes g) = g
      go (no n) =
          let e : at ≡ length d = H.place ∙ rw (take_all count (literals d) (omega arith)) (ap length (accepted d A).whole) in
          absurd (omega arith)

  hopped_start : count < length (literals d) → (start_of d count < length d) × (start_of d count ≡ at)
  hopped_start g =
      let D = accepted d A in
      let l : start_of d count < length d = enough_here d 0 (start_of d count) (enough_start d D count g) in
      let e : take (start_of d count) d ≡ flatten (take count (literals d)) = rw (starts_before d count g, no_words_before d D) in
      (l, sym (length-take-le (start_of d count) d (omega arith)) ∙ ap length e ∙ sym H.place)

  pub hopped_high : at ≤ length d
  hopped_high = go (dec_lt count (length (literals d)))
    where
      go : Dec (count < length (literals d)) → at ≤ length d
      go (yes g) = omega (arith, hopped_start g)
      go (no n) =
          let e : at ≡ length d = H.place ∙ rw (take_all count (literals d) (omega arith)) (ap length (accepted d A).whole) in
          omega arith

  pub hopped_room : at < length d → count < max_literals
  hopped_room h = omega (arith, hopped_more h, (accepted d A).few)

  hopped_end : count < length (literals d) → jump d 1 at ≡ length (flatten (take (suc count) (literals d)))
  unfolding jump flatten
  hopped_end g =
      let (l, e) = hopped_start g in
      let (r, f) = found d count g in
      let x = get_or (literals d) count [] in
      let f : drop at d ≡ x ++ r = rw (← e) f in
      let s : skip 1 (x ++ r) ≡ length x = skip_shaped (literal_shaped (all_get (literals d) (accepted d A).all count [] g)) r in
      rw (f, s, take-suc (literals d) count [] g, flatten_snoc, length-append, H.place)

  -- one literal more
  pub hopped_next : at < length d
      → (at < jump d 1 at) × (get_or (set table count at) (at_ends + at) 0 ≡ jump d 1 at) × Hopped d (count + 1) (jump d 1 at) (set table count at)
  hopped_next h =
      let g = hopped_more h in
      let few = (accepted d A).few in
      let fits = (accepted d A).fits in
      let k : count < length (starts d) = rw length_starts g in
      let l : length (take count (starts d)) ≡ count = length-take-le count (starts d) (omega arith) in
      let m : length (take count (starts d)) < max_literals = rw l (omega arith) in
      let t : take (suc count) (starts d) ≡ take count (starts d) ++ (at ∷ []) = rw (take-suc (starts d) count 0 k, (hopped_start g).1) in
      let u : set (packed (take count (starts d)) (ends d) (siblings d []) 0) count at
      ≡ packed (take count (starts d) ++ (at ∷ [])) (ends d) (siblings d []) 0 =
      ap (λ (i : ℕ). set (packed (take count (starts d)) (ends d) (siblings d []) 0) i at) (sym l)
      ∙ set_start (take count (starts d)) (ends d) (siblings d []) 0 at m in
      let s : set table count at ≡ packed (take (suc count) (starts d)) (ends d) (siblings d []) 0 = rw (H.is, t) u in (
        omega (arith, jump_one d at h, jump_from d (arity (get_or d at 0)) (suc at)),
        ap (λ (x : List ℕ). get_or x (at_ends + at) 0) s ∙ end_at (take (suc count) (starts d)) (ends d) (siblings d []) 0 at (omega arith) ∙ ends_at d at h,
        rw add-one (record { few = omega arith; place = hopped_end g; is = s }),
      )

  -- all literals are noted
  pub hopped_all : length d ≤ at → set table at_count count ≡ tables_of d
  unfolding tables_of
  hopped_all h = go (dec_lt count (length (literals d)))
    where
      go : Dec (count < length (literals d)) → set table at_count count ≡ packed (starts d) (ends d) (siblings d []) (length (starts d))
      go (yes g) = absurd (omega (arith, hopped_start g))
      go (no n) =
          let c : count ≡ length (starts d) = rw length_starts (omega (arith, H.few)) in
          let t : take count (starts d) ≡ starts d = take_all count (starts d) (omega arith) in
          rw (H.is, t) (set_count (starts d) (ends d) (siblings d []) 0 count ∙ rw c)
