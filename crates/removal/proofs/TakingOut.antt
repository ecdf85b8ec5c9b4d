-- Words taken out of a well-laid slice in place, and that this is removal on the words.
use Rattle.std.specs.Prelude.{Ok}
use mathlib.Core.Path.{◌≡◌, refl, sym, ap, ap₂, subst, ◌∙◌}
use mathlib.Core.List.{List, [], ◌∷◌, ◌++◌, append-nil, append_assoc}
use mathlib.Core.Bool.{true}
use mathlib.Core.Option.{Option, none, some}
use Prim.Native.Nat.{ℕ, zero, suc, ◌+◌, ◌-◌, ◌/◌, ◌^◌, ◌≤◌, ◌<◌}
use native.Mathlib.Numerals.{add-one}
use native.Mathlib.Nat.{add_comm}
use native.Mathlib.Omega.{arith}
use lib.Dec.{T}
use lib.ListN.{length, take, drop, get_or, set, replicate, length-append, length-drop, take-append-drop, drop_of_length-le, replicate-append-replicate}
use lib.Seq.{length-take-le, take_all, take_at, drop_at, take-take, drop-drop}
use borrow.Author.Tests.{ltb-false, ne_eqb}
use borrow.Rule.Slice.PartMut.{put_mid}
use Rattle.tree.specs.Keys.{first_key}
use Rattle.tree.specs.Laid.{most_words, one_less, extent_of, used_of, kept_of, region, rows, well_laid}
use Rattle.tree.specs.Inner.Cut.{Span, locate, lower, cut}
use Rattle.removal.specs.Inner.Close.{Lowerable, Removable, close_up, taken_out}
use Rattle.tree.specs.Calls.{Called, refused}
use Rattle.tree.specs.Inner.ByWords.{remove_by_words}
use Rattle.tree.specs.declared.Done.TheVariants.{Removed}
use Rattle.tree.specs.declared.Refusal.TheVariants.{NoSuchNumber}
use Rattle.tree.proofs.Grow.{rows_under, Tests, tests, zeros_replicated}
use Rattle.tree.proofs.RemoveWords.{cut_parts}
use Rattle.removal.proofs.Locating.{Found, found}

-- ---- the words before the place

pub length_lower : (ws : List ℕ) (d r : ℕ) → length (lower ws d r) ≡ length ws
length_lower [] d r = refl
length_lower (w ∷ ws) zero r = refl
length_lower (w ∷ ws) (suc d) r = ap suc (length_lower ws d r)

-- a word with a word below it is no Success, so its key is not small
rows_high : (ws : List ℕ) → T (rows ws) → Lowerable ws (2 ^ 60)
rows_high [] t p h = absurd (omega arith)
rows_high (w ∷ ws) t zero h =
    let u = rows_under w ws t in omega (arith, ltb-false (w / 2 ^ 28) first_key (u.ends ∙ ne_eqb (extent_of w) 1 (omega arith)))
rows_high (w ∷ ws) t (suc p) h = rows_high ws (rows_under w ws t).rest p h

lowerable_take : (k : ℕ) (ws : List ℕ) (r : ℕ) → Lowerable ws r → Lowerable (take k ws) r
lowerable_take zero ws r f p h = absurd (omega arith)
lowerable_take (suc k) [] r f p h = absurd (omega arith)
lowerable_take (suc k) (w ∷ ws) r f zero h = f 0 h
lowerable_take (suc k) (w ∷ ws) r f (suc p) h = lowerable_take k ws r (λ q. f (suc q)) p h

-- ---- the words from the place on

swap_zeros : (a b : ℕ) → ◌++◌ {A = ℕ} (replicate a 0) (replicate b 0) ≡ replicate b 0 ++ replicate a 0
swap_zeros a b = replicate-append-replicate a b 0 ∙ ap (λ (k : ℕ). replicate k 0) (add_comm a b) ∙ sym (replicate-append-replicate b a 0)

-- where only zeros follow, closing up the used words closes up all
close_zeros : (ws : List ℕ) (used gone m : ℕ) → gone ≤ used → drop used ws ≡ replicate m 0 → close_up ws used gone ≡ drop gone ws ++ replicate gone 0
close_zeros ws used gone m h z =
    let end : gone + (used - gone) ≡ used = omega arith in
    let rest : drop (used - gone) (drop gone ws) ≡ replicate m 0 = drop-drop (used - gone) gone ws ∙ rw (end, z) in
    go (take (used - gone) (drop gone ws)) (drop gone ws) (rw (← rest) (sym (take-append-drop (used - gone) (drop gone ws))))
  where
    go : (kept all : List ℕ) → all ≡ kept ++ replicate m 0 → kept ++ (replicate gone 0 ++ drop used ws) ≡ all ++ replicate gone 0
    go kept all e = rw (e, z, append_assoc kept (replicate m 0) (replicate gone 0)) (ap (kept ++◌) (swap_zeros gone m))

-- lowering before the place and closing up from it on is cutting, with zeros after
cut_closed : (ws : List ℕ) (place used gone m : ℕ) → place + gone ≤ used → drop used ws ≡ replicate m 0
    → lower (take place ws) place gone ++ close_up (drop place ws) (used - place) gone ≡ cut ws place gone ++ replicate gone 0
cut_closed ws place used gone m h z =
    let end : place + (used - place) ≡ used = omega arith in
    let low : List ℕ = lower (take place ws) place gone in
    let after : drop (used - place) (drop place ws) ≡ replicate m 0 = drop-drop (used - place) place ws ∙ ap (λ (k : ℕ). drop k ws) end ∙ z in
    ap (low ++◌) (close_zeros (drop place ws) (used - place) gone m (omega arith) after ∙ ap (◌++ replicate gone 0) (drop-drop gone place ws))
    ∙ sym (append_assoc low (drop (place + gone) ws) (replicate gone 0))
    ∙ ap (◌++ replicate gone 0) (sym (cut_parts ws place gone))

-- ---- the two parts lent one after the other

-- the slice once the words before the place are back
abbrev pub lent : List ℕ → ℕ → List ℕ → List ℕ
lent s place L = put_mid 1 (place + 1 - 1) s L

-- a tail that was lent and is back: what stood before it, and what it holds now
tail_back : (s t : List ℕ) (a : ℕ) → a ≤ length s → put_mid a (length s - a) s t ≡ take a s ++ t
tail_back s t a h =
    let e : length (drop a s) ≤ length s - a = simp length-drop (omega arith) in
    ap (λ (l : List ℕ). take a s ++ (t ++ l)) (drop_of_length-le (drop a s) e) ∙ ap (take a s ++◌) (append-nil t)

module _ (h : ℕ) (D L : List ℕ) (place : ℕ) (long : length L ≡ place) where
  before_tail : take (place + 1) (h ∷ (L ++ D)) ≡ h ∷ L
  before_tail = rw add-one (ap (h ∷◌) (take_at L D place long))

  the_tail : take (length (h ∷ (L ++ D)) - (place + 1)) (drop (place + 1) (h ∷ (L ++ D))) ≡ D
  the_tail = rw (add-one, drop_at L D place long) (take_all (suc (length (L ++ D)) - suc place) D (rw (length-append L D, long) (omega arith)))

pub taken : (s : List ℕ) (place gone : ℕ) (L C : List ℕ) → Removable s place gone
    → L ≡ lower (take (place + 1 - 1) (drop 1 s)) (length (take (place + 1 - 1) (drop 1 s))) gone
    → C ≡ close_up (take (length (lent s place L) - (place + 1)) (drop (place + 1) (lent s place L))) (used_of (get_or s 0 0) - place) gone
    → set (put_mid (place + 1) (length (lent s place L) - (place + 1)) (lent s place L) C) 0 (one_less (get_or s 0 0) gone) ≡ taken_out s place gone
taken [] place gone L C r p q = absurd (omega (arith, r.room))
taken (h ∷ ws) place gone L C r p q =
    let w : place + 1 - 1 ≡ place = omega arith in
    let D : List ℕ = drop place ws in
    let short : length (take place ws) ≡ place = length-take-le place ws (omega (arith, r.room, r.inside)) in
    let lowers : L ≡ lower (take place ws) place gone = p ∙ rw (w, short) in
    let long : length L ≡ place = ap length lowers ∙ length_lower (take place ws) place gone ∙ short in
    let closes : C ≡ close_up D (used_of h - place) gone = q ∙ rw w (rw (the_tail h D L place long)) in
    let back : put_mid (place + 1) (length (lent (h ∷ ws) place L) - (place + 1)) (lent (h ∷ ws) place L) C ≡ h ∷ (L ++ C) =
    rw w (tail_back (h ∷ (L ++ D)) C (place + 1) (rw (length-append L D, long) (omega arith)) ∙ ap (◌++ C) (before_tail h D L place long)) in
    ap (λ (l : List ℕ). set l 0 (one_less h gone)) back ∙ ap₂ (λ (a b : List ℕ). one_less h gone ∷ (a ++ b)) lowers closes

-- ---- removal

-- the scan of the used words
abbrev pub scan : List ℕ → ℕ → Option Span
scan t n = locate (region t) n 0 0 0

-- what was found in the words of a well-laid slice
record Hit (h : ℕ) (ws : List ℕ) (n : ℕ) (s : Span) : Type 0 where
  laid : Tests h ws
  at : locate (take (used_of h) ws) n 0 0 0 ≡ some s
  order : s.place ≤ s.last
  inside : s.last < used_of h
  kept : 1 ≤ kept_of h

hit : (h : ℕ) (ws : List ℕ) (n : ℕ) (s : Span) → n < first_key → well_laid (h ∷ ws) ≡ true → some s ≡ scan (h ∷ ws) n → Hit h ws n s
unfolding region
hit h ws n s l w e =
    let t : Tests h ws = tests h ws (rw w tt) in
    let here : locate (take (used_of h) ws) n 0 0 0 ≡ some s = sym e in
    let f : Found (take (used_of h) ws) 0 s = found (take (used_of h) ws) n 0 0 0 s l (omega arith) here in
    record {
      laid = t;
      at = here;
      order = f.order;
      inside = omega (arith, f.inside, length-take-le (used_of h) ws t.room);
      kept = omega (arith, f.counted, t.count);
    }

-- what is found is among them
pub hit_order : (t : List ℕ) (n : ℕ) (s : Span) → n < first_key → well_laid t ≡ true → some s ≡ scan t n
    → (s.place ≤ s.last) × (s.last < used_of (get_or t 0 0))
unfolding region
hit_order [] n s l w e = cc
hit_order (h ∷ ws) n s l w e = let f : Hit h ws n s = hit h ws n s l w e in (f.order, f.inside)

-- what is found in a well-laid slice can be taken out, and so can fewer words
pub removable : (t : List ℕ) (n : ℕ) (s : Span) (gone : ℕ) → gone ≤ s.last + 1 - s.place → length t ≤ most_words → n < first_key
    → well_laid t ≡ true → some s ≡ scan t n → Removable t s.place gone
unfolding region
removable [] n s gone q u l w e = cc
removable (h ∷ ws) n s gone q u l w e =
    let f : Hit h ws n s = hit h ws n s l w e in
    let same : take s.place (take (used_of h) ws) ≡ take s.place ws = take-take s.place (used_of h) ws (omega (arith, f.order, f.inside)) in
    let high : Lowerable (take s.place ws) (2 ^ 60) =
    subst (λ (l : List ℕ). Lowerable l (2 ^ 60)) same (lowerable_take s.place (take (used_of h) ws) (2 ^ 60) (rows_high (take (used_of h) ws) f.laid.inside)) in
    record {
      room = omega (arith, f.laid.room);
      inside = omega (arith, f.order, f.inside);
      kept = f.kept;
      high = λ p v. omega (arith, high p v, f.inside, f.laid.room);
    }

-- and this is removal
pub removed : (t : List ℕ) (n : ℕ) (s : Span) → n < first_key → well_laid t ≡ true → some s ≡ scan t n
    → ◌≡◌ {A = Called} (record { answer = Ok Removed; slice = taken_out t s.place (s.last + 1 - s.place) }) (remove_by_words t n)
unfolding remove_by_words region
removed [] n s l w e = cc
removed (h ∷ ws) n s l w e =
    let f : Hit h ws n s = hit h ws n s l w e in
    let many : s.last + 1 - s.place ≡ suc s.last - s.place = omega arith in
    let closed =
    cut_closed ws s.place (used_of h) (suc s.last - s.place) (length (drop (used_of h) ws)) (omega (arith, f.order, f.inside))
    (zeros_replicated (drop (used_of h) ws) f.laid.after) in
    rw (f.at, many, closed)

-- a number that is not found is refused
pub missed : (t : List ℕ) (n : ℕ) → well_laid t ≡ true → none ≡ scan t n → refused NoSuchNumber t ≡ remove_by_words t n
unfolding remove_by_words well_laid region
missed [] n w e = cc
missed (h ∷ ws) n w e = let here : locate (take (used_of h) ws) n 0 0 0 ≡ none = sym e in rw here
