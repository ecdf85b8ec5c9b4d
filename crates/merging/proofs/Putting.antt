-- The words of a sequence put in at a place of a well-laid slice T, or no room for them.
use Rattle.std.specs.Prelude.{Ok}
use mathlib.Core.Path.{◌≡◌, sym, ap, ap₂, ◌∙◌}
use mathlib.Core.List.{List, ◌∷◌, ◌++◌}
use Prim.Native.Nat.{ℕ, ◌+◌, ◌-◌, ◌≤◌, ◌<◌}
use native.Mathlib.Omega.{arith}
use lib.ListN.{length, get_or, take, drop, set, length-take, length-drop, length-append}
use lib.Seq.{take_all, drop-drop}
use borrow.Author.Tests.{lt-ltb, le-ltb}
use borrow.Rule.Slice.PartMut.{put_mid}
use Rattle.tree.specs.Laid.{most_words, one_more, used_of, region}
use Rattle.tree.specs.Inner.Merge.{Descent, from_top, new_words, splice}
use Rattle.tree.specs.Calls.{Called, refused}
use Rattle.tree.specs.Inner.ByWords.{insert_at}
use Rattle.merging.specs.Inner.Inserting.{Mergeable}
use Rattle.tree.specs.declared.Refusal.TheVariants.{NoRoom}
use Rattle.tree.specs.declared.Done.TheVariants.{Kept}
use Rattle.merging.proofs.UsedWords.{Parts, parts}
use Rattle.merging.proofs.Fitted.{fitted}

-- a slice and keys to insert
pub slice_parts : {T cs : List ℕ} → Mergeable T cs → Parts T
slice_parts {T} r = parts T r.size r.laid

-- the end of the used words, in the slice
abbrev pub end_of : List ℕ → ℕ
end_of T = used_of (get_or T 0 0) + 1

-- a place among the used words is in the slice
pub place_inside : {T cs : List ℕ} {p : ℕ} → Mergeable T cs → p ≤ length (region T) → (p < end_of T) × (end_of T ≤ length T) × (length T ≤ most_words)
place_inside r h = let P = slice_parts r in (omega (arith, P.many), omega (arith, P.room), P.short)

-- ---- at the place p, where k keys have a word

-- where the keys lead, by the used words
abbrev pub way : List ℕ → List ℕ → Descent
way T cs = from_top (region T) cs

-- the words that are new
abbrev pub new_of : List ℕ → ℕ → ℕ
new_of cs k = length cs - k + 1

-- insertion there
abbrev pub inserted_at : (T : List ℕ) (n : ℕ) (cs : List ℕ) (p k : ℕ) → Called
inserted_at T n cs p k = insert_at T n p (drop k cs) (way T cs).raised

-- the slice with the raised words L back in it, the words behind them, and the part that is lent then
abbrev back_in : List ℕ → List ℕ → List ℕ
back_in T L = put_mid 1 (end_of T - 1) T L

abbrev tail_of : List ℕ → List ℕ
tail_of T = drop (end_of T - 1) (drop 1 T)

abbrev part_at : (T cs L : List ℕ) (p k : ℕ) → List ℕ
part_at T cs L p k = take (end_of T + new_of cs k - (p + 1)) (drop (p + 1) (back_in T L))

-- the keys that have no word yet, as they are lent
abbrev rest_of : List ℕ → ℕ → List ℕ
rest_of cs k = take (length cs - k) (drop k cs)

module _ {T cs : List ℕ} {p : ℕ} (n k : ℕ) (r : Mergeable T cs) (within : p ≤ length (region T)) where
  P : Parts T
  P = slice_parts r

  same : length (drop k cs) + 1 ≡ new_of cs k
  same = omega (arith, length-drop k cs)

  -- there is no room
  pub insert_cramped : length T < end_of T + new_of cs k → refused NoRoom T ≡ inserted_at T n cs p k
  insert_cramped u = rw (same, lt-ltb (length T) (end_of T + new_of cs k) u)

  module _ (room : end_of T + new_of cs k ≤ length T) (L : List ℕ) (long : length L ≡ length (region T)) where
    whole : back_in T L ≡ get_or T 0 0 ∷ (L ++ tail_of T)
    whole = ap (λ (l : List ℕ). take 1 l ++ (L ++ tail_of T)) (sym P.split)

    rest_keys : rest_of cs k ≡ drop k cs
    rest_keys = take_all (length cs - k) (drop k cs) (omega (arith, length-drop k cs))

    -- the part that is lent has room for the new words
    pub insert_room : length (rest_of cs k) + 1 ≤ length (part_at T cs L p k)
    insert_room =
        let tail : length (tail_of T) ≡ length T - end_of T = simp length-drop (omega arith) in
        let x : length (back_in T L) ≡ length T = rw whole (simp length-append (omega (arith, tail, long, P.many, room))) in
        rw rest_keys (simp (length-take, length-drop) (omega (arith, x, P.many, within)))

    -- the new words are put in
    pub insert_kept : (B : List ℕ) → L ≡ (way T cs).raised (new_of cs k)
        → B ≡ new_words (rest_of cs k) n ++ take (length (part_at T cs L p k) - (length (rest_of cs k) + 1)) (part_at T cs L p k)
        → ◌≡◌ {A = Called}
        (record {
          answer = Ok Kept;
          slice = set (put_mid (p + 1) (end_of T + new_of cs k - (p + 1)) (back_in T L) B) 0 (one_more (get_or T 0 0) (new_of cs k));
        })
        (inserted_at T n cs p k)
    insert_kept B up back =
        let N = new_words (drop k cs) n in
        let m = new_of cs k in
        let v = one_more (get_or T 0 0) m in
        let far : m ≤ length (tail_of T) = simp length-drop (omega (arith, room)) in
        let tail : drop m (tail_of T) ≡ drop (end_of T + m) T =
        (let e : 1 + (end_of T - 1 + m) ≡ end_of T + m = omega arith in
        drop-drop m (end_of T - 1) (drop 1 T) ∙ drop-drop (end_of T - 1 + m) 1 T ∙ ap (λ (i : ℕ). drop i T) e) in
        let done =
        fitted L (tail_of T) N p m (omega (arith, long, within)) far (get_or T 0 0) v (end_of T + m) (back_in T L) B
        (omega (arith, long, P.many)) whole (rw (rest_keys, same) at back) in
        rw (same, le-ltb (length T) (end_of T + m) room)
        (ap (λ (l : List ℕ). record { answer = Ok Kept; slice = l }) (done ∙ ap₂ (λ (l z : List ℕ). v ∷ (splice l p N ++ z)) up tail))
