-- Insertion and removal on the words themselves are insertion and removal.
use Rattle.std.specs.Prelude.{Ok, Result}
use mathlib.Core.Path.{◌≡◌, refl, sym, ap, ap₂, ◌∙◌}
use mathlib.Core.Bool.{Bool, true, false, and-eq-true_iff}
use mathlib.Core.Option.{Option, none, some}
use mathlib.Core.List.{List, ◌∷◌, ◌++◌}
use Prim.Native.Nat.{ℕ, suc, ◌+◌, ◌^◌, ◌≤◌, ◌<◌}
use native.Mathlib.Omega.{arith}
use lib.Dec.{leb, ltb}
use lib.ListN.{length, get_or, drop}
use borrow.Author.Tests.{leb-true, leb-false, lt-ltb, le-ltb}
use Rattle.clause.specs.Clause.{shape}
use Rattle.tree.specs.Keys.{first_key}
use Rattle.tree.specs.Forest.{header_of, Forest, size, leaves, encode, layout, ins, del, find, holder, WellFormed, Body}
use Rattle.tree.specs.Laid.{least_words, most_words, max_kept, sized, used_of, well_laid, decode}
use Rattle.tree.specs.Entries.{Entry, Pair, entry}
use Rattle.tree.specs.Inner.Merge.{Descent, from_top}
use Rattle.tree.specs.Inner.Cut.{locate}
use Rattle.tree.specs.Changes.{refuse, change, insert_into, remove_from}
use Rattle.tree.specs.Laws.{Stands}
use Rattle.tree.specs.Calls.{Called, changed, insertion, removal}
use Rattle.tree.specs.Inner.ByWords.{insert_at, insert_unless, insert_by_words, remove_at, remove_by_words}
use Rattle.clause.proofs.Literals.{accepted}
use Rattle.machine.proofs.Codes.{sequence_plain}
use Rattle.tree.proofs.Plain.{plain_body}
use Rattle.tree.proofs.Words.{used_layout, header_layout, count_layout, region_layout, take_layout, length_layout}
use Rattle.tree.proofs.InsertWords.{filled, ins_size, ins_words, over_filled, ins_leaves}
use Rattle.tree.proofs.RemoveWords.{Closes, closes, locate_none, del_leaves, del_filled}
use Rattle.tree.proofs.Held.{hold_top}
use Rattle.tree.proofs.Grow.{laid_decode}
use Rattle.clause.specs.Word.{Words}
use Rattle.tree.specs.declared.Refusal.TheVariants.{NoRoom}
use Rattle.tree.specs.declared.Done.{Done}
use Rattle.tree.specs.declared.Done.TheVariants.{Kept, Removed}
use Rattle.tree.specs.declared.Refusal.{Refusal}

-- a slice is its header and its words
laid_words : (len : ℕ) (F : Forest) → layout len F ≡ header_of (size F) (leaves F) ∷ filled len F
unfolding layout
laid_words len F = refl

module _ (len : ℕ) (F : Forest) (f : WellFormed F) (room : size F < len) (high : len ≤ most_words) where
  -- the header of the slice
  abbrev header : ℕ
  header = header_of (size F) (leaves F)

  -- a new tree in the slice
  changes_to : (G : Forest) (a : Result Done Refusal) (h : ℕ) (ws : List ℕ) → h ≡ header_of (size G) (leaves G) → ws ≡ filled len G
      → ◌≡◌ {A = Called} (record { answer = a; slice = h ∷ ws }) (changed (layout len F) a (change G))
  changes_to G a h ws p q = rw (length_layout len F room, laid_words len G, p, q)

  -- ---- insertion

  module _ (e : Entry) (b : Body e.keys) (l : e.number < first_key) where
    abbrev G : Forest
    G = ins e.keys e.number F

    abbrev D : Descent
    D = from_top (encode F) e.keys

    -- the words that are new
    abbrev new : ℕ
    new = length D.left + 1

    larger : size G ≡ size F + new
    larger = ins_size e.keys F (omega arith) e.number

    abbrev placed : Called
    placed = insert_at (layout len F) e.number D.place D.left D.raised

    -- there is room
    insert_room : leb len (size G) ≡ false → placed ≡ changed (layout len F) (Ok Kept) (change G)
    insert_room q =
        let small : size G < len = leb-false len (size G) q in
        let S = layout len F in
        let next : size F + 1 + new ≡ suc (size F + new) = omega arith in
        let fits : ltb (length S) (used_of (get_or S 0 0) + 1 + new) ≡ false =
        rw (length_layout len F room, header_layout len F (omega arith)) (le-ltb len (size F + 1 + new) (omega (arith, larger))) in
        let rest : drop (used_of (get_or S 0 0) + 1 + new) S ≡ drop (size F + new) (filled len F) =
        rw (header_layout len F (omega arith), next, laid_words len F) in
        rw fits
        (changes_to G (Ok Kept) _ _ (rw (laid_words len F) (omega (arith, larger, ins_leaves e.keys e.number F b l)))
        (ap₂ ◌++◌ (ins_words e.keys F (omega arith) e.number) rest ∙ over_filled len new F G larger small))

    -- there is none
    insert_full : leb len (size G) ≡ true → placed ≡ changed (layout len F) (Ok Kept) (refuse NoRoom)
    insert_full q =
        let large : len ≤ size G = leb-true len (size G) q in
        rw (length_layout len F room, header_layout len F (omega arith), lt-ltb len (size F + 1 + new) (omega (arith, larger)))

    insert_at_lem : find e.number F ≡ none → holder e.keys F ≡ none → (s t : Bool) → leb max_kept (leaves F) ≡ s → leb len (size G) ≡ t
        → insert_unless (layout len F) e.number D none none ≡ changed (layout len F) (Ok Kept) (insert_into len F e)
    unfolding insert_into
    insert_at_lem u v true t p q = rw (count_layout len F (omega arith), p) (rw (u, v, p, insert_into))
    insert_at_lem u v false true p q = rw (count_layout len F (omega arith), p) (rw (u, v, p, q, insert_into) (insert_full q))
    insert_at_lem u v false false p q = rw (count_layout len F (omega arith), p) (rw (u, v, p, q, insert_into) (insert_room q))

    -- by where the number stands and who holds the sequence
    by_words : insert_by_words (layout len F) e ≡ insert_unless (layout len F) e.number D (locate (encode F) e.number 0 0 0) (holder e.keys F)
    unfolding insert_by_words
    by_words =
        let S = layout len F in
        let n = e.number in
        ap (λ (l : List ℕ). insert_unless S n (from_top l e.keys) (locate l n 0 0 0) (from_top l e.keys).holder) (region_layout len F (omega arith))
        ∙ ap (insert_unless S n D (locate (encode F) n 0 0 0)) (hold_top e.keys F (omega arith))

    pub insert_laid : insert_by_words (layout len F) e ≡ changed (layout len F) (Ok Kept) (insert_into len F e)
    unfolding insert_into
    insert_laid = by_words ∙ go (find e.number F) refl (holder e.keys F) refl
      where
        go : (o : Option (List ℕ)) → find e.number F ≡ o → (m : Option ℕ) → holder e.keys F ≡ m
            → insert_unless (layout len F) e.number D (locate (encode F) e.number 0 0 0) m ≡ changed (layout len F) (Ok Kept) (insert_into len F e)
        go (some cs) u m v = rw (closes e.number F l f (omega arith) cs u).found (rw (u, insert_into))
        go none u (some m) v = rw (locate_none e.number F l f (omega arith) u) (rw (u, v, insert_into))
        go none u none v = rw (locate_none e.number F l f (omega arith) u) (insert_at_lem u v (leb max_kept (leaves F)) (leb len (size G)) refl refl)

  -- ---- removal

  module _ (n : ℕ) (l : n < first_key) where
    remove_found : (cs : List ℕ) → find n F ≡ some cs → (c : Closes n F)
        → remove_at header (filled len F) (locate (encode F) n 0 0 0) ≡ changed (layout len F) (Ok Removed) (change (del n F))
    remove_found cs u c =
        rw c.found
        (changes_to (del n F) (Ok Removed) _ _ (omega (arith, c.sized, del_leaves n F cs l f u)) (sym (del_filled n len F room c)))

    pub remove_laid : remove_by_words (layout len F) n ≡ changed (layout len F) (Ok Removed) (remove_from F n)
    unfolding remove_by_words remove_from
    remove_laid =
        rw (laid_words len F, used_layout len F (omega arith), take_layout len F (omega arith)) (rw (← laid_words len F) (go (find n F) refl))
      where
        go : (o : Option (List ℕ)) → find n F ≡ o
            → remove_at header (filled len F) (locate (encode F) n 0 0 0) ≡ changed (layout len F) (Ok Removed) (remove_from F n)
        go (some cs) u = rw (u, remove_from) (remove_found cs u (closes n F l f (omega arith) cs u))
        go none u = rw (locate_none n F l f (omega arith) u) (rw (u, remove_from) (rw (laid_words len F)))

-- ---- any well-laid slice

module _ (T : List ℕ) (s : sized T ≡ true) (w : well_laid T ≡ true) where
  short : length T ≤ most_words
  short = leb-true (length T) most_words ((and-eq-true_iff (leb least_words (length T)) (leb (length T) most_words)).0 s).1

  stands : Stands T (decode T)
  stands = laid_decode T (omega (arith, short)) (rw w tt)

  pub insertion_words : (c : List ℕ) (n q : ℕ) → shape c ≡ Ok q → Words c → n < 2 ^ 32
      → insertion T c n ≡ insert_by_words T (entry (record { number = n; clause = c }))
  unfolding insertion
  insertion_words c n q e u l =
      let p : Pair = record { number = n; clause = c } in
      rw (s, e, w)
      (sym (rw (← stands.words) at
      (insert_laid (length T) (decode T) stands.formed stands.room short (entry p) (plain_body (sequence_plain c (accepted c (q, e)) u)) l)))

  pub removal_words : (n : ℕ) → n < 2 ^ 32 → removal T n ≡ remove_by_words T n
  unfolding removal
  removal_words n l = rw (s, w) (sym (rw (← stands.words) at (remove_laid (length T) (decode T) stands.formed stands.room short n l)))
