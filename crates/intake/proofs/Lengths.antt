-- Whatever becomes of a record, the slice keeps its length.
use Rattle.std.specs.Prelude.{Err, Ok, Result, ℕ}
use mathlib.Core.Path.{◌≡◌, refl, ◌∙◌}
use mathlib.Core.Option.{Option, none, some}
use mathlib.Core.List.{List, [], ◌∷◌}
use mathlib.Core.Bool.{Bool, true, false, cond}
use Prim.Native.Nat.{ℕ, suc, ◌+◌, ◌≤◌}
use native.Mathlib.Omega.{arith}
use lib.Dec.{leb, eqb}
use lib.ListN.{length, take, replicate}
use borrow.Author.Tests.{leb-false}
use Rattle.clause.specs.Clause.{shape}
use Rattle.tree.specs.Forest.{Forest, empty, node, size, leaves, ins, find, trim, del, holder}
use Rattle.tree.specs.Laid.{max_kept, sized, well_laid, decode}
use Rattle.tree.specs.Entries.{Entry, entry}
use Rattle.tree.specs.Changes.{refuse, change, insert_into, remove_from}
use Rattle.tree.specs.Calls.{refused, changed, insert_as, insertion, removal}
use Rattle.tree.specs.declared.Refusal.TheVariants.{BadSlice, Broken, NumberTaken, Held, NoSuchNumber, ListFull, NoRoom}
use Rattle.tree.specs.declared.Done.{Done}
use Rattle.tree.specs.declared.Done.TheVariants as call
use Rattle.tree.proofs.Words.{length_layout}
use Rattle.tree.proofs.Grow.{laid_decode, sized_high}
use Rattle.walk.specs.declared.Verdict.{Verdict}
use Rattle.walk.specs.declared.Verdict.TheVariants.{Covered, NotCovered}
use Rattle.walk.specs.Query.{witness_words, query}
use Rattle.backward.specs.Calls.{backward}
use Rattle.backward.specs.declared.Listed.{Listed}
use Rattle.book.specs.Book.{Call, insert, remove, after}
use Rattle.record.specs.Answer.{budget, list_words, Record, removals, entered_as, entered, unless_taken, replaced_as, replaced, answer_as, answer_to}
use Rattle.record.specs.declared.Setting.{Setting}
use Rattle.record.specs.declared.Setting.TheVariants.{Plain, Back}
use Rattle.tree.specs.declared.Refusal.{Refusal}
use Rattle.clause.specs.declared.Fault.{Fault}

-- ---- a call

-- an insertion
insertion_length : (T c : List ℕ) (n : ℕ) → length (insertion T c n).slice ≡ length T
unfolding insertion insert_into
insertion_length T c n = top (sized T) (shape c)
  where
    e : Entry
    e = entry (record { number = n; clause = c })

    inside : (f : Option (List ℕ)) (o : Option ℕ) (s t : Bool) → leb (length T) (size (ins e.keys e.number (decode T))) ≡ t
        → length (changed T (Ok call.Kept) (elim f [
          | some cs ↦ refuse NumberTaken
          | none ↦ elim o [
            | some m ↦ refuse (Held m)
            | none ↦ cond s (refuse ListFull) (cond t (refuse NoRoom) (change (ins e.keys e.number (decode T))))
          ]
        ])).slice ≡ length T
    inside (some cs) o s t q = refl
    inside none (some m) s t q = refl
    inside none none true t q = refl
    inside none none false true q = refl
    inside none none false false q = length_layout (length T) (ins e.keys e.number (decode T)) (leb-false (length T) (size (ins e.keys e.number (decode T))) q)

    laid : (w : Bool) → length (cond w (changed T (Ok call.Kept) (insert_into (length T) (decode T) e)) (refused Broken T)).slice ≡ length T
    laid false = refl
    laid true =
        inside (find e.number (decode T)) (holder e.keys (decode T)) (leb max_kept (leaves (decode T))) (leb (length T) (size (ins e.keys e.number (decode T)))) refl

    top : (s : Bool) (x : Result ℕ Fault) → length (cond s (insert_as x T c n) (refused BadSlice T)).slice ≡ length T
    top false x = refl
    top true (Err f) = refl
    top true (Ok q) = laid (well_laid T)

-- a tree is no larger without a number
trim_size : (i : ℕ) (B R : Forest) → size (trim i B R) ≤ suc (size B + size R)
trim_size i empty R = omega arith
trim_size i (node j C S) R = omega arith

del_size : (n : ℕ) (F : Forest) → size (del n F) ≤ size F
unfolding del
del_size n empty = omega arith
del_size n (node i B R) = go (eqb i n) (find n B) (del_size n B) (del_size n R)
  where
    go : (b : Bool) (o : Option (List ℕ)) → size (del n B) ≤ size B → size (del n R) ≤ size R
        → size (elim b [ true ↦ R | false ↦ elim o [ some cs ↦ trim i (del n B) R | none ↦ node i B (del n R) ] ]) ≤ suc (size B + size R)
    go true o p q = omega arith
    go false (some cs) p q = omega (arith, trim_size i (del n B) R)
    go false none p q = omega arith

-- so a removal leaves the length too
removal_length : (T : List ℕ) (n : ℕ) → length (removal T n).slice ≡ length T
unfolding removal remove_from
removal_length T n = go (sized T) refl (well_laid T) refl (find n (decode T))
  where
    go : (s : Bool) → sized T ≡ s → (w : Bool) → well_laid T ≡ w → (o : Option (List ℕ))
        → length (cond s (cond w (changed T (Ok call.Removed) (elim o [ some cs ↦ change (del n (decode T)) | none ↦ refuse NoSuchNumber ])) (refused Broken T)) (refused BadSlice T)).slice
        ≡ length T
    go false e w f o = refl
    go true e false f o = refl
    go true e true f none = refl
    go true e true f (some cs) =
        let h = laid_decode T (omega (arith, sized_high T e)) (rw f tt) in
        length_layout (length T) (del n (decode T)) (omega (arith, h.room, del_size n (decode T)))

-- calls one after another
after_length : (cs : List Call) (T : List ℕ) → length (after T cs) ≡ length T
after_length [] T = refl
after_length (insert c n ∷ cs) T = after_length cs (insertion T c n).slice ∙ insertion_length T c n
after_length (remove n ∷ cs) T = after_length cs (removal T n).slice ∙ removal_length T n

-- ---- a record

-- one that goes in, after some removals
entered_length : (ns T : List ℕ) (x : Record) → length (entered ns T x).slice ≡ length T
unfolding entered
entered_length ns T x = go (insertion (after T (removals ns)) x.words x.number).answer
  where
    S : List ℕ
    S = (insertion (after T (removals ns)) x.words x.number).slice

    same : length S ≡ length T
    same = insertion_length (after T (removals ns)) x.words x.number ∙ after_length (removals ns) T

    go : (a : Result Done Refusal) → length (entered_as a ns S T).slice ≡ length T
    go (Err r) = refl
    go (Ok call.Ready) = same
    go (Ok call.Kept) = same
    go (Ok call.Removed) = same

-- one that takes the place of others
replaced_length : (T : List ℕ) (x : Record) → length (replaced T x).slice ≡ length T
unfolding replaced
replaced_length T x = go (backward T x.words budget (replicate list_words 0)).answer
  where
    L : List ℕ
    L = (backward T x.words budget (replicate list_words 0)).list

    free : (o : Option (List ℕ)) (ns : List ℕ) → length (unless_taken o T (entered ns T x)).slice ≡ length T
    free (some keys) ns = refl
    free none ns = entered_length ns T x

    go : (a : Result Listed Refusal) → length (replaced_as a L T x).slice ≡ length T
    go (Err r) = refl
    go (Ok l) = free (find x.number (decode T)) (take l.count L)

-- any record
pub answered_length : (v : Setting) (T : List ℕ) (x : Record) → length (answer_to v T x).slice ≡ length T
unfolding answer_to
answered_length v T x = go v (query T x.words budget (replicate witness_words 0)).answer
  where
    go : (v : Setting) (a : Result Verdict Refusal) → length (answer_as v a T x).slice ≡ length T
    go v (Err r) = refl
    go v (Ok (Covered m k)) = refl
    go Plain (Ok (NotCovered k)) = entered_length [] T x
    go Back (Ok (NotCovered k)) = replaced_length T x
