-- Insertion and removal on the words themselves: the definitions that the loops are proved against.
use Rattle.std.specs.Prelude.{cond, List, [], ◌∷◌, ◌++◌, ℕ, suc, ◌+◌, ◌-◌, leb, ltb, length, get_or, take, drop, replicate, Ok}
use Rattle.std.proofs.Math.Option.{Option, none, some}
use Rattle.tree.specs.Laid.{max_kept, used_of, kept_of, one_more, one_less, region}
use Rattle.tree.specs.Entries.{Entry}
use Rattle.tree.specs.Inner.Merge.{Descent, from_top, new_words, splice}
use Rattle.tree.specs.Inner.Cut.{Span, locate, cut}
use Rattle.tree.specs.Calls.{Called, refused}
use Rattle.tree.specs.declared.Refusal.TheVariants.{NumberTaken, Held, NoSuchNumber, ListFull, NoRoom}
use Rattle.tree.specs.declared.Done.TheVariants.{Kept, Removed}

-- the new words put in at a place of the raised words, if there is room for them
abbrev pub insert_at : (slice : List ℕ) (number place : ℕ) (left : List ℕ) (raised : ℕ → List ℕ) → Called
insert_at T n p cs raised =
    let h = get_or T 0 0 in
    let r = length cs + 1 in
    cond (ltb (length T) (used_of h + 1 + r)) (refused NoRoom T)
    (record { answer = Ok Kept; slice = one_more h r ∷ (splice (raised r) p (new_words cs n) ++ drop (used_of h + 1 + r) T) })

-- by where the number stands, and by the descent and who holds the sequence
abbrev pub insert_unless : (slice : List ℕ) (number : ℕ) → Descent → Option Span → Option ℕ → Called
insert_unless T n d (some s) o = refused NumberTaken T
insert_unless T n d none (some m) = refused (Held m) T
insert_unless T n d none none = cond (leb max_kept (kept_of (get_or T 0 0))) (refused ListFull T) (insert_at T n d.place d.left d.raised)

-- the insertion of a sequence into the words of a well-laid slice
unfoldable pub insert_by_words : (slice : List ℕ) → Entry → Called
insert_by_words T e =
    let d = from_top (region T) e.keys in
    insert_unless T e.number d (locate (region T) e.number 0 0 0) d.holder

-- the words that go taken out
abbrev pub remove_at : (header : ℕ) (words : List ℕ) → Option Span → Called
remove_at h ws none = refused NoSuchNumber (h ∷ ws)
remove_at h ws (some s) =
    let r = suc s.last - s.place in
    record { answer = Ok Removed; slice = one_less h r ∷ (cut ws s.place r ++ replicate r 0) }

-- the removal of a number from the words of a well-laid slice
unfoldable pub remove_by_words : List ℕ → (number : ℕ) → Called
remove_by_words [] n = refused NoSuchNumber []
remove_by_words (h ∷ ws) n = remove_at h ws (locate (take (used_of h) ws) n 0 0 0)
