-- What an insertion and a removal do to the tree, and when the book refuses an insertion.
use Rattle.std.specs.Prelude.{List, [], ◌∷◌, Bool, false, ◌||◌, cond, ℕ, leb, eqb, length}
use Rattle.std.proofs.Math.Option.{none, some}
use Rattle.clause.specs.Lists.{alike}
use Rattle.tree.specs.Forest.{Forest, size, leaves, ins, del, find, holder}
use Rattle.tree.specs.Laid.{max_kept}
use Rattle.tree.specs.Entries.{Entry}
use Rattle.tree.specs.Beginnings.{beginnings, different}
use Rattle.tree.specs.declared.Refusal.{Refusal}
use Rattle.tree.specs.declared.Refusal.TheVariants.{NumberTaken, Held, NoSuchNumber, ListFull, NoRoom}

-- a tree that is left, or a new one
pub data Change : Type 0 where
  refuse : Refusal → Change
  change : Forest → Change

-- the insertion of a sequence into the tree of a slice of len words
unfoldable pub insert_into : (len : ℕ) → Forest → Entry → Change
insert_into len F e =
    elim (find e.number F) [
      | some cs ↦ refuse NumberTaken
      | none ↦ elim (holder e.keys F) [
        | some m ↦ refuse (Held m)
        | none ↦ cond (leb max_kept (leaves F)) (refuse ListFull)
            (cond (leb len (size (ins e.keys e.number F))) (refuse NoRoom) (change (ins e.keys e.number F)))
      ]
    ]

-- the removal of a number
unfoldable pub remove_from : Forest → ℕ → Change
remove_from F n = elim (find n F) [ some cs ↦ change (del n F) | none ↦ refuse NoSuchNumber ]

-- a number is in the book (BookLaws' `number`)
abbrev pub numbered : ℕ → List Entry → Bool
numbered n [] = false
numbered n (e ∷ K) = eqb n e.number || numbered n K

-- a variant is in the book (BookLaws' `variant`)
abbrev pub varied : List ℕ → List Entry → Bool
varied cs [] = false
varied cs (e ∷ K) = alike cs e.keys || varied cs K

-- the book refuses an insertion: its number is in it, a variant is in it, it is full, or there would be more than len − 1 beginnings
unfoldable pub refuses : (len : ℕ) → List Entry → Entry → Bool
refuses len K e = numbered e.number K || varied e.keys K || leb max_kept (length K) || leb len (different (beginnings (e ∷ K)))
