-- Insertion on a well-laid slice T, case by case.
use mathlib.Core.Path.{◌≡◌, refl, sym, ap, ap₂, ◌∙◌}
use mathlib.Core.Option.{Option, none, some}
use mathlib.Core.List.{List}
use Prim.Native.Nat.{ℕ, ◌≤◌, ◌<◌}
use lib.ListN.{get_or}
use borrow.Author.Tests.{le-leb, lt-leb}
use Rattle.tree.specs.Laid.{max_kept, kept_of, region}
use Rattle.tree.specs.Entries.{Entry}
use Rattle.tree.specs.Inner.Cut.{Span, locate}
use Rattle.tree.specs.Calls.{Called, refused}
use Rattle.tree.specs.Inner.ByWords.{insert_at, insert_unless, insert_by_words}
use Rattle.tree.specs.declared.Refusal.TheVariants.{NumberTaken, Held, ListFull}
use Rattle.merging.proofs.Putting.{way}

-- a number and its keys
abbrev pub entry_of : ℕ → List ℕ → Entry
entry_of n cs = record { number = n; keys = cs }

-- where the number stands, by the used words
abbrev number_at : List ℕ → ℕ → Option Span
number_at T n = locate (region T) n 0 0 0

module _ (T cs : List ℕ) (n : ℕ) where
  by_words : insert_by_words T (entry_of n cs) ≡ insert_unless T n (way T cs) (number_at T n) (way T cs).holder
  unfolding insert_by_words
  by_words = refl

  -- the number is taken
  pub insert_taken : (s : Span) → number_at T n ≡ some s → refused NumberTaken T ≡ insert_by_words T (entry_of n cs)
  insert_taken s t = sym (by_words ∙ ap (λ (o : Option Span). insert_unless T n (way T cs) o (way T cs).holder) t)

  module _ (free : number_at T n ≡ none) where
    -- a variant is kept
    pub insert_held : (m : ℕ) → (way T cs).holder ≡ some m → refused (Held m) T ≡ insert_by_words T (entry_of n cs)
    insert_held m q = sym (by_words ∙ ap₂ (insert_unless T n (way T cs)) free q)

    module _ (new : (way T cs).holder ≡ none) where
      by_kept : insert_by_words T (entry_of n cs) ≡ insert_unless T n (way T cs) none none
      by_kept = by_words ∙ ap₂ (insert_unless T n (way T cs)) free new

      -- the list is full
      pub insert_full : max_kept ≤ kept_of (get_or T 0 0) → refused ListFull T ≡ insert_by_words T (entry_of n cs)
      insert_full u = sym (by_kept ∙ rw (le-leb max_kept (kept_of (get_or T 0 0)) u))

      -- it goes to its place, if there is room
      pub insert_there : {r : Called} (p : ℕ) (left : List ℕ) → kept_of (get_or T 0 0) < max_kept → (way T cs).place ≡ p → (way T cs).left ≡ left
          → r ≡ insert_at T n p left (way T cs).raised → r ≡ insert_by_words T (entry_of n cs)
      insert_there p left u a b e =
          e ∙ sym (by_kept ∙ rw (lt-leb max_kept (kept_of (get_or T 0 0)) u) (ap₂ (λ (i : ℕ) (l : List ℕ). insert_at T n i l (way T cs).raised) a b))
