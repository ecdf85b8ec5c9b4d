-- What one call does to the slice and to the book.
use Rattle.std.specs.Prelude.{Err, Ok, Result, ℕ}
use mathlib.Core.Path.{◌≡◌, refl, sym, ap, ◌∙◌}
use mathlib.Core.Logic.{◌↔◌, ◌≢◌}
use mathlib.Core.Bool.{false}
use mathlib.Core.List.{List, map}
use Prim.Native.Nat.{ℕ, suc, ◌^◌, ◌≤◌, ◌<◌}
use native.Mathlib.Omega.{arith}
use lib.ListN.{length, length-map}
use borrow.Author.Tests.{le-leb}
use Rattle.clause.specs.Lists.{also}
use Rattle.clause.specs.Clause.{shape}
use Rattle.tree.specs.Forest.{Forest, ins, del, layout}
use Rattle.tree.specs.Changes.{insert_into, remove_from, numbered}
use Rattle.tree.specs.Calls.{changed, insertion, removal}
use Rattle.book.specs.Book.{Call, insert, remove, Fit, call, done, book_step}
use Rattle.clause.proofs.Literals.{accepted}
use Rattle.machine.proofs.Codes.{sequence_plain}
use Rattle.tree.proofs.Words.{length_layout}
use Rattle.tree.proofs.Plain.{plain_body}
use Rattle.tree.proofs.Changes.{Removes, gone, missing, removes, Inserts, refused, grown, inserts, apart_without}
use Rattle.book.proofs.Holds.{Holds, holds_laid, holds_decode, entries_without, numbered_without, without_missing, sound_without, length_without}
use Rattle.tree.specs.Entries.{Pair, entry}
use Rattle.machine.specs.Compile.{keys}
use Rattle.tree.specs.declared.Refusal.{Refusal}
use Rattle.tree.specs.declared.Refusal.TheVariants.{BadClause, NoSuchNumber}
use Rattle.tree.specs.declared.Done.TheVariants.{Kept, Removed}
use Rattle.clause.specs.declared.Fault.{Fault}

-- a call leaves the slice of a tree that keeps the book after it, and answers "kept" or "removed" exactly if the book changes
pub record Steps (len : ℕ) (K : List Pair) (F : Forest) (x : Call) : Type 0 where
  pub tree : Forest
  pub holds : Holds len (book_step len K x) tree
  pub slice : (call (layout len F) x).slice ≡ layout len tree
  pub changes : ((call (layout len F) x).answer ≡ done x) ↔ (book_step len K x ≢ K)

-- a refused call does nothing
refused≢done : (r : Refusal) (x : Call) → Err r ≡ done x → ⊥
refused≢done r (insert c n) e = cc
refused≢done r (remove n) e = cc

module _ (len : ℕ) (K : List Pair) (F : Forest) (h : Holds len K F) (low : 2 ≤ len) (high : len ≤ 65_536) where
  -- a call that is refused leaves the book
  left : (x : Call) (r : Refusal) → call (layout len F) x ≡ record { answer = Err r; slice = layout len F } → book_step len K x ≡ K
      → Steps len K F x
  left x r e same =
      record {
        tree = F;
        holds = rw same h;
        slice = ap (λ y. y.slice) e;
        changes = (λ d. absurd (refused≢done r x (sym (ap (λ y. y.answer) e) ∙ d)), λ n. absurd (n same));
      }

  -- a call that is done changes it
  moved : (x : Call) (G : Forest) → call (layout len F) x ≡ record { answer = done x; slice = layout len G } → Holds len (book_step len K x) G
      → book_step len K x ≢ K → Steps len K F x
  moved x G e g other = record { tree = G; holds = g; slice = ap (λ y. y.slice) e; changes = (λ d. other, λ n. ap (λ y. y.answer) e) }

  -- a call by what it does to the tree
  pub insertion_is : (c : List ℕ) (n q : ℕ) → shape c ≡ Ok q
      → insertion (layout len F) c n ≡ changed (layout len F) (Ok Kept) (insert_into len F (entry (record { number = n; clause = c })))
  unfolding insertion
  insertion_is c n q e =
      rw (length_layout len F h.room, le-leb 2 len low, le-leb len 65_536 high, e, holds_laid h high, length_layout len F h.room, holds_decode h high)

  pub removal_is : (n : ℕ) → removal (layout len F) n ≡ changed (layout len F) (Ok Removed) (remove_from F n)
  unfolding removal
  removal_is n = rw (length_layout len F h.room, le-leb 2 len low, le-leb len 65_536 high, holds_laid h high, holds_decode h high)

  -- an insertion
  step_insert : (c : List ℕ) (n : ℕ) → Fit (insert c n) → (s : Result ℕ Fault) → shape c ≡ s → Steps len K F (insert c n)
  unfolding book_step insertion
  step_insert c n f (Err v) e =
      left (insert c n) (BadClause v) (rw (length_layout len F h.room, le-leb 2 len low, le-leb len 65_536 high, e)) (rw e)
  step_insert c n f (Ok q) e =
      go (inserts len (entry p) F (map entry K) (plain_body (sequence_plain c (accepted c (q, e)) f.0)) f.1 h.keeps)
    where
      p : Pair
      p = record { number = n; clause = c }

      go : Inserts len F (map entry K) (entry p) → Steps len K F (insert c n)
      go (refused r i b) = left (insert c n) r (insertion_is c n q e ∙ rw i) (rw (e, b))
      go (grown i b k new room few) =
          moved (insert c n) (ins (keys c) n F) (insertion_is c n q e ∙ rw (i, length_layout len F h.room))
          (rw (e, b)
          record {
            sound = also (record { accepted = (q, e); words = f.0; number = f.1 }) h.sound;
            keeps = k;
            apart = record { body = plain_body (sequence_plain c (accepted c (q, e)) f.0); number = f.1; new = new; rest = h.apart };
            room = room;
            few = omega (arith, length-map K entry);
          })
          (λ u. let v : suc (length K) ≡ length K = ap length (rw (e, b) at u) in absurd (omega arith))

  -- a removal
  step_remove : (n : ℕ) → n < 2 ^ 32 → Steps len K F (remove n)
  unfolding book_step
  step_remove n f = go (removes F (map entry K) n f (omega (arith, h.room)) h.keeps)
    where
      go : Removes F (map entry K) n → Steps len K F (remove n)
      go (missing r b) = left (remove n) NoSuchNumber (removal_is n ∙ rw r) (without_missing n K b)
      go (gone r b k small) =
          moved (remove n) (del n F) (removal_is n ∙ rw (r, length_layout len F h.room))
          record {
            sound = sound_without n h.sound;
            keeps = rw (entries_without n K) k;
            apart = rw (entries_without n K) (apart_without n (map entry K) h.apart);
            room = omega (arith, h.room);
            few = omega (arith, length_without n K, h.few);
          }
          (λ u. let v : numbered n (map entry K) ≡ false = rw u at (numbered_without n K) in cc)

  -- any call
  pub steps : (x : Call) → Fit x → Steps len K F x
  steps (insert c n) f = step_insert c n f (shape c) refl
  steps (remove n) f = step_remove n f
