-- Marks freed; a record inserted after removals.
use Rattle.std.specs.Prelude.{Err, Ok, Result}
use mathlib.Core.Path.{◌≡◌, refl, sym, ap, ◌∙◌}
use mathlib.Core.List.{List}
use Prim.Native.Nat.{ℕ, zero, suc, ◌≤◌, ◌<◌}
use native.Mathlib.Omega.{arith}
use lib.ListN.{length, get_or, take, set}
use lib.Seq.{take_all, set-get_or}
use Rattle.book.specs.Book.{after}
use Rattle.tree.specs.Laid.{used_of}
use Rattle.tree.specs.Calls.{Called, insertion}
use Rattle.tree.specs.declared.Refusal.{Refusal}
use Rattle.tree.specs.declared.Done.{Done}
use Rattle.tree.specs.declared.Done.TheVariants as call
use Rattle.record.specs.Answer.{Record, removals, entered_as, entered}
use Rattle.record.specs.declared.Outcome.TheVariants.{Kept, Refused}
use Rattle.record.specs.Marks.{freed}

-- ---- marks

-- one mark freed
abbrev pub freed_at : (marks : List ℕ) (number : ℕ) → List ℕ
freed_at m n = set m n (freed (get_or m n 0))

pub freed_marked : (m : List ℕ) (n : ℕ) → 0 < get_or m n 0 → set m n 2 ≡ freed_at m n
freed_marked m n h = ap (set m n) (go (get_or m n 0) h)
  where
    go : (k : ℕ) → 0 < k → 2 ≡ freed k
    go zero l = absurd (omega arith)
    go (suc k) l = refl

pub freed_free : (m : List ℕ) (n : ℕ) → get_or m n 0 ≤ 0 → m ≡ freed_at m n
freed_free m n h =
    let z : get_or m n 0 ≡ 0 = omega arith in
    sym (set-get_or m n 0) ∙ ap (λ (k : ℕ). set m n k) (z ∙ sym (ap freed z))

-- ---- a record inserted after removals, on a copy

module _ (T ns : List ℕ) (x : Record) {U R : List ℕ} {a : Result Done Refusal} (u : U ≡ after T (removals ns))
    (w : ◌≡◌ {A = Called} (record { answer = a; slice = R }) (insertion U x.words x.number)) where
  -- by what the insertion answers
  enters : entered_as a ns R T ≡ entered ns T x
  unfolding entered
  enters =
      ap (λ (r : Called). entered_as r.answer ns r.slice T) (w ∙ ap (λ (S : List ℕ). insertion S x.words x.number) u)

  pub enters_refused : (f : Refusal) → a ≡ Err f → record { outcome = Refused f; removed = take 0 ns; slice = T } ≡ entered ns T x
  enters_refused f e = sym (ap (λ (b : Result Done Refusal). entered_as b ns R T) e) ∙ enters

  pub enters_kept : ((f : Refusal) → a ≡ Err f → ⊥) → {S : List ℕ} {used : ℕ} → S ≡ R → used ≡ used_of (get_or S 0 0)
      → record { outcome = Kept used; removed = take (length ns) ns; slice = S } ≡ entered ns T x
  enters_kept h e v = rw (v, e, take_all (length ns) ns (omega arith)) (go a h ∙ enters)
    where
      go : (b : Result Done Refusal) → ((f : Refusal) → b ≡ Err f → ⊥) → record { outcome = Kept (used_of (get_or R 0 0)); removed = ns; slice = R } ≡ entered_as b ns R T
      go (Err f) n = absurd (n f refl)
      go (Ok call.Ready) n = refl
      go (Ok call.Kept) n = refl
      go (Ok call.Removed) n = refl
