-- What a visit does to the cells, and what brings them back.
use Prim.Native.Nat.{ℕ, ◌+◌, ◌*◌, ◌/◌, ◌%◌, ◌^◌, ◌<◌}
use mathlib.Core.Path.{◌≡◌, refl}
use mathlib.Core.Bool.{true, false}
use mathlib.Core.List.{List}
use native.Mathlib.Omega.{arith}
use lib.Dec.{eqb}
use lib.ListN.{length, get_or, length-set}
use lib.Seq.{get_or-set_other, set-set, set-get_or}
use borrow.Author.Tests.{ne_eqb}
use Rattle.cells.specs.Inner.Cells.{count_at, undo_base, count_in, restored}
use Rattle.stepping.specs.Inner.Visits.{undo_of, stores, Undoable, plain, store}
use Rattle.stepping.specs.declared.Visit.{Visit}
use Rattle.stepping.specs.declared.Visit.TheVariants.{Fails, Stuck, Hit, Tries, Below, Stored}

-- a visit that stores nothing has no undo
zero : (v : Visit) → stores v ≡ false → undo_of v ≡ 0
zero Fails e = refl
zero Stuck e = refl
zero Hit e = refl
zero Tries e = refl
zero (Below x) e = refl
zero (Stored x u) e = cc

-- a store keeps the number of cells and of candidates
pub undoable_size : {l m : List ℕ} {v : Visit} → Undoable l v m → length m ≡ length l
undoable_size (plain g n) = refl
undoable_size {l} (store h i x low high small) = length-set l i x

pub undoable_count : {l m : List ℕ} {v : Visit} → Undoable l v m → count_in m ≡ count_in l
undoable_count (plain g n) = refl
undoable_count {l} (store h i x low high small) = get_or-set_other l i count_at x 0 (λ e. omega arith)

pub undoable_small : {l m : List ℕ} {v : Visit} → Undoable l v m → undo_of v < 2 ^ 16
undoable_small (plain g n) = omega (arith, zero g n)
undoable_small (store h i x low high small) = omega arith

-- a visit that stores has an undo, and any other leaves the cells as they are
pub undoable_some : {l m : List ℕ} {v : Visit} → Undoable l v m → stores v ≡ true → undo_of v ≡ 0 → ⊥
undoable_some (plain g n) e z = cc
undoable_some (store h i x low high small) e z = omega arith

pub undoable_zero : {l m : List ℕ} {v : Visit} → Undoable l v m → stores v ≡ false → undo_of v ≡ 0
undoable_zero (plain g n) e = zero g n
undoable_zero (store h i x low high small) e = cc

pub undoable_none : {l m : List ℕ} {v : Visit} → Undoable l v m → stores v ≡ false → m ≡ l
undoable_none (plain g n) e = refl
undoable_none (store h i x low high small) e = cc

-- what a visit stored over is stored back
pub restored_undoable : {l after : List ℕ} {v : Visit} → Undoable l v after → restored (undo_of v) after ≡ l
unfolding restored
restored_undoable (plain g n) = rw (zero g n)
restored_undoable {l} (store h i x low high small) =
    let v = get_or l i 0 in
    let e : (i * undo_base + v) / undo_base % undo_base ≡ i = omega arith in
    let f : (i * undo_base + v) % undo_base ≡ v = omega arith in
    let g : eqb (i * undo_base + v) 0 ≡ false = ne_eqb (i * undo_base + v) 0 (λ z. omega arith) in
    rw (g, e, f, set-set l i x v, set-get_or l i 0)
