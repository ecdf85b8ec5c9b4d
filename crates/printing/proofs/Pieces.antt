-- What is printed, handed on piece after piece.
use mathlib.Core.Path.{◌≡◌, refl, sym, ap, subst, ◌∙◌}
use mathlib.Core.List.{List, [], ◌++◌, append_assoc, append-nil}
use Prim.Native.Nat.{ℕ, ◌+◌, ◌-◌, ◌*◌, ◌≤◌, ◌<◌}
use native.Mathlib.Omega.{arith}
use lib.ListN.{length, take, length-append}
use lib.Seq.{take-append_seam, drop-append_seam}
use Rattle.record.specs.Text.{Written, put_at}
use Rattle.record.specs.Line.{longest_tally, totals_line, records_line}
use Rattle.record.specs.Marks.{number_count}
use Rattle.record.specs.Tally.{tally_lines}
use Rattle.record.specs.Counters.{shown_from, shown_sheet}
use Rattle.intake.specs.Feed.{fed_whole, printed_of}
use Rattle.lines.proofs.Writing.{placed, text_there}
use Rattle.tallying.proofs.Rows.{shown_zero, shown_append}
use Rattle.printing.specs.Blocks.{block_numbers}
use Rattle.printing.specs.declared.Meters.{Meters}
use Rattle.printing.specs.Handed.{StandsAt, NextPiece, HandedOn, SheetNext}

-- ---- the meters

-- nothing handed on, and some bytes after others
pub handed_none : (m : Meters) → HandedOn m 0 m
handed_none m = record { read = refl; reads = refl; ended = refl; stopped = λ _. refl; all = λ h. (h, omega arith); most = omega arith }

pub handed_append : {l m n : Meters} {a b : ℕ} → HandedOn l a m → HandedOn m b n → HandedOn l (a + b) n
handed_append g h =
    record {
      read = h.read ∙ g.read;
      reads = h.reads ∙ g.reads;
      ended = h.ended ∙ g.ended;
      stopped = λ k. h.stopped (ap (λ (x : Meters). x.failed) (g.stopped k) ∙ k) ∙ g.stopped k;
      all = λ f. let (e, i) = h.all f in let (d, j) = g.all e in (d, omega (arith, i, j));
      most = omega (arith, h.most, g.most);
    }

-- ---- the pieces

-- text put at the beginning of an output with room for it is what is there
pub text_put : (t o : List ℕ) {n r : ℕ} {p : List ℕ} → n ≤ length o → r ≤ n → ◌≡◌ {A = Written} (record { next = r; output = p }) (put_at t o 0)
    → (r ≤ length p) × (take r p ≡ t)
text_put t o h k e =
    let w = placed t o 0 e in
    (omega (arith, w, k, h), text_there t o (omega (arith, w, k, h)) e)

-- what comes after some text stands there
pub stands_after : (a t b : List ℕ) {n : ℕ} {w : List ℕ} → n ≡ length a → w ≡ a ++ (t ++ b) → StandsAt n t w
stands_after a t b e f = rw (e, f, drop-append_seam a (t ++ b)) (take-append_seam t b)

-- a piece of the tally sheet, once what stands before it was handed on
pub sheet_piece : {m c : List ℕ} {k : ℕ} {M N : Meters} (a t b : List ℕ) → SheetNext m c k M → HandedOn M (length a) N → shown_sheet m c k ≡ a ++ (t ++ b)
    → NextPiece N t
sheet_piece {m} {c} {k} a t b s h e =
    let f = fed_whole s.setting s.bytes in
    let l = f.text ++ totals_line s.setting f.session.totals in
    let w : printed_of s.setting s.bytes ≡ (l ++ a) ++ (t ++ b) = rw (s.marked, s.counted, s.recorded, e) (sym (append_assoc l a (t ++ b))) in
    record {
      setting = s.setting;
      bytes = s.bytes;
      many = h.read ∙ s.many;
      stands = λ z. let (y, i) = h.all z in stands_after (l ++ a) t b (i ∙ ap (λ (j : ℕ). j + length a) (s.handed y) ∙ sym (length-append l a)) w;
    }

-- ---- block after block

module _ (m c : List ℕ) where
  -- the rows of so many blocks were handed on
  pub record Printing (M : Meters) (o₀ : List ℕ) (N : Meters) (o : List ℕ) (k : ℕ) : Type 0 where
    pub output : length o ≡ length o₀
    pub inside : k * block_numbers ≤ number_count
    pub handed : HandedOn M (length (tally_lines (shown_from m c 0 (k * block_numbers)))) N
    pub short : length (tally_lines (shown_from m c 0 (k * block_numbers))) ≤ k * block_numbers * longest_tally

  -- none yet
  pub printing_none : (M : Meters) (o : List ℕ) → Printing M o M o 0
  printing_none M o =
      record {
        output = refl;
        inside = omega arith;
        handed = subst (λ (t : List ℕ). HandedOn M (length t) M) (sym (shown_zero m c 0)) (handed_none M);
        short = omega (arith, ap length (shown_zero m c 0));
      }

  -- the rows of a block may be handed on
  pub rows_next : {i k : ℕ} {M N : Meters} {o₀ o : List ℕ} → SheetNext m c i M → Printing M o₀ N o k → k * block_numbers < number_count
      → NextPiece N (tally_lines (shown_from m c (k * block_numbers) block_numbers))
  unfolding shown_sheet
  rows_next {i} {k} s p h =
      let n : ℕ = k * block_numbers in
      let r : ℕ = number_count - (n + block_numbers) in
      let e : number_count ≡ n + (block_numbers + r) = omega (arith, h) in
      let z : 0 + n ≡ n = omega arith in
      let rows : ℕ → ℕ → List ℕ = λ i j. tally_lines (shown_from m c i j) in
      let first = rw z at (shown_append m c 0 n (block_numbers + r)) in
      let all : rows 0 number_count ≡ rows 0 n ++ (rows n block_numbers ++ rows (n + block_numbers) r) =
      ap (rows 0) e ∙ first ∙ ap (λ (t : List ℕ). rows 0 n ++ t) (shown_append m c n block_numbers r) in
      sheet_piece (rows 0 n) (rows n block_numbers) (rows (n + block_numbers) r ++ records_line i) s p.handed
      (ap (λ (t : List ℕ). t ++ records_line i) all ∙ append_assoc (rows 0 n) (rows n block_numbers ++ rows (n + block_numbers) r) (records_line i)
      ∙ ap (λ (t : List ℕ). rows 0 n ++ t) (append_assoc (rows n block_numbers) (rows (n + block_numbers) r) (records_line i)))

  -- one block more
  pub printing_more : {M N N' : Meters} {o₀ o p : List ℕ} {k : ℕ} → Printing M o₀ N o k → k * block_numbers < number_count → length p ≡ length o
      → length (tally_lines (shown_from m c (k * block_numbers) block_numbers)) ≤ block_numbers * longest_tally
      → HandedOn N (length (tally_lines (shown_from m c (k * block_numbers) block_numbers))) N'
      → Printing M o₀ N' p (k + 1)
  printing_more {M} {N' = N'} {k = k} r h l s g =
      let n : ℕ = k * block_numbers in
      let z : 0 + n ≡ n = omega arith in
      let y : (k + 1) * block_numbers ≡ n + block_numbers = omega arith in
      let e : length (tally_lines (shown_from m c 0 ((k + 1) * block_numbers)))
      ≡ length (tally_lines (shown_from m c 0 n)) + length (tally_lines (shown_from m c n block_numbers)) =
      ap (λ (j : ℕ). length (tally_lines (shown_from m c 0 j))) y
      ∙ ap length (rw z at (shown_append m c 0 n block_numbers))
      ∙ length-append (tally_lines (shown_from m c 0 n)) (tally_lines (shown_from m c n block_numbers)) in
      record {
        output = l ∙ r.output;
        inside = omega (arith, h);
        handed = subst (λ (i : ℕ). HandedOn M i N') (sym e) (handed_append r.handed g);
        short = omega (arith, e, r.short, s);
      }

  -- the last line may be handed on
  pub records_next : {i k : ℕ} {M N : Meters} {o₀ o : List ℕ} → SheetNext m c i M → Printing M o₀ N o k → number_count ≤ k * block_numbers → NextPiece N (records_line i)
  unfolding shown_sheet
  records_next {i} {k} s p h =
      let e : k * block_numbers ≡ number_count = omega (arith, p.inside) in
      sheet_piece (tally_lines (shown_from m c 0 number_count)) (records_line i) [] s (rw e at p.handed)
      (ap (λ (t : List ℕ). tally_lines (shown_from m c 0 number_count) ++ t) (sym (append-nil (records_line i))))

  -- all of it
  pub printing_done : (i : ℕ) {k : ℕ} {M N N' : Meters} {o₀ o : List ℕ} → Printing M o₀ N o k → number_count ≤ k * block_numbers
      → HandedOn N (length (records_line i)) N' → HandedOn M (length (shown_sheet m c i)) N'
  unfolding shown_sheet
  printing_done i {k} {M} {N' = N'} r h g =
      let d : k * block_numbers ≡ number_count = omega (arith, r.inside) in
      let e = sym (length-append (tally_lines (shown_from m c 0 number_count)) (records_line i)) in
      subst (λ (j : ℕ). HandedOn M j N') e (handed_append (rw d at r.handed) g)
