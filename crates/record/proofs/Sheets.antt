-- The claims about a whole input.
use Rattle.std.specs.Prelude.{Ok}
use mathlib.Core.Path.{◌≡◌, refl, sym, ap, ◌∙◌}
use mathlib.Core.List.{List, [], ◌∷◌, ◌++◌, append_assoc, append-nil}
use Prim.Native.Nat.{ℕ, ◌≤◌}
use native.Mathlib.Omega.{arith}
use lib.ListN.{length, replicate, length-map, length-replicate}
use borrow.Author.Tests.{le-leb}
use Rattle.tree.specs.Entries.{Pair}
use Rattle.tree.specs.Calls.{fresh}
use Rattle.book.specs.Book.{Call, after, slice_of, book_from, tree_of}
use Rattle.record.specs.Answer.{tree_words, Record}
use Rattle.record.specs.Output.{records_of, Row, row_on, fresh_slice, rows_of, row_calls, totals_with, none}
use Rattle.record.specs.Sheet.{Bytes, book_after, taken_out, kept_pairs, BookStands, KeptCovers, RowAt, RowClaims, Covers, Sheets, NoStrikeIsWrong}
use Rattle.record.specs.declared.Setting.{Setting}
use Rattle.record.specs.declared.Setting.TheVariants.{Plain}
use Rattle.tree.specs.declared.Done.TheVariants.{Ready}
use Rattle.clause.specs.Lists.{nobody}
use Rattle.book.proofs.Holds.{holds_empty, fresh_layout, holds_numbers, holds_clauses}
use Rattle.record.proofs.Reading.{complete, input_fits}
use Rattle.record.proofs.Clearing.{clear_empty}
use Rattle.record.proofs.Ruling.{Fate, ruled, ruled_codes, ruled_by_units}
use Rattle.record.proofs.Entering.{book_append, Standing, standing_after}
use Rattle.record.proofs.Rows.{Made, made, rows_records, made_first, made_last, made_row, made_fit, Fated, fated, fated_first, fated_last, fated_row}
use Rattle.record.proofs.Rows.{kept_book, kept_count, four_of, rows_four, rows_removed, rows_plain, mem_kept, rows_covered, rows_apart}
use Rattle.record.proofs.Rows.{StruckBy, fate_struck, struck_book}

-- ---- the slice before the first record

fresh_zeros : (n : ℕ) → 2 ≤ n → n ≤ 65_536 → fresh (replicate n 0) ≡ record { answer = Ok Ready; slice = replicate n 0 }
unfolding fresh
fresh_zeros n l h = rw (length-replicate {A = ℕ} n 0, le-leb 2 n l, le-leb n 65_536 h)

-- fresh leaves it
pub slice_from : (cs : List Call) → slice_of fresh_slice cs ≡ after fresh_slice cs
slice_from cs = ap (λ r. after r.slice cs) (fresh_zeros tree_words (omega arith) (omega arith))

pub standing_none : Standing [] fresh_slice
unfolding tree_of
standing_none = record { holds = holds_empty tree_words (omega arith); slice = fresh_layout tree_words (omega arith) }

-- ---- some rows

module _ {v : Setting} {rs : List Row} (m : Made v fresh_slice rs) where
  standing : Standing (book_after rs) (after fresh_slice (row_calls rs))
  unfolding book_after
  standing = standing_after (row_calls rs) [] fresh_slice standing_none (made_fit [] standing_none m)

  stands : BookStands rs
  stands =
      record {
        calls = record { ready = ap (λ r. r.answer) (fresh_zeros tree_words (omega arith) (omega arith)); fit = made_fit [] standing_none m };
        numbers = holds_numbers standing.holds;
        clauses = holds_clauses standing.holds;
      }

-- the book after some rows is what the `kept` and `removed` lines say
book_kept : {v : Setting} {rs : List Row} → Fated v [] rs → book_after rs ≡ kept_pairs rs
unfolding book_after
book_kept {rs = rs} f = kept_book f ∙ ap (λ (l : List Pair). kept_pairs rs ++ l) (clear_empty (taken_out rs)) ∙ append-nil (kept_pairs rs)

-- ---- one row

calls_more : (rs : List Row) (r : Row) → row_calls (rs ++ (r ∷ [])) ≡ row_calls rs ++ r.calls
calls_more [] r = append-nil r.calls
calls_more (s ∷ rs) r = ap (λ (l : List Call). s.calls ++ l) (calls_more rs r) ∙ sym (append_assoc s.calls (row_calls rs) r.calls)

book_more : (rs : List Row) (r : Row) → book_after (rs ++ (r ∷ [])) ≡ book_from tree_words (book_after rs) r.calls
unfolding book_after
book_more rs r = ap (book_from tree_words []) (calls_more rs r) ∙ book_append [] (row_calls rs) r.calls

-- a clause of the book has a row with a `kept` line
earlier_row : {v : Setting} (rs : List Row) → Fated v [] rs → (x : Record) (n : ℕ) → StruckBy (book_after rs) x n
    → KeptCovers rs n x
earlier_row rs f x n (p, m, i, s) =
    let k = mem_kept rs p (rw (book_kept f) at m) in
    (k.row, k.among, k.kept, sym (ap (λ (q : Pair). q.number) k.pair) ∙ i, rw (ap (λ (q : Pair). q.clause) k.pair) at s)

module _ {v : Setting} {rs : List Row} (m : Made v fresh_slice rs) (f : Fated v [] rs) (a : RowAt rs) where
  made_here : Made v fresh_slice (a.before ++ (a.this ∷ a.after))
  made_here = rw a.whole at m

  fated_here : Fated v [] (a.before ++ (a.this ∷ a.after))
  fated_here = rw a.whole at f

  fate_here : Fate v (book_after a.before) a.this.of a.this.outcome a.this.removed (book_after (a.before ++ (a.this ∷ [])))
  unfolding book_after
  fate_here = rw (book_more a.before a.this) (fated_row (fated_last a.before (a.this ∷ a.after) [] fated_here))

  made_before : Made v fresh_slice a.before
  made_before = made_first a.before (a.this ∷ a.after) fresh_slice made_here

  placed : RowClaims v a
  placed =
      record {
        asked =
            made_row (made_last a.before (a.this ∷ a.after) fresh_slice made_here)
            ∙ ap (λ (T : List ℕ). row_on v T a.this.of) (sym (slice_from (row_calls a.before)));
        stands = stands made_before;
        ruled = ruled fate_here;
        earlier = λ n k e. earlier_row a.before (fated_first a.before (a.this ∷ a.after) [] fated_here) a.this.of n (fate_struck fate_here n k e);
        codes = ruled_codes (standing made_before).holds (ruled fate_here);
        units = λ u. ruled_by_units (standing made_before).holds u (ruled fate_here);
      }

-- ---- the whole input

-- the rows of the input
rows_made : (v : Setting) (input : List ℕ) → Bytes input → Made v fresh_slice (rows_of v input)
unfolding rows_of
rows_made v input b = made v fresh_slice (records_of input) (input_fits input b)

pub rows_fated : (v : Setting) (input : List ℕ) → Bytes input → Fated v [] (rows_of v input)
rows_fated v input b = fated [] standing_none (rows_made v input b)

-- by the setting
fated_as : {v u : Setting} {K : List Pair} {rs : List Row} → v ≡ u → Fated v K rs → Fated u K rs
fated_as e f = rw e at f

covers : (v : Setting) (input : List ℕ) → Fated v [] (rows_of v input) → Covers v input
unfolding book_after
covers v input f =
    record {
      covered = rows_covered f;
      named = λ e. struck_book (fated_as e f);
      apart = λ e. rows_apart (fated_as e f) nobody;
      pairs = book_kept f;
      many = kept_count none f refl;
      removed = omega (arith, rows_removed none f);
    }

pub sheets : Sheets
unfolding rows_of
sheets v input b =
    let m = rows_made v input b in
    let f = rows_fated v input b in
    let all : four_of (totals_with none (rows_of v input)) ≡ length (records_of input) =
    omega (
      arith,
      rows_four none f refl,
      length-map (rows_of v input) (λ (r : Row). r.of),
      ap length (rows_records v fresh_slice (records_of input)),
    ) in
    let out : v ≡ Plain → (totals_with none (rows_of v input)).removed ≡ 0 = λ e. omega (arith, rows_removed none f, ap length (rows_plain (fated_as e f))) in
    record {
      reads = complete input;
      rows = rows_records v fresh_slice (records_of input);
      counts = all;
      plain = λ e. (out e, omega (arith, all, out e));
      placed = placed m f;
      stands = stands m;
      covers = covers v input f;
    }

pub no_strike_is_wrong : NoStrikeIsWrong
no_strike_is_wrong v input b = (sheets v input b).covers
