-- Byte by byte or record by record: what is printed is the same.
use Rattle.std.specs.Prelude.{Err}
use mathlib.Core.Path.{◌≡◌, refl, sym, ap, ap₂, ◌∙◌}
use mathlib.Core.List.{List, [], ◌∷◌, ◌++◌, append_assoc}
use mathlib.Core.Bool.{Bool, true, false}
use Prim.Native.Nat.{ℕ, zero, suc, ◌+◌, ◌-◌, ◌≤◌, ◌<◌}
use native.Mathlib.Omega.{arith}
use native.Mathlib.Decide.{dec_le, dec_lt}
use lib.Dec.{leb}
use lib.ListN.{length, take, drop, length-drop, length-replicate}
use lib.Seq.{sets, sets-eq, length-sets, take_at, length-take-le}
use borrow.Author.Tests.{le-leb, lt-leb, lt-ltb, le-ltb}
use Rattle.clause.specs.Clause.{max_words, shape}
use Rattle.clause.specs.declared.Fault.TheVariants.{BadLength}
use Rattle.walk.specs.Query.{query}
use Rattle.book.specs.Book.{after}
use Rattle.record.specs.Line.{lines_for, totals_line, records_line}
use Rattle.record.specs.Answer.{tree_words, Record, Answered, answer_to}
use Rattle.record.specs.Output.{field_of, fields, records_for, records_of, row_on, rows_from, rows_of, row_calls, lines_of, counted, totals_with, none, listing_of}
use Rattle.record.specs.Marks.{number_count, marked}
use Rattle.record.specs.Tally.{TallyRow, tally_from, tally_of, tally_lines, tally_sheet_of, output_of}
use Rattle.record.specs.Counters.{counters_after, shown_from, shown_sheet}
use Rattle.record.specs.Sheet.{Bytes}
use Rattle.record.specs.Tallies.{most_bytes}
use Rattle.intake.specs.Feed.{Store, store_of, Fed, finishing, record_ended, take_field, feed_then, feed, first_session, first_store, fed_whole, printed_of, WholeInput}
use Rattle.record.proofs.Text.{decimal_reads}
use Rattle.record.proofs.Rows.{slice_more}
use Rattle.record.proofs.Counting.{marks_with, counters_with}
use Rattle.record.proofs.Sheets.{slice_from, sheets, no_strike_is_wrong}
use Rattle.record.proofs.Shuffled.{all_covered, pages_shuffled, same_clauses_kept}
use Rattle.record.proofs.Tallies.{shown_input, read_records, tallies}
use Rattle.intake.proofs.Bytes.{storing, at_count, at_empty, at_word, feed_append}
use Rattle.intake.proofs.Whole.{feed_fields, even_after, filling, collect}
use Rattle.intake.proofs.Lengths.{answered_length}
use Rattle.record.specs.declared.Setting.{Setting}
use Rattle.record.specs.declared.Totals.{Totals}
use Rattle.intake.specs.declared.Half.TheVariants.{Even}
use Rattle.intake.specs.declared.Stage.{Stage}
use Rattle.intake.specs.declared.Stage.TheVariants.{AtNumber, AtCount, AtWord}
use Rattle.intake.specs.declared.Session.{Session}

-- ---- field by field

-- what is printed: the text, and the totals, the slice, the marks and the counters after it
record Prints : Type 0 where
  text : List ℕ
  totals : Totals
  slice : List ℕ
  marks : List ℕ
  counters : List ℕ

abbrev shows : Fed → Prints
shows f = record { text = f.text; totals = f.session.totals; slice = f.store.slice; marks = f.store.marks; counters = f.store.counters }

-- some text before it
abbrev before : List ℕ → Prints → Prints
before t p = record { text = t ++ p.text; totals = p.totals; slice = p.slice; marks = p.marks; counters = p.counters }

-- the bytes of whole fields; a last single byte prints nothing
by_fields : (v : Setting) (bs : List ℕ) (g : Stage) (t : Totals) (m : Store)
    → shows (feed v (record { half = Even; stage = g; totals = t }) m bs) ≡ shows (feed_fields v g t m (fields bs))
unfolding feed feed_fields
by_fields v [] g t m = refl
by_fields v (a ∷ []) g t m = refl
by_fields v (a ∷ b ∷ bs) g t m =
    let f : Fed = take_field v g t m (field_of a b) in
    ap (before f.text)
    (ap (λ (s : Session). shows (feed v s f.store bs)) (even_after v g t m (field_of a b)) ∙ by_fields v bs f.session.stage f.session.totals f.store)

-- ---- the words of a record, one after another

-- the words of a record that are not all there
cut : (v : Setting) (ws : List ℕ) (n count i : ℕ) (t : Totals) (m : Store) → i + length ws < count
    → shows (feed_fields v (AtWord n count i) t m ws) ≡ record { text = []; totals = t; slice = m.slice; marks = m.marks; counters = m.counters }
unfolding feed_fields
cut v [] n count i t m h = refl
cut v (w ∷ ws) n count i t m h = rw (at_word v t m w n count i refl (omega arith)) (cut v ws n count (i + 1) t (storing m i w) (omega arith))

-- ---- a whole record

-- a clause of more than 64 words
long_shape : (c : List ℕ) → max_words < length c → shape c ≡ Err BadLength
unfolding shape
long_shape [] h = absurd (omega arith)
long_shape (w ∷ c) h = rw (lt-ltb max_words (length (w ∷ c)) h)

-- one that was skipped over comes out as if it had been asked
finishing_is : (v : Setting) (n count : ℕ) (words slice ws : List ℕ) → length slice ≡ tree_words → count ≤ length ws → (count ≤ max_words → take count words ≡ take count ws)
    → finishing v n count words slice ≡ answer_to v slice (record { number = n; words = take count ws })
unfolding finishing answer_to query
finishing_is v n count words slice ws s h same = go (dec_lt max_words count)
  where
    go : Dec (max_words < count) → finishing v n count words slice ≡ answer_to v slice (record { number = n; words = take count ws })
    go (yes l) =
        let k : length (take count ws) ≡ count = length-take-le count ws h in
        rw (lt-ltb max_words count l, s, long_shape (take count ws) (omega arith))
    go (no l) = rw (le-ltb max_words count (omega arith), same (omega arith))

-- ---- record by record

-- what some records print, asked on a slice
abbrev told : Setting → Totals → Store → List Record → Prints
told v t m xs =
    let rs = rows_from v m.slice xs in
    record {
      text = lines_of rs;
      totals = totals_with t rs;
      slice = after m.slice (row_calls rs);
      marks = marks_with m.marks rs;
      counters = counters_with m.counters rs;
    }

-- the same with another slice
abbrev sliced : Prints → List ℕ → Prints
sliced p T = record { text = p.text; totals = p.totals; slice = T; marks = p.marks; counters = p.counters }

-- a whole record, and then the others
one_record : (v : Setting) (n count : ℕ) (ws : List ℕ) (t : Totals) (m : Store) (xs : List Record) (fs : List ℕ)
    → length m.words ≡ max_words → length m.slice ≡ tree_words → count ≤ length ws → (count ≤ max_words → take count m.words ≡ take count ws)
    → ((u : Totals) (m' : Store) → length m'.words ≡ max_words → length m'.slice ≡ tree_words → shows (feed_fields v AtNumber u m' fs) ≡ told v u m' xs)
    → shows (feed_then (record_ended v n count t m) (λ s m'. feed_fields v s.stage s.totals m' fs))
    ≡ told v t m (record { number = n; words = take count ws } ∷ xs)
unfolding record_ended rows_from row_on
one_record v n count ws t m xs fs w s h same rest =
    let x : Record = record { number = n; words = take count ws } in
    let a : Answered = answer_to v m.slice x in
    let m' : Store = store_of m.words a.slice (marked a.outcome n a.removed m.marks) (counters_after a.outcome m.counters) in
    rw (finishing_is v n count m.words m.slice ws s h same)
    (ap (before (lines_for n a.removed a.outcome)) (rest (counted a.outcome (length a.removed) t) m' w (answered_length v m.slice x ∙ s))
    ∙ ap (sliced (told v t m (x ∷ xs))) (sym (slice_more v m.slice x (row_calls (rows_from v a.slice xs)))))

-- the words that were stored are those of the record
stored : (count : ℕ) (words ws : List ℕ) → length words ≡ max_words → count ≤ length ws → count ≤ max_words → take count (sets words 0 (take count ws)) ≡ take count ws
stored count words ws w h k =
    let l : length (take count ws) ≡ count = length-take-le count ws h in
    rw (sets-eq (take count ws) words 0 (omega arith)) (take_at (take count ws) (drop (0 + length (take count ws)) words) count l)

-- the records from one on, whose number and count are read
abbrev records_from : (f n count : ℕ) (ws : List ℕ) → List Record
records_from f n count ws = elim (leb count (length ws)) [ true ↦ record { number = n; words = take count ws } ∷ records_for f (drop count ws) | false ↦ [] ]

from_there : (f n count : ℕ) (ws : List ℕ) → count ≤ length ws → records_from f n count ws ≡ record { number = n; words = take count ws } ∷ records_for f (drop count ws)
from_there f n count ws k =
    ap (λ (b : Bool). elim b as (λ x. List Record) [ true ↦ record { number = n; words = take count ws } ∷ records_for f (drop count ws) | false ↦ [] ]) (le-leb count (length ws) k)

from_missing : (f n count : ℕ) (ws : List ℕ) → length ws < count → records_from f n count ws ≡ []
from_missing f n count ws k =
    ap (λ (b : Bool). elim b as (λ x. List Record) [ true ↦ record { number = n; words = take count ws } ∷ records_for f (drop count ws) | false ↦ [] ]) (lt-leb count (length ws) k)

-- what the rest of the fields prints
abbrev Rest : (v : Setting) (f : ℕ) (fs : List ℕ) → Type 0
Rest v f fs = (u : Totals) (m : Store) → length m.words ≡ max_words → length m.slice ≡ tree_words → shows (feed_fields v AtNumber u m fs) ≡ told v u m (records_for f fs)

next_record : (v : Setting) (f n count : ℕ) (ws : List ℕ) (t : Totals) (m : Store) → length m.words ≡ max_words → length m.slice ≡ tree_words → Rest v f (drop count ws)
    → shows (feed_then (take_field v (AtCount n) t m count) (λ s m'. feed_fields v s.stage s.totals m' ws)) ≡ told v t m (records_from f n count ws)
unfolding rows_from
next_record v f n zero ws t m w s rest =
    ap (λ (x : Fed). shows (feed_then x (λ s m'. feed_fields v s.stage s.totals m' ws))) (at_empty v t m 0 n refl (omega arith))
    ∙ one_record v n 0 ws t m (records_for f ws) ws w s (omega arith) (λ h. refl) rest
    ∙ ap (λ (xs : List Record). told v t m xs) (sym (from_there f n 0 ws (omega arith)))
next_record v f n (suc k) ws t m w s rest =
    ap (λ (x : Fed). shows (feed_then x (λ s m'. feed_fields v s.stage s.totals m' ws))) (at_count v t m (suc k) n refl (omega arith))
    ∙ go (dec_le (suc k) (length ws))
  where
    go : Dec (suc k ≤ length ws) → shows (feed_fields v (AtWord n (suc k) 0) t m ws) ≡ told v t m (records_from f n (suc k) ws)
    go (yes h) =
        let e : suc k - 0 ≡ suc k = omega arith in
        let xs : List Record = records_for f (drop (suc k) ws) in
        let l = length-sets m.words 0 (take (suc k) ws) ∙ w in
        ap shows (collect v ws n (suc k) 0 t m (omega arith) (omega arith))
        ∙ ap (λ (i : ℕ). shows (feed_then (record_ended v n (suc k) t (filling m 0 (take i ws))) (λ s' m'. feed_fields v s'.stage s'.totals m' (drop i ws)))) e
        ∙ one_record v n (suc k) ws t (filling m 0 (take (suc k) ws)) xs (drop (suc k) ws) l s h (stored (suc k) m.words ws w h) rest
        ∙ ap (λ (xs : List Record). told v t m xs) (sym (from_there f n (suc k) ws h))
    go (no h) =
        cut v ws n (suc k) 0 t m (omega arith) ∙ ap (λ (xs : List Record). told v t m xs) (sym (from_missing f n (suc k) ws (omega arith)))

by_records : (v : Setting) (f : ℕ) (fs : List ℕ) (t : Totals) (m : Store) → length fs ≤ f → length m.words ≡ max_words → length m.slice ≡ tree_words
    → shows (feed_fields v AtNumber t m fs) ≡ told v t m (records_for f fs)
unfolding feed_fields records_for take_field rows_from
by_records v zero [] t m h w s = refl
by_records v zero (n ∷ fs) t m h w s = absurd (omega arith)
by_records v (suc f) [] t m h w s = refl
by_records v (suc f) (n ∷ []) t m h w s = refl
by_records v (suc f) (n ∷ count ∷ ws) t m h w s =
    next_record v f n count ws t m w s (λ u m' w' s'. by_records v f (drop count ws) u m' (simp length-drop (omega arith)) w' s')

-- ---- the whole input

-- what is printed, and the lent words, are those of the rows
whole : (v : Setting) (input : List ℕ) → shows (fed_whole v input) ≡ told v none first_store (records_of input)
unfolding first_store records_of
whole v input =
    by_fields v input AtNumber none first_store
    ∙ by_records v (length (fields input)) (fields input) none first_store (omega arith) (length-replicate {A = ℕ} max_words 0) (length-replicate {A = ℕ} tree_words 0)

-- the tally is shown
shown : (v : Setting) (input : List ℕ) → Bytes input → length input < most_bytes → (n c : ℕ) → n + c ≤ number_count
    → let m = (fed_whole v input).store in shown_from m.marks m.counters n c ≡ tally_from (rows_of v input) n c
unfolding first_store rows_of
shown v input b l n c h = ap (λ (p : Prints). shown_from p.marks p.counters n c) (whole v input) ∙ shown_input v input b l n c h

-- as many records as are read
read : (v : Setting) (input : List ℕ) → (fed_whole v input).session.totals.records ≡ length (records_of input)
unfolding first_store rows_of
read v input = ap (λ (p : Prints). p.totals.records) (whole v input) ∙ read_records v input

-- the tally sheet
sheet : (v : Setting) (input : List ℕ) → Bytes input → length input < most_bytes
    → let f = fed_whole v input in shown_sheet f.store.marks f.store.counters f.session.totals.records ≡ tally_sheet_of v input
unfolding shown_sheet tally_sheet_of tally_of
sheet v input b l =
    ap₂ (λ (ts : List TallyRow) (n : ℕ). tally_lines ts ++ records_line n) (shown v input b l 0 number_count (omega arith)) (read v input)

-- the listing
listing : (v : Setting) (input : List ℕ) → (fed_whole v input).text ++ totals_line v (fed_whole v input).session.totals ≡ listing_of v input
unfolding listing_of rows_of first_store
listing v input = ap (λ (p : Prints). p.text ++ totals_line v p.totals) (whole v input)

-- the lines stay whatever comes after them
begins : (v : Setting) (input more : List ℕ) → (rest : List ℕ) × (printed_of v (input ++ more) ≡ (fed_whole v input).text ++ rest)
begins v input more =
    let f = fed_whole v input in
    let g = feed v f.session f.store more in
    let e : (fed_whole v (input ++ more)).text ≡ f.text ++ g.text = ap (λ (x : Fed). x.text) (feed_append v input more first_session first_store) in
    let h = fed_whole v (input ++ more) in
    let t = totals_line v h.session.totals in
    let u = shown_sheet h.store.marks h.store.counters h.session.totals.records in
    ((g.text ++ t) ++ u, ap (λ (l : List ℕ). (l ++ t) ++ u) e ∙ ap (λ (l : List ℕ). l ++ u) (append_assoc f.text g.text t) ∙ append_assoc f.text (g.text ++ t) u)

pub whole_input : WholeInput
unfolding rows_of first_store output_of
whole_input =
    record {
      blocks = λ v s m a b. feed_append v a b s m;
      prints = listing;
      leaves = λ v input. ap (λ (p : Prints). p.slice) (whole v input) ∙ sym (slice_from (row_calls (rows_of v input)));
      reads_back = decimal_reads;
      sheets = sheets;
      strikes = no_strike_is_wrong;
      covered = all_covered;
      shuffled = pages_shuffled;
      clauses = same_clauses_kept;
      tallies = tallies;
      shows = shown;
      records = read;
      tally = sheet;
      output = λ v input b l. ap₂ ◌++◌ (listing v input) (sheet v input b l);
      begins = begins;
    }
