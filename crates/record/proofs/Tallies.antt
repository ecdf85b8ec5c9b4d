-- The claims about the tally sheet of an input.
use mathlib.Core.Bool.{Bool}
use mathlib.Core.Path.{◌≡◌, refl, sym, ap, subst, ◌∙◌}
use mathlib.Core.List.Memᴰ
use mathlib.Core.List.{List, [], ◌∷◌, ◌++◌, map, flat_map, map-append, append_assoc, Memᴰ}
use Prim.Native.Nat.{ℕ, ◌+◌, ◌≤◌, ◌<◌}
use native.Mathlib.Omega.{arith}
use lib.ListN.{length, replicate, length-map}
use Rattle.clause.specs.Lists.{Each}
use Rattle.clause.specs.Clause.{Subsumes}
use Rattle.clause.proofs.Lists.{all_mem}
use Rattle.tree.specs.Entries.{Pair}
use Rattle.record.specs.Marks.{number_count}
use Rattle.record.specs.Output.{records_of, Row, fresh_slice, rows_of, totals_with, none}
use Rattle.record.specs.Ruled.{pair_of, Numbered}
use Rattle.record.specs.Sheet.{Bytes, book_after, taken_out, KeptLine, KeptCovers, RowAt, Sheet}
use Rattle.record.specs.Tally.{spent_on, ever_kept, struck_by, total, TallyRow, tally_row, passing, tally_from, tally_of, tally_lines}
use Rattle.record.specs.Counters.{counter_words, shown_from}
use Rattle.record.specs.Tallies.{most_bytes, numbers_of, RowStands, Tallied, Tallies}
use Rattle.record.specs.declared.Setting.{Setting}
use Rattle.record.specs.declared.Setting.TheVariants.{Plain}
use Rattle.record.specs.declared.Outcome.TheVariants.{Struck}
use Rattle.record.proofs.Reading.{input_narrow, records_few}
use Rattle.record.proofs.Rows.{Fated, rows_records, kept_mem, mem_kept, rows_read, rows_plain}
use Rattle.record.proofs.Clearing.{same_pair}
use Rattle.record.proofs.Sheets.{rows_fated, sheets}
use Rattle.record.proofs.Passing.{passing_has, passing_all, passing_rises, passing_append}
use Rattle.record.proofs.Striking.{struck_among, among_struck, ever_line, line_ever, weight_by, weights, weigh_one, weight_struck, weight_spent}
use Rattle.record.proofs.Counting.{marks_with, counters_with, fated_spent, shown_tally}

-- the numbers of some rows of a tally
numbers_map : (rs : List Row) (l : List ℕ) → numbers_of (map (tally_row rs) l) ≡ l
numbers_map rs [] = refl
numbers_map rs (n ∷ l) = ap (λ (m : List ℕ). n ∷ m) (numbers_map rs l)

strikes_map : (rs : List Row) (l : List ℕ) → total (map (λ t. t.strikes) (map (tally_row rs) l)) ≡ total (map (weight_by (λ r. 1) rs) l)
strikes_map rs [] = refl
strikes_map rs (n ∷ l) = omega (arith, strikes_map rs l, weigh_one (struck_by n rs))

candidates_map : (rs : List Row) (l : List ℕ) → total (map (λ t. t.candidates) (map (tally_row rs) l)) ≡ total (map (weight_by (λ r. spent_on r.outcome) rs) l)
candidates_map rs [] = refl
candidates_map rs (n ∷ l) = omega (arith, candidates_map rs l)

-- as many are counted as the input has
pub read_records : (v : Setting) (input : List ℕ) → (totals_with none (rows_of v input)).records ≡ length (records_of input)
unfolding rows_of
read_records v input =
    let rs : List Row = rows_of v input in
    omega (arith, rows_read rs none, length-map rs (λ (r : Row). r.of), ap length (rows_records v fresh_slice (records_of input)))

-- a row in its place
row_at : (r : Row) (rs : List Row) → Memᴰ r rs → (a : RowAt rs) × (a.this ≡ r)
row_at r [] m = elim m [ ]
row_at r (s ∷ rs) (Memᴰ.head e) = (record { before = []; this = s; after = rs; whole = refl }, sym e)
row_at r (s ∷ rs) (Memᴰ.tail m) =
    let (a, e) = row_at r rs m in
    (record { before = s ∷ a.before; this = a.this; after = a.after; whole = ap (λ (l : List Row). s ∷ l) a.whole }, e)

module _ (v : Setting) (input : List ℕ) (b : Bytes input) where
  abbrev rs : List Row
  rs = rows_of v input

  abbrev sheet : Sheet v input
  sheet = sheets v input b

  -- the numbers that were ever kept
  abbrev kept : List ℕ
  kept = passing (λ k. ever_kept k rs) 0 number_count

  rows_are : tally_of rs ≡ map (tally_row rs) kept
  unfolding tally_of tally_from
  rows_are = refl

  numbers_are : numbers_of (tally_of rs) ≡ kept
  numbers_are = ap numbers_of rows_are ∙ numbers_map rs kept

  -- a number of 16 bits
  small : (r : Row) → Memᴰ r rs → r.of.number < number_count
  small r m = (all_mem (input_narrow input b) (subst (Memᴰ r.of) sheet.rows (Memᴰ.map (λ (y : Row). y.of) m))).0

  line_kept : (n : ℕ) → KeptLine rs n → Memᴰ n kept
  line_kept n l = let (r, m, k, e) = l in passing_has (λ k. ever_kept k rs) number_count 0 n (omega arith) (omega (arith, small r m, e)) (line_ever n rs l)

  kept_line : (n : ℕ) → Memᴰ n kept → KeptLine rs n
  kept_line n m = ever_line n rs (all_mem (passing_all (λ k. ever_kept k rs) number_count 0) m).test

  -- without backward striking no line takes a clause out
  none_out : v ≡ Plain → taken_out rs ≡ []
  none_out e = rows_plain (subst (λ (u : Setting). Fated u [] rs) e (rows_fated v input b))

  -- a line and a pair of the last book
  line_book : v ≡ Plain → (n : ℕ) → KeptLine rs n → Numbered (book_after rs) n
  line_book p n l =
      let (r, m, k, e) = l in
      (pair_of r.of, subst (Memᴰ (pair_of r.of)) (sym sheet.covers.pairs) (kept_mem rs (none_out p) r m k), e)

  book_line : (n : ℕ) → Numbered (book_after rs) n → KeptLine rs n
  book_line n x =
      let (p, m, e) = x in
      let k = mem_kept rs p (subst (Memᴰ p) sheet.covers.pairs m) in
      (k.row, k.among, k.kept, sym (ap (λ (q : Pair). q.number) k.pair) ∙ e)

  -- a record that was struck has an earlier line that kept the number
  struck_line : (r : Row) → Memᴰ r rs → (n k : ℕ) → r.outcome ≡ Struck n k → KeptCovers rs n r.of
  struck_line r m n k e =
      let (a, i) = row_at r rs m in
      let (s, l, x, y, z) = (sheet.placed a).earlier n k (ap (λ (y : Row). y.outcome) i ∙ e) in
      (s, subst (Memᴰ s) (sym a.whole) (Memᴰ.append_left (a.this ∷ a.after) l), x, y, subst (λ (q : Row). Subsumes s.of.words q.of.words) i z)

  striking : (r : Row) → Memᴰ r rs → (n k : ℕ) → r.outcome ≡ Struck n k → Memᴰ n kept
  striking r m n k e = let (s, l, x, y, z) = struck_line r m n k e in line_kept n (s, l, x, y)

  row_stands : (n : ℕ) → RowStands rs (tally_row rs n)
  row_stands n = record { strikes = refl; candidates = refl; struck = λ r l. let (m, (k, e)) = struck_among n rs r l in struck_line r m n k e }

  -- the clause of the last book with a number subsumes all that the number struck
  last_clause : v ≡ Plain → (p : Pair) → Memᴰ p (book_after rs) → (r : Row) → Memᴰ r (struck_by p.number rs) → Subsumes p.clause r.of.words
  last_clause plain p i r l =
      let (m, (k, e)) = struck_among p.number rs r l in
      let (q, j, f, s) = sheet.covers.named plain r m p.number k e in
      subst (λ (x : Pair). Subsumes x.clause r.of.words) (same_pair sheet.stands.numbers j i f) s

  tallied : Tallied v input
  tallied =
      record {
        strikes =
            ap (λ (l : List TallyRow). total (map (λ t. t.strikes) l)) rows_are ∙ strikes_map rs kept
            ∙ weights (λ r. 1) kept (passing_rises (λ k. ever_kept k rs) number_count 0) rs striking ∙ omega (arith, weight_struck rs none);
        candidates =
            ap (λ (l : List TallyRow). total (map (λ t. t.candidates) l)) rows_are ∙ candidates_map rs kept
            ∙ weights (λ r. spent_on r.outcome) kept (passing_rises (λ k. ever_kept k rs) number_count 0) rs striking ∙ weight_spent rs;
        records = read_records v input;
        numbers = λ n. (λ m. kept_line n (subst (Memᴰ n) numbers_are m), λ l. subst (Memᴰ n) (sym numbers_are) (line_kept n l));
        book = λ p n. (
          λ m. line_book p n (kept_line n (subst (Memᴰ n) numbers_are m)),
          λ x. subst (Memᴰ n) (sym numbers_are) (line_kept n (book_line n x)),
        );
        rising = subst (Each ◌<◌) (sym numbers_are) (passing_rises (λ k. ever_kept k rs) number_count 0);
        rows = λ t m.
            let (n, i, e) = Memᴰ.of_map (tally_row rs) kept (subst (Memᴰ t) rows_are m) in
            subst (RowStands rs) e (row_stands n);
        clauses = last_clause;
        exactly = λ n r. (struck_among n rs r, λ x. among_struck n rs r x.1.0 x.0 x.1.1);
      }

-- ---- in lent words

-- after an input that is not too long, the marks and the counters show its tally
pub shown_input : (v : Setting) (input : List ℕ) → Bytes input → length input < most_bytes → (n c : ℕ) → n + c ≤ number_count
    → shown_from (marks_with (replicate number_count 0) (rows_of v input)) (counters_with (replicate counter_words 0) (rows_of v input)) n c
    ≡ tally_from (rows_of v input) n c
shown_input v input b l n c h =
    let few : length (rows_of v input) < most_bytes =
    omega (arith, records_few input, length-map (rows_of v input) (λ (r : Row). r.of), ap length (sheets v input b).rows) in
    shown_tally (rows_of v input) (fated_spent (rows_fated v input b)) few n c h

-- ---- in pieces

lines_append : (a b : List TallyRow) → tally_lines (a ++ b) ≡ tally_lines a ++ tally_lines b
unfolding tally_lines flat_map
lines_append [] b = refl
lines_append (t ∷ a) b = rw (lines_append a b, append_assoc)

-- the lines of a row for each number that passes a test: of none, and of some numbers after others
module _ (row : ℕ → TallyRow) (p : ℕ → Bool) where
  pub rows_none : (n : ℕ) → tally_lines (map row (passing p n 0)) ≡ []
  unfolding passing tally_lines flat_map
  rows_none n = refl

  pub rows_append : (n a b : ℕ) → tally_lines (map row (passing p n (a + b))) ≡ tally_lines (map row (passing p n a)) ++ tally_lines (map row (passing p (n + a) b))
  rows_append n a b =
      ap (λ (l : List ℕ). tally_lines (map row l)) (passing_append p a b n) ∙ ap tally_lines (map-append row (passing p n a) (passing p (n + a) b))
      ∙ lines_append (map row (passing p n a)) (map row (passing p (n + a) b))

pub tallies : Tallies
tallies v input b = tallied v input b
