-- The input byte by byte, as it comes in blocks.
use Rattle.std.specs.Prelude.{cond, ◌≡◌, List, [], ◌∷◌, ◌++◌, ℕ, ◌+◌, ◌≤◌, ◌<◌, ltb, eqb, length, take, set, replicate}
use Rattle.clause.specs.Clause.{max_words}
use Rattle.book.specs.Book.{slice_of}
use Rattle.record.specs.Text.{DecimalReads}
use Rattle.record.specs.Line.{lines_for, totals_line}
use Rattle.record.specs.Answer.{tree_words, Answered, left, answer_to}
use Rattle.record.specs.Marks.{number_count, marked}
use Rattle.record.specs.Output.{field_of, records_of, counted, fresh_slice, rows_of, row_calls, listing_of}
use Rattle.record.specs.Output as output
use Rattle.record.specs.Tally.{tally_from, tally_sheet_of, output_of}
use Rattle.record.specs.Counters.{counter_words, counters_after, shown_from, shown_sheet}
use Rattle.record.specs.Sheet.{Bytes, Sheets, NoStrikeIsWrong}
use Rattle.record.specs.Shuffled.{AllCovered, PagesShuffled, SameClausesKept}
use Rattle.record.specs.Tallies.{most_bytes, Tallies}
use Rattle.clause.specs.declared.Fault.TheVariants.{BadLength}
use Rattle.tree.specs.declared.Refusal.TheVariants.{BadClause}
use Rattle.record.specs.declared.Setting.{Setting}
use Rattle.record.specs.declared.Outcome.TheVariants.{Refused}
use Rattle.record.specs.declared.Totals.{Totals}
use Rattle.intake.specs.declared.Half.{Half}
use Rattle.intake.specs.declared.Half.TheVariants.{Even, Odd}
use Rattle.intake.specs.declared.Stage.{Stage}
use Rattle.intake.specs.declared.Stage.TheVariants.{AtNumber, AtCount, AtWord}
use Rattle.intake.specs.declared.Session.{Session}
use Rattle.intake.specs.declared.Next.{Next}
use Rattle.intake.specs.declared.Next.TheVariants.{Reads, Ends}

-- the lent words: those of the record that is being read, the tree's slice, a mark and two counters for each number
pub record Store : Type 0 where
  pub words : List ℕ
  pub slice : List ℕ
  pub marks : List ℕ
  pub counters : List ℕ

-- the lent words by name
abbrev pub store_of : (words slice marks counters : List ℕ) → Store
store_of ws T m c = record { words = ws; slice = T; marks = m; counters = c }

-- how far the reading is after some bytes, the lent words, and what was printed
pub record Fed : Type 0 where
  pub session : Session
  pub store : Store
  pub text : List ℕ

-- a whole record: what becomes of it, its lines, the totals, the tally
abbrev pub finished_as : Answered → (number : ℕ) → Totals → Store → Fed
finished_as a n t m =
    record {
      session = record { half = Even; stage = AtNumber; totals = counted a.outcome (length a.removed) t };
      store =
          record {
            words = m.words;
            slice = a.slice;
            marks = marked a.outcome n a.removed m.marks;
            counters = counters_after a.outcome m.counters;
          };
      text = lines_for n a.removed a.outcome;
    }

-- what becomes of a whole record of `count` words; one of more than 64 was skipped over, and is refused for its length
unfoldable pub finishing : Setting → (number count : ℕ) (words slice : List ℕ) → Answered
finishing v n count ws T = cond (ltb max_words count) (left (Refused (BadClause BadLength)) T) (answer_to v T (record { number = n; words = take count ws }))

-- a whole record ended
unfoldable pub record_ended : Setting → (number count : ℕ) → Totals → Store → Fed
record_ended v n count t m = finished_as (finishing v n count m.words m.slice) n t m

-- what one more field leads to: the reading goes on, or the record is whole
abbrev pub advanced : Stage → (field : ℕ) → Next
advanced AtNumber w = Reads Even (AtCount w)
advanced (AtCount n) w = cond (eqb w 0) (Ends (record { number = n; count = 0 })) (Reads Even (AtWord n w 0))
advanced (AtWord n count at) w = cond (ltb (at + 1) count) (Reads Even (AtWord n count (at + 1))) (Ends (record { number = n; count = count }))

-- the words after one more field, if it is one of them; past the 64 none is stored
abbrev pub stored : Stage → (words : List ℕ) (field : ℕ) → List ℕ
stored AtNumber ws w = ws
stored (AtCount n) ws w = ws
stored (AtWord n count at) ws w = set ws at w

-- the reading goes on, and nothing is printed, or a whole record is ended
abbrev pub proceeding : Setting → Next → Totals → Store → Fed
proceeding v (Reads h g) t m = record { session = record { half = h; stage = g; totals = t }; store = m; text = [] }
proceeding v (Ends x) t m = record_ended v x.number x.count t m

-- one more field
unfoldable pub take_field : Setting → Stage → Totals → Store → (field : ℕ) → Fed
take_field v g t m w = proceeding v (advanced g w) t (store_of (stored g m.words w) m.slice m.marks m.counters)

-- one more byte: the first or the second of a field
abbrev pub take_as : Setting → Half → Stage → Totals → Store → (byte : ℕ) → Fed
take_as v Even g t m b = proceeding v (Reads (Odd b) g) t m
take_as v (Odd a) g t m b = take_field v g t m (field_of a b)

-- one more byte
abbrev pub take_byte : Setting → Session → Store → (byte : ℕ) → Fed
take_byte v s m b = take_as v s.half s.stage s.totals m b

-- what is fed after something else
abbrev pub feed_then : Fed → (Session → Store → Fed) → Fed
feed_then f k = let g = k f.session f.store in record { session = g.session; store = g.store; text = f.text ++ g.text }

-- one byte after another
unfoldable pub feed : Setting → Session → Store → (bytes : List ℕ) → Fed
feed v s m [] = record { session = s; store = m; text = [] }
feed v s m (b ∷ bs) = feed_then (take_byte v s m b) (λ s' m'. feed v s' m' bs)

-- before the first byte
abbrev pub first_session : Session
first_session = record { half = Even; stage = AtNumber; totals = output.none }

-- the lent words before the first byte: all zeros
unfoldable pub first_store : Store
first_store = store_of (replicate max_words 0) (replicate tree_words 0) (replicate number_count 0) (replicate counter_words 0)

-- all that is fed of an input
abbrev pub fed_whole : Setting → (input : List ℕ) → Fed
fed_whole v input = feed v first_session first_store input

-- all that is printed of an input: its lines, the totals, and the tally sheet that marks and counters show
abbrev pub printed_of : Setting → (input : List ℕ) → List ℕ
printed_of v input =
    let f = fed_whole v input in
    (f.text ++ totals_line v f.session.totals) ++ shown_sheet f.store.marks f.store.counters f.session.totals.records

-- the claims about every input, with each setting
pub record WholeInput : Type 0 where
  -- whatever the blocks, the text of all of them and the totals are the listing of the whole input, and the slice is that of its calls
  pub blocks : (v : Setting) (s : Session) (m : Store) (a b : List ℕ) → feed v s m (a ++ b) ≡ feed_then (feed v s m a) (λ s' m'. feed v s' m' b)
  pub prints : (v : Setting) (input : List ℕ) → (fed_whole v input).text ++ totals_line v (fed_whole v input).session.totals ≡ listing_of v input
  pub leaves : (v : Setting) (input : List ℕ) → (fed_whole v input).store.slice ≡ slice_of fresh_slice (row_calls (rows_of v input))
  -- a printed number reads back as itself
  pub reads_back : DecimalReads
  -- what becomes of each record, by the clauses that are kept before it; and in one sentence
  pub sheets : Sheets
  pub strikes : NoStrikeIsWrong
  -- where no record is refused: all that was read is covered, and with backward striking its order makes no difference to what is kept at the end, nor
  -- do numbers and repeated clauses, but for clauses that subsume each other
  pub covered : AllCovered
  pub shuffled : PagesShuffled
  pub clauses : SameClausesKept
  -- the tally of every input; of one under `most_bytes` marks and counters show it, number by number, and with the records they show its tally sheet
  pub tallies : Tallies
  pub shows : (v : Setting) (input : List ℕ) → Bytes input → length input < most_bytes → (n c : ℕ) → n + c ≤ number_count
      → let m = (fed_whole v input).store in shown_from m.marks m.counters n c ≡ tally_from (rows_of v input) n c
  pub records : (v : Setting) (input : List ℕ) → (fed_whole v input).session.totals.records ≡ length (records_of input)
  pub tally : (v : Setting) (input : List ℕ) → Bytes input → length input < most_bytes
      → let f = fed_whole v input in shown_sheet f.store.marks f.store.counters f.session.totals.records ≡ tally_sheet_of v input
  -- so all that is printed of such an input is its output; and its lines are printed alike whatever comes after it
  pub output : (v : Setting) (input : List ℕ) → Bytes input → length input < most_bytes → printed_of v input ≡ output_of v input
  pub begins : (v : Setting) (input more : List ℕ) → (rest : List ℕ) × (printed_of v (input ++ more) ≡ (fed_whole v input).text ++ rest)
