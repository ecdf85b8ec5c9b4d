-- What the functions that feed a block ask and promise.
use Rattle.std.specs.Prelude.{◌≡◌, List, ℕ, ◌+◌, ◌*◌, ◌≤◌, length}
use Rattle.clause.specs.Clause.{max_words}
use Rattle.record.specs.Text.{Written, put_at}
use Rattle.record.specs.Line.{longest_line, longest_removal}
use Rattle.record.specs.Counters.{most_counted}
use Rattle.record.specs.declared.Totals.{Totals}
use Rattle.answering.specs.Inner.Steady.{kept_in, Steady}
use Rattle.intake.specs.declared.Session.{Session}
use Rattle.answering.specs.declared.Keeper.{Keeper}
use Rattle.intake.specs.Feed.{Store, store_of, Fed}

-- a keeper's tree and marks among the lent words
abbrev pub store_with : (words : List ℕ) → Keeper → (counters : List ℕ) → Store
store_with ws b C = store_of ws b.tree.now b.marks.now C

-- what was fed, with its text put into the output from a place on
pub record FedInto : Type 0 where
  pub session : Session
  pub store : Store
  pub printed : Written

-- the text of what was fed put into the output
abbrev pub fed_into : Fed → (output : List ℕ) (at : ℕ) → FedInto
fed_into f o at = record { session = f.session; store = f.store; printed = put_at f.text o at }

-- with so many records more the totals stay within a limit
pub record Within (totals : Totals) (more limit : ℕ) : Type 0 where
  pub read : totals.records + more ≤ limit
  pub ruled : totals.kept + totals.struck + totals.refused + totals.removed + more ≤ limit

-- the most bytes that so many bytes of the input print, where so many clauses are kept: a byte ends a record at most, which prints its line, and a clause
-- is removed once, whether it is kept already or by one of these records
unfoldable pub longest_text : (bytes kept : ℕ) → ℕ
longest_text k n = k * (longest_line + longest_removal) + n * longest_removal

-- some bytes can be fed: what holds from record to record, the total of kept clauses is right, the words of a record, a number for each total, room for
-- the lines from a place on
pub record Feedable (store : Store) (totals : Totals) (bytes at : ℕ) (output : List ℕ) : Type 0 where
  pub steady : Steady store.slice store.marks
  pub kept : totals.kept ≡ kept_in store.slice
  pub words : length store.words ≡ max_words
  pub counts : Within totals bytes most_counted
  pub room : at + longest_text bytes totals.kept ≤ length output

-- what holds after so many bytes, by the totals before them: what holds from record to record, the total of kept clauses is right, and at most as many
-- records are counted as bytes were fed
pub record Stays (before : Totals) (bytes : ℕ) (after : Totals) (store : Store) : Type 0 where
  pub steady : Steady store.slice store.marks
  pub kept : after.kept ≡ kept_in store.slice
  pub counts : (k l : ℕ) → Within before (bytes + k) l → Within after k l

-- some bytes were fed as they should be: the session, the lent words and the output; what holds after them; and what is left of the room is enough for
-- the clauses that are kept now
pub record Took (expected : Fed) (bytes at : ℕ) (before : Totals) (output : List ℕ) (session : Session) (store : Store) (printed : Written) : Type 0 where
  pub placed : record { session = session; store = store; printed = printed } ≡ fed_into expected output at
  pub stays : Stays before bytes session.totals store
  pub short : printed.next + session.totals.kept * longest_removal ≤ at + longest_text bytes before.kept
