-- A block record by record: what the functions leave is what the definition says, byte after byte.
use mathlib.Core.Path.{◌≡◌, refl, sym, ap, ◌∙◌}
use mathlib.Core.Bool.{Bool, true, false, cond}
use mathlib.Core.List.{List, [], ◌++◌, append_assoc}
use Prim.Native.Nat.{ℕ, ◌+◌, ◌*◌, ◌^◌, ◌≤◌, ◌<◌}
use native.Mathlib.Omega.{arith}
use lib.Dec.{ltb}
use lib.ListN.{length, get_or, take, drop, length-append}
use lib.Seq.{length-take-le}
use Rattle.std.proofs.lemmas.List.{take-append-drop}
use Rattle.clause.specs.Clause.{max_words}
use Rattle.clause.specs.Word.{Words}
use Rattle.clause.proofs.Lists.{all_below, all_take}
use Rattle.record.specs.Text.{Written, put_at}
use Rattle.record.specs.Line.{longest_line, longest_removal, line_of, removal_lines, lines_for}
use Rattle.record.specs.Answer.{Answered, answer_to}
use Rattle.record.specs.Marks.{number_count}
use Rattle.record.specs.Output.{counted}
use Rattle.record.specs.Counters.{counters_after}
use Rattle.clause.specs.declared.Fault.TheVariants.{BadLength}
use Rattle.tree.specs.declared.Refusal.TheVariants.{BadClause}
use Rattle.record.specs.declared.Setting.{Setting}
use Rattle.record.specs.declared.Outcome.{Outcome}
use Rattle.record.specs.declared.Outcome.TheVariants.{Kept, Struck, Refused}
use Rattle.record.specs.declared.Came.{Came}
use Rattle.record.specs.declared.Totals.{Totals}
use Rattle.lines.proofs.Writing.{put_at_append, text_there}
use Rattle.answering.specs.Inner.Steady.{kept_in, Steady, CameOut, GoesOn}
use Rattle.answering.proofs.Steady.{goes_on, goes_left}
use Rattle.intake.specs.Feed.{Store, store_of, Fed, finishing, record_ended, proceeding, feed_then, feed}
use Rattle.intake.specs.Inner.Steps.{Stepped}
use Rattle.intake.specs.declared.Half.{Half}
use Rattle.intake.specs.declared.Half.TheVariants.{Even}
use Rattle.intake.specs.declared.Stage.{Stage}
use Rattle.intake.specs.declared.Stage.TheVariants.{AtNumber}
use Rattle.intake.specs.declared.Session.{Session}
use Rattle.intake.specs.declared.Heading.{Heading}
use Rattle.intake.specs.declared.Next.{Next}
use Rattle.intake.specs.declared.Next.TheVariants.{Reads, Ends}
use Rattle.intake.specs.declared.Portion.{Portion}
use Rattle.intake.proofs.Bytes.{feed_append}
use Rattle.feeding.specs.Inner.Blocks.{FedInto, fed_into, Within, longest_text, Took}

-- ---- one record

-- what holds from record to record holds after a whole record
finishing_goes : (v : Setting) (m : Store) → Steady m.slice m.marks → (n count : ℕ) → n < number_count → Words m.words
    → GoesOn m.slice m.marks n (finishing v n count m.words m.slice)
unfolding finishing
finishing_goes v m h n count l w = go (ltb max_words count)
  where
    go : (b : Bool) → GoesOn m.slice m.marks n (cond b (record { outcome = Refused (BadClause BadLength); removed = []; slice = m.slice })
        (answer_to v m.slice (record { number = n; words = take count m.words })))
    go true = goes_left h n (BadClause BadLength)
    go false = goes_on v h (record { number = n; words = take count m.words }) (l, all_take count w)

-- a whole record came out, and so it goes on
pub record Ended (v : Setting) (n count : ℕ) (t : Totals) (m : Store) (came : Came) (list T K : List ℕ) : Type 0 where
  pub out : CameOut (finishing v n count m.words m.slice) n m.marks came list T K
  pub on : GoesOn m.slice m.marks n (record { outcome = came.outcome; removed = take came.removed list; slice = T })
  pub kept : t.kept ≡ kept_in m.slice

pub ended : (v : Setting) (n count : ℕ) (t : Totals) (m : Store) {came : Came} {list T K : List ℕ} → Steady m.slice m.marks → n < number_count
    → ((i : ℕ) → get_or m.words i 0 < 2 ^ 16) → t.kept ≡ kept_in m.slice
    → CameOut (finishing v n count m.words m.slice) n m.marks came list T K → Ended v n count t m came list T K
ended v n count t m h l w k c =
    record { out = c; on = rw c.answer (finishing_goes v m h n count l (all_below (2 ^ 16) m.words w)); kept = k }

module _ {v : Setting} {n count : ℕ} {t : Totals} {m : Store} {came : Came} {list T K : List ℕ} (e : Ended v n count t m came list T K) where
  -- the numbers that are taken out
  abbrev ns : List ℕ
  ns = take came.removed list

  pub removed_many : length ns ≡ came.removed
  removed_many = length-take-le came.removed list e.out.many

  pub removed_few : came.removed ≤ t.kept
  removed_few = omega (arith, removed_many, e.on.few, e.kept)

  -- the total of kept clauses stays right
  kept_after : (counted came.outcome came.removed t).kept ≡ kept_in T
  kept_after = rw removed_many at (e.on.counts t e.kept)

  -- so the lines that it prints, with those of later removals, have the room of one record
  kept_room : (counted came.outcome came.removed t).kept + came.removed ≤ t.kept + 1
  kept_room = omega (arith, kept_after, removed_many, e.on.swap, e.kept)

  -- it is one record more
  counts_after : (k l : ℕ) → Within t (1 + k) l → Within (counted came.outcome came.removed t) k l
  counts_after k l w = go came.outcome
    where
      go : (o : Outcome) → Within (counted o came.removed t) k l
      go (Kept used) = record { read = omega (arith, w.read); ruled = omega (arith, w.ruled, removed_few) }
      go (Struck i j) = record { read = omega (arith, w.read); ruled = omega (arith, w.ruled) }
      go (Refused f) = record { read = omega (arith, w.read); ruled = omega (arith, w.ruled) }

-- fewer stay within a limit too
pub within_fewer : {t : Totals} {k n l : ℕ} → k ≤ n → Within t n l → Within t k l
within_fewer h w = record { read = omega (arith, w.read); ruled = omega (arith, w.ruled) }

-- the room of one record holds the lines of its removals, and its own after them
pub one_room : (at : ℕ) {k n r o : ℕ} → k ≡ r → r ≤ n → at + longest_text 1 n ≤ o → at + k * longest_removal ≤ o
unfolding longest_text
one_room at e h l = omega arith

pub line_room : (at : ℕ) {k n r o o' place : ℕ} → k ≡ r → r ≤ n → at + longest_text 1 n ≤ o → place ≤ at + k * longest_removal → o' ≡ o → place + longest_line ≤ o'
unfolding longest_text
line_room at e h l p q = omega arith

-- a whole record ended
pub finishes : {v : Setting} {n count : ℕ} {t : Totals} {m : Store} {came : Came} {list T K : List ℕ} (e : Ended v n count t m came list T K)
    (o : List ℕ) (at : ℕ) {C p q : List ℕ} {u : Totals} {place next : ℕ}
    → C ≡ counters_after came.outcome m.counters
    → u ≡ counted came.outcome came.removed t
    → ◌≡◌ {A = Written} (record { next = place; output = p }) (put_at (removal_lines n (take came.removed list)) o at)
    → place ≤ at + length (take came.removed list) * longest_removal
    → ◌≡◌ {A = Written} (record { next = next; output = q }) (put_at (line_of n came.outcome) p place)
    → next ≤ place + longest_line
    → Took (record_ended v n count t m) 1 at t o (record { half = Even; stage = AtNumber; totals = u })
    (record { words = m.words; slice = T; marks = K; counters = C }) (record { next = next; output = q })
unfolding record_ended lines_for longest_text
finishes {n = n} {t = t} {m = m} {came = came} {list = list} {T = T} {K = K} e o at {C} {p} {q} {u} {place} {next} d f w l x y =
    let ms : List ℕ = take came.removed list in
    let a : Answered = record { outcome = came.outcome; removed = ms; slice = T } in
    let line : ◌≡◌ {A = Written} (record { next = next; output = q }) (put_at (removal_lines n ms ++ line_of n came.outcome) o at) =
    x ∙ ap (λ (z : Written). put_at (line_of n came.outcome) z.output z.next) w ∙ sym (put_at_append (removal_lines n ms) (line_of n came.outcome) o at) in
    let many : length ms ≡ came.removed = removed_many e in
    let total : u ≡ counted came.outcome (length ms) t = f ∙ ap (λ (k : ℕ). counted came.outcome k t) (sym many) in
    record {
      placed = rw (← e.out.answer, e.out.marking, d, total, line);
      stays =
          record {
            steady = rw e.out.marking e.on.steady;
            kept = ap (λ (z : Totals). z.kept) f ∙ kept_after e;
            counts = λ k l w. rw f (counts_after e k l w);
          };
      short = omega (arith, kept_room e, many, ap (λ (z : Totals). z.kept) f);
    }

-- what is taken of another input that is fed the same
pub took_as : {f g : Fed} {k at : ℕ} {b : Totals} {o : List ℕ} {s : Session} {m : Store} {w : Written} → f ≡ g → Took g k at b o s m w → Took f k at b o s m w
took_as e t = rw e t

-- the reading goes on
pub goes : (v : Setting) (h : Half) (g : Stage) (t : Totals) (m : Store) (o : List ℕ) (at : ℕ) {x : Next} → x ≡ Reads h g → Steady m.slice m.marks
    → t.kept ≡ kept_in m.slice
    → Took (proceeding v x t m) 1 at t o (record { half = h; stage = g; totals = t }) m (record { next = at; output = o })
unfolding longest_text
goes v h g t m o at e d k =
    let z : at + 0 ≡ at = omega arith in
    took_as (ap (λ (y : Next). proceeding v y t m) e) (record { placed = rw z; stays = record { steady = d; kept = k; counts = λ j l w. within_fewer (omega arith) w }; short = omega arith })

-- a record that is whole
pub ends : (v : Setting) (x : Heading) (t : Totals) (m : Store) {y : Next} → y ≡ Ends x → proceeding v y t m ≡ record_ended v x.number x.count t m
ends v x t m e = ap (λ (z : Next). proceeding v z t m) e

-- ---- some bytes after others

-- what was fed, and then more, put into the output
pub placed_then : (f : Fed) (k : Session → Store → Fed) (o : List ℕ) (at : ℕ) {s : Session} {m : Store} {w : Written}
    → ◌≡◌ {A = FedInto} (record { session = s; store = m; printed = w }) (fed_into f o at)
    → fed_into (k s m) w.output w.next ≡ fed_into (feed_then f k) o at
placed_then f k o at e =
    ap (λ (p : FedInto). fed_into (k p.session p.store) p.printed.output p.printed.next) e
    ∙ rw (put_at_append f.text (k f.session f.store).text o at)

-- the text of what was fed stands at the beginning of the output
pub text_of : {f : Fed} {k : ℕ} {b : Totals} {o : List ℕ} {s : Session} {m : Store} {next : ℕ} {p : List ℕ} → Took f k 0 b o s m (record { next = next; output = p })
    → longest_text k b.kept ≤ length o → record { session = s; store = m; text = take next p } ≡ f
text_of {f} {o = o} t h =
    let e = t.placed in
    let l : length f.text ≤ length o = omega (arith, t.short, ap (λ (x : FedInto). x.printed.next) e) in
    let w = text_there f.text o l (ap (λ (x : FedInto). x.printed) e) in
    rw (ap (λ (x : FedInto). x.session) e, ap (λ (x : FedInto). x.store) e, w)

-- ---- the loop over a block

-- what was fed so far, and what is left
pub record Feeding (v : Setting) (s₀ : Session) (m₀ : Store) (input o₀ : List ℕ) (s : Session) (m : Store) (o rest : List ℕ) (at : ℕ) : Type 0 where
  pub done : List ℕ
  pub split : input ≡ done ++ rest
  pub took : Took (feed v s₀ m₀ done) (length done) 0 s₀.totals o₀ s m (record { next = at; output = o })
  pub output : length o ≡ length o₀
  pub words : length m.words ≡ length m₀.words
  pub counters : length m.counters ≡ length m₀.counters

pub feeding_none : (v : Setting) (s : Session) (m : Store) (input o : List ℕ) → Steady m.slice m.marks → s.totals.kept ≡ kept_in m.slice
    → Feeding v s m input o s m o input 0
unfolding feed longest_text
feeding_none v s m input o h e =
    record {
      done = [];
      split = refl;
      took =
          record {
            placed = refl;
            stays = record { steady = h; kept = e; counts = λ k l w. within_fewer (omega arith) w };
            short = omega arith;
          };
      output = refl;
      words = refl;
      counters = refl;
    }

module _ (v : Setting) (s₀ : Session) (m₀ : Store) (input o₀ : List ℕ) {s : Session} {m : Store} {o rest : List ℕ} {at : ℕ}
    (f : Feeding v s₀ m₀ input o₀ s m o rest at) where
  pub feeding_long : length input ≡ length f.done + length rest
  feeding_long = ap length f.split ∙ length-append f.done rest

  -- there is room for one record more
  pub feeding_room : 0 < length rest → longest_text (length input) s₀.totals.kept ≤ length o₀ → at + longest_text 1 s.totals.kept ≤ length o
  unfolding longest_text
  feeding_room h r = omega (arith, f.took.short, f.output, feeding_long)

  -- one step more: some bytes are read, and then the reading goes on or a record is ended
  pub feeding_more : {x : Portion} {ws rest' : List ℕ} {s' : Session} {m' : Store} {o' : List ℕ} {at' : ℕ}
      → Stepped s rest m.words x ws
      → Took (proceeding v x.next s.totals (store_of ws m.slice m.marks m.counters)) 1 at s.totals o s' m' (record { next = at'; output = o' })
      → length o' ≡ length o → length m'.words ≡ length m.words → length m'.counters ≡ length m.counters
      → rest' ≡ drop x.taken rest → Feeding v s₀ m₀ input o₀ s' m' o' rest' at'
  unfolding longest_text
  feeding_more {x} {ws} r t lo lw lc e =
      let k : ℕ = x.taken in
      let bs : List ℕ = take k rest in
      let q : proceeding v x.next s.totals (store_of ws m.slice m.marks m.counters) ≡ feed v s m bs = sym (r.feeds v m.slice m.marks m.counters) in
      let l : length (f.done ++ bs) ≡ length f.done + k = length-append f.done bs ∙ ap (λ (i : ℕ). length f.done + i) (length-take-le k rest r.inside) in
      record {
        done = f.done ++ bs;
        split = f.split ∙ ap (λ (y : List ℕ). f.done ++ y) (sym (take-append-drop k rest)) ∙ sym (append_assoc f.done bs (drop k rest)) ∙ ap (λ (y : List ℕ). (f.done ++ bs) ++ y) (sym e);
        took =
            took_as (feed_append v f.done bs s₀ m₀)
            (record {
              placed = t.placed ∙ ap (λ (y : Fed). fed_into y o at) q ∙ placed_then (feed v s₀ m₀ f.done) (λ s'' m''. feed v s'' m'' bs) o₀ 0 f.took.placed;
              stays =
                  record {
                    steady = t.stays.steady;
                    kept = t.stays.kept;
                    counts = λ j n w. t.stays.counts j n (within_fewer (omega (arith, r.some)) (f.took.stays.counts (k + j) n (within_fewer (omega (arith, l)) w)));
                  };
              short = omega (arith, t.short, f.took.short, r.some, l);
            });
        output = lo ∙ f.output;
        words = lw ∙ f.words;
        counters = lc ∙ f.counters;
      }
