-- Block after block: what was fed so far, and what was handed on.
use mathlib.Core.Path.{◌≡◌, refl, sym, ap, ap₂, ◌∙◌}
use mathlib.Core.List.{List, [], ◌++◌, append_assoc}
use mathlib.Core.Bool.{Bool, true, false, not, ◌&&◌, false≢true, and-eq-true_iff}
use Rattle.std.proofs.Common.{Option, None, Some, is_none}
use Prim.Native.Nat.{ℕ, ◌+◌, ◌-◌, ◌*◌, ◌≤◌, ◌<◌}
use native.Mathlib.Omega.{arith}
use lib.Dec.{ltb}
use lib.ListN.{length, take, replicate, length-append, length-replicate}
use lib.Seq.{length-take-le}
use borrow.Author.Tests.{ltb-true}
use Rattle.clause.specs.Lists.{none as nothing}
use Rattle.clause.proofs.Lists.{all_append}
use Rattle.clause.specs.Clause.{max_words}
use Rattle.record.specs.declared.Setting.{Setting}
use Rattle.record.specs.Answer.{tree_words}
use Rattle.record.specs.Line.{longest_removal, totals_line}
use Rattle.record.specs.Marks.{number_count}
use Rattle.record.specs.Counters.{counter_words, shown_sheet}
use Rattle.record.specs.Sheet.{Bytes}
use Rattle.intake.specs.Feed.{Store, store_of, Fed, feed, first_session, first_store, fed_whole, printed_of}
use Rattle.intake.specs.declared.Session.{Session}
use Rattle.intake.proofs.Bytes.{feed_append}
use Rattle.answering.proofs.Renewing.{indexed_fresh}
use Rattle.answering.proofs.Steady.{steady_few, fresh_kept, steady_fresh}
use Rattle.index.specs.Inner.Heads.{entry_count, Indexed}
use Rattle.feeding.specs.Inner.Blocks.{longest_text, Feedable, Stays, Took}
use Rattle.feeding.proofs.Blocks.{within_fewer, text_of}
use Rattle.printing.specs.declared.End.{End}
use Rattle.printing.specs.declared.Meters.{Meters}
use Rattle.printing.specs.Handed.{first_meters, Holds, NextPiece, HandedOn}
use Rattle.printing.proofs.Pieces.{stands_after}
use Rattle.streaming.specs.Fed.{output_bytes, most_reads, block_bytes, may_read, FedSoFar}
use Rattle.streaming.specs.Inner.Reading.{Delivered}
use Rattle.streaming.specs.Inner.Running.{Running}

-- ---- before the first block

-- zeros are the first store
pub store_first : store_of (replicate max_words 0) (replicate tree_words 0) (replicate number_count 0) (replicate counter_words 0) ≡ first_store
unfolding first_store
store_first = refl

-- and their index is 0 throughout
pub indexed_first : {m : Store} → m ≡ first_store → Indexed m.slice (replicate entry_count 0)
unfolding first_store
indexed_first e = rw e indexed_fresh

-- nothing was read
pub running_none : (v : Setting) {s : Session} {m : Store} {M : Meters} → s ≡ first_session → m ≡ first_store → M ≡ first_meters → Running v s m M
unfolding feed first_store
running_none v e f g =
    record {
      stands = record { bytes = []; small = nothing; read = e; lent = f; many = rw g refl; handed = λ _. rw g refl; most = rw g (omega arith) };
      steady = rw f steady_fresh;
      kept = rw (e, f) (sym fresh_kept);
      words = rw f (length-replicate {A = ℕ} max_words 0);
      reads = rw g (omega arith);
      read = rw g (omega arith);
      handed = rw g (omega arith);
      counts = λ n h. rw e (record { read = omega (arith, h); ruled = omega (arith, h) });
    }

none_is : (o : Option End) → is_none o ≡ true → o ≡ None
none_is None e = refl
none_is (Some x) e = absurd (false≢true e)

-- one more is read: a read is left, and the reads have not ended
pub may_left : (M : Meters) → may_read M ≡ true → (M.reads < most_reads) × (M.ended ≡ None)
may_left M e =
    let (a, b) = (and-eq-true_iff (is_none M.ended) (not M.failed && ltb M.reads most_reads)).0 e in
    let (c, d) = (and-eq-true_iff (not M.failed) (ltb M.reads most_reads)).0 b in
    (ltb-true M.reads most_reads d, none_is M.ended a)

-- no more is read, also after something was handed on
pub may_ended : {M N : Meters} {n : ℕ} → HandedOn M n N → may_read M ≡ false → may_read N ≡ false
may_ended {M} {N} h e = go N.failed refl
  where
    none : (b : Bool) → (b && false) ≡ false
    none true = refl
    none false = refl

    go : (b : Bool) → N.failed ≡ b → (is_none N.ended && (not b && ltb N.reads most_reads)) ≡ false
    go true f = none (is_none N.ended)
    go false f =
        let z = (h.all f).0 in
        ap₂ (λ (i : Option End) (j : ℕ). is_none i && ltb j most_reads) h.ended h.reads
        ∙ sym (ap (λ (c : Bool). is_none M.ended && (not c && ltb M.reads most_reads)) z) ∙ e

-- ---- one block more

module _ {v : Setting} {s : Session} {m : Store} {M : Meters} (r : Running v s m M) (h : M.reads < most_reads) where
  -- it can be fed
  pub block_ready : {k : ℕ} {o : List ℕ} → k ≤ block_bytes → output_bytes ≤ length o → Feedable m s.totals k 0 o
  unfolding longest_text
  block_ready l b =
      let w = r.counts (most_reads - M.reads) (omega arith) in
      record {
        steady = r.steady;
        kept = r.kept;
        words = r.words;
        counts = record { read = omega (arith, w.read, h); ruled = omega (arith, w.ruled, h) };
        room = omega (arith, r.kept, steady_few r.steady);
      }

  -- what it prints is no longer than the output
  pub lines_short : (n : ℕ) {k next : ℕ} → k ≤ block_bytes → next + n ≤ longest_text k s.totals.kept → next ≤ output_bytes
  unfolding longest_text
  lines_short n l e = omega (arith, e, r.kept, steady_few r.steady)

  -- what was fed of a block that was read, and the text that is handed on
  pub block_fed : {n : ℕ} (input : List ℕ) {o : List ℕ} {a : Session} {k : Store} {next : ℕ} {p : List ℕ}
      → n ≤ length input → n ≤ block_bytes → output_bytes ≤ length o
      → Took (feed v s m (take n input)) (length (take n input)) 0 s.totals o a k (record { next = next; output = p })
      → (◌≡◌ {A = Fed} (record { session = a; store = k; text = take next p }) (feed v s m (take n input))) × (next ≤ output_bytes)
  block_fed {n} input {a = a} i l b t =
      let w : length (take n input) ≤ block_bytes = rw (length-take-le n input i) l in
      let q = block_ready w b in
      (text_of t (omega (arith, q.room)), lines_short (a.totals.kept * longest_removal) w (omega (arith, t.short)))

  module _ {n : ℕ} {input : List ℕ} {N : Meters} (d : Delivered n input M N) {f : Fed} (e : f ≡ feed v s m (take n input)) (b : length f.text ≤ output_bytes) where
    -- what was fed of all bytes
    fed_all : (F : FedSoFar v s m M) → feed v first_session first_store (F.bytes ++ take n input)
        ≡ record { session = f.session; store = f.store; text = (fed_whole v F.bytes).text ++ f.text }
    fed_all F =
        let a = F.bytes in
        let w = fed_whole v a in
        let q : feed v s m (take n input) ≡ feed v w.session w.store (take n input) =
        ap₂ (λ (x : Session) (y : Store). feed v x y (take n input)) F.read F.lent in
        feed_append v a (take n input) first_session first_store
        ∙ ap (λ (x : Fed). record { session = x.session; store = x.store; text = w.text ++ x.text }) (sym (e ∙ q))

    block_long : length (take n input) ≡ n
    block_long = length-take-le n input d.inside

    -- its lines come next
    pub lines_next : NextPiece N f.text
    lines_next =
        let a = r.stands.bytes in
        let c = take n input in
        let w = fed_whole v (a ++ c) in
        let t = totals_line v w.session.totals in
        let u = shown_sheet w.store.marks w.store.counters w.session.totals.records in
        let x : List ℕ = (fed_whole v a).text in
        let p : printed_of v (a ++ c) ≡ x ++ (f.text ++ (t ++ u)) =
        ap (λ (y : List ℕ). (y ++ t) ++ u) (ap (λ (y : Fed). y.text) (fed_all r.stands)) ∙ append_assoc (x ++ f.text) t u ∙ append_assoc x f.text (t ++ u) in
        record {
          setting = v;
          bytes = a ++ c;
          many = omega (arith, d.read, r.stands.many, block_long, length-append a c);
          stands = λ z. stands_after x f.text (t ++ u) (d.handed ∙ r.stands.handed (sym d.failed ∙ z)) p;
        }

    pub lines_fit : Holds (length f.text) N
    lines_fit = omega (arith, d.handed, r.handed, h, b)

    module _ {P : Meters} (u : Bytes (take n input)) (o : HandedOn N (length f.text) P) where
      -- they were handed on, and the bytes that were fed have grown by those of the block
      pub fed_more : (F : FedSoFar v s m M) → (G : FedSoFar v f.session f.store P) × (G.bytes ≡ F.bytes ++ take n input)
      fed_more F =
          let a = F.bytes in
          let c = take n input in
          let t = ap (λ (x : Fed). length x.text) (fed_all F) ∙ length-append (fed_whole v a).text f.text in (
            record {
              bytes = a ++ c;
              small = all_append F.small u;
              read = sym (ap (λ (x : Fed). x.session) (fed_all F));
              lent = sym (ap (λ (x : Fed). x.store) (fed_all F));
              many = omega (arith, o.read, d.read, F.many, block_long, length-append a c);
              handed = λ z. let (y, q) = o.all z in omega (arith, q, d.handed, F.handed (sym d.failed ∙ y), t);
              most = omega (arith, o.most, d.handed, F.most, t);
            },
            refl,
          )

      pub running_more : n ≤ block_bytes → Stays s.totals (length (take n input)) f.session.totals f.store
          → length f.store.words ≡ length m.words → Running v f.session f.store P
      running_more k y w =
          record {
            stands = (fed_more r.stands).0;
            steady = y.steady;
            kept = y.kept;
            words = w ∙ r.words;
            reads = omega (arith, o.reads, d.reads, h);
            read = omega (arith, o.read, o.reads, d.read, d.reads, r.read, k);
            handed = omega (arith, o.most, o.reads, d.handed, d.reads, r.handed, b);
            counts = λ i j.
                y.counts (i * block_bytes) (most_reads * block_bytes)
                (within_fewer (omega (arith, block_long, k)) (r.counts (i + 1) (omega (arith, j, o.reads, d.reads))));
          }
