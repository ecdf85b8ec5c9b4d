-- What comes after the lines of the records, and the whole run.
use mathlib.Core.Path.{◌≡◌, sym, ap, ap₂, subst, ◌∙◌}
use mathlib.Core.Bool.{false}
use mathlib.Core.List.{List, ◌++◌, append_assoc}
use Prim.Native.Nat.{ℕ, ◌+◌, ◌≤◌}
use native.Mathlib.Omega.{arith}
use lib.ListN.{length, length-append, length-replicate}
use Rattle.record.specs.Line.{longest_totals, totals_line}
use Rattle.record.specs.Marks.{number_count}
use Rattle.record.specs.Settings.{setting_of}
use Rattle.record.specs.Output.{listing_of}
use Rattle.record.specs.Tally.{output_of}
use Rattle.record.specs.Counters.{counter_words, shown_sheet}
use Rattle.record.specs.declared.Setting.{Setting}
use Rattle.record.proofs.Promise.{promise}
use Rattle.intake.specs.Feed.{Store, store_of, first_store, fed_whole, printed_of}
use Rattle.intake.specs.declared.Session.{Session}
use Rattle.intake.proofs.Records.{whole_input}
use Rattle.printing.specs.declared.Meters.{Meters}
use Rattle.printing.specs.Handed.{Holds, NextPiece, HandedOn, SheetNext}
use Rattle.printing.proofs.Pieces.{handed_append, stands_after}
use Rattle.streaming.specs.Fed.{may_read}
use Rattle.streaming.specs.Inner.Running.{Running}
use Rattle.streaming.proofs.FedBlocks.{may_ended}
use Rattle.running.specs.Run.{RunEnds}

-- the lengths of the first store
pub first_lengths : {ws T m c : List ℕ} → store_of ws T m c ≡ first_store → (length m ≡ number_count) × (length c ≡ counter_words)
unfolding first_store
first_lengths e = (
  ap (λ (s : Store). length s.marks) e ∙ length-replicate {A = ℕ} number_count 0,
  ap (λ (s : Store). length s.counters) e ∙ length-replicate {A = ℕ} counter_words 0,
)

module _ {v : Setting} {s : Session} {m : Store} {M : Meters} (r : Running v s m M) where
  -- all that is printed of the bytes that were fed
  printed : printed_of v r.stands.bytes
      ≡ (fed_whole v r.stands.bytes).text ++ (totals_line v s.totals ++ shown_sheet m.marks m.counters s.totals.records)
  printed =
      let w = fed_whole v r.stands.bytes in
      append_assoc w.text (totals_line v w.session.totals) (shown_sheet w.store.marks w.store.counters w.session.totals.records)
      ∙ ap₂ (λ (x : Session) (y : Store). w.text ++ (totals_line v x.totals ++ shown_sheet y.marks y.counters x.totals.records))
      (sym r.stands.read) (sym r.stands.lent)

  -- the totals come next
  pub totals_next : NextPiece M (totals_line v s.totals)
  totals_next =
      let f = r.stands in
      record {
        setting = v;
        bytes = f.bytes;
        many = f.many;
        stands = λ z. stands_after (fed_whole v f.bytes).text (totals_line v s.totals) (shown_sheet m.marks m.counters s.totals.records) (f.handed z) printed;
      }

  pub totals_fit : Holds longest_totals M
  totals_fit = omega (arith, r.handed, r.reads)

  module _ {N : Meters} (short : length (totals_line v s.totals) ≤ longest_totals) (h : HandedOn M (length (totals_line v s.totals)) N) where
    -- and then the tally sheet
    pub sheet_next : SheetNext m.marks m.counters s.totals.records N
    sheet_next =
        let f = r.stands in
        let w = fed_whole v f.bytes in
        record {
          setting = v;
          bytes = f.bytes;
          many = h.read ∙ f.many;
          marked = ap (λ (x : Store). x.marks) (sym f.lent);
          counted = ap (λ (x : Store). x.counters) (sym f.lent);
          recorded = ap (λ (x : Session). x.totals.records) (sym f.read);
          handed = λ z.
              let (y, e) = h.all z in
              let t = ap (λ (x : Session). length (totals_line v x.totals)) f.read in
              omega (arith, e, f.handed y, t, length-append w.text (totals_line v w.session.totals));
          fits = omega (arith, h.most, short, r.handed, r.reads);
        }

    -- the whole run
    pub run_ends : {P : Meters} {argument : List ℕ} → v ≡ setting_of argument → may_read M ≡ false
        → HandedOn N (length (shown_sheet m.marks m.counters s.totals.records)) P → RunEnds argument P
    run_ends {P} {argument} i j o =
        let f = r.stands in
        let x = (fed_whole v f.bytes).text in
        let t = totals_line v s.totals in
        let u = shown_sheet m.marks m.counters s.totals.records in
        let l : length (printed_of v f.bytes) ≡ length x + (length t + length u) =
        ap length printed ∙ length-append x (t ++ u) ∙ ap (λ (k : ℕ). length x + k) (length-append t u) in
        record {
          bytes = f.bytes;
          small = f.small;
          read = o.read ∙ h.read ∙ f.many;
          ended = may_ended (handed_append h o) j;
          handed = λ z.
              let (y, e) = o.all z in
              let (b, d) = h.all y in
              subst (λ (k : Setting). P.handed ≡ length (printed_of k f.bytes)) i (omega (arith, e, d, f.handed b, l));
          most = subst (λ (k : Setting). P.handed ≤ length (printed_of k f.bytes)) i (omega (arith, o.most, h.most, f.most, l));
          lists =
              subst (λ (y : Setting). (rest : List ℕ) × (printed_of y f.bytes ≡ listing_of y f.bytes ++ rest)) i
              (
              let w = fed_whole v f.bytes in
              let z = shown_sheet w.store.marks w.store.counters w.session.totals.records in
              (z, ap (λ (y : List ℕ). y ++ z) (whole_input.prints v f.bytes))
              );
          output = λ k. subst (λ (y : Setting). printed_of y f.bytes ≡ output_of y f.bytes) i (whole_input.output v f.bytes f.small k);
          promised = promise (setting_of argument) f.bytes f.small;
        }
