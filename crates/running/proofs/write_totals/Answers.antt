-- The totals are in the output, and handed on.
use mathlib.Core.Path.{sym, subst}
use mathlib.Core.List.{List}
use Prim.Native.Nat.{ℕ}
use native.Mathlib.Omega.{arith}
use borrow.Author.Rules.{rules}
use lib.ListN.{length, length-take}
use lib.Seq.{length-take-le}
use Rattle.record.specs.Line.{totals_line}
use Rattle.lines.proofs.Writing.{on_page}
use Rattle.printing.specs.Handed.{NextPiece, HandedOn}
use Rattle.printing.proofs.Pieces.{text_put}
use Rattle.running.proofs.write_totals.Goals as goal

pub slice_bounds-hand_on-end : goal.slice_bounds-hand_on-end
slice_bounds-hand_on-end c =
    let p = c.put_totals.ensures in
    (text_put (totals_line c.args.setting c.args.totals) c.args.output.now c.requires.0 p.short (search (rules, p.text))).0

pub slice_bounds-hand_on-end-2 : goal.slice_bounds-hand_on-end-2
slice_bounds-hand_on-end-2 c =
    let p = c.put_totals.ensures in
    sym (length-take-le _ _ (text_put (totals_line c.args.setting c.args.totals) c.args.output.now c.requires.0 p.short (search (rules, p.text))).0)

pub hand_on-requires : goal.hand_on-requires
hand_on-requires c =
    let a = c.args in
    let p = c.put_totals.ensures in (
      subst (λ (x : List ℕ). NextPiece a.meters.now x)
          (sym (text_put (totals_line a.setting a.totals) a.output.now c.requires.0 p.short (search (rules, p.text))).1) c.requires.1,
      simp length-take (omega (arith, p.short, c.requires.2)),
    )

pub returns-clause-short : goal.returns-clause-short
returns-clause-short c =
    let p = c.put_totals.ensures in
    omega (arith, p.short, on_page _ p.text)

pub returns-clause-handed : goal.returns-clause-handed
returns-clause-handed c =
    let a = c.args in
    let p = c.put_totals.ensures in
    let t = text_put (totals_line a.setting a.totals) a.output.now c.requires.0 p.short (search (rules, p.text)) in
    subst (λ (x : List ℕ). HandedOn a.meters.now (length x) c.hand_on.new.meters) t.1 c.hand_on.ensures
