-- The bytes so far are fed, and their text is in the output.
use mathlib.Core.Path.{refl, ◌∙◌}
use native.Mathlib.Omega.{arith}
use lib.ListN.{length-drop}
use lib.Seq.{take_all}
use Rattle.intake.specs.Feed.{store_of}
use Rattle.feeding.proofs.Blocks.{within_fewer, feeding_none, feeding_long, feeding_room, feeding_more}
use Rattle.intake.proofs.Records.{whole_input}
use Rattle.feeding.proofs.feeding.feed.Goals as goal

pub loop-keeper-init : goal.loop-keeper-init
loop-keeper-init c =
    let a = c.args in (
      feeding_none a.setting a.session (store_of a.words.now a.tree.now a.marks.now a.counters.now) a.input.now a.output.now
          c.requires.0.steady c.requires.0.kept,
      refl,
      c.requires.1,
      record { tree = refl; marks = refl; heads = refl },
    )

pub proceed-turn-requires : goal.proceed-turn-requires
proceed-turn-requires c =
    let l = c.loop-keeper.invariant in
    let r = c.read_some-step in (
      record {
        steady = l.0.took.stays.steady;
        kept = l.0.took.stays.kept;
        words = r.auto.words ∙ l.0.words ∙ c.requires.0.words;
        counts = l.0.took.stays.counts 1 _ (within_fewer (omega (arith, feeding_long _ _ _ _ _ l.0, r.ensures.some, r.ensures.inside)) c.requires.0.counts);
        room = feeding_room _ _ _ _ _ l.0 (omega (arith, r.ensures.some, r.ensures.inside)) (omega (arith, c.requires.0.room));
      },
      l.2,
      l.1,
    )

pub loop-keeper-preserved : goal.loop-keeper-preserved
loop-keeper-preserved c =
    let a = c.args in
    let l = c.loop-keeper.invariant in
    let r = c.read_some-step in
    let p = c.proceed-turn in (
      feeding_more a.setting a.session (store_of a.words.now a.tree.now a.marks.now a.counters.now) a.input.now a.output.now l.0 r.ensures p.ensures.took
          p.auto.output r.auto.words p.auto.counters (take_all _ _ (simp length-drop (omega arith))),
      p.auto.list ∙ l.1,
      p.ensures.indexed,
      record { tree = p.ensures.lent.tree ∙ l.3.tree; marks = p.ensures.lent.marks ∙ l.3.marks; heads = p.ensures.lent.heads ∙ l.3.heads },
    )

pub returns-clause-whole : goal.returns-clause-whole
returns-clause-whole c = whole_input
