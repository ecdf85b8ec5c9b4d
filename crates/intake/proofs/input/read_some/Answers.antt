-- A whole record, or one byte.
use mathlib.Core.Path.{refl, ◌∙◌}
use native.Mathlib.Omega.{arith}
use Rattle.intake.specs.Feed.{store_of}
use Rattle.intake.proofs.Whole.{record_read}
use Rattle.intake.proofs.Bytes.{feed_one}
use Rattle.intake.proofs.input.read_some.Goals as goal

pub returns-in_default : goal.returns-in_default
returns-in_default c =
    let a = c.args in
    record {
      some = omega arith;
      inside = omega (arith, c.requires.0);
      feeds = λ v T m k. feed_one v a.input.now a.session (store_of a.words.now T m k) c.requires.0 ∙ c.read_byte-next.ensures v T m k;
    }

pub returns : goal.returns
returns c =
    let a = c.args in
    let g = c.in-Some in
    record_read a.session a.input.now a.words.now g.count g.ensures c.field_at-number.ensures refl c.read_words.ensures
