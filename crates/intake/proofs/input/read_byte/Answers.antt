-- The second byte of a field.
use Rattle.intake.specs.Feed.{store_of}
use Rattle.intake.proofs.Bytes.{second_byte}
use Rattle.intake.proofs.input.read_byte.Goals as goal

pub returns-in-Odd : goal.returns-in-Odd
returns-in-Odd c =
    λ v T m k.
    let a = c.args in
    let w = c.in-Odd in
    second_byte v a.session (store_of a.words.now T m k) a.byte w.high w.is c.from_be_bytes-field.ensures c.store.ensures c.advance.ensures
