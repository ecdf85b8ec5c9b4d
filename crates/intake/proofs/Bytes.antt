-- The input byte by byte: what each function of the reading leaves is what the definition says.
use mathlib.Core.Path.{◌≡◌, refl, ap, ◌∙◌}
use mathlib.Core.List.{List, [], ◌∷◌, ◌++◌, append_assoc, append-nil}
use Prim.Native.Nat.{ℕ, ◌+◌, ◌≤◌, ◌<◌}
use native.Mathlib.Omega.{arith}
use lib.ListN.{length, take, get_or, set}
use borrow.Author.Tests.{lt-ltb, le-ltb, eq-eqb, ne_eqb}
use Rattle.record.specs.Output.{field_of}
use Rattle.record.specs.declared.Setting.{Setting}
use Rattle.record.specs.declared.Totals.{Totals}
use Rattle.intake.specs.Feed.{Store, store_of, Fed, record_ended, advanced, stored, proceeding, take_field, take_as, take_byte, feed_then, feed}
use Rattle.intake.specs.declared.Half.{Half}
use Rattle.intake.specs.declared.Half.TheVariants.{Even, Odd}
use Rattle.intake.specs.declared.Stage.{Stage}
use Rattle.intake.specs.declared.Stage.TheVariants.{AtCount, AtWord}
use Rattle.intake.specs.declared.Session.{Session}
use Rattle.intake.specs.declared.Next.{Next}

-- ---- one field, by its stage

-- the reading goes on with another field
abbrev pub going : Stage → Totals → Store → Fed
going g t m = record { session = record { half = Even; stage = g; totals = t }; store = m; text = [] }

-- the words with one more stored
abbrev pub storing : Store → (at word : ℕ) → Store
storing m at w = record { words = set m.words at w; slice = m.slice; marks = m.marks; counters = m.counters }

module _ (v : Setting) (t : Totals) (m : Store) (w : ℕ) where
  pub at_count : (n : ℕ) {g : Stage} → g ≡ AtCount n → 0 < w → take_field v g t m w ≡ going (AtWord n w 0) t m
  unfolding take_field
  at_count n e h = rw (e, ne_eqb w 0 (λ z. omega arith))

  pub at_empty : (n : ℕ) {g : Stage} → g ≡ AtCount n → w ≤ 0 → take_field v g t m w ≡ record_ended v n 0 t m
  unfolding take_field
  at_empty n e h = rw (e, eq-eqb w 0 (omega arith))

  pub at_word : (n count i : ℕ) {g : Stage} → g ≡ AtWord n count i → i + 1 < count → take_field v g t m w ≡ going (AtWord n count (i + 1)) t (storing m i w)
  unfolding take_field
  at_word n count i e h = rw (e, lt-ltb (i + 1) count h)

  pub at_last : (n count i : ℕ) {g : Stage} → g ≡ AtWord n count i → count ≤ i + 1 → take_field v g t m w ≡ record_ended v n count t (storing m i w)
  unfolding take_field
  at_last n count i e h = rw (e, le-ltb (i + 1) count h)

-- ---- one byte after another

-- first some bytes, then others
pub feed_append : (v : Setting) (a b : List ℕ) (s : Session) (m : Store) → feed v s m (a ++ b) ≡ feed_then (feed v s m a) (λ s' m'. feed v s' m' b)
unfolding feed
feed_append v [] b s m = refl
feed_append v (x ∷ a) b s m = rw (feed_append v a b (take_byte v s m x).session (take_byte v s m x).store, append_assoc)

-- one byte
pub feed_one : (v : Setting) (input : List ℕ) (s : Session) (m : Store) → 0 < length input → feed v s m (take 1 input) ≡ take_byte v s m (get_or input 0 0)
unfolding feed
feed_one v [] s m h = absurd (omega arith)
feed_one v (b ∷ input) s m h = rw append-nil

-- the second byte of a field
pub second_byte : (v : Setting) (s : Session) (m : Store) (b a : ℕ) {w : ℕ} {ws : List ℕ} {x : Next} → s.half ≡ Odd a → w ≡ field_of a b → ws ≡ stored s.stage m.words w
    → x ≡ advanced s.stage w → take_byte v s m b ≡ proceeding v x s.totals (store_of ws m.slice m.marks m.counters)
unfolding take_field
second_byte v s m b a e f g h = ap (λ (x : Half). take_as v x s.stage s.totals m b) e ∙ rw (h, g, f)
