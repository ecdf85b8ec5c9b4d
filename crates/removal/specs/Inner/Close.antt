-- What the parts of a removal do: the place that the scan answers, the words that can be lowered, and the words closed up.
use Rattle.std.proofs.Math.Option.{Option, none, some}
use Rattle.std.specs.Prelude as std
use Rattle.std.specs.Prelude.{Some, None, List, [], ◌∷◌, ◌++◌, ℕ, ◌+◌, ◌-◌, ◌≤◌, ◌<◌, length, get_or, take, drop, replicate}
use Rattle.tree.specs.Laid.{extent_of, used_of, kept_of, one_less}
use Rattle.tree.specs.Inner.Cut.{Span, lower}
use Rattle.removal.specs.declared.Stretch.{Stretch}

-- the span that the scan answers
abbrev pub span_of : std.Option Stretch → Option Span
span_of None = none
span_of (Some run) = some (record { place = run.place; last = run.last })

-- each word with a word below it is at least r
abbrev pub Lowerable : List ℕ → ℕ → Type 0
Lowerable words r = (p : ℕ) → 1 < extent_of (get_or words p 0) → r ≤ get_or words p 0

-- the first `gone` of the first `used` words taken out, and as many zeros after the others
abbrev pub close_up : List ℕ → (used gone : ℕ) → List ℕ
close_up words used gone = take (used - gone) (drop gone words) ++ (replicate gone 0 ++ drop used words)

-- `gone` words of a slice can be taken out at a place: they are used ones, a clause is kept, and the words before them can be lowered
pub record Removable (slice : List ℕ) (place gone : ℕ) : Type 0 where
  pub room : used_of (get_or slice 0 0) < length slice
  pub inside : place + gone ≤ used_of (get_or slice 0 0)
  pub kept : 1 ≤ kept_of (get_or slice 0 0)
  pub high : Lowerable (take place (drop 1 slice)) gone

-- the slice without them: one clause less, the extents that reached past the place lowered, and the words after them closed up
abbrev pub taken_out : List ℕ → (place gone : ℕ) → List ℕ
taken_out [] place gone = []
taken_out (h ∷ ws) place gone =
    one_less h gone ∷ (lower (take place ws) place gone ++ close_up (drop place ws) (used_of h - place) gone)
