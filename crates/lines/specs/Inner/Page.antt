-- What is put on a page.
use Rattle.std.specs.Prelude.{◌≡◌, List, ℕ, ◌+◌, ◌≤◌, length}
use Rattle.record.specs.Text.{Written, put_at}
use Rattle.lines.specs.declared.Page.{Page}

-- the page's place, and its bytes
abbrev pub written : Page → Written
written p = record { next = p.at; output = p.bytes.now }

-- some text was put on a page, whose bytes are still those that were lent
pub record Puts (text : List ℕ) (before after : Page) : Type 0 where
  pub same : after.bytes.ghost_name ≡ before.bytes.ghost_name
  pub put : written after ≡ put_at text before.bytes.now before.at

-- there is room on a page for so many bytes
abbrev pub HasRoom : (bytes : ℕ) → Page → Type 0
HasRoom n p = p.at + n ≤ length p.bytes.now
