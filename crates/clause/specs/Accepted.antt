-- What a clause is, without the reading: whole literals one after another; and what the position of a fault means.
use Rattle.std.specs.Prelude.{◌≡◌, ◌↔◌, ◌⊎◌, ℕ, suc, ◌≤◌, ◌<◌, length, get_or, take, drop, Err}
use mathlib.Core.List.{List, [], ◌∷◌, ◌++◌, flatten}
use Rattle.clause.specs.Lists.{All}
use Rattle.clause.specs.Word.{arity, head, sort}
use Rattle.clause.specs.Clause.{shape, Accepted, max_literals, max_words, literals, term, start_of, Shaped, Inner, IsTerm}
use Rattle.clause.specs.declared.Fault.TheVariants.{BadLength, Bad, Ninth}

-- a literal: a head, and then as many terms as its arity says, with no head among their words
pub record IsLiteral (l : List ℕ) : Type 0 where
  pub top : ℕ
  pub args : List ℕ
  pub parts : l ≡ top ∷ args
  pub top_head : sort top ≡ head
  pub args_shaped : Shaped (arity top) args
  pub args_inner : Inner args

-- n whole literals one after another
pub record Literals (ws : List ℕ) (n : ℕ) : Type 0 where
  pub parts : List (List ℕ)
  pub each : All IsLiteral parts
  pub joined : flatten parts ≡ ws
  pub count : length parts ≡ n

-- 1 to max_words words
pub record Fits (ws : List ℕ) : Type 0 where
  pub low : 1 ≤ length ws
  pub high : length ws ≤ max_words

-- a clause: 1 to max_words words, which are 1 to max_literals whole literals
pub record IsClause (ws : List ℕ) : Type 0 where
  pub fits : Fits ws
  pub count : ℕ
  pub literals : Literals ws count
  pub low : 1 ≤ count
  pub high : count ≤ max_literals

-- at most max_literals whole literals
abbrev pub Rules : List ℕ → Type 0
Rules ws = (n : ℕ) × Literals ws n × (n ≤ max_literals)

-- words can follow that make them at most max_literals whole literals
abbrev pub Begins : List ℕ → Type 0
Begins ws = (more : List ℕ) × Rules (ws ++ more)

-- a head after max_literals whole literals: the ninth, where that is 8
pub record IsNinth (ws : List ℕ) (at : ℕ) : Type 0 where
  pub before : Literals (take at ws) max_literals
  pub inside : at < length ws
  pub top : sort (get_or ws at 0) ≡ head

-- the word at a position, or the end, is the first that breaks the rules: the words before it are a beginning, but with that word they are none,
-- and it is no ninth head; or at the end they are no whole literals
pub record Breaks (ws : List ℕ) (at : ℕ) : Type 0 where
  pub before : Begins (take at ws)
  pub there : ((at < length ws) × (Begins (take (suc at) ws) → ⊥) × (IsNinth ws at → ⊥)) ⊎ ((at ≡ length ws) × (Rules ws → ⊥))

-- what the reading finds of any words
pub record Judged (ws : List ℕ) : Type 0 where
  pub accepts : Accepted ws ↔ IsClause ws
  -- whole literals one after another are those that `literals` finds
  pub parts : (n : ℕ) (L : Literals ws n) → literals ws ≡ L.parts
  pub bad_length : (shape ws ≡ Err BadLength) ↔ (Fits ws → ⊥)
  pub ninth : (at : ℕ) → (shape ws ≡ Err (Ninth at)) ↔ (Fits ws × IsNinth ws at)
  pub bad : (at : ℕ) → (shape ws ≡ Err (Bad at)) ↔ (Fits ws × Breaks ws at)

-- the claim
pub record ClauseLaws : Type 0 where
  pub acceptance : (ws : List ℕ) → Judged ws
  -- `term` finds the term that stands first
  pub first : (t rest : List ℕ) → IsTerm t → term (t ++ rest) ≡ t
  -- at `start_of ws j` stands literal j
  pub start : (ws : List ℕ) (j : ℕ) → j < length (literals ws) → (rest : List ℕ) × (drop (start_of ws j) ws ≡ get_or (literals ws) j [] ++ rest)
