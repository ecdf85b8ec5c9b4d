-- The starred rows of the trial clauses.
use Rattle.std.specs.Prelude.{◌≡◌, List, [], ◌∷◌, map, ℕ, take, drop, replicate, Err, Ok, Result}
use Rattle.clause.specs.Clause.{max_literals}
use Rattle.machine.specs.Instr.{Down, Right, Put, Check, Compare, Instr, First, Do, Success}
use Rattle.machine.specs.Compile.{compile}
use Rattle.tree.specs.Laid.{extent_of, region}
use Rattle.walk.specs.Query.{witness_words, query}
use Rattle.book.specs.Book.{Call, insert, slice_of}
use Rattle.tree.specs.declared.Refusal.TheVariants.{Spent}
use Rattle.walk.specs.declared.Verdict.{Verdict}
use Rattle.walk.specs.declared.Verdict.TheVariants.{Covered, NotCovered}
use Rattle.tree.specs.declared.Refusal.{Refusal}

-- P with three, two and one arguments, Q with one, f with one, a, b; the variables x, y, z
abbrev pub P₃ : ℕ
P₃ = 0x9801

abbrev pub P₂ : ℕ
P₂ = 0x9001

abbrev pub P₁ : ℕ
P₁ = 0x8801

abbrev pub Q₁ : ℕ
Q₁ = 0x8802

abbrev pub f : ℕ
f = 0x0803

abbrev pub a : ℕ
a = 0x0001

abbrev pub b : ℕ
b = 0x0002

abbrev pub x : ℕ
x = 0x4000

abbrev pub y : ℕ
y = 0x4001

abbrev pub z : ℕ
z = 0x4002

-- First, Check P, Down, Put 0, Right
abbrev pub five : List Instr → List Instr
five rest = First ∷ Do (Check P₃) ∷ Do Down ∷ Do (Put 0) ∷ Do Right ∷ rest

-- a slice in which some clauses are kept
abbrev pub keeping : List Call → List ℕ
keeping xs = slice_of (replicate 24 0) xs

abbrev pub both : List ℕ
both = keeping (insert (P₃ ∷ x ∷ a ∷ x ∷ []) 1 ∷ insert (P₃ ∷ x ∷ x ∷ b ∷ []) 2 ∷ [])

abbrev pub pxqx : List ℕ
pxqx = keeping (insert (P₁ ∷ x ∷ Q₁ ∷ x ∷ []) 1 ∷ [])

-- P(x,f(y)),P(z,f(f(z))) and P(y,f(f(y)))
abbrev pub long : List ℕ
long = P₂ ∷ x ∷ f ∷ y ∷ P₂ ∷ z ∷ f ∷ f ∷ z ∷ []

abbrev pub short : List ℕ
short = P₂ ∷ y ∷ f ∷ f ∷ y ∷ []

-- the answer to a query, the first literals and the first positions of the witness
pub record Seen : Type 0 where
  pub answer : Result Verdict Refusal
  pub literals : List ℕ
  pub positions : List ℕ

abbrev pub ask : (slice clause : List ℕ) (budget literals positions : ℕ) → Seen
ask T d budget m n =
    let r = query T d budget (replicate witness_words 9) in
    record { answer = r.answer; literals = take m r.witness; positions = take n (drop max_literals r.witness) }

-- the rows
abbrev pub trials : List (Type 0)
trials =
    -- P(x,a,x), and P(x,x,b)
    (compile (P₃ ∷ x ∷ a ∷ x ∷ []) 1 ≡ five (Do (Check a) ∷ Do Right ∷ Do (Put 1) ∷ Do (Compare 0 1) ∷ Success 1 ∷ []))
    ∷ (compile (P₃ ∷ x ∷ x ∷ b ∷ []) 2 ≡ five (Do (Put 1) ∷ Do Right ∷ Do (Check b) ∷ Do (Compare 0 1) ∷ Success 2 ∷ []))
    -- both merged
    ∷ (map extent_of (region both) ≡ 15 ∷ 14 ∷ 13 ∷ 12 ∷ 11 ∷ 5 ∷ 4 ∷ 3 ∷ 2 ∷ 1 ∷ 5 ∷ 4 ∷ 3 ∷ 2 ∷ 1 ∷ [])
    -- both kept, P(b,a,b)
    ∷ (ask both (P₃ ∷ b ∷ a ∷ b ∷ []) 100 1 2 ≡ record { answer = Ok (Covered 1 1); literals = 0 ∷ []; positions = 1 ∷ 3 ∷ [] })
    -- P(x),Q(x) kept, P(a),P(b),Q(b); within 6 candidates, and 5; P(a),Q(b)
    ∷ (ask pxqx (P₁ ∷ a ∷ P₁ ∷ b ∷ Q₁ ∷ b ∷ []) 100 2 2 ≡ record { answer = Ok (Covered 1 6); literals = 1 ∷ 2 ∷ []; positions = 3 ∷ 5 ∷ [] })
    ∷ (ask pxqx (P₁ ∷ a ∷ P₁ ∷ b ∷ Q₁ ∷ b ∷ []) 6 0 0 ≡ record { answer = Ok (Covered 1 6); literals = []; positions = [] })
    ∷ (ask pxqx (P₁ ∷ a ∷ P₁ ∷ b ∷ Q₁ ∷ b ∷ []) 5 0 0 ≡ record { answer = Err (Spent 5); literals = []; positions = [] })
    ∷ (ask pxqx (P₁ ∷ a ∷ Q₁ ∷ b ∷ []) 100 0 0 ≡ record { answer = Ok (NotCovered 3); literals = []; positions = [] })
    -- P(x,f(y)),P(z,f(f(z))) kept, P(y,f(f(y))): its one literal cannot serve for both; and the other way
    ∷ (ask (keeping (insert long 1 ∷ [])) short 100 0 0 ≡ record { answer = Ok (NotCovered 1); literals = []; positions = [] })
    ∷ (ask (keeping (insert short 1 ∷ [])) long 100 0 0 ≡ record { answer = Ok (Covered 1 2); literals = []; positions = [] })
    -- P(a) kept, P(x)
    ∷ (ask (keeping (insert (P₁ ∷ a ∷ []) 1 ∷ [])) (P₁ ∷ x ∷ []) 100 0 0 ≡ record { answer = Ok (NotCovered 1); literals = []; positions = [] })
    ∷ []
