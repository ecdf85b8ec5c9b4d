-- The readings taken where the documents leave room, each on a small input; and counts with units kept.
use Rattle.std.specs.Prelude.{◌≡◌, List, [], ◌∷◌, ◌++◌, ℕ, zero, suc, ◌+◌, ◌*◌, length, replicate, Err, Ok, Result}
use Rattle.clause.specs.Clause.{shape, max_words}
use Rattle.machine.specs.Instr.{Down, Right, Put, Push, Pop, Check, Compare, First, Do, instr}
use Rattle.machine.specs.Compile.{sequence}
use Rattle.tree.specs.Forest.{word, header_of}
use Rattle.walk.specs.Ceiling.{ceiling_call}
use Rattle.walk.specs.Query.{witness_words, query}
use Rattle.tree.specs.Calls.{insertion, removal}
use Rattle.readback.specs.Calls.{check, read_back}
use Rattle.backward.specs.Calls.{unlisted, backward}
use Rattle.book.specs.Book.{insert, remove, slice_of}
use Rattle.book.specs.Trials.{P₃, P₂, P₁, Q₁, f, a, b, x, y, keeping, pxqx, long, ask}
use Rattle.clause.specs.declared.Fault.TheVariants.{BadLength, Bad, Ninth}
use Rattle.tree.specs.declared.Refusal.TheVariants.{BadSlice, Broken, BadClause, ShortWitness, NumberTaken, Held, NoSuchNumber, NoRoom, Spent, BadSize, NoSuchTree, ShortOutput, ShortList}
use Rattle.walk.specs.declared.Verdict.TheVariants.{Covered, NotCovered}
use Rattle.walk.specs.declared.Verdict.{Verdict}
use Rattle.tree.specs.declared.Done.TheVariants.{Kept, Removed}
use Rattle.tree.specs.declared.Refusal.{Refusal}

-- P and Q with no arguments, P with four
abbrev pub P₀ : ℕ
P₀ = 0x8001

abbrev pub Q₀ : ℕ
Q₀ = 0x8002

abbrev pub P₄ : ℕ
P₄ = 0xa001

-- a slice of instruction words with its header
abbrev pub slice_with : (kept : ℕ) → List ℕ → List ℕ
slice_with kept ws = header_of (length ws) kept ∷ ws

-- an instruction word
abbrev pub at : (op operand extent : ℕ) → ℕ
at op operand extent = word (instr op operand) extent

-- the answer to a query with the shortest witness
abbrev pub answer_on : (words clause : List ℕ) (budget : ℕ) → Result Verdict Refusal
answer_on ws d budget = (query (slice_with 1 ws) d budget (replicate witness_words 9)).answer

-- a fresh slice
abbrev pub blank : ℕ → List ℕ
blank n = replicate n 0

-- nine Firsts below one another
abbrev pub nine_firsts : List ℕ
nine_firsts = at 1 0 10 ∷ at 1 0 9 ∷ at 1 0 8 ∷ at 1 0 7 ∷ at 1 0 6 ∷ at 1 0 5 ∷ at 1 0 4 ∷ at 1 0 3 ∷ at 1 0 2 ∷ at 0 1 1 ∷ []

-- P(x),P(y) kept
abbrev pub pxpy : List ℕ
pxpy = keeping (insert (P₁ ∷ x ∷ P₁ ∷ y ∷ []) 1 ∷ [])

-- reading a clause
abbrev pub reading : List (Type 0)
reading =
    (shape (P₁ ∷ []) ≡ Err (Bad 1)) ∷ (shape (P₁ ∷ f ∷ []) ≡ Err (Bad 2)) ∷ (shape (P₁ ∷ P₁ ∷ a ∷ []) ≡ Err (Bad 1))
    ∷ (shape (P₁ ∷ 0x4800 ∷ []) ≡ Err (Bad 1)) ∷ (shape (replicate 8 P₀ ++ (P₁ ∷ [])) ≡ Err (Ninth 8))
    ∷ (shape (replicate 9 P₀ ++ (x ∷ [])) ≡ Err (Ninth 8)) ∷ (shape (replicate 7 P₀ ++ (P₁ ∷ P₀ ∷ [])) ≡ Err (Bad 8))
    ∷ (shape (replicate 8 P₀ ++ (a ∷ [])) ≡ Err (Bad 8)) ∷ (shape (replicate 65 x) ≡ Err BadLength) ∷ (shape [] ≡ Err BadLength)
    ∷ (shape (replicate 8 P₀) ≡ Ok 8) ∷ []

-- compiling
abbrev pub compiling : List (Type 0)
compiling =
    (sequence (P₂ ∷ f ∷ x ∷ y ∷ []) ≡ First ∷ Do (Check P₂) ∷ Do Down ∷ Do (Check f) ∷ Do (Push 0) ∷ Do Down ∷ Do (Put 0) ∷ Do (Pop 0) ∷ Do (Put 1) ∷ [])
    ∷ (sequence (P₁ ∷ x ∷ P₂ ∷ x ∷ x ∷ []) ≡
    First ∷ Do (Check P₁) ∷ Do Down ∷ Do (Put 0)
    ∷ First ∷ Do (Check P₂) ∷ Do Down ∷ Do (Put 1) ∷ Do Right ∷ Do (Put 2) ∷ Do (Compare 0 1) ∷ Do (Compare 0 2) ∷ [])
    ∷ (sequence (P₄ ∷ x ∷ y ∷ y ∷ x ∷ []) ≡
    First ∷ Do (Check P₄) ∷ Do Down ∷ Do (Put 0) ∷ Do Right ∷ Do (Put 1) ∷ Do Right ∷ Do (Put 2) ∷ Do Right ∷ Do (Put 3)
    ∷ Do (Compare 0 3) ∷ Do (Compare 1 2) ∷ [])
    ∷ []

-- the walk
abbrev pub walking : List (Type 0)
walking =
    -- a ninth First with all eight literals and the budget used up, and one that is never met; an extent past its parent's, on a word that fails too;
    -- faults that are not met
    (answer_on nine_firsts (replicate 8 P₀) 8 ≡ Err Broken) ∷ (answer_on nine_firsts (P₀ ∷ []) 8 ≡ Ok (NotCovered 1))
    ∷ (answer_on (at 1 0 4 ∷ at 7 Q₀ 1 ∷ at 7 P₀ 3 ∷ at 0 1 1 ∷ []) (P₀ ∷ []) 9 ≡ Err Broken)
    ∷ (answer_on (at 1 0 2 ∷ at 7 Q₀ 9 ∷ []) (P₀ ∷ []) 9 ≡ Err Broken)
    ∷ (answer_on (at 1 0 3 ∷ at 0 1 1 ∷ at 7 P₀ 0 ∷ []) (P₀ ∷ []) 9 ≡ Ok (Covered 1 1))
    ∷ (answer_on (at 1 0 3 ∷ at 7 Q₀ 2 ∷ at 4 99 1 ∷ []) (P₀ ∷ []) 9 ≡ Ok (NotCovered 1))
    -- First with nothing below it; an operand of First; an operation over 8; a Success at the top
    ∷ (answer_on (at 1 0 1 ∷ []) (P₀ ∷ []) 9 ≡ Ok (NotCovered 1)) ∷ (answer_on (at 1 0 1 ∷ []) (P₀ ∷ []) 0 ≡ Err (Spent 0))
    ∷ (answer_on (at 1 7 2 ∷ at 0 1 1 ∷ []) (P₀ ∷ []) 9 ≡ Ok (Covered 1 1)) ∷ (answer_on (at 1 0 2 ∷ at 9 0 1 ∷ []) (P₀ ∷ []) 9 ≡ Err Broken)
    ∷ (answer_on (at 0 5 1 ∷ []) (P₀ ∷ []) 9 ≡ Err Broken)
    -- Right at a literal's head; Push without a right sibling; a number popped twice; what a sibling stored is gone; stored twice
    ∷ (answer_on (at 1 0 3 ∷ at 3 0 2 ∷ at 0 1 1 ∷ []) (P₀ ∷ P₀ ∷ []) 9 ≡ Err Broken)
    ∷ (answer_on (at 1 0 5 ∷ at 7 P₁ 4 ∷ at 2 0 3 ∷ at 5 0 2 ∷ at 0 1 1 ∷ []) (P₁ ∷ a ∷ []) 9 ≡ Err Broken)
    ∷ (answer_on (at 1 0 8 ∷ at 7 P₂ 7 ∷ at 2 0 6 ∷ at 5 0 5 ∷ at 6 0 4 ∷ at 7 b 3 ∷ at 6 0 2 ∷ at 0 1 1 ∷ []) (P₂ ∷ a ∷ b ∷ []) 9 ≡ Ok (Covered 1 1))
    ∷ (answer_on (at 1 0 6 ∷ at 4 0 2 ∷ at 7 b 1 ∷ at 4 1 3 ∷ at 8 1 2 ∷ at 0 1 1 ∷ []) (P₀ ∷ []) 9 ≡ Err Broken)
    ∷ (ask (slice_with 1 (at 1 0 6 ∷ at 4 0 5 ∷ at 7 P₁ 4 ∷ at 2 0 3 ∷ at 4 0 2 ∷ at 0 1 1 ∷ [])) (P₁ ∷ a ∷ []) 9 1 1
    ≡ record { answer = Ok (Covered 1 1); literals = 0 ∷ []; positions = 1 ∷ [] })
    -- a Check of a variable's word; a Check over 16 bits; Compare k k; Put and Compare at a head, of equal literals and of different ones;
    -- First in the middle of a literal, with two literals and with one
    ∷ (answer_on (at 1 0 5 ∷ at 7 P₁ 4 ∷ at 2 0 3 ∷ at 7 x 2 ∷ at 0 1 1 ∷ []) (P₁ ∷ x ∷ []) 9 ≡ Ok (Covered 1 1))
    ∷ (answer_on (at 1 0 3 ∷ at 7 0x18001 2 ∷ at 0 1 1 ∷ []) (P₀ ∷ []) 9 ≡ Ok (NotCovered 1))
    ∷ (answer_on (at 1 0 4 ∷ at 4 0 3 ∷ at 8 0 2 ∷ at 0 1 1 ∷ []) (P₀ ∷ []) 9 ≡ Ok (Covered 1 1))
    ∷ (answer_on (at 1 0 6 ∷ at 4 0 5 ∷ at 1 0 4 ∷ at 4 1 3 ∷ at 8 1 2 ∷ at 0 1 1 ∷ []) (P₀ ∷ P₀ ∷ []) 9 ≡ Ok (Covered 1 2))
    ∷ (answer_on (at 1 0 6 ∷ at 4 0 5 ∷ at 1 0 4 ∷ at 4 1 3 ∷ at 8 1 2 ∷ at 0 1 1 ∷ []) (P₀ ∷ Q₀ ∷ []) 9 ≡ Ok (NotCovered 4))
    ∷ (answer_on (at 1 0 3 ∷ at 1 0 2 ∷ at 0 1 1 ∷ []) (P₀ ∷ Q₀ ∷ []) 9 ≡ Ok (Covered 1 2))
    ∷ (answer_on (at 1 0 3 ∷ at 1 0 2 ∷ at 0 1 1 ∷ []) (P₀ ∷ []) 9 ≡ Ok (NotCovered 1))
    -- a First with no literal left over takes nothing and counts nothing, at a used-up budget too; equal literals at two places are two
    ∷ (ask pxqx (P₁ ∷ a ∷ []) 1 0 0 ≡ record { answer = Ok (NotCovered 1); literals = []; positions = [] })
    ∷ (ask pxpy (P₁ ∷ a ∷ P₁ ∷ a ∷ []) 9 2 2 ≡ record { answer = Ok (Covered 1 2); literals = 0 ∷ 1 ∷ []; positions = 1 ∷ 3 ∷ [] })
    ∷ (ask pxpy (P₁ ∷ a ∷ []) 9 0 0 ≡ record { answer = Ok (NotCovered 1); literals = []; positions = [] })
    -- a literal that was used on the way to a miss is free again: P(x),P(y),P(x,y) kept
    ∷ (ask (keeping (insert (P₁ ∷ x ∷ P₁ ∷ y ∷ P₂ ∷ x ∷ y ∷ []) 1 ∷ [])) (P₁ ∷ a ∷ P₁ ∷ b ∷ P₂ ∷ b ∷ a ∷ []) 7 3 4
    ≡ record { answer = Ok (Covered 1 7); literals = 1 ∷ 0 ∷ 2 ∷ []; positions = 3 ∷ 1 ∷ 5 ∷ 6 ∷ [] })
    -- a short witness before a broken header
    ∷ ((query (header_of 9 0 ∷ 0 ∷ []) (P₀ ∷ []) 9 []).answer ≡ Err ShortWitness)
    ∷ ((query (header_of 9 0 ∷ 0 ∷ []) (P₀ ∷ []) 9 (replicate witness_words 9)).answer ≡ Err Broken)
    ∷ ((query (0 ∷ 0 ∷ 1 ∷ []) (P₀ ∷ []) 0 (replicate witness_words 9)).answer ≡ Ok (NotCovered 0))
    -- the words of a witness that are not written
    ∷ ((query pxqx (P₁ ∷ a ∷ P₁ ∷ b ∷ Q₁ ∷ b ∷ []) 6 (replicate 74 9)).witness ≡ 1 ∷ 2 ∷ (replicate 6 9 ++ (3 ∷ 5 ∷ replicate 64 9)))
    ∷ ((query pxqx (P₁ ∷ a ∷ Q₁ ∷ b ∷ []) 3 (replicate 74 9)).witness ≡ replicate 74 9) ∷ []

-- a slice that keeps the units P(a) and Q(a)
abbrev pub units : List ℕ
units = keeping (insert (P₁ ∷ a ∷ []) 1 ∷ insert (Q₁ ∷ a ∷ []) 2 ∷ [])

-- counts with units kept
abbrev pub counting : List (Type 0)
counting =
    -- P(b),Q(b): 2 candidates, and a budget of 1 is spent; P(a),Q(b) is covered within it
    ((ask units (P₁ ∷ b ∷ Q₁ ∷ b ∷ []) 2 0 0).answer ≡ Ok (NotCovered 2)) ∷ ((ask units (P₁ ∷ b ∷ Q₁ ∷ b ∷ []) 1 0 0).answer ≡ Err (Spent 1))
    ∷ ((ask units (P₁ ∷ a ∷ Q₁ ∷ b ∷ []) 1 0 0).answer ≡ Ok (Covered 1 1))
    -- with nothing kept, no candidate; with P(a) and P(x),Q(x) kept, 3 and not 2
    ∷ ((ask (keeping []) (P₁ ∷ b ∷ Q₁ ∷ b ∷ []) 2 0 0).answer ≡ Ok (NotCovered 0))
    ∷ ((ask (keeping (insert (P₁ ∷ a ∷ []) 1 ∷ insert (P₁ ∷ x ∷ Q₁ ∷ x ∷ []) 2 ∷ [])) (P₁ ∷ b ∷ Q₁ ∷ a ∷ []) 9 0 0).answer ≡ Ok (NotCovered 3)) ∷ []

-- insertion, removal, ceiling
abbrev pub calling : List (Type 0)
calling =
    -- two Successes among siblings; a leaf that is no Success; an operand of First; a wrong kept; a word past the used ones
    ((removal (slice_with 2 (at 1 0 3 ∷ at 0 1 1 ∷ at 0 2 1 ∷ [])) 1).answer ≡ Err Broken)
    ∷ ((insertion (slice_with 0 (at 1 0 1 ∷ [])) (P₀ ∷ []) 1).answer ≡ Err Broken)
    ∷ ((insertion (slice_with 1 (at 1 7 2 ∷ at 0 1 1 ∷ [])) (Q₀ ∷ []) 1).answer ≡ Err Broken)
    ∷ ((insertion (slice_with 9 (at 1 0 2 ∷ at 0 1 1 ∷ [])) (Q₀ ∷ []) 1).answer ≡ Err Broken)
    ∷ ((insertion (0 ∷ 0 ∷ 1 ∷ []) (P₀ ∷ []) 1).answer ≡ Err Broken) ∷ ((insertion (0 ∷ 0 ∷ 1 ∷ []) (x ∷ []) 1).answer ≡ Err (BadClause (Bad 0)))
    -- a Success at the top is well laid
    ∷ ((insertion (header_of 1 1 ∷ at 0 5 1 ∷ 0 ∷ 0 ∷ 0 ∷ []) (P₀ ∷ []) 1).slice ≡ slice_with 2 (at 0 5 1 ∷ at 1 0 3 ∷ at 7 P₀ 2 ∷ at 0 1 1 ∷ []))
    -- the same number before the same clause
    ∷ ((insertion (slice_of (blank 9) (insert (P₀ ∷ []) 1 ∷ [])) (P₀ ∷ []) 1).answer ≡ Err NumberTaken)
    ∷ ((insertion (slice_of (blank 9) (insert (P₀ ∷ []) 1 ∷ [])) (P₀ ∷ []) 2).answer ≡ Err (Held 1))
    -- P(x,a,x) into 11 and 10 words; both into 16 and 15, and again after the first is removed
    ∷ ((insertion (blank 11) (P₃ ∷ x ∷ a ∷ x ∷ []) 1).answer ≡ Ok Kept) ∷ ((insertion (blank 10) (P₃ ∷ x ∷ a ∷ x ∷ []) 1).answer ≡ Err NoRoom)
    ∷ ((insertion (slice_of (blank 16) (insert (P₃ ∷ x ∷ a ∷ x ∷ []) 1 ∷ [])) (P₃ ∷ x ∷ x ∷ b ∷ []) 2).answer ≡ Ok Kept)
    ∷ ((insertion (slice_of (blank 15) (insert (P₃ ∷ x ∷ a ∷ x ∷ []) 1 ∷ [])) (P₃ ∷ x ∷ x ∷ b ∷ []) 2).answer ≡ Err NoRoom)
    ∷ ((insertion (slice_of (blank 15) (insert (P₃ ∷ x ∷ a ∷ x ∷ []) 1 ∷ remove 1 ∷ [])) (P₃ ∷ x ∷ x ∷ b ∷ []) 2).answer ≡ Ok Kept)
    -- no clause kept; a clause too many and a literal too few at once
    ∷ (ceiling_call 0 1 1 ≡ Ok 0) ∷ (ceiling_call 1_025 0 1 ≡ Err BadSize) ∷ []

-- the tree of P under m and Q under n
abbrev pub two : (m n : ℕ) → List ℕ
two m n = slice_with 2 (at 1 0 5 ∷ at 7 P₀ 2 ∷ at 0 m 1 ∷ at 7 Q₀ 2 ∷ at 0 n 1 ∷ [])

-- the instruction words of n literals P, under number 1
abbrev pub pile : ℕ → List ℕ
pile zero = at 0 1 1 ∷ []
pile (suc n) = at 1 0 (2 * n + 3) ∷ at 7 P₀ (2 * n + 2) ∷ pile n

-- the answer of reading a number back into 64 words
abbrev pub answer_back : (slice : List ℕ) (number : ℕ) → Result ℕ Refusal
answer_back T n = (read_back T n (replicate max_words 9)).answer

-- the path of P(x,y,y,x) with two Compares
abbrev pub compared : (first second : ℕ) → List ℕ
compared m n =
    at 1 0 13 ∷ at 7 P₄ 12 ∷ at 2 0 11 ∷ at 4 0 10 ∷ at 3 0 9 ∷ at 4 1 8 ∷ at 3 0 7 ∷ at 4 2 6 ∷ at 3 0 5 ∷ at 4 3 4
    ∷ at 8 m 3 ∷ at 8 n 2 ∷ at 0 1 1 ∷ []

-- checking, and reading back
abbrev pub saving : List (Type 0)
saving =
    -- a short output before a broken header, and after a bad slice; 2 before 14, and 14 before 9
    ((read_back (header_of 9 0 ∷ 0 ∷ []) 1 (replicate 63 9)).answer ≡ Err ShortOutput) ∷ (answer_back (header_of 9 0 ∷ 0 ∷ []) 1 ≡ Err Broken)
    ∷ ((read_back (0 ∷ []) 1 []).answer ≡ Err BadSlice) ∷ (check (slice_with 2 (at 0 5 1 ∷ [])) ≡ Err Broken)
    ∷ (answer_back (slice_with 1 (at 0 5 1 ∷ [])) 6 ≡ Err NoSuchTree) ∷ (answer_back (two 1 2) 3 ≡ Err NoSuchNumber)
    -- a Success at the top; nine literals, and eight; two equal numbers, of which removal takes the first
    ∷ (check (slice_with 1 (at 0 5 1 ∷ [])) ≡ Err NoSuchTree)
    ∷ (check (slice_with 1 (pile 9)) ≡ Err NoSuchTree) ∷ (check (slice_with 1 (pile 8)) ≡ Ok tt)
    ∷ (check (two 1 1) ≡ Err NoSuchTree) ∷ (answer_back (two 1 1) 1 ≡ Err NoSuchTree) ∷ ((removal (two 1 1) 1).answer ≡ Ok Removed)
    ∷ (check (two 1 2) ≡ Ok tt)
    -- P(x,y,y,x): its Compares in order, and in another
    ∷ (check (slice_with 1 (compared 3 0x10002)) ≡ Ok tt) ∷ (check (slice_with 1 (compared 0x10002 3)) ≡ Err NoSuchTree)
    -- paths of no clause: a Check over 16 bits, a Put at a head, a Put of 1 before any other; no clause kept
    ∷ (check (slice_with 1 (at 1 0 3 ∷ at 7 0x18001 2 ∷ at 0 1 1 ∷ [])) ≡ Err NoSuchTree)
    ∷ (check (slice_with 1 (at 1 0 3 ∷ at 4 0 2 ∷ at 0 1 1 ∷ [])) ≡ Err NoSuchTree)
    ∷ (check (slice_with 1 (at 1 0 5 ∷ at 7 P₁ 4 ∷ at 2 0 3 ∷ at 4 1 2 ∷ at 0 1 1 ∷ [])) ≡ Err NoSuchTree)
    ∷ (check (blank 2) ≡ Ok tt)
    -- P(y,x) comes back as P(x,y), P(x,f(y)),P(z,f(f(z))) word for word; the words past the clause are left
    ∷ (read_back (keeping (insert (P₂ ∷ y ∷ x ∷ []) 1 ∷ [])) 1 (replicate 66 9) ≡ record { answer = Ok 3; output = P₂ ∷ x ∷ y ∷ replicate 63 9 })
    ∷ (read_back (keeping (insert long 1 ∷ [])) 1 (replicate 64 9) ≡ record { answer = Ok 9; output = long ++ replicate 55 9 }) ∷ []

-- P kept under 1, and P,Q under 2
abbrev pub ppq : List ℕ
ppq = keeping (insert (P₀ ∷ []) 1 ∷ insert (P₀ ∷ Q₀ ∷ []) 2 ∷ [])

-- listing backward
abbrev pub listing : List (Type 0)
listing =
    -- P given, one candidate for each: a number too many is refused as it is found, before the next candidate; a candidate too many likewise
    (backward ppq (P₀ ∷ []) 1 [] ≡ unlisted ShortList []) ∷ (backward ppq (P₀ ∷ []) 0 [] ≡ unlisted (Spent 0) [])
    ∷ (backward ppq (P₀ ∷ []) 1 (9 ∷ []) ≡ unlisted (Spent 1) (9 ∷ [])) ∷ (backward ppq (P₀ ∷ []) 2 (9 ∷ []) ≡ unlisted ShortList (9 ∷ []))
    -- both listed, and no word past the numbers written
    ∷ (backward ppq (P₀ ∷ []) 2 (9 ∷ 9 ∷ 9 ∷ []) ≡ record { answer = Ok (record { count = 2; candidates = 2 }); list = 1 ∷ 2 ∷ 9 ∷ [] })
    -- a variant of the given clause is listed; numbers rise, whatever order the tree has; what is not subsumed counts too
    ∷ (backward (keeping (insert (P₁ ∷ x ∷ []) 1 ∷ [])) (P₁ ∷ y ∷ []) 9 (9 ∷ []) ≡ record { answer = Ok (record { count = 1; candidates = 1 }); list = 1 ∷ [] })
    ∷ (backward (keeping (insert (P₁ ∷ a ∷ []) 7 ∷ insert (P₁ ∷ b ∷ []) 3 ∷ [])) (P₁ ∷ x ∷ []) 9 (9 ∷ 9 ∷ [])
    ≡ record { answer = Ok (record { count = 2; candidates = 2 }); list = 3 ∷ 7 ∷ [] })
    ∷ (backward units (P₁ ∷ x ∷ []) 9 (9 ∷ []) ≡ record { answer = Ok (record { count = 1; candidates = 2 }); list = 1 ∷ [] })
    -- no clause kept; a bad clause before a broken slice; two equal numbers
    ∷ (backward (blank 2) (P₀ ∷ []) 0 [] ≡ record { answer = Ok (record { count = 0; candidates = 0 }); list = [] })
    ∷ (backward (header_of 9 0 ∷ 0 ∷ []) (x ∷ []) 9 [] ≡ unlisted (BadClause (Bad 0)) [])
    ∷ (backward (header_of 9 0 ∷ 0 ∷ []) (P₀ ∷ []) 9 [] ≡ unlisted Broken []) ∷ (backward (two 1 1) (P₀ ∷ []) 0 [] ≡ unlisted NoSuchTree []) ∷ []

-- all of them
abbrev pub readings : List (Type 0)
readings = reading ++ (compiling ++ (walking ++ (counting ++ (calling ++ (saving ++ listing)))))
