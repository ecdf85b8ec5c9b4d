-- The compiling of a clause to matching instructions.
use Rattle.std.specs.Prelude.{◌≡◌, Bool, cond, ◌&&◌, ℕ, zero, suc, length, get_or, leb, ltb, eqb}
use mathlib.Core.List.{List, [], ◌∷◌, ◌++◌, map, flat_map}
use Rattle.clause.specs.Lists.{numbers_below}
use Rattle.clause.specs.Word.{arity, sort, if_variable}
use Rattle.machine.specs.Instr.{Step, Down, Right, Put, Push, Pop, Check, Compare, Instr, First, Do, Success, key}

-- a position to come back to: the number of its Push, and how many right siblings it has
pub record Saved : Type 0 where
  pub slot : ℕ
  pub left : ℕ

-- where the compiling is in a literal: past its end, or at a word with so many right siblings and these positions to come back to
pub data Place : Type 0 where
  ended : Place
  inside : ℕ → List Saved → Place

-- the way from a word to the next one of the literal: the steps, the place there, the pushes so far
pub record Way : Type 0 where
  pub steps : List Step
  pub place : Place
  pub pushed : ℕ

-- the way from a word with so many arguments and right siblings
unfoldable pub way : (arity left : ℕ) → List Saved → (pushed : ℕ) → Way
way (suc a) (suc l) saved n = record { steps = Push n ∷ Down ∷ []; place = inside a (record { slot = n; left = l } ∷ saved); pushed = suc n }
way (suc a) zero saved n = record { steps = Down ∷ []; place = inside a saved; pushed = n }
way zero (suc l) saved n = record { steps = Right ∷ []; place = inside l saved; pushed = n }
way zero zero (s ∷ saved) n = record { steps = Pop s.slot ∷ []; place = inside s.left saved; pushed = n }
way zero zero [] n = record { steps = []; place = ended; pushed = n }

-- the way from a word at a place
unfoldable pub way_from : Place → (arity pushed : ℕ) → Way
way_from ended a n = way a 0 [] n
way_from (inside l saved) a n = way a l saved n

-- the number of the first put of variable v
unfoldable pub first : ℕ → List ℕ → ℕ
first v [] = zero
first v (u ∷ us) = cond (eqb u v) zero (suc (first v us))

-- whether the variable of Put k, put in the literal that began at put `from`, was first put as m < k
unfoldable pub repeats : (puts : List ℕ) (from m k : ℕ) → Bool
repeats puts from m k = leb from k && (ltb m k && eqb (first (get_or puts k 0) puts) m)

-- the Compares of a literal that began at put `from`, ordered by m, then k
unfoldable pub compares : (puts : List ℕ) (from : ℕ) → List Step
compares puts from =
    flat_map (λ m. flat_map (λ k. cond (repeats puts from m k) (Compare m k ∷ []) []) (numbers_below (length puts))) (numbers_below (length puts))

-- what stands before a literal
unfoldable pub opening : Place → List Instr
opening ended = First ∷ []
opening (inside l saved) = []

-- the put from which a literal's own count
unfoldable pub begun : Place → (puts : List ℕ) (from : ℕ) → ℕ
begun ended puts from = length puts
begun (inside l saved) puts from = from

-- what stands at a literal's end
unfoldable pub closing : Place → (puts : List ℕ) (from : ℕ) → List Step
closing ended puts from = compares puts from
closing (inside l saved) puts from = []

-- the instruction of a word, with `puts` the variables put so far
unfoldable pub act : List ℕ → ℕ → Step
act puts w = if_variable (sort w) (Put (length puts)) (Check w)

-- the variables put after it
unfoldable pub puts_after : List ℕ → ℕ → List ℕ
puts_after puts w = puts ++ if_variable (sort w) (w ∷ []) []

-- the sequence of the words from a place on
unfoldable pub sequence_from : List ℕ → Place → (puts : List ℕ) (from pushed : ℕ) → List Instr
sequence_from [] place puts from n = []
sequence_from (w ∷ ws) place puts from n =
    let t = way_from place (arity w) n in
    let puts' = puts_after puts w in
    let from' = begun place puts from in
    opening place ++ (Do (act puts w) ∷ (map Do t.steps ++ (map Do (closing t.place puts' from') ++ sequence_from ws t.place puts' from' t.pushed)))

-- the sequence of a clause up to its Success: the code that it is compiled to
unfoldable pub sequence : List ℕ → List Instr
sequence ws = sequence_from ws ended [] 0 0

-- clauses are variants, equal up to a renaming of their variables, when their sequences agree
abbrev pub Variants : (c d : List ℕ) → Type 0
Variants c d = sequence c ≡ sequence d

-- the whole sequence, with the clause's number at its Success
abbrev pub compile : List ℕ → (number : ℕ) → List Instr
compile ws number = sequence ws ++ (Success number ∷ [])

-- the keys of a clause's sequence, its Success left out
abbrev pub keys : List ℕ → List ℕ
keys c = map key (sequence c)
