-- What the sequence of a clause is made of.
use mathlib.Core.Path.{◌≡◌, refl, ap, ◌∙◌}
use mathlib.Core.Logic.{◌≢◌}
use mathlib.Core.List.{List, [], ◌∷◌, ◌++◌, map, flatten}
use Prim.Native.Nat.{ℕ, zero, suc, ◌+◌, ◌^◌, ◌≤◌, ◌<◌}
use native.Mathlib.Omega.{arith}
use lib.ListN.{length, length-append}
use Rattle.clause.specs.Lists.{All, none, also}
use Rattle.clause.specs.Word.{arity, Sort, symbol, variable, head, wrong, sort, if_variable}
use Rattle.clause.specs.Clause.{literals, Shaped}
use Rattle.machine.specs.Instr.{Step, Put, Push, Pop, Check, Instr, First, Do, Success}
use Rattle.machine.specs.Compile.{Saved, Place, ended, inside, Way, way, way_from, opening, begun, closing, act, puts_after, sequence_from, sequence}
use Rattle.machine.specs.Machine.{slots}
use Rattle.clause.proofs.Lists.{all_append, all-weaken, all_map}
use Rattle.clause.specs.Accepted.{IsLiteral}
use Rattle.clause.proofs.Literals.{literal_shaped, Clause}
use Rattle.machine.proofs.Keys.{Fitting, Plain}
use Rattle.machine.proofs.Way.{need, after, need_way}
use Rattle.machine.proofs.Flat.{shaped_cons, shaped_nil, shaped_tail}
use Rattle.machine.proofs.Compares.{compares_all}
use Rattle.machine.proofs.Run.{sequence_first}

-- ---- every instruction fits into a tree word

-- the pushes to come back to have numbers below n
abbrev Below : ℕ → Place → Type 0
Below n ended = Unit {0}
Below n (inside l saved) = All (λ v. v.slot < n) saved

later : {n : ℕ} {saved : List Saved} → All (λ v. v.slot < n) saved → All (λ v. v.slot < suc n) saved
later = all-weaken (λ v h. omega arith)

-- the steps of a way, and the place that it leads to
record Leads (t : Way) (n : ℕ) : Type 0 where
  fitting : All Fitting t.steps
  below : Below t.pushed t.place
  few : t.pushed ≤ suc n

way_leads : (a l : ℕ) (saved : List Saved) (n : ℕ) → n < slots → All (λ v. v.slot < n) saved → Leads (way a l saved n) n
unfolding way
way_leads (suc a) (suc l) saved n h p =
    record {
      fitting = also {x = Push n} (omega arith) (also tt none);
      below = also {x = record { slot = n; left = l }} (omega arith) (later p);
      few = omega arith;
    }
way_leads (suc a) zero saved n h p = record { fitting = also tt none; below = p; few = omega arith }
way_leads zero (suc l) saved n h p = record { fitting = also tt none; below = p; few = omega arith }
way_leads zero zero [] n h p = record { fitting = none; below = tt; few = omega arith }
way_leads zero zero (v ∷ saved) n h (also g p) = record { fitting = also {x = Pop v.slot} (omega arith) none; below = p; few = omega arith }

way_from_leads : (place : Place) (a n : ℕ) → n < slots → Below n place → Leads (way_from place a n) n
unfolding way_from
way_from_leads ended a n h p = way_leads a 0 [] n h none
way_from_leads (inside l saved) a n h p = way_leads a l saved n h p

plain_do : {xs : List Step} → All Fitting xs → All Plain (map Do xs)
plain_do = all_map Do

plain_opening : (place : Place) → All Plain (opening place)
unfolding opening
plain_opening ended = also tt none
plain_opening (inside l saved) = none

fitting_act : (puts : List ℕ) (w : ℕ) → w < 2 ^ 16 → length puts < slots → Fitting (act puts w)
unfolding act
fitting_act puts w h g = go (sort w)
  where
    go : (s : Sort) → Fitting (if_variable s (Put (length puts)) (Check w))
    go symbol = omega arith
    go variable = omega arith
    go head = omega arith
    go wrong = omega arith

fitting_closing : (place : Place) (puts : List ℕ) (from : ℕ) → length puts ≤ slots → All Fitting (closing place puts from)
unfolding closing
fitting_closing ended puts from h = compares_all puts from (λ m k i j e. (omega arith, omega arith))
fitting_closing (inside l saved) puts from h = none

pub length_puts : (puts : List ℕ) (w : ℕ) → length (puts_after puts w) ≤ suc (length puts)
unfolding puts_after
length_puts puts w = go (sort w)
  where
    go : (s : Sort) → length (puts ++ if_variable s (w ∷ []) []) ≤ suc (length puts)
    go symbol = simp length-append (omega arith)
    go variable = simp length-append (omega arith)
    go head = simp length-append (omega arith)
    go wrong = simp length-append (omega arith)

plain_from : (ws : List ℕ) → All (λ w. w < 2 ^ 16) ws → (place : Place) (puts : List ℕ) (from n : ℕ) → Below n place → length puts + length ws ≤ slots
    → n + length ws ≤ slots → All Plain (sequence_from ws place puts from n)
unfolding sequence_from
plain_from [] p place puts from n b h g = none
plain_from (w ∷ ws) (also u p) place puts from n b h g =
    let t = way_from place (arity w) n in
    let L : Leads t n = way_from_leads place (arity w) n (omega arith) b in
    let few : t.pushed ≤ suc n = L.few in
    let puts' = puts_after puts w in
    let m : length puts' ≤ suc (length puts) = length_puts puts w in
    all_append (plain_opening place)
    (also (fitting_act puts w u (omega arith))
    (all_append (plain_do L.fitting)
    (all_append (plain_do (fitting_closing t.place puts' (begun place puts from) (omega arith)))
    (plain_from ws p t.place puts' (begun place puts from) t.pushed L.below (omega arith) (omega arith)))))

-- each instruction of a clause's sequence fits
pub sequence_plain : (c : List ℕ) → Clause c → All (λ w. w < 2 ^ 16) c → All Plain (sequence c)
unfolding sequence
sequence_plain c C p = plain_from c p ended [] 0 0 tt (omega (arith, C.fits)) (omega (arith, C.fits))

-- ---- one First for each literal

unfoldable pub firsts : List Instr → ℕ
firsts [] = zero
firsts (First ∷ sequence) = suc (firsts sequence)
firsts (Do x ∷ sequence) = firsts sequence
firsts (Success n ∷ sequence) = zero

firsts_do : (xs : List Step) (sequence : List Instr) → firsts (map Do xs ++ sequence) ≡ firsts sequence
unfolding firsts
firsts_do [] sequence = refl
firsts_do (x ∷ xs) sequence = firsts_do xs sequence

-- the sequence goes on behind a literal
record Behind (rest : List ℕ) (n : ℕ) : Type 0 where
  puts : List ℕ
  from : ℕ
  pushed : ℕ
  same : n ≡ firsts (sequence_from rest ended puts from pushed)

behind : (ws rest : List ℕ) (place : Place) → Shaped (need place) ws → (puts : List ℕ) (from n : ℕ)
    → Behind rest (firsts (sequence_from (ws ++ rest) place puts from n))
unfolding need sequence_from opening firsts way_from begun
behind [] rest ended s puts from n = record { puts = puts; from = from; pushed = n; same = refl }
behind [] rest (inside l saved) s puts from n = absurd (omega (arith, shaped_nil s))
behind (w ∷ ws) rest ended s puts from n = absurd (omega (arith, shaped_cons s))
behind (w ∷ ws) rest (inside l saved) s puts from n =
    let t = way (arity w) l saved n in
    let puts' = puts_after puts w in
    let b = behind ws rest t.place (rw need_way (shaped_tail s)) puts' from t.pushed in
    record { puts = b.puts; from = b.from; pushed = b.pushed; same = firsts_do t.steps _ ∙ firsts_do (closing t.place puts' from) _ ∙ b.same }

-- a literal's sequence begins with its First
first_literal : (l rest : List ℕ) → IsLiteral l → (puts : List ℕ) (from n : ℕ)
    → firsts (sequence_from (l ++ rest) ended puts from n) ≡ suc (firsts (sequence_from (l ++ rest) (inside 0 []) puts (length puts) n))
unfolding firsts
first_literal l rest L puts from n = rw L.parts (ap firsts (sequence_first L.top (L.args ++ rest) puts from n))

firsts_literals : {ls : List (List ℕ)} → All IsLiteral ls → (puts : List ℕ) (from n : ℕ)
    → firsts (sequence_from (flatten ls) ended puts from n) ≡ length ls
unfolding sequence_from firsts flatten need after
firsts_literals none puts from n = refl
firsts_literals (also {x = l} {xs = ls} L Ls) puts from n =
    let one : Shaped (need (inside 0 [])) l = literal_shaped L in
    let b = behind l (flatten ls) (inside 0 []) one puts (length puts) n in
    first_literal l (flatten ls) L puts from n ∙ ap suc (b.same ∙ firsts_literals Ls b.puts b.from b.pushed)

pub sequence_firsts : (c : List ℕ) → Clause c → firsts (sequence c) ≡ length (literals c)
unfolding sequence
sequence_firsts c C = rw C.whole at (firsts_literals C.all [] 0 0)

-- a clause's sequence begins with First
pub sequence_begins : (c : List ℕ) → c ≢ [] → (rest : List Instr) × (sequence c ≡ First ∷ rest)
unfolding sequence
sequence_begins [] h = absurd (h refl)
sequence_begins (w ∷ ws) h = (sequence_from (w ∷ ws) (inside 0 []) [] 0 0, sequence_first w ws [] 0 0)
