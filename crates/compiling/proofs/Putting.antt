-- Puts: the number of a variable's first put, as the code finds it, and what a put or a check leaves.
use mathlib.Core.Path.{◌≡◌, refl, sym, ap, ap₂, ◌∙◌}
use mathlib.Core.Logic.{◌≢◌}
use mathlib.Core.List.{List, [], ◌∷◌, ◌++◌, map, append-nil, map-append}
use Prim.Native.Nat.{ℕ, zero, suc, ◌+◌, ◌/◌, ◌%◌, ◌≤◌, ◌<◌}
use native.Mathlib.Nat.{mod-eq_of_lt}
use native.Mathlib.Omega.{arith}
use native.Mathlib.Numerals.{add-one, one-add}
use lib.ListN.{length-map, length-set, length, get_or, take, set}
use lib.Seq.{length-take-le, take-suc-set}
use lib.Dec.{eqb}
use Rattle.std.proofs.lemmas.List.Recursion.{is_position_or_len}
use mathlib.Core.Bool.{Bool, true, false, cond}
use lib.Dec.{ltb}
use Rattle.std.specs.Prelude.{position, unwrap_or, Some, None}
use Rattle.std.specs.List.{position_or_len}
use borrow.Author.Tests.{eq-eqb, ltb-false}
use Rattle.clause.specs.Word.{kind, arity, sort_by, sort, variable, if_variable}
use Rattle.machine.specs.Instr.{Do, key}
use Rattle.machine.specs.Machine.{slots}
use Rattle.machine.specs.Compile.{first, act, puts_after}
use Rattle.compiling.specs.Inner.Rows.{firsts_of, firsts_in, variables_in, Numbered}
use Rattle.compiling.specs.declared.puts.Put.{Put}
use Rattle.clause.proofs.Lists.{get_or-map-lt}
use Rattle.machine.proofs.Compares.{first_le}
use Rattle.machine.proofs.Agree.{first_append}

-- the search for it: the first place at which it stands, or the length
first_place : (v : ℕ) (puts : List Put) → first v (variables_in puts) ≡ position_or_len (λ p. eqb p.variable v) puts
unfolding first
first_place v puts = is_position_or_len (λ l. first v (variables_in l)) (λ (p : Put). eqb p.variable v) refl (λ x xs. rw one-add refl) puts

first_high : (v : ℕ) (us : List ℕ) → first v us ≤ length us
unfolding first
first_high v [] = omega arith
first_high v (u ∷ us) = go (eqb u v) (first_high v us)
  where
    go : (b : Bool) → first v us ≤ length us → cond b 0 (suc (first v us)) ≤ suc (length us)
    go true h = omega arith
    go false h = omega arith

pub first_found : (v : ℕ) (puts : List Put) → unwrap_or (position (λ p. eqb p.variable v) puts) (length puts) ≡ first v (variables_in puts)
first_found v puts = rw (← first_place v puts) (go (ltb (first v (variables_in puts)) (length puts)) refl)
  where
    n : length (variables_in puts) ≡ length puts
    n = length-map puts (λ p. p.variable)

    go : (b : Bool) → ltb (first v (variables_in puts)) (length puts) ≡ b
        → unwrap_or (cond b (Some (first v (variables_in puts))) None) (length puts) ≡ first v (variables_in puts)
    go true e = refl
    go false e = omega (arith, n, first_high v (variables_in puts), ltb-false (first v (variables_in puts)) (length puts) e)

-- and so it is inside, or just past, the puts
pub found_inside : (v : ℕ) (puts : List Put) → unwrap_or (position (λ p. eqb p.variable v) puts) (length puts) ≤ length puts
found_inside v puts = rw (first_found v puts) (omega (arith, length-map puts (λ p. p.variable), first_high v (variables_in puts)))

-- a put more: of its own variable the first put is the same, and so is that of each variable put before
first_last : (us : List ℕ) (w : ℕ) → first w (us ++ (w ∷ [])) ≡ first w us
unfolding first
first_last [] w = rw (eq-eqb w w refl)
first_last (u ∷ us) w = rw (first_last us w)

map_get : (f g : ℕ → ℕ) (l : List ℕ) → ((k : ℕ) → k < length l → f (get_or l k 0) ≡ g (get_or l k 0)) → map f l ≡ map g l
map_get f g [] h = refl
map_get f g (x ∷ l) h = ap₂ ◌∷◌ (h 0 (omega arith)) (map_get f g l (λ k i. h (suc k) (omega arith)))

firsts_snoc : (us : List ℕ) (w : ℕ) → firsts_of (us ++ (w ∷ [])) ≡ firsts_of us ++ (first w us ∷ [])
firsts_snoc us w =
    map-append (λ v. first v (us ++ (w ∷ []))) us (w ∷ [])
    ∙ ap₂ (λ (a : List ℕ) (b : ℕ). a ++ (b ∷ [])) (map_get _ _ us (λ k i. first_append (get_or us k 0) us (w ∷ []) (omega (arith, first_le us k i))))
    (first_last us w)

-- which words are variables
pub variable_word_lem : (w : ℕ) → w / 0x800 ≡ 8 → sort w ≡ variable
unfolding sort kind arity sort_by
variable_word_lem w e =
    let k : w / 0x4000 % 4 ≡ 1 = omega arith in
    let a : w / 0x800 % 8 ≡ 0 = omega arith in
    rw (k, a)

variable_only : (w : ℕ) → w < 0x1_0000 → w / 0x4000 % 4 ≡ 1 → w / 0x800 % 8 ≡ 0 → w / 0x800 ≡ 8
variable_only w h e f =
    let few : w / 0x4000 < 4 = omega arith in
    let one : w / 0x4000 ≡ 1 = rw mod-eq_of_lt at e in
    let low : 8 ≤ w / 0x800 = omega arith in
    let high : w / 0x800 < 16 = omega arith in
    omega arith

pub other_word : {A : Type 0} (w : ℕ) → w < 0x1_0000 → w / 0x800 ≢ 8 → (x y : A) → if_variable (sort w) x y ≡ y
unfolding sort kind arity sort_by
other_word {A} w h n x y = go (w / 0x4000 % 4) (w / 0x800 % 8) refl refl
  where
    go : (k a : ℕ) → w / 0x4000 % 4 ≡ k → w / 0x800 % 8 ≡ a → if_variable (sort_by k a) x y ≡ y
    go zero a e f = refl
    go (suc zero) zero e f = absurd (n (variable_only w h e f))
    go (suc zero) (suc a) e f = refl
    go (suc (suc k)) a e f = refl

-- the number that the code reads
pub first_at : (puts : List Put) (k : ℕ) → k < length puts → get_or (firsts_in puts) k 0 ≡ (get_or puts k (record { variable = 0; first = 0 })).first
first_at puts k h = get_or-map-lt (λ (p : Put). p.first) puts k (record { variable = 0; first = 0 }) 0 h

-- so many are put
pub puts_length : {count : ℕ} {puts : List Put} {vs : List ℕ} → variables_in (take count puts) ≡ vs → Numbered count puts → length vs ≡ count
puts_length {count} {puts} e N =
    sym (ap length e) ∙ length-map (take count puts) (λ p. p.variable) ∙ length-take-le count puts (omega (arith, N.few, N.size))

pub put_low : {count : ℕ} {puts : List Put} {vs : List ℕ} → variables_in (take count puts) ≡ vs → Numbered count puts → length vs < slots → count < slots
put_low e N h = omega (arith, puts_length e N, h)

-- one more variable is put: its number is that of its first put
pub put_one : (w count number : ℕ) (puts : List Put) → count < slots → Numbered count puts → number ≡ first w (variables_in (take count puts))
    → Numbered (count + 1) (set puts count (record { variable = w; first = number }))
    × (variables_in (take (count + 1) (set puts count (record { variable = w; first = number }))) ≡ variables_in (take count puts) ++ (w ∷ []))
put_one w count number puts few N g =
    let x : Put = record { variable = w; first = number } in
    let i : count < length puts = omega (arith, N.size) in
    let p : take (count + 1) (set puts count x) ≡ take count puts ++ (x ∷ []) = rw (add-one, take-suc-set puts count x i) in
    let v : variables_in (take (count + 1) (set puts count x)) ≡ variables_in (take count puts) ++ (w ∷ []) =
    ap variables_in p ∙ map-append (λ q. q.variable) (take count puts) (x ∷ []) in
    let f : firsts_in (take (count + 1) (set puts count x)) ≡ firsts_in (take count puts) ++ (number ∷ []) =
    ap firsts_in p ∙ map-append (λ q. q.first) (take count puts) (x ∷ []) in (
      record {
        few = omega arith;
        size = simp length-set N.size;
        numbers =
            f
            ∙ ap₂ (λ (a : List ℕ) (b : ℕ). a ++ (b ∷ [])) N.numbers g
            ∙ sym (firsts_snoc (variables_in (take count puts)) w)
            ∙ ap firsts_of (sym v);
      },
      v,
    )

-- the instruction of a variable, and of any other word
pub act_variable : (puts : List ℕ) (w : ℕ) → w / 0x800 ≡ 8
    → (puts ++ (w ∷ []) ≡ puts_after puts w) × (0x4_0000_0000 + length puts ≡ key (Do (act puts w)))
unfolding puts_after act key
act_variable puts w e = (rw (variable_word_lem w e), rw (variable_word_lem w e) (omega arith))

pub act_other : (puts : List ℕ) (w : ℕ) → w < 0x1_0000 → w / 0x800 ≢ 8 → (puts ≡ puts_after puts w) × (0x7_0000_0000 + w ≡ key (Do (act puts w)))
unfolding puts_after act key
act_other puts w h n = (
  sym (ap (λ l. puts ++ l) (other_word w h n (w ∷ []) []) ∙ append-nil puts),
  rw (other_word w h n) (omega arith),
)
