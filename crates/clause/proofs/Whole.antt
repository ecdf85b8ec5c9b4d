-- The reading of whole literals: they are read, and what is read whole is literals.
use Rattle.std.specs.Prelude.{Ok}
use mathlib.Core.Path.{◌≡◌, refl, sym, ap, ◌∙◌}
use mathlib.Core.List.{List, [], ◌∷◌, ◌++◌, flatten, append_assoc, append-nil}
use Prim.Native.Nat.{ℕ, suc, ◌+◌, ◌≤◌, ◌<◌}
use native.Mathlib.Omega.{arith}
use lib.ListN.{length, length-append}
use borrow.Author.Tests.{lt-ltb}
use Rattle.clause.specs.Lists.{All, none, also}
use Rattle.clause.specs.Word.{arity, Sort, symbol, variable, head, wrong, sort}
use Rattle.clause.specs.Clause.{scan_word, scan, max_literals, literals, Shaped, end, next_word, Inner, Inside}
use Rattle.clause.specs.Accepted.{IsLiteral, Literals}
use Rattle.clause.proofs.Literals.{read, joined, shaped_zero}

pub scan_inside : (w : ℕ) (s : Sort) → sort w ≡ s → Inside s → (k lits at : ℕ) (xs : List ℕ)
    → scan (w ∷ xs) (suc k) lits at ≡ scan xs (arity w + k) lits (suc at)
unfolding scan scan_word
scan_inside w symbol e i k lits at xs = rw e
scan_inside w variable e i k lits at xs = rw e
scan_inside w head e i k lits at xs = absurd i
scan_inside w wrong e i k lits at xs = absurd i

pub scan_head : (w : ℕ) → sort w ≡ head → (lits at : ℕ) → lits < max_literals → (xs : List ℕ) → scan (w ∷ xs) 0 lits at ≡ scan xs (arity w) (suc lits) (suc at)
unfolding scan scan_word
scan_head w e lits at h xs = rw (e, lt-ltb lits max_literals h)

-- ---- whole literals are read

scan_args : {k : ℕ} {args : List ℕ} → Shaped k args → Inner args → (lits at : ℕ) (rest : List ℕ)
    → scan (args ++ rest) k lits at ≡ scan rest 0 lits (at + length args)
scan_args end i lits at rest = ap (scan rest 0 lits) (omega arith)
scan_args (next_word {w = w} {k = k} {ws = ws} h) (also j i) lits at rest =
    scan_inside w (sort w) refl j k lits at (ws ++ rest) ∙ scan_args h i lits (suc at) rest ∙ ap (scan rest 0 lits) (omega arith)

scan_literal : {l : List ℕ} → IsLiteral l → (lits at : ℕ) → lits < max_literals → (rest : List ℕ)
    → scan (l ++ rest) 0 lits at ≡ scan rest 0 (suc lits) (at + length l)
scan_literal L lits at h rest =
    rw L.parts
    (scan_head L.top L.top_head lits at h (L.args ++ rest) ∙ scan_args L.args_shaped L.args_inner (suc lits) (suc at) rest
    ∙ ap (scan rest 0 (suc lits)) (omega arith))

scan_literals : {ls : List (List ℕ)} → All IsLiteral ls → (lits at : ℕ) → lits + length ls ≤ max_literals → (rest : List ℕ)
    → scan (flatten ls ++ rest) 0 lits at ≡ scan rest 0 (lits + length ls) (at + length (flatten ls))
unfolding flatten
scan_literals none lits at h rest =
    let e : at ≡ at + 0 = omega arith in
    let f : lits ≡ lits + 0 = omega arith in
    rw (← e, ← f)
scan_literals (also {x = l} {xs = ls} L p) lits at h rest =
    let e : at + length l + length (flatten ls) ≡ at + (length l + length (flatten ls)) = omega arith in
    let f : suc lits + length ls ≡ lits + suc (length ls) = omega arith in
    rw (append_assoc l (flatten ls) rest, length-append, ← e, ← f)
    (scan_literal L lits at (omega arith) (flatten ls ++ rest) ∙ scan_literals p (suc lits) (at + length l) (omega arith) rest)

pub literals_scan : (ws : List ℕ) (n : ℕ) → Literals ws n → n ≤ max_literals → (rest : List ℕ) → scan (ws ++ rest) 0 0 0 ≡ scan rest 0 n (length ws)
literals_scan ws n L h rest =
    let e : 0 + length L.parts ≡ n = omega (arith, L.count) in
    let f : 0 + length (flatten L.parts) ≡ length ws = omega (arith, ap length L.joined) in
    let g : scan (flatten L.parts ++ rest) 0 0 0 ≡ scan rest 0 n (length ws) = rw (← e, ← f) (scan_literals L.each 0 0 (omega (arith, L.count)) rest) in
    rw L.joined at g

pub whole_literals : (ws : List ℕ) (n : ℕ) → Literals ws n → n ≤ max_literals → scan ws 0 0 0 ≡ Ok n
unfolding scan
whole_literals ws n L h = rw (append-nil ws) at (literals_scan ws n L h [])

-- what is read whole is literals
pub literals_whole : (ws : List ℕ) (n : ℕ) → scan ws 0 0 0 ≡ Ok n → Literals ws n × (n ≤ max_literals)
literals_whole ws n e =
    let r = read ws 0 0 0 n (omega arith) e in
    let none_before = ap (λ (l : List ℕ). l ++ flatten (literals ws)) (sym (shaped_zero r.rest_shaped refl)) in
    (record { parts = literals ws; each = r.rest_literals; joined = none_before ∙ joined ws; count = omega (arith, r.counted) }, r.few)
