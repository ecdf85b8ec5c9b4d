-- What an accepted clause is: its literals one after another, each a head and the arguments that its arity asks for.
use Rattle.std.specs.Prelude.{Err, Ok}
use mathlib.Core.Path.{◌≡◌, refl, sym, ap, ◌∙◌}
use mathlib.Core.Logic.{◌≢◌}
use mathlib.Core.Bool.{Bool, true, false, cond}
use mathlib.Core.List.{List, [], ◌∷◌, ◌++◌, flatten, cons≢nil}
use Prim.Native.Nat.{ℕ, zero, suc, ◌+◌, ◌≤◌, ◌<◌}
use native.Mathlib.Nat.{add-zero}
use native.Mathlib.Omega.{arith}
use lib.ListN.{length}
use lib.Dec.{ltb}
use borrow.Author.Tests.{ltb-true, ltb-false}
use Rattle.clause.specs.Lists.{All, none, also}
use Rattle.clause.specs.Word.{arity, Sort, symbol, variable, head, wrong, sort}
use Rattle.clause.specs.Clause.{scan_word, scan, shape, Accepted, max_literals, max_words, before, literals, Shaped, end, next_word, Inner, Inside}
use Rattle.clause.specs.Accepted.{IsLiteral}
use Rattle.clause.specs.declared.Fault.TheVariants.{BadLength, Ninth}

pub literal_shaped : {l : List ℕ} → IsLiteral l → Shaped 1 l
literal_shaped h = let a : Shaped (arity h.top + 0) h.args = rw add-zero h.args_shaped in rw h.parts (next_word a)

-- what stands before the first head, and all literals
pub joined : (ws : List ℕ) → before ws ++ flatten (literals ws) ≡ ws
unfolding before literals flatten
joined [] = refl
joined (w ∷ ws) = go (sort w) refl (ap (λ (l : List ℕ). w ∷ l) (joined ws))
  where
    go : (s : Sort) → sort w ≡ s → w ∷ (before ws ++ flatten (literals ws)) ≡ w ∷ ws → before (w ∷ ws) ++ flatten (literals (w ∷ ws)) ≡ w ∷ ws
    go symbol e h = rw e h
    go variable e h = rw e h
    go head e h = rw e h
    go wrong e h = rw e h

-- what the reading has found of the words from here on
pub record Read (ws : List ℕ) (need lits n : ℕ) : Type 0 where
  pub rest_shaped : Shaped need (before ws)
  pub rest_inner : Inner (before ws)
  pub rest_literals : All IsLiteral (literals ws)
  pub counted : n ≡ lits + length (literals ws)
  pub few : n ≤ max_literals

-- a head begins a literal
pub before_head : (w : ℕ) (ws : List ℕ) → sort w ≡ head → before (w ∷ ws) ≡ []
unfolding before
before_head w ws e = rw e

pub literals_head : (w : ℕ) (ws : List ℕ) → sort w ≡ head → literals (w ∷ ws) ≡ (w ∷ before ws) ∷ literals ws
unfolding literals
literals_head w ws e = rw e

-- a word inside a literal begins none
pub before_inside : (w : ℕ) (ws : List ℕ) (s : Sort) → sort w ≡ s → Inside s → before (w ∷ ws) ≡ w ∷ before ws
unfolding before
before_inside w ws symbol e i = rw e
before_inside w ws variable e i = rw e
before_inside w ws head e i = absurd i
before_inside w ws wrong e i = absurd i

pub literals_inside : (w : ℕ) (ws : List ℕ) (s : Sort) → sort w ≡ s → Inside s → literals (w ∷ ws) ≡ literals ws
unfolding literals
literals_inside w ws symbol e i = rw e
literals_inside w ws variable e i = rw e
literals_inside w ws head e i = absurd i
literals_inside w ws wrong e i = absurd i

read_head : (w : ℕ) (ws : List ℕ) (lits n : ℕ) → sort w ≡ head → Read ws (arity w) (suc lits) n → Read (w ∷ ws) 0 lits n
read_head w ws lits n e r =
    let l : IsLiteral (w ∷ before ws) =
    record { top = w; args = before ws; parts = refl; top_head = e; args_shaped = r.rest_shaped; args_inner = r.rest_inner } in
    record {
      rest_shaped = rw (before_head w ws e) end;
      rest_inner = rw (before_head w ws e) none;
      rest_literals = rw (literals_head w ws e) (also l r.rest_literals);
      counted = rw (literals_head w ws e) (omega arith);
      few = r.few;
    }

read_inside : (w : ℕ) (ws : List ℕ) (k lits n : ℕ) → Inside (sort w) → Read ws (arity w + k) lits n → Read (w ∷ ws) (suc k) lits n
read_inside w ws k lits n i r =
    record {
      rest_shaped = rw (before_inside w ws (sort w) refl i) (next_word r.rest_shaped);
      rest_inner = rw (before_inside w ws (sort w) refl i) (also i r.rest_inner);
      rest_literals = rw (literals_inside w ws (sort w) refl i) r.rest_literals;
      counted = rw (literals_inside w ws (sort w) refl i) r.counted;
      few = r.few;
    }

pub read : (ws : List ℕ) (need lits at n : ℕ) → lits ≤ max_literals → scan ws need lits at ≡ Ok n → Read ws need lits n
unfolding scan before literals scan_word
read [] zero lits at n h e =
    let z : lits ≡ n = cc in record { rest_shaped = end; rest_inner = none; rest_literals = none; counted = omega arith; few = omega arith }
read [] (suc k) lits at n h e = cc
read (w ∷ ws) need lits at n h e = go (sort w) need refl e (read ws)
  where
    go : (s : Sort) (need : ℕ) → sort w ≡ s → scan_word s (arity w) need lits at (scan ws) ≡ Ok n
        → ((need lits at n : ℕ) → lits ≤ max_literals → scan ws need lits at ≡ Ok n → Read ws need lits n) → Read (w ∷ ws) need lits n
    go symbol zero q e ih = cc
    go symbol (suc k) q e ih = read_inside w ws k lits n (rw q tt) (ih (arity w + k) lits (suc at) n h e)
    go variable zero q e ih = cc
    go variable (suc k) q e ih = read_inside w ws k lits n (rw q tt) (ih (arity w + k) lits (suc at) n h e)
    go wrong zero q e ih = cc
    go wrong (suc k) q e ih = cc
    go head (suc k) q e ih = cc
    go head zero q e ih = room (ltb lits max_literals) refl e
      where
        room : (b : Bool) → ltb lits max_literals ≡ b → cond b (scan ws (arity w) (suc lits) (suc at)) (Err (Ninth at)) ≡ Ok n
            → Read (w ∷ ws) 0 lits n
        room true q' e' = read_head w ws lits n q (ih (arity w) (suc lits) (suc at) n (ltb-true lits max_literals q') e')
        room false q' e' = cc

-- an accepted clause is at most 64 words, and at most 8 literals one after another
pub record Clause (ws : List ℕ) : Type 0 where
  pub fits : length ws ≤ max_words
  pub nonempty : ws ≢ []
  pub whole : flatten (literals ws) ≡ ws
  pub all : All IsLiteral (literals ws)
  pub few : length (literals ws) ≤ max_literals

pub shaped_zero : {u : List ℕ} {k : ℕ} → Shaped k u → k ≡ 0 → u ≡ []
shaped_zero end e = refl
shaped_zero (next_word h) e = absurd (omega arith)

scanned : (ws : List ℕ) (n : ℕ) → length ws ≤ max_words → ws ≢ [] → Read ws 0 0 n → Clause ws
scanned ws n h e r =
    record {
      fits = h;
      nonempty = e;
      whole = ap (λ (l : List ℕ). l ++ flatten (literals ws)) (sym (shaped_zero r.rest_shaped refl)) ∙ joined ws;
      all = r.rest_literals;
      few = omega arith;
    }

-- and at least one
pub some_literal : (ws : List ℕ) → Clause ws → 0 < length (literals ws)
unfolding flatten
some_literal ws C = go (literals ws) C.whole
  where
    go : (ls : List (List ℕ)) → flatten ls ≡ ws → 0 < length ls
    go [] e = absurd (C.nonempty (sym e))
    go (l ∷ ls) e = omega arith

pub accepted : (ws : List ℕ) → Accepted ws → Clause ws
unfolding shape
accepted [] h = let e : Err BadLength ≡ Ok h.0 = h.1 in cc
accepted (w ∷ ws) h = go (ltb max_words (length (w ∷ ws))) refl h.1
  where
    go : (b : Bool) → ltb max_words (length (w ∷ ws)) ≡ b → cond b (Err BadLength) (scan (w ∷ ws) 0 0 0) ≡ Ok h.0 → Clause (w ∷ ws)
    go true q e = cc
    go false q e = scanned (w ∷ ws) h.0 (ltb-false max_words (length (w ∷ ws)) q) cons≢nil (read (w ∷ ws) 0 0 0 h.0 (omega arith) e)
