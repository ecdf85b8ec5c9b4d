-- Where the reading stops: at the first word that breaks the rules, or at a ninth head.
use Rattle.std.specs.Prelude.{Err, Ok}
use mathlib.Core.Path.{◌≡◌, refl, sym, ap, ◌∙◌}
use mathlib.Core.Bool.{Bool, true, false, cond}
use mathlib.Core.List.{List, [], ◌∷◌, ◌++◌}
use Prim.Native.Nat.{ℕ, zero, suc, ◌+◌, ◌≤◌, ◌<◌}
use native.Mathlib.Omega.{arith}
use lib.ListN.{length, get_or, take, replicate}
use lib.Dec.{ltb}
use borrow.Author.Tests.{ltb-true, ltb-false}
use Rattle.clause.specs.Word.{arity, Sort, symbol, variable, head, wrong, sort, kind, sort_by}
use Rattle.clause.specs.Clause.{scan_word, scan, max_literals}
use Rattle.clause.specs.declared.Fault.TheVariants.{Bad, Ninth}
use Rattle.clause.proofs.Whole.{scan_inside, scan_head}

-- a variable
filler : ℕ
filler = 0x4000

filled : (k lits at : ℕ) → scan (replicate k filler) k lits at ≡ Ok lits
unfolding scan filler sort sort_by kind arity
filled zero lits at = refl
filled (suc k) lits at = let e : 0 + k ≡ k = omega arith in scan_inside filler variable refl tt k lits at (replicate k filler) ∙ rw e (filled k lits (suc at))

-- the reading stops i words on: the words before can be made whole, and not with the one there
pub record Stops (ws : List ℕ) (need lits p q : ℕ) : Type 0 where
  pub i : ℕ
  pub place : q ≡ p + i
  pub inside : i ≤ length ws
  pub more : List ℕ
  pub n : ℕ
  pub completed : scan (take i ws ++ more) need lits p ≡ Ok n
  pub broken : i < length ws → (more : List ℕ) (n : ℕ) → scan (take (suc i) ws ++ more) need lits p ≡ Ok n → ⊥

stops_here : (w : ℕ) (ws : List ℕ) (need lits p q : ℕ) → ((xs : List ℕ) → scan (w ∷ xs) need lits p ≡ Err (Bad p)) → p ≡ q → Stops (w ∷ ws) need lits p q
stops_here w ws need lits p q f e =
    record {
      i = 0;
      place = omega arith;
      inside = omega arith;
      more = replicate need filler;
      n = lits;
      completed = filled need lits p;
      broken = λ h more n u. let v = f more in cc;
    }

stops_later : (w : ℕ) (ws : List ℕ) (need lits p q need' lits' : ℕ)
    → ((xs : List ℕ) → scan (w ∷ xs) need lits p ≡ scan xs need' lits' (suc p)) → Stops ws need' lits' (suc p) q
    → Stops (w ∷ ws) need lits p q
stops_later w ws need lits p q need' lits' f s =
    record {
      i = suc s.i;
      place = omega (arith, s.place);
      inside = omega (arith, s.inside);
      more = s.more;
      n = s.n;
      completed = f (take s.i ws ++ s.more) ∙ s.completed;
      broken = λ h more n u. s.broken (omega arith) more n (sym (f (take (suc s.i) ws ++ more)) ∙ u);
    }

pub stops : (ws : List ℕ) (need lits p q : ℕ) → scan ws need lits p ≡ Err (Bad q) → Stops ws need lits p q
unfolding scan scan_word
stops [] zero lits p q e = cc
stops [] (suc k) lits p q e =
    let z : p ≡ q = cc in
    record {
      i = 0;
      place = omega arith;
      inside = omega arith;
      more = replicate (suc k) filler;
      n = lits;
      completed = filled (suc k) lits p;
      broken = λ h. absurd (omega arith);
    }
stops (w ∷ ws) need lits p q e = go (sort w) need refl e (stops ws)
  where
    go : (s : Sort) (need : ℕ) → sort w ≡ s → scan_word s (arity w) need lits p (scan ws) ≡ Err (Bad q)
        → ((need lits p q : ℕ) → scan ws need lits p ≡ Err (Bad q) → Stops ws need lits p q) → Stops (w ∷ ws) need lits p q
    go symbol zero u e ih = stops_here w ws 0 lits p q (λ xs. rw u) cc
    go symbol (suc k) u e ih = stops_later w ws (suc k) lits p q (arity w + k) lits (scan_inside w symbol u tt k lits p) (ih (arity w + k) lits (suc p) q e)
    go variable zero u e ih = stops_here w ws 0 lits p q (λ xs. rw u) cc
    go variable (suc k) u e ih = stops_later w ws (suc k) lits p q (arity w + k) lits (scan_inside w variable u tt k lits p) (ih (arity w + k) lits (suc p) q e)
    go wrong zero u e ih = stops_here w ws 0 lits p q (λ xs. rw u) cc
    go wrong (suc k) u e ih = stops_here w ws (suc k) lits p q (λ xs. rw u) cc
    go head (suc k) u e ih = stops_here w ws (suc k) lits p q (λ xs. rw u) cc
    go head zero u e ih = room (ltb lits max_literals) refl e
      where
        room : (b : Bool) → ltb lits max_literals ≡ b → cond b (scan ws (arity w) (suc lits) (suc p)) (Err (Ninth p)) ≡ Err (Bad q)
            → Stops (w ∷ ws) 0 lits p q
        room true v e' = stops_later w ws 0 lits p q (arity w) (suc lits) (scan_head w u lits p (ltb-true lits max_literals v))
            (ih (arity w) (suc lits) (suc p) q e')
        room false v e' = cc

-- the reading meets a ninth head i words on: those before are whole
pub record Meets (ws : List ℕ) (need lits p q : ℕ) : Type 0 where
  pub i : ℕ
  pub place : q ≡ p + i
  pub inside : i < length ws
  pub whole : scan (take i ws) need lits p ≡ Ok max_literals
  pub top : sort (get_or ws i 0) ≡ head

meets_later : (w : ℕ) (ws : List ℕ) (need lits p q need' lits' : ℕ)
    → ((xs : List ℕ) → scan (w ∷ xs) need lits p ≡ scan xs need' lits' (suc p)) → Meets ws need' lits' (suc p) q
    → Meets (w ∷ ws) need lits p q
meets_later w ws need lits p q need' lits' f s =
    record { i = suc s.i; place = omega (arith, s.place); inside = omega (arith, s.inside); whole = f (take s.i ws) ∙ s.whole; top = s.top }

pub meets : (ws : List ℕ) (need lits p q : ℕ) → lits ≤ max_literals → scan ws need lits p ≡ Err (Ninth q) → Meets ws need lits p q
unfolding scan scan_word
meets [] zero lits p q h e = cc
meets [] (suc k) lits p q h e = cc
meets (w ∷ ws) need lits p q h e = go (sort w) need refl e (meets ws)
  where
    go : (s : Sort) (need : ℕ) → sort w ≡ s → scan_word s (arity w) need lits p (scan ws) ≡ Err (Ninth q)
        → ((need lits p q : ℕ) → lits ≤ max_literals → scan ws need lits p ≡ Err (Ninth q) → Meets ws need lits p q) → Meets (w ∷ ws) need lits p q
    go symbol zero u e ih = cc
    go symbol (suc k) u e ih = meets_later w ws (suc k) lits p q (arity w + k) lits (scan_inside w symbol u tt k lits p) (ih (arity w + k) lits (suc p) q h e)
    go variable zero u e ih = cc
    go variable (suc k) u e ih =
        meets_later w ws (suc k) lits p q (arity w + k) lits (scan_inside w variable u tt k lits p) (ih (arity w + k) lits (suc p) q h e)
    go wrong zero u e ih = cc
    go wrong (suc k) u e ih = cc
    go head (suc k) u e ih = cc
    go head zero u e ih = room (ltb lits max_literals) refl e
      where
        room : (b : Bool) → ltb lits max_literals ≡ b → cond b (scan ws (arity w) (suc lits) (suc p)) (Err (Ninth p)) ≡ Err (Ninth q)
            → Meets (w ∷ ws) 0 lits p q
        room true v e' =
            let r = ltb-true lits max_literals v in
            meets_later w ws 0 lits p q (arity w) (suc lits) (scan_head w u lits p r) (ih (arity w) (suc lits) (suc p) q r e')
        room false v e' =
            let z : p ≡ q = cc in
            let l : lits ≡ max_literals = omega (arith, ltb-false lits max_literals v) in
            record { i = 0; place = omega arith; inside = omega arith; whole = ap Ok l; top = u }
