-- A clause is accepted exactly if it is whole literals one after another; a fault's position is the first word that breaks the rules.
use Rattle.std.specs.Prelude.{Err, Ok, Result, ℕ}
use mathlib.Core.Path.{◌≡◌, refl, sym, ap, ◌∙◌}
use mathlib.Core.Logic.{◌↔◌, ◌⊎◌, inl, inr}
use mathlib.Core.Bool.{Bool, true, false, cond}
use mathlib.Core.List.{List, [], ◌∷◌, ◌++◌, flatten, append_assoc, append-nil}
use Prim.Native.Nat.{ℕ, zero, suc, ◌+◌, ◌≤◌, ◌<◌}
use native.Mathlib.Omega.{arith}
use native.Mathlib.Decide.{dec_lt}
use lib.ListN.{length, get_or, take, drop, take-append-drop}
use lib.Seq.{drop-cons, length-take-le, take-take}
use lib.Dec.{ltb}
use borrow.Author.Tests.{ltb-true, ltb-false, le-ltb}
use Rattle.clause.specs.Lists.{All, none, also}
use Rattle.clause.specs.Word.{arity, Sort, symbol, variable, head, wrong, sort}
use Rattle.clause.specs.Clause.{scan_word, scan, shape, Accepted, max_literals, max_words, before, literals, term, Inner}
use Rattle.clause.specs.Accepted.{IsLiteral, Literals, Fits, IsClause, Rules, Begins, Breaks, IsNinth, ClauseLaws}
use Rattle.clause.proofs.Literals.{before_head, literals_head, before_inside, literals_inside}
use Rattle.clause.proofs.Skip.{first_shaped}
use Rattle.clause.proofs.Starts.{found}
use Rattle.clause.specs.declared.Fault.TheVariants.{BadLength, Bad, Ninth}
use Rattle.clause.proofs.Whole.{literals_scan, whole_literals, literals_whole}
use Rattle.clause.proofs.Faults.{Stops, stops, Meets, meets}
use Rattle.clause.specs.declared.Fault.{Fault}

-- the shape of 1 to 64 words is what the reading finds
fits_shape : (ws : List ℕ) → Fits ws → shape ws ≡ scan ws 0 0 0
unfolding shape
fits_shape [] F = absurd (omega (arith, F.low))
fits_shape (w ∷ ws) F = rw (le-ltb max_words (length (w ∷ ws)) F.high)

fits? : (ws : List ℕ) → (Fits ws × (shape ws ≡ scan ws 0 0 0)) ⊎ ((Fits ws → ⊥) × (shape ws ≡ Err BadLength))
unfolding shape
fits? [] = inr (λ F. omega (arith, F.low), refl)
fits? (w ∷ ws) = go (ltb max_words (length (w ∷ ws))) refl
  where
    go : (b : Bool) → ltb max_words (length (w ∷ ws)) ≡ b
        → (Fits (w ∷ ws) × (shape (w ∷ ws) ≡ scan (w ∷ ws) 0 0 0)) ⊎ ((Fits (w ∷ ws) → ⊥) × (shape (w ∷ ws) ≡ Err BadLength))
    go true e = inr (λ F. omega (arith, F.high, ltb-true max_words (length (w ∷ ws)) e), rw e)
    go false e = inl (record { low = omega arith; high = ltb-false max_words (length (w ∷ ws)) e }, rw e)

-- the reading never finds a bad length
scan_length : (ws : List ℕ) (need lits p : ℕ) → scan ws need lits p ≡ Err BadLength → ⊥
unfolding scan scan_word
scan_length [] zero lits p e = cc
scan_length [] (suc k) lits p e = cc
scan_length (w ∷ ws) need lits p e = go (sort w) need e (scan_length ws)
  where
    go : (s : Sort) (need : ℕ) → scan_word s (arity w) need lits p (scan ws) ≡ Err BadLength
        → ((need lits p : ℕ) → scan ws need lits p ≡ Err BadLength → ⊥) → ⊥
    go symbol zero e ih = cc
    go symbol (suc k) e ih = ih (arity w + k) lits (suc p) e
    go variable zero e ih = cc
    go variable (suc k) e ih = ih (arity w + k) lits (suc p) e
    go wrong zero e ih = cc
    go wrong (suc k) e ih = cc
    go head (suc k) e ih = cc
    go head zero e ih = room (ltb lits max_literals) e
      where
        room : (b : Bool) → cond b (scan ws (arity w) (suc lits) (suc p)) (Err (Ninth p)) ≡ Err BadLength → ⊥
        room true e' = ih (arity w) (suc lits) (suc p) e'
        room false e' = cc

-- words are at least one literal
some_literals : (ws : List ℕ) (n : ℕ) → Literals ws n → 1 ≤ length ws → 1 ≤ n
unfolding flatten
some_literals ws n L h = go L.parts L.joined L.count
  where
    go : (ls : List (List ℕ)) → flatten ls ≡ ws → length ls ≡ n → 1 ≤ n
    go [] e f = let u : 0 ≡ length ws = ap length e in absurd (omega arith)
    go (l ∷ ls) e f = omega arith

-- a head after 8 literals is a ninth
ninth_scan : (ws : List ℕ) (at : ℕ) → IsNinth ws at → scan ws 0 0 0 ≡ Err (Ninth at)
unfolding scan scan_word
ninth_scan ws at N =
    let w : ℕ = get_or ws at 0 in
    let e : take at ws ++ (w ∷ drop (suc at) ws) ≡ ws = ap (λ (l : List ℕ). take at ws ++ l) (sym (drop-cons ws at 0 N.inside)) ∙ take-append-drop at ws in
    let f : scan (take at ws ++ (w ∷ drop (suc at) ws)) 0 0 0 ≡ scan (w ∷ drop (suc at) ws) 0 max_literals (length (take at ws)) =
    literals_scan (take at ws) max_literals N.before (omega arith) (w ∷ drop (suc at) ws) in
    let g : scan (w ∷ drop (suc at) ws) 0 max_literals at ≡ Err (Ninth at) = rw N.top in
    let h : length (take at ws) ≡ at = length-take-le at ws (omega (arith, N.inside)) in
    ap (λ (l : List ℕ). scan l 0 0 0) (sym e) ∙ f ∙ ap (scan (w ∷ drop (suc at) ws) 0 max_literals) h ∙ g

module _ (ws : List ℕ) where
  accepts : Accepted ws ↔ IsClause ws
  accepts = (λ h. to (fits? ws) h, λ C. (C.count, fits_shape ws C.fits ∙ whole_literals ws C.count C.literals C.high))
    where
      to : (Fits ws × (shape ws ≡ scan ws 0 0 0)) ⊎ ((Fits ws → ⊥) × (shape ws ≡ Err BadLength)) → Accepted ws → IsClause ws
      to (inl (F, e)) (n, h) =
          let (L, few) = literals_whole ws n (sym e ∙ h) in
          record { fits = F; count = n; literals = L; low = some_literals ws n L F.low; high = few }
      to (inr (F, e)) (n, h) = cc

  bad_length : (shape ws ≡ Err BadLength) ↔ (Fits ws → ⊥)
  bad_length = (to (fits? ws), from (fits? ws))
    where
      to : (Fits ws × (shape ws ≡ scan ws 0 0 0)) ⊎ ((Fits ws → ⊥) × (shape ws ≡ Err BadLength)) → shape ws ≡ Err BadLength → Fits ws → ⊥
      to (inl (F, e)) h = absurd (scan_length ws 0 0 0 (sym e ∙ h))
      to (inr (F, e)) h = F

      from : (Fits ws × (shape ws ≡ scan ws 0 0 0)) ⊎ ((Fits ws → ⊥) × (shape ws ≡ Err BadLength)) → (Fits ws → ⊥) → shape ws ≡ Err BadLength
      from (inl (F, e)) h = absurd (h F)
      from (inr (F, e)) h = e

  module _ (at : ℕ) where
    ninth : (shape ws ≡ Err (Ninth at)) ↔ (Fits ws × IsNinth ws at)
    ninth = (to (fits? ws), λ N. fits_shape ws N.0 ∙ ninth_scan ws at N.1)
      where
        met : Meets ws 0 0 0 at → IsNinth ws at
        met M =
            let e : M.i ≡ at = omega (arith, M.place) in
            record { before = (literals_whole (take at ws) max_literals (rw e at M.whole)).0; inside = rw e at M.inside; top = rw e at M.top }

        to : (Fits ws × (shape ws ≡ scan ws 0 0 0)) ⊎ ((Fits ws → ⊥) × (shape ws ≡ Err BadLength)) → shape ws ≡ Err (Ninth at) → Fits ws × IsNinth ws at
        to (inl (F, e)) h = (F, met (meets ws 0 0 0 at (omega arith) (sym e ∙ h)))
        to (inr (F, e)) h = cc

    bad : shape ws ≡ Err (Bad at) → Fits ws × Breaks ws at
    bad h = to (fits? ws)
      where
        rules : Rules ws → scan ws 0 0 0 ≡ Err (Bad at) → ⊥
        rules (n, L, few) e = let f = whole_literals ws n L few in cc

        stopped : scan ws 0 0 0 ≡ Err (Bad at) → Stops ws 0 0 0 at → Breaks ws at
        stopped e S = record { before = (S.more, (S.n, L.0, L.1)); there = split (dec_lt at (length ws)) }
          where
            f : S.i ≡ at
            f = omega (arith, S.place)

            L : Literals (take at ws ++ S.more) S.n × (S.n ≤ max_literals)
            L = literals_whole (take at ws ++ S.more) S.n (rw f at S.completed)

            split : Dec (at < length ws) → ((at < length ws) × (Begins (take (suc at) ws) → ⊥) × (IsNinth ws at → ⊥)) ⊎ ((at ≡ length ws) × (Rules ws → ⊥))
            split (yes l) = inl (l, more, λ N. let g = ninth_scan ws at N in cc)
              where
                more : Begins (take (suc at) ws) → ⊥
                more B = let (n, L', few) = B.1 in (rw f at S.broken) l B.0 n (whole_literals (take (suc at) ws ++ B.0) n L' few)
            split (no l) = inr (omega (arith, S.inside, f), λ r. rules r e)

        to : (Fits ws × (shape ws ≡ scan ws 0 0 0)) ⊎ ((Fits ws → ⊥) × (shape ws ≡ Err BadLength)) → Fits ws × Breaks ws at
        to (inl (F, e)) = (F, stopped (sym e ∙ h) (stops ws 0 0 0 at (sym e ∙ h)))
        to (inr (F, e)) = cc

-- ---- a position at which the rules are broken is the one found

-- a beginning of a beginning is one
begins_shorter : (ws : List ℕ) (k m : ℕ) → k ≤ m → Begins (take m ws) → Begins (take k ws)
begins_shorter ws k m h (more, r) = (drop k (take m ws) ++ more, rw (sym joins) at r)
  where
    joins : take k ws ++ (drop k (take m ws) ++ more) ≡ take m ws ++ more
    joins =
        let first = ap (λ (l : List ℕ). l ++ drop k (take m ws)) (sym (take-take k m ws h)) in
        sym (append_assoc (take k ws) (drop k (take m ws)) more) ∙ ap (λ (l : List ℕ). l ++ more) (first ∙ take-append-drop k (take m ws))

-- one word more
take_one : (ws : List ℕ) (q : ℕ) (more : List ℕ) → q < length ws → take (suc q) ws ++ more ≡ take q ws ++ (get_or ws q 0 ∷ more)
take_one [] q more h = absurd (omega arith)
take_one (w ∷ ws) zero more h = refl
take_one (w ∷ ws) (suc q) more h = ap (λ (l : List ℕ). w ∷ l) (take_one ws q more (omega arith))

-- a ninth head continues no beginning
ninth_stops : (ws : List ℕ) (q : ℕ) → IsNinth ws q → Begins (take (suc q) ws) → ⊥
unfolding scan scan_word
ninth_stops ws q N (more, (n, L, few)) =
    let w : ℕ = get_or ws q 0 in
    let e : take (suc q) ws ++ more ≡ take q ws ++ (w ∷ more) = take_one ws q more N.inside in
    let f : scan (take q ws ++ (w ∷ more)) 0 0 0 ≡ scan (w ∷ more) 0 max_literals (length (take q ws)) =
    literals_scan (take q ws) max_literals N.before (omega arith) (w ∷ more) in
    let g : scan (w ∷ more) 0 max_literals (length (take q ws)) ≡ Err (Ninth (length (take q ws))) = rw N.top in
    let h : scan (take q ws ++ (w ∷ more)) 0 0 0 ≡ Ok n = ap (λ (l : List ℕ). scan l 0 0 0) (sym e) ∙ whole_literals (take (suc q) ws ++ more) n L few in
    cc

-- two positions
data Order (a b : ℕ) : Type 0 where
  less : a < b → Order a b
  same : a ≡ b → Order a b
  more : b < a → Order a b

order : (a b : ℕ) → Order a b
order a b = go (dec_lt a b) (dec_lt b a)
  where
    go : Dec (a < b) → Dec (b < a) → Order a b
    go (yes h) d = less h
    go (no h) (yes k) = more k
    go (no h) (no k) = same (omega arith)

module _ (ws : List ℕ) (F : Fits ws) (at : ℕ) (B : Breaks ws at) where
  -- not with this much more
  not_past : (k : ℕ) → at < k → k ≤ length ws → Begins (take k ws) → ⊥
  not_past k h u b = go B.there
    where
      go : ((at < length ws) × (Begins (take (suc at) ws) → ⊥) × (IsNinth ws at → ⊥)) ⊎ ((at ≡ length ws) × (Rules ws → ⊥)) → ⊥
      go (inl (l, f, g)) = f (begins_shorter ws (suc at) k h b)
      go (inr (l, f)) = omega arith

  place : (s : Result ℕ Fault) → shape ws ≡ s → shape ws ≡ Err (Bad at)
  place (Err BadLength) e = absurd ((bad_length ws).0 e F)
  place (Ok n) e = go ((accepts ws).0 (n, e)) B.there
    where
      go : IsClause ws → ((at < length ws) × (Begins (take (suc at) ws) → ⊥) × (IsNinth ws at → ⊥)) ⊎ ((at ≡ length ws) × (Rules ws → ⊥))
          → shape ws ≡ Err (Bad at)
      go C (inl (l, f, g)) =
          let r : Rules (take (suc at) ws ++ drop (suc at) ws) = rw (take-append-drop (suc at) ws) (C.count, C.literals, C.high) in
          absurd (f (drop (suc at) ws, r))
      go C (inr (l, f)) = absurd (f (C.count, C.literals, C.high))
  place (Err (Ninth q)) e = go (order at q) ((ninth ws q).0 e).1 B.there
    where
      go : Order at q → IsNinth ws q → ((at < length ws) × (Begins (take (suc at) ws) → ⊥) × (IsNinth ws at → ⊥)) ⊎ ((at ≡ length ws) × (Rules ws → ⊥))
          → shape ws ≡ Err (Bad at)
      go (less h) N t =
          let r : Rules (take q ws ++ []) = rw (append-nil (take q ws)) (max_literals, N.before, omega arith) in
          absurd (not_past q h (omega (arith, N.inside)) ([], r))
      go (same h) N (inl (l, f, g)) = absurd (g (rw h N))
      go (same h) N (inr (l, f)) = absurd (omega (arith, N.inside))
      go (more h) N t = absurd (ninth_stops ws q N (begins_shorter ws (suc q) at h B.before))
  place (Err (Bad q)) e = go (order at q) (bad ws q e).1
    where
      inside : {p : ℕ} → Breaks ws p → p ≤ length ws
      inside {p} C = elim C.there [ inl t ↦ omega (arith, t.0) | inr t ↦ omega (arith, t.0) ]

      go : Order at q → Breaks ws q → shape ws ≡ Err (Bad at)
      go (less h) C = absurd (not_past q h (inside C) C.before)
      go (same h) C = e ∙ ap (λ (k : ℕ). Err (Bad k)) (sym h)
      go (more h) C = absurd (past C.there)
        where
          past : ((q < length ws) × (Begins (take (suc q) ws) → ⊥) × (IsNinth ws q → ⊥)) ⊎ ((q ≡ length ws) × (Rules ws → ⊥)) → ⊥
          past (inl (l, f, g)) = f (begins_shorter ws (suc q) at h B.before)
          past (inr (l, f)) = omega (arith, inside B)

-- ---- the literals that are found

before_args : {args : List ℕ} → Inner args → (rest : List ℕ) → before (args ++ rest) ≡ args ++ before rest
before_args none rest = refl
before_args (also {x = w} {xs = ws} i p) rest = before_inside w (ws ++ rest) (sort w) refl i ∙ ap (λ (l : List ℕ). w ∷ l) (before_args p rest)

literals_args : {args : List ℕ} → Inner args → (rest : List ℕ) → literals (args ++ rest) ≡ literals rest
literals_args none rest = refl
literals_args (also {x = w} {xs = ws} i p) rest = literals_inside w (ws ++ rest) (sort w) refl i ∙ literals_args p rest

before_flatten : {ls : List (List ℕ)} → All IsLiteral ls → before (flatten ls) ≡ []
unfolding flatten before
before_flatten none = refl
before_flatten (also {x = l} {xs = ls} L p) = rw L.parts (before_head L.top (L.args ++ flatten ls) L.top_head)

literals_flatten : {ls : List (List ℕ)} → All IsLiteral ls → literals (flatten ls) ≡ ls
unfolding flatten literals
literals_flatten none = refl
literals_flatten (also {x = l} {xs = ls} L p) =
    let first_key = L.args_inner in
    rw (
      L.parts,
      literals_head L.top (L.args ++ flatten ls) L.top_head,
      before_args first_key (flatten ls),
      before_flatten p,
      literals_args first_key (flatten ls),
      literals_flatten p,
      append-nil L.args,
    )

-- the claim
pub clause_laws : ClauseLaws
unfolding term
clause_laws =
    record {
      acceptance = λ ws. record {
        accepts = accepts ws;
        parts = λ n L. ap literals (sym L.joined) ∙ literals_flatten L.each;
        bad_length = bad_length ws;
        ninth = ninth ws;
        bad = λ at. (bad ws at, λ B. place ws B.0 at B.1 (shape ws) refl);
      };
      first = λ t rest h. first_shaped h.0 rest;
      start = found;
    }
