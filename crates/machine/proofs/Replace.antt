-- Matching word by word finds the replacement of the variables, if there is one.
use mathlib.Core.Path.{◌≡◌, refl, sym, ap, ap₂, ◌∙◌}
use mathlib.Core.Logic.{◌≢◌}
use mathlib.Core.Option.{none, some, map, map-eq-some_iff}
use mathlib.Core.List.{List, [], ◌∷◌, ◌++◌, append_assoc}
use Prim.Native.Nat.{ℕ, suc, ◌+◌, ◌≤◌}
use native.Mathlib.Nat.{zero-add, add-zero}
use native.Mathlib.Numerals.{add-one, one-add}
use native.Mathlib.Decide.{ℕ_discrete}
use native.Mathlib.Omega.{arith}
use lib.ListN.{length, drop, get_or}
use lib.Seq.{drop-drop, get_or-drop}
use borrow.Author.Tests.{eq-eqb, ne_eqb}
use Rattle.clause.specs.Lists.{All, none as All-none, also}
use Rattle.clause.specs.Word.{arity, Sort, symbol, variable, head, wrong, sort-discrete, sort, if_variable}
use Rattle.clause.specs.Clause.{term, term_at, vars, Shaped, end, next_word, Inner, IsTerm, inst}
use Rattle.clause.proofs.Lists.{all_first, all_last}
use Rattle.clause.proofs.Skip.{first_shaped, rest_shaped, Split, split}
use Rattle.clause.proofs.Literals.{shaped_zero}
use Rattle.clause.proofs.Terms.{if-other, variable_arity, inst_variable, inst_other}
use Rattle.machine.proofs.Flat.{flat}
use Rattle.machine.proofs.Agree.{Agree, no_more, and_so, agree_head, agree_tail}
use Rattle.clause.specs.Positions.{jump}

-- what a variable adds
module _ (d : List ℕ) (w : ℕ) (ws : List ℕ) (p : ℕ) where
  vars_variable : sort w ≡ variable → vars (w ∷ ws) ≡ w ∷ vars ws
  unfolding vars
  vars_variable e = rw e

  flat_variable : sort w ≡ variable → flat d (w ∷ ws) p ≡ map (λ ps. p ∷ ps) (flat d ws (jump d 1 p))
  unfolding flat
  flat_variable e = rw e

  -- what another word adds
  vars_other : sort w ≢ variable → vars (w ∷ ws) ≡ vars ws
  unfolding vars
  vars_other n = simp (if-other, n)

  flat_hit : sort w ≢ variable → get_or d p 0 ≡ w → flat d (w ∷ ws) p ≡ flat d ws (suc p)
  unfolding flat
  flat_hit n e = simp (if-other, n, eq-eqb (get_or d p 0) w e)

  flat_miss : sort w ≢ variable → get_or d p 0 ≢ w → flat d (w ∷ ws) p ≡ none
  unfolding flat
  flat_miss n e = simp (if-other, n, ne_eqb (get_or d p 0) w e)

-- a word, and a whole term, at a position of d
module _ (d : List ℕ) (p : ℕ) (r : List ℕ) where
  word_at : (x : ℕ) → drop p d ≡ x ∷ r → get_or d p 0 ≡ x
  word_at x e = sym (rw add-zero at (get_or-drop p d 0 0)) ∙ ap (λ (l : List ℕ). get_or l 0 0) e

  word_next : (x : ℕ) → drop p d ≡ x ∷ r → drop (suc p) d ≡ r
  word_next x e = sym (rw add-one at (drop-drop 1 p d)) ∙ ap (λ (l : List ℕ). drop 1 l) e

  term_at_lem : {t : List ℕ} → Shaped 1 t → drop p d ≡ t ++ r → term_at d p ≡ t
  unfolding term
  term_at_lem h e = rw e (first_shaped h r)

  term_next : {t : List ℕ} → Shaped 1 t → drop p d ≡ t ++ r → drop (jump d 1 p) d ≡ r
  unfolding jump
  term_next h e = rw (← drop-drop, e) (rest_shaped h r)

-- the words ws, matched at p, stand for the words u, with the variables at the positions ps
pub data Match (d : List ℕ) : (ws u : List ℕ) (p : ℕ) (ps : List ℕ) → Type 0 where
  m_none : {p : ℕ} → Match d [] [] p []
  m_variable : {w p : ℕ} {ws t u ps : List ℕ} → sort w ≡ variable → Shaped 1 t → term_at d p ≡ t → Match d ws u (jump d 1 p) ps
      → Match d (w ∷ ws) (t ++ u) p (p ∷ ps)
  m_other : {w p : ℕ} {ws u ps : List ℕ} → sort w ≢ variable → Match d ws u (suc p) ps → Match d (w ∷ ws) (w ∷ u) p ps

-- a match and a replacement that agrees with it
pub match_inst : {θ : ℕ → List ℕ} {d ws u ps : List ℕ} {p : ℕ} → Match d ws u p ps → Agree θ d (vars ws) ps → inst θ ws ≡ u
unfolding inst
match_inst m_none a = refl
match_inst {θ} {d} (m_variable {w} {p} {ws} e h t m) a =
    let a' = rw (vars_variable d w ws p e) at a in
    rw (inst_variable θ w ws e) (ap₂ ◌++◌ (agree_head a' ∙ t) (match_inst m (agree_tail a')))
match_inst {θ} {d} (m_other {w} {p} {ws} n m) a =
    rw (inst_other θ w ws n) (ap (λ (l : List ℕ). w ∷ l) (match_inst m (rw (vars_other d w ws p n) at a)))

pub match_length : {d ws u ps : List ℕ} {p : ℕ} → Match d ws u p ps → length (vars ws) ≡ length ps
unfolding vars
match_length m_none = refl
match_length (m_variable e h t m) = rw e (ap suc (match_length m))
match_length (m_other n m) = simp (if-other, n) (match_length m)

pub vars_append : (ws us : List ℕ) → vars (ws ++ us) ≡ vars ws ++ vars us
unfolding vars
vars_append [] us = refl
vars_append (w ∷ ws) us =
    ap (λ (l : List ℕ). if_variable (sort w) (w ∷ []) [] ++ l) (vars_append ws us) ∙ sym (append_assoc (if_variable (sort w) (w ∷ []) []) (vars ws) (vars us))

pub length_vars : (ws : List ℕ) → length (vars ws) ≤ length ws
unfolding vars
length_vars [] = omega arith
length_vars (w ∷ ws) = go (sort w) (length_vars ws)
  where
    go : (s : Sort) → length (vars ws) ≤ length ws → length (if_variable s (w ∷ []) [] ++ vars ws) ≤ suc (length ws)
    go symbol h = omega arith
    go variable h = omega arith
    go head h = omega arith
    go wrong h = omega arith

pub match_terms : {d ws u ps : List ℕ} {p : ℕ} → Match d ws u p ps → Inner u → All (λ q. IsTerm (term_at d q)) ps
match_terms m_none i = All-none
match_terms (m_variable {p = p} {t = t} e h q m) i = also {x = p} (rw q (h, all_first t _ i)) (match_terms m (all_last t _ i))
match_terms (m_other n m) (also j i) = match_terms m i

-- the first word of some terms
record Uncons (k : ℕ) (u : List ℕ) : Type 0 where
  top : ℕ
  below : List ℕ
  parts : u ≡ top ∷ below
  below_shaped : Shaped (arity top + k) below

uncons : {k : ℕ} {u : List ℕ} → Shaped (suc k) u → Uncons k u
uncons (next_word {w} {k} {ws} h) = record { top = w; below = ws; parts = refl; below_shaped = h }

-- matching word by word finds a match
module _ (d : List ℕ) where
  pub flat_match : {k : ℕ} {ws : List ℕ} → Shaped k ws → (u : List ℕ) (p : ℕ) (ps r : List ℕ) → Shaped k u → drop p d ≡ u ++ r → flat d ws p ≡ some ps
      → Match d ws u p ps
  unfolding flat
  flat_match end u p ps r g e f =
      let no_u : u ≡ [] = shaped_zero g refl in
      let no_ps : ps ≡ [] = cc in
      rw (no_u, no_ps) m_none
  flat_match (next_word {w} {k} {ws} h) u p ps r g e f = go (sort-discrete (sort w) variable) (flat_match h)
    where
      IH : Type 0
      IH = (u : List ℕ) (p : ℕ) (ps r : List ℕ) → Shaped (arity w + k) u → drop p d ≡ u ++ r → flat d ws p ≡ some ps → Match d ws u p ps

      hit : sort w ≢ variable → IH → Dec (get_or d p 0 ≡ w) → Match d (w ∷ ws) u p ps
      hit n ih (no m) = cc (flat_miss d w ws p n m)
      hit n ih (yes m) =
          let c = uncons g in
          let e' : drop p d ≡ c.top ∷ (c.below ++ r) = rw c.parts at e in
          let same : c.top ≡ w = sym (word_at d p _ _ e') ∙ m in
          let parts : u ≡ w ∷ c.below = c.parts ∙ ap (λ (x : ℕ). x ∷ c.below) same in
          rw parts (m_other n (ih c.below (suc p) ps r (rw same at c.below_shaped) (word_next d p _ _ e') (sym (flat_hit d w ws p n m) ∙ f)))

      taken : sort w ≡ variable → IH → Split 1 k u → Match d (w ∷ ws) u p ps
      taken v ih s =
          let e' : drop p d ≡ s.front ++ (s.back ++ r) = e ∙ rw s.joined (append_assoc s.front s.back r) in
          let (qs, found, is) = (map-eq-some_iff _ (flat d ws (jump d 1 p))).0 (sym (flat_variable d w ws p v) ∙ f) in
          let back : Shaped (arity w + k) s.back = rw (variable_arity w v, zero-add) s.back_shaped in
          let rest = ih s.back (jump d 1 p) qs r back (term_next d p _ s.front_shaped e') found in
          rw (s.joined, ← is) (m_variable v s.front_shaped (term_at_lem d p _ s.front_shaped e') rest)

      go : Dec (sort w ≡ variable) → IH → Match d (w ∷ ws) u p ps
      go (no n) ih = hit n ih (ℕ_discrete (get_or d p 0) w)
      go (yes v) ih = taken v ih (split 1 k (rw (← one-add) at g))

  -- a replacement that makes the words those at p is found
  module _ (θ : ℕ → List ℕ) (terms : (v : ℕ) → IsTerm (θ v)) where
    pub inst_flat : (ws : List ℕ) (p : ℕ) (r : List ℕ) → drop p d ≡ inst θ ws ++ r → (ps : List ℕ) × (flat d ws p ≡ some ps) × Agree θ d (vars ws) ps
    unfolding flat inst vars
    inst_flat [] p r e = ([], refl, no_more)
    inst_flat (w ∷ ws) p r e = go (sort-discrete (sort w) variable) (inst_flat ws)
      where
        IH : Type 0
        IH = (p : ℕ) (r : List ℕ) → drop p d ≡ inst θ ws ++ r → (ps : List ℕ) × (flat d ws p ≡ some ps) × Agree θ d (vars ws) ps

        go : Dec (sort w ≡ variable) → IH → (ps : List ℕ) × (flat d (w ∷ ws) p ≡ some ps) × Agree θ d (vars (w ∷ ws)) ps
        go (yes v) ih =
            let e' : drop p d ≡ θ w ++ (inst θ ws ++ r) = e ∙ rw (inst_variable θ w ws v) (append_assoc (θ w) (inst θ ws) r) in
            let (qs, f, a) = ih (jump d 1 p) r (term_next d p _ (terms w).0 e') in
            (p ∷ qs, rw (flat_variable d w ws p v, f), rw (vars_variable d w ws p v) (and_so (sym (term_at_lem d p _ (terms w).0 e')) a))
        go (no n) ih =
            let e' : drop p d ≡ w ∷ (inst θ ws ++ r) = e ∙ rw (inst_other θ w ws n) in
            let (qs, f, a) = ih (suc p) r (word_next d p _ w e') in
            (qs, flat_hit d w ws p n (word_at d p _ w e') ∙ f, rw (vars_other d w ws p n) a)
