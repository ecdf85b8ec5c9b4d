-- The literals of a clause fit chosen literals of the query exactly if a replacement makes each the chosen one.
use mathlib.Core.Path.{◌≡◌, refl, sym, ap, ap₂, ◌∙◌}
use mathlib.Core.Logic.{◌≢◌}
use mathlib.Core.Option.{some}
use mathlib.Core.List.{List, [], ◌∷◌, ◌++◌, map, flatten, append-nil, append_assoc, nil≢cons, cons≢nil, head-eq_of_cons-eq, tail-eq_of_cons-eq}
use Prim.Native.Nat.{ℕ, suc, ◌<◌}
use native.Mathlib.Omega.{arith}
use lib.ListN.{length, get_or, length-append}
use Rattle.clause.specs.Lists.{All, also}
use Rattle.clause.specs.Word.{variable, sort}
use Rattle.clause.specs.Clause.{literals, IsTerm, inst, start_of, term_at, vars}
use Rattle.clause.proofs.Lists.{all_append, all_get}
use Rattle.clause.specs.Accepted.{IsLiteral}
use Rattle.clause.proofs.Literals.{literal_shaped, Clause}
use Rattle.clause.proofs.Starts.{found}
use Rattle.machine.proofs.Flat.{flat}
use Rattle.machine.proofs.Compares.{Consistent}
use Rattle.machine.proofs.Agree.{Agree, agree_append, agree_first, agree_last, agree_consistent, look, look_term, look_agrees, consistent_more}
use Rattle.machine.proofs.Replace.{vars_append, Match, m_variable, m_other, match_inst, match_length, match_terms, flat_match, inst_flat}

-- the words of literal j
abbrev pub chosen : List ℕ → ℕ → List ℕ
chosen d j = get_or (literals d) j []

-- each literal matches the chosen one, the variables standing for the same terms throughout
pub data FitsChosen (d : List ℕ) : (ls : List (List ℕ)) (js puts poss : List ℕ) → Type 0 where
  fits_none : {puts poss : List ℕ} → FitsChosen d [] [] puts poss
  fits_also : {l : List ℕ} {ls : List (List ℕ)} {j : ℕ} {js puts poss ps : List ℕ} → flat d l (start_of d j) ≡ some ps
      → Consistent d (puts ++ vars l) (poss ++ ps) (length puts) → FitsChosen d ls js (puts ++ vars l) (poss ++ ps) → FitsChosen d (l ∷ ls) (j ∷ js) puts poss

-- the positions of all variables in the end
unfoldable pub places : {d : List ℕ} {ls : List (List ℕ)} {js puts poss : List ℕ} → FitsChosen d ls js puts poss → List ℕ
places (fits_none {poss = poss}) = poss
places (fits_also f c F) = places F

-- the head of a literal is matched with a head
record Below (d : List ℕ) (w : ℕ) (ws u : List ℕ) (p : ℕ) (ps : List ℕ) : Type 0 where
  below : List ℕ
  parts : u ≡ w ∷ below
  matched : Match d ws below (suc p) ps

match_below : {d ws u ps : List ℕ} {w p : ℕ} → sort w ≢ variable → Match d (w ∷ ws) u p ps → Below d w ws u p ps
match_below n (m_variable e h t m) = absurd (n e)
match_below n (m_other {u = u} n' m) = record { below = u; parts = refl; matched = m }

module _ (d : List ℕ) (D : Clause d) where
  -- a literal of the clause against literal j
  module _ (l : List ℕ) (L : IsLiteral l) (j : ℕ) (h : j < length (literals d)) where
    pub literal_match : (ps : List ℕ) → flat d l (start_of d j) ≡ some ps → Match d l (chosen d j) (start_of d j) ps
    literal_match ps e =
        let (r, f) = found d j h in
        flat_match d (literal_shaped L) (chosen d j) (start_of d j) ps r (literal_shaped (all_get (literals d) D.all j [] h)) f e

    literal_terms : (ps : List ℕ) → Match d l (chosen d j) (start_of d j) ps → All (λ p. IsTerm (term_at d p)) ps
    literal_terms ps m =
        let C = all_get (literals d) D.all j [] h in
        let not_variable : sort L.top ≢ variable = λ e. cc L.top_head in
        let b = match_below not_variable (rw L.parts at m) in
        match_terms b.matched (rw (tail-eq_of_cons-eq (sym b.parts ∙ C.parts)) C.args_inner)

  -- a replacement that makes the literals the chosen ones, and agrees with the positions so far
  pub record Replaces (ls : List (List ℕ)) (js puts poss : List ℕ) : Type 0 where
    pub replace : ℕ → List ℕ
    pub terms : (v : ℕ) → IsTerm (replace v)
    pub agrees : Agree replace d puts poss
    pub made : map (inst replace) ls ≡ map (chosen d) js

  pub fits_replaces : {ls : List (List ℕ)} {js puts poss : List ℕ} (F : FitsChosen d ls js puts poss) → All IsLiteral ls
      → All (λ j. j < length (literals d)) js
      → length puts ≡ length poss → Consistent d puts poss 0 → All (λ p. IsTerm (term_at d p)) poss
      → (R : Replaces ls js puts poss) × Agree R.replace d (puts ++ vars (flatten ls)) (places F)
  unfolding places flatten vars
  fits_replaces {puts = puts} {poss} fits_none L J e c t = (
    record { replace = look d puts poss; terms = look_term d puts poss e t; agrees = look_agrees d puts poss e c; made = refl },
    rw append-nil (look_agrees d puts poss e c),
  )
  fits_replaces {puts = puts} {poss} (fits_also {l} {ls} {j} {js} {ps = ps} f g F) (also L Ls) (also J Js) e c t =
      let m = literal_match l L j J ps f in
      let e' : length (puts ++ vars l) ≡ length (poss ++ ps) = simp length-append (omega (arith, match_length m)) in
      let (R, a) = fits_replaces F Ls Js e' (consistent_more d puts poss (vars l) ps e c g) (all_append t (literal_terms l L j J ps m)) in (
        record {
          replace = R.replace;
          terms = R.terms;
          agrees = agree_first puts poss (vars l) ps e R.agrees;
          made = ap₂ ◌∷◌ (match_inst m (agree_last puts poss (vars l) ps e R.agrees)) R.made;
        },
        rw (vars_append, ← append_assoc) a,
      )

  pub replaces_fits : (ls : List (List ℕ)) (js puts poss : List ℕ) → All (λ j. j < length (literals d)) js → Replaces ls js puts poss
      → FitsChosen d ls js puts poss
  replaces_fits [] [] puts poss J R = fits_none
  replaces_fits [] (j ∷ js) puts poss J R = absurd (nil≢cons R.made)
  replaces_fits (l ∷ ls) [] puts poss J R = absurd (cons≢nil R.made)
  replaces_fits (l ∷ ls) (j ∷ js) puts poss (also J Js) R =
      let (r, f) = found d j J in
      let (ps, g, a) = inst_flat d R.replace R.terms l (start_of d j) r (f ∙ ap (λ (u : List ℕ). u ++ r) (sym (head-eq_of_cons-eq R.made))) in
      let b = agree_append R.agrees a in
      fits_also g (agree_consistent b (length puts))
      (replaces_fits ls js (puts ++ vars l) (poss ++ ps) Js (record { replace = R.replace; terms = R.terms; agrees = b; made = tail-eq_of_cons-eq R.made }))
