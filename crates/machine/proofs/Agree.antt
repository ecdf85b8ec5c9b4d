-- A replacement of variables that agrees with positions in the query.
use mathlib.Core.Path.{◌≡◌, refl, sym, ap, ◌∙◌}
use mathlib.Core.Bool.{Bool, true, false, cond}
use mathlib.Core.List.{List, [], ◌∷◌, ◌++◌}
use Prim.Native.Nat.{ℕ, zero, suc, ◌<◌}
use native.Mathlib.Decide.{dec_lt}
use native.Mathlib.Omega.{arith}
use lib.ListN.{length, get_or, get_or-append}
use lib.Dec.{eqb, ltb}
use borrow.Author.Tests.{lt-ltb, ltb-true}
use Rattle.clause.specs.Lists.{All}
use Rattle.clause.specs.Clause.{IsTerm, term_at}
use Rattle.machine.specs.Compile.{first}
use Rattle.clause.proofs.Lists.{all_get}
use Rattle.clause.proofs.Terms.{constant}
use Rattle.machine.proofs.Compares.{first_le, first_get, Consistent}

-- the terms that some variables stand for are those at some positions
pub data Agree (θ : ℕ → List ℕ) (d : List ℕ) : (vs ps : List ℕ) → Type 0 where
  no_more : Agree θ d [] []
  and_so : {v p : ℕ} {vs ps : List ℕ} → θ v ≡ term_at d p → Agree θ d vs ps → Agree θ d (v ∷ vs) (p ∷ ps)

pub agree_head : {θ : ℕ → List ℕ} {d : List ℕ} {v p : ℕ} {vs ps : List ℕ} → Agree θ d (v ∷ vs) (p ∷ ps) → θ v ≡ term_at d p
agree_head (and_so e a) = e

pub agree_tail : {θ : ℕ → List ℕ} {d : List ℕ} {v p : ℕ} {vs ps : List ℕ} → Agree θ d (v ∷ vs) (p ∷ ps) → Agree θ d vs ps
agree_tail (and_so e a) = a

pub agree_append : {θ : ℕ → List ℕ} {d vs vs' ps ps' : List ℕ} → Agree θ d vs ps → Agree θ d vs' ps' → Agree θ d (vs ++ vs') (ps ++ ps')
agree_append no_more b = b
agree_append (and_so e a) b = and_so e (agree_append a b)

module _ {θ : ℕ → List ℕ} {d : List ℕ} where
  pub agree_first : (vs ps vs' ps' : List ℕ) → length vs ≡ length ps → Agree θ d (vs ++ vs') (ps ++ ps') → Agree θ d vs ps
  agree_first [] [] vs' ps' e a = no_more
  agree_first [] (p ∷ ps) vs' ps' e a = absurd (omega arith)
  agree_first (v ∷ vs) [] vs' ps' e a = absurd (omega arith)
  agree_first (v ∷ vs) (p ∷ ps) vs' ps' e (and_so f a) = and_so f (agree_first vs ps vs' ps' (omega arith) a)

  pub agree_last : (vs ps vs' ps' : List ℕ) → length vs ≡ length ps → Agree θ d (vs ++ vs') (ps ++ ps') → Agree θ d vs' ps'
  agree_last [] [] vs' ps' e a = a
  agree_last [] (p ∷ ps) vs' ps' e a = absurd (omega arith)
  agree_last (v ∷ vs) [] vs' ps' e a = absurd (omega arith)
  agree_last (v ∷ vs) (p ∷ ps) vs' ps' e (and_so f a) = agree_last vs ps vs' ps' (omega arith) a

  pub agree_length : {vs ps : List ℕ} → Agree θ d vs ps → length vs ≡ length ps
  agree_length no_more = refl
  agree_length (and_so e a) = ap suc (agree_length a)

  pub agree_get : {vs ps : List ℕ} → Agree θ d vs ps → (k : ℕ) → k < length vs → θ (get_or vs k 0) ≡ term_at d (get_or ps k 0)
  agree_get no_more k h = absurd (omega arith)
  agree_get (and_so e a) zero h = e
  agree_get (and_so e a) (suc k) h = agree_get a k (omega arith)

  pub get_agree : (vs ps : List ℕ) → length vs ≡ length ps → ((k : ℕ) → k < length vs → θ (get_or vs k 0) ≡ term_at d (get_or ps k 0)) → Agree θ d vs ps
  get_agree [] [] e h = no_more
  get_agree [] (p ∷ ps) e h = absurd (omega arith)
  get_agree (v ∷ vs) [] e h = absurd (omega arith)
  get_agree (v ∷ vs) (p ∷ ps) e h = and_so (h 0 (omega arith)) (get_agree vs ps (omega arith) (λ k i. h (suc k) (omega arith)))

-- what a replacement agrees with is consistent
pub agree_consistent : {θ : ℕ → List ℕ} {d vs ps : List ℕ} → Agree θ d vs ps → (from : ℕ) → Consistent d vs ps from
agree_consistent {θ} {vs = vs} a from k i j =
    sym (agree_get a (first (get_or vs k 0) vs) (omega (arith, first_le vs k j))) ∙ ap θ (first_get vs k j) ∙ agree_get a k j

-- the replacement by the terms of the first puts, and by a symbol with no arguments elsewhere
unfoldable pub look : (d puts poss : List ℕ) → ℕ → List ℕ
look d puts poss v = cond (ltb (first v puts) (length puts)) (term_at d (get_or poss (first v puts) 0)) (0 ∷ [])

module _ (d puts poss : List ℕ) (e : length puts ≡ length poss) where
  pub look_term : All (λ p. IsTerm (term_at d p)) poss → (v : ℕ) → IsTerm (look d puts poss v)
  unfolding look
  look_term h v = go (ltb (first v puts) (length puts)) refl
    where
      go : (b : Bool) → ltb (first v puts) (length puts) ≡ b → IsTerm (cond b (term_at d (get_or poss (first v puts) 0)) (0 ∷ []))
      go true t = all_get poss h (first v puts) 0 (omega (arith, ltb-true (first v puts) (length puts) t))
      go false t = constant

  pub look_agrees : Consistent d puts poss 0 → Agree (look d puts poss) d puts poss
  unfolding look
  look_agrees h =
      get_agree puts poss e (λ k i. rw (lt-ltb (first (get_or puts k 0) puts) (length puts) (omega (arith, first_le puts k i))) (h k (omega arith) i))

-- a first put stays the first
pub first_append : (v : ℕ) (us vs : List ℕ) → first v us < length us → first v (us ++ vs) ≡ first v us
unfolding first
first_append v [] vs h = absurd (omega arith)
first_append v (u ∷ us) vs h = go (eqb u v) h (first_append v us vs)
  where
    go : (b : Bool) → cond b zero (suc (first v us)) < suc (length us) → (first v us < length us → first v (us ++ vs) ≡ first v us)
        → cond b zero (suc (first v (us ++ vs))) ≡ cond b zero (suc (first v us))
    go true h ih = refl
    go false h ih = ap suc (ih (omega arith))

-- a consistent beginning and a consistent end
pub consistent_more : (d puts poss vs ps : List ℕ) → length puts ≡ length poss → Consistent d puts poss 0
    → Consistent d (puts ++ vs) (poss ++ ps) (length puts) → Consistent d (puts ++ vs) (poss ++ ps) 0
consistent_more d puts poss vs ps e h g k i j = go (dec_lt k (length puts))
  where
    go : Dec (k < length puts) → term_at d (get_or (poss ++ ps) (first (get_or (puts ++ vs) k 0) (puts ++ vs)) 0) ≡ term_at d (get_or (poss ++ ps) k 0)
    go (no n) = g k (omega arith) j
    go (yes l) =
        let b : first (get_or puts k 0) puts < length puts = omega (arith, first_le puts k l) in
        let f = first (get_or puts k 0) puts in
        rw (
          get_or-append puts vs 0 k l,
          first_append (get_or puts k 0) puts vs b,
          get_or-append poss ps 0 k (omega arith),
          get_or-append poss ps 0 f (omega arith),
        )
        (h k (omega arith) l)
