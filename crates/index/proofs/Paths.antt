-- The heads of a tree, by its paths: every sequence begins with First and the Check of the clause's first word.
use Rattle.std.specs.Prelude.{Err, Ok, Result, ℕ}
use mathlib.Core.Path.{◌≡◌, refl, sym, ap, ◌∙◌}
use mathlib.Core.Logic.{◌≢◌}
use mathlib.Core.Bool.{Bool, true, false, cond}
use mathlib.Core.List.{List, [], ◌∷◌}
use Prim.Native.Nat.{ℕ, suc, ◌+◌, ◌≤◌, ◌<◌}
use native.Mathlib.Omega.{arith}
use native.Mathlib.Decide.{ℕ_discrete}
use lib.Dec.{ltb}
use lib.ListN.{length, drop}
use Rattle.clause.specs.Lists.{also}
use Rattle.clause.specs.Word.{Sort, symbol, variable, head, wrong, sort, arity, Words}
use Rattle.clause.specs.Clause.{Accepted, max_words, shape, scan, scan_word}
use Rattle.clause.specs.declared.Fault.TheVariants.{BadLength}
use Rattle.machine.specs.Instr.{First, instr, key}
use Rattle.machine.specs.Compile.{keys, sequence, sequence_from, opening, act}
use Rattle.tree.specs.Keys.{next_key}
use Rattle.tree.specs.Forest.{Forest, empty, node, size, Formed, Has, deeper, further}
use Rattle.tree.proofs.Paths.{front, some_path, Through, ends, dives, passes, through, has_none, has_below}
use Rattle.index.specs.Inner.Heads.{entry_count, place_of, top_row, head_at, Checks, Headed, nothing, headed}
use Rattle.index.proofs.Places.{place_here, place_later}
use Rattle.clause.specs.declared.Fault.{Fault}

-- ---- a clause's sequence

-- the first word of an accepted clause is a head
module _ (a n : ℕ) (rest : ℕ → ℕ → ℕ → Result ℕ Fault) where
  only_head : (b : Bool) (s : Sort) → cond b (Err BadLength) (scan_word s a 0 0 0 rest) ≡ Ok n → s ≡ head
  unfolding scan_word
  only_head true s e = cc
  only_head false symbol e = cc
  only_head false variable e = cc
  only_head false head e = refl
  only_head false wrong e = cc

first_head : (w : ℕ) (ws : List ℕ) → Accepted (w ∷ ws) → sort w ≡ head
unfolding shape scan
first_head w ws A = only_head (arity w) A.0 (scan ws) (ltb max_words (length (w ∷ ws))) (sort w) A.1

-- what it is compiled to begins with First and its Check
pub record Begins (c : List ℕ) : Type 0 where
  pub word : ℕ
  pub small : word < entry_count
  pub rest : List ℕ
  pub first : (ws : List ℕ) × (c ≡ word ∷ ws)
  pub same : keys c ≡ key First ∷ (instr 7 word ∷ rest)

pub begins : (c : List ℕ) → Accepted c → Words c → Begins c
unfolding shape sequence sequence_from opening act key
begins [] A w = let e = A.1 in cc
begins (w ∷ ws) A (also s l) = record { word = w; small = s; rest = drop 2 (keys (w ∷ ws)); first = (ws, refl); same = rw (first_head w ws A) }

-- ---- rows of Checks

-- a row whose paths all begin with Checks
pub checks_of : (b : ℕ) (B : Forest) → Formed b B
    → ((cs : List ℕ) (n : ℕ) → Has B cs n → (w : ℕ) × (w < entry_count) × (front cs n ≡ instr 7 w)) → Checks B
checks_of b empty f h = tt
checks_of b (node i B R) f h =
    let r = some_path i B R f in
    let q = h r.0 r.1 r.3 in
    let e : i ≡ instr 7 q.0 = sym r.2 ∙ q.2 in
    (omega (arith, e, q.1), omega (arith, e, q.1), checks_of (next_key i) R f.rest (λ cs n p. h cs n (further p)))

-- ---- places by paths

-- a key that a path begins with has a place
pub path_placed : {cs : List ℕ} {n : ℕ} (k p : ℕ) (B : Forest) → 1 ≤ p → Has B cs n → front cs n ≡ k → place_of k p B 0 ≢ 0
path_placed k p empty l t e z = has_none t
path_placed {cs} {n} k p (node i B R) l t e z = go (ℕ_discrete i k) (through t) (λ u. path_placed k (p + suc (size B)) R (omega arith) u e)
  where
    go : Dec (i ≡ k) → Through i B R cs n → (Has R cs n → place_of k (p + suc (size B)) R 0 ≢ 0) → ⊥
    go (yes f) u ih = omega (arith, l, sym (place_here k p i B R 0 f) ∙ z)
    go (no f) (ends x y m) ih = f (sym m ∙ sym (ap (λ (ds : List ℕ). front ds n) y) ∙ e)
    go (no f) (dives ds y u) ih = f (sym (ap (λ (ds : List ℕ). front ds n) y) ∙ e)
    go (no f) (passes u) ih = ih u (sym (place_later k p i B R 0 f) ∙ z)

-- a key that has a place begins a path
pub placed_path : (b k p : ℕ) (B : Forest) → Formed b B → place_of k p B 0 ≢ 0 → (cs : List ℕ) × (n : ℕ) × (front cs n ≡ k) × Has B cs n
unfolding place_of
placed_path b k p empty f z = absurd (z refl)
placed_path b k p (node i B R) f z = go (ℕ_discrete i k) (placed_path (next_key i) k (p + suc (size B)) R f.rest)
  where
    go : Dec (i ≡ k) → (place_of k (p + suc (size B)) R 0 ≢ 0 → (cs : List ℕ) × (n : ℕ) × (front cs n ≡ k) × Has R cs n)
        → (cs : List ℕ) × (n : ℕ) × (front cs n ≡ k) × Has (node i B R) cs n
    go (yes e) ih = let r = some_path i B R f in (r.0, r.1, r.2 ∙ e, r.3)
    go (no e) ih = let r = ih (λ q. z (place_later k p i B R 0 e ∙ q)) in (r.0, r.1, r.2, further r.3)

-- a tree with more paths has all the heads
pub more_heads : {F G : Forest} → Headed F → Headed G → Formed 0 F → Formed 0 G → ((cs : List ℕ) (n : ℕ) → Has F cs n → Has G cs n)
    → (h : ℕ) → head_at G h ≡ 0 → head_at F h ≡ 0
unfolding top_row place_of
more_heads nothing g f f' w h z = refl
more_heads (headed {B} c) nothing f f' w h z = go (ℕ_discrete (place_of (instr 7 h) 1 B 0) 0)
  where
    go : Dec (place_of (instr 7 h) 1 B 0 ≡ 0) → place_of (instr 7 h) 1 B 0 ≡ 0
    go (yes e) = e
    go (no e) = let r = placed_path 0 (instr 7 h) 1 B f.below e in absurd (has_none (w (key First ∷ r.0) r.1 (deeper r.3)))
more_heads (headed {B} c) (headed {B = C} d) f f' w h z = go (ℕ_discrete (place_of (instr 7 h) 1 B 0) 0)
  where
    go : Dec (place_of (instr 7 h) 1 B 0 ≡ 0) → place_of (instr 7 h) 1 B 0 ≡ 0
    go (yes e) = e
    go (no e) =
        let r = placed_path 0 (instr 7 h) 1 B f.below e in
        absurd (path_placed (instr 7 h) 1 C (omega arith) (has_below f' refl (w (key First ∷ r.0) r.1 (deeper r.3))) r.2 z)
