-- The descent by keys: behind words, at a word, at the words of a forest.
use mathlib.Core.Path.{◌≡◌, refl, sym, ap, ap₂, fun_ext, ◌∙◌}
use mathlib.Core.List.{List, [], ◌∷◌, ◌++◌, append_assoc}
use mathlib.Core.Option.{none}
use Prim.Native.Nat.{ℕ, suc, ◌+◌, ◌-◌, ◌^◌, ◌<◌}
use native.Mathlib.Nat.{zero-add, add_assoc}
use native.Mathlib.Omega.{arith}
use lib.ListN.{length}
use Rattle.tree.specs.Forest.{Forest, node, size, word, encode}
use Rattle.tree.specs.Laid.{key_of, extent_of}
use Rattle.tree.specs.Inner.Merge.{Descent, stop, behind, past, below, descend}
use Rattle.tree.proofs.Keys.{compare_less, compare_same, compare_more}
use Rattle.tree.proofs.Words.{first_key_lem, first_below, first_right, length_encode}

-- ---- behind words

-- the same with another place and other raised words
abbrev moved : ℕ → (ℕ → List ℕ) → Descent → Descent
moved k f d = record { place = k; left = d.left; holder = d.holder; raised = f }

pub behind_behind : (a b : ℕ) (xs ys : ℕ → List ℕ) (d : Descent) → behind a xs (behind b ys d) ≡ behind (a + b) (λ r. xs r ++ ys r) d
behind_behind a b xs ys d =
    ap₂ (λ (k : ℕ) (f : ℕ → List ℕ). moved k f d) (sym (add_assoc a b d.place)) (fun_ext λ r. sym (append_assoc (xs r) (ys r) (d.raised r)))

pub behind_none : (d : Descent) → d ≡ behind 0 (λ r. []) d
behind_none d = ap (λ (k : ℕ). moved k d.raised d) (sym (zero-add d.place))

pub past_behind : (w k : ℕ) (xs : List ℕ) (d : Descent) → past w (behind k (λ r. xs) d) ≡ behind (suc k) (λ r. w ∷ xs) d
past_behind w k xs d =
    let one : 1 + k ≡ suc k = omega arith in behind_behind 1 k (λ r. w ∷ []) (λ r. xs) d ∙ ap (λ (n : ℕ). behind n (λ r. w ∷ xs) d) one

descend_seam : (xs ws : List ℕ) (e : ℕ) (cs : List ℕ) → descend (xs ++ ws) (length xs) e cs ≡ behind (length xs) (λ r. xs) (descend ws 0 e cs)
descend_seam [] ws e cs = behind_none (descend ws 0 e cs)
descend_seam (x ∷ xs) ws e cs = ap (past x) (descend_seam xs ws e cs) ∙ past_behind x (length xs) xs (descend ws 0 e cs)

pub descend_skip : (xs ws : List ℕ) (s e : ℕ) (cs : List ℕ) → length xs ≡ s → descend (xs ++ ws) s e cs ≡ behind s (λ r. xs) (descend ws 0 e cs)
descend_skip xs ws s e cs h = rw (← h) (descend_seam xs ws e cs)

-- ---- at the end of a row, and at a word of it

pub descend_end : (ws cs : List ℕ) → descend ws 0 0 cs ≡ stop ws cs none
descend_end [] cs = refl
descend_end (w ∷ ws) cs = refl

module _ (w : ℕ) (ws : List ℕ) (e c : ℕ) (cs : List ℕ) where
  pub descend_less : c < key_of w → descend (w ∷ ws) 0 (suc e) (c ∷ cs) ≡ stop (w ∷ ws) (c ∷ cs) none
  descend_less u = rw (compare_less c (key_of w) u, descend)

  pub descend_same : c ≡ key_of w → descend (w ∷ ws) 0 (suc e) (c ∷ cs) ≡ below w (descend ws 0 (extent_of w - 1) cs)
  descend_same u = rw (compare_same c (key_of w) u, descend)

  pub descend_more : key_of w < c → descend (w ∷ ws) 0 (suc e) (c ∷ cs) ≡ past w (descend ws (extent_of w - 1) (suc e - extent_of w) (c ∷ cs))
  descend_more u = rw (compare_more c (key_of w) u, descend)

-- ---- at the words of a node

module _ (c i : ℕ) (cs : List ℕ) (B R : Forest) (ws : List ℕ) (h : suc (size B) < 2 ^ 28) where
  abbrev first : ℕ
  first = word i (suc (size B))

  abbrev others : List ℕ
  others = (encode B ++ encode R) ++ ws

  pub descend_before : c < i
      → descend (encode (node i B R) ++ ws) 0 (size (node i B R)) (c ∷ cs) ≡ stop (encode (node i B R) ++ ws) (c ∷ cs) none
  descend_before u = descend_less first others (size B + size R) c cs (rw (first_key_lem i B h) u)

  pub descend_inside : c ≡ i
      → descend (encode (node i B R) ++ ws) 0 (size (node i B R)) (c ∷ cs) ≡ below first (descend (encode B ++ (encode R ++ ws)) 0 (size B) cs)
  descend_inside u =
      descend_same first others (size B + size R) c cs (rw (first_key_lem i B h) u)
      ∙ ap₂ (λ (l : List ℕ) (k : ℕ). below first (descend l 0 k cs)) (append_assoc (encode B) (encode R) ws) (first_below i B h)

  pub descend_after : i < c → descend (encode (node i B R) ++ ws) 0 (size (node i B R)) (c ∷ cs)
      ≡ behind (suc (size B)) (λ r. first ∷ encode B) (descend (encode R ++ ws) 0 (size R) (c ∷ cs))
  descend_after u =
      let d = descend (encode R ++ ws) 0 (size R) (c ∷ cs) in
      let skipped : descend others (extent_of first - 1) (suc (size B + size R) - extent_of first) (c ∷ cs) ≡ behind (size B) (λ r. encode B) d =
      rw (first_below i B h, first_right i B R h, append_assoc (encode B) (encode R) ws)
      (descend_skip (encode B) (encode R ++ ws) (size B) (size R) (c ∷ cs) (length_encode B)) in
      descend_more first others (size B + size R) c cs (rw (first_key_lem i B h) u) ∙ ap (past first) skipped ∙ past_behind first (size B) (encode B) d
