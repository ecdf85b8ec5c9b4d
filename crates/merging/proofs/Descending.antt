-- The loops that follow keys down the words W, to find a place and to raise the extents on the way: their invariant, and each turn.
use mathlib.Core.Path.{◌≡◌, refl, sym, ap, ◌∙◌}
use mathlib.Core.Logic.{◌⊎◌, inl, inr}
use mathlib.Core.Option.{Option, none, some}
use mathlib.Core.List.{List, [], ◌∷◌, ◌++◌, append_assoc}
use Prim.Native.Nat.{ℕ, suc, ◌+◌, ◌-◌, ◌≤◌, ◌<◌}
use native.Mathlib.Nat.{add-zero}
use native.Mathlib.Numerals.{add-one}
use native.Mathlib.Omega.{arith}
use lib.ListN.{length, take, drop, get_or, set, length-append, length-drop, length-set, take-append-drop, drop_of_length-le}
use lib.Seq.{drop-cons, drop-drop, length-take-le, get_or-append_seam, set_at, append_snoc}
use borrow.Author.Tests.{lt-ltb}
use Rattle.tree.specs.Keys.{first_key, next_key}
use Rattle.tree.specs.Forest.{word_limit, success}
use Rattle.tree.specs.Laid.{most_words}
use Rattle.tree.specs.Inner.Merge.{Descent, stop, behind, descend, from_top}
use Rattle.merging.specs.Inner.Inserting.{Nested, LeadsTo, Descending, holder_of}
use Rattle.std.specs.Prelude as std
use Rattle.tree.proofs.Keys.{Tri, less, same, more, tri}
use Rattle.tree.proofs.Grow.{rows_drop}
use Rattle.tree.proofs.Descend.{behind_none, behind_behind}
use Rattle.tree.proofs.Hops.{key_at, extent_at, Firm, firm_at, descend_stop, descend_dive, descend_hop, descend_found, descend_done}

-- a key that is a Success
pub is_success : (x k : ℕ) → x ≡ k → x < first_key → success k ≡ some x
is_success x k e h = rw (lt-ltb k first_key (omega arith), success) (ap some (sym e))

-- ---- the invariants

-- the words were W and are U: those before p are raised by r, those from p on are as they were
pub record Raising (W cs : List ℕ) (r : ℕ) (U : List ℕ) (p t k : ℕ) : Type 0 where
  pub on : Descending W cs p t k
  pub many : length U ≡ length W
  pub words : U ≡ on.done r ++ drop p W

pub descending_start : (W cs : List ℕ) → Nested W → Descending W cs 0 (length W) 0
descending_start W cs r =
    let all : length W - 0 ≡ length W = omega arith in
    record {
      order = omega arith;
      room = omega arith;
      keys = omega arith;
      bound = 0;
      in_row = rw all r.top;
      in_rows = r.inside;
      done = λ r. [];
      long = λ r. refl;
      goes = rw all (behind_none (from_top W cs));
    }

pub raising_start : (W cs : List ℕ) (r : ℕ) → Nested W → Raising W cs r W 0 (length W) 0
unfolding descending_start
raising_start W cs r u = record { on = descending_start W cs u; many = refl; words = refl }

-- ---- a turn

module _ {W cs : List ℕ} {p t k : ℕ} (s : Descending W cs p t k) where
  -- what is ahead
  abbrev onward : Descent
  onward = descend (drop p W) 0 (t - p) (drop k cs)

  module _ (l : p < t) where
    firm : Firm W p t
    firm = firm_at W p t s.bound s.room l s.in_row (rows_drop p W s.in_rows)

    pub firm_some : 0 < extent_at W p
    firm_some = firm.some

    pub firm_fits : p + extent_at W p ≤ t
    firm_fits = omega (arith, firm.fits)

    pub firm_small : (r : ℕ) → r < most_words → get_or W p 0 + r < word_limit
    firm_small r h = omega (arith, firm.small)

    module _ (m : k < length cs) where
      here : drop k cs ≡ get_or cs k 0 ∷ drop (suc k) cs
      here = drop-cons cs k 0 m

      -- the descent goes on behind further words
      onto : (n : ℕ) (xs : ℕ → List ℕ) (d : Descent) → descend (drop p W) 0 (t - p) (get_or cs k 0 ∷ drop (suc k) cs) ≡ behind n xs d
          → from_top W cs ≡ behind (p + n) (λ r. s.done r ++ xs r) d
      onto n xs d e =
          s.goes ∙ ap (λ (l : List ℕ). behind p s.done (descend (drop p W) 0 (t - p) l)) here
          ∙ ap (behind p s.done) e ∙ behind_behind p n s.done xs d

      -- the next key comes before the word at p
      pub at_stop : get_or cs k 0 < key_at W p → onward ≡ stop (drop p W) (drop k cs) none
      at_stop u = rw here (descend_stop W p t s.room l (get_or cs k 0) (drop (suc k) cs) u)

      -- it is the key of that word
      dive : get_or cs k 0 ≡ key_at W p → Descending W cs (suc p) (p + extent_at W p) (suc k)
      dive u =
          let w = get_or W p 0 in
          let d = descend (drop (suc p) W) 0 (p + extent_at W p - suc p) (drop (suc k) cs) in
          record {
            order = omega (arith, firm_some);
            room = omega (arith, firm_fits, s.room);
            keys = omega arith;
            bound = 0;
            in_row = firm.below;
            in_rows = s.in_rows;
            done = λ r. s.done r ++ ((w + r) ∷ []);
            long = λ r. rw (length-append (s.done r) ((w + r) ∷ []), s.long r) (omega arith);
            goes =
                onto 1 (λ r. (w + r) ∷ []) d (descend_dive W p t s.room l (get_or cs k 0) (drop (suc k) cs) u)
                ∙ ap (λ (n : ℕ). behind n (λ r. s.done r ++ ((w + r) ∷ [])) d) (add-one p);
          }

      pub descending_dive : (x : ℕ) → x ≡ extent_at W p → get_or cs k 0 ≡ key_at W p → Descending W cs (p + 1) (p + x) (k + 1)
      descending_dive x e u = rw (add-one p, add-one k, e) (dive u)

      -- it comes after that word
      hop : key_at W p < get_or cs k 0 → Descending W cs (p + extent_at W p) t k
      hop u =
          let x = extent_at W p in
          let over : length (take x (drop p W)) ≡ x = length-take-le x (drop p W) (rw (length-drop p W) (omega (arith, firm_fits, s.room))) in
          record {
            order = firm_fits;
            room = s.room;
            keys = s.keys;
            bound = next_key (key_at W p);
            in_row = firm.right;
            in_rows = s.in_rows;
            done = λ r. s.done r ++ take x (drop p W);
            long = λ r. rw (length-append (s.done r) (take x (drop p W)), s.long r, over);
            goes =
                onto x (λ r. take x (drop p W)) (descend (drop (p + x) W) 0 (t - (p + x)) (get_or cs k 0 ∷ drop (suc k) cs))
                (descend_hop W p t s.room l (get_or cs k 0) (drop (suc k) cs) u firm.some firm.fits)
                ∙ ap (λ (l : List ℕ). behind (p + x) (λ r. s.done r ++ take x (drop p W)) (descend (drop (p + x) W) 0 (t - (p + x)) l)) (sym here);
          }

      pub descending_hop : (x : ℕ) → x ≡ extent_at W p → key_at W p < get_or cs k 0 → Descending W cs (p + x) t k
      descending_hop x e u = rw e (hop u)

  -- the row is at its end, or all keys have a word
  pub at_end : (t ≤ p) ⊎ (length cs ≤ k) → onward ≡ stop (drop p W) (drop k cs) (descend (drop p W) 0 (t - p) []).holder
  at_end o = go o (tri p t)
    where
      done : t ≤ p → onward ≡ stop (drop p W) (drop k cs) (descend (drop p W) 0 (t - p) []).holder
      done l = descend_done W p t l (drop k cs) ∙ ap (λ (d : Descent). stop (drop p W) (drop k cs) d.holder) (sym (descend_done W p t l []))

      go : (t ≤ p) ⊎ (length cs ≤ k) → Tri p t → onward ≡ stop (drop p W) (drop k cs) (descend (drop p W) 0 (t - p) []).holder
      go (inl l) q = done l
      go (inr n) (less l) =
          let all : drop k cs ≡ [] = drop_of_length-le cs n in
          let found = descend_found W p t s.room l in rw all (found ∙ ap (λ (d : Descent). stop (drop p W) [] d.holder) (sym found))
      go (inr n) (same e) = done (omega arith)
      go (inr n) (more l) = done (omega arith)

  -- the descent has ended: the keys lead here
  module _ {o : Option ℕ} (e : onward ≡ stop (drop p W) (drop k cs) o) where
    ended : from_top W cs ≡ behind p s.done (stop (drop p W) (drop k cs) o)
    ended = s.goes ∙ ap (behind p s.done) e

    pub leads : (h : std.Option ℕ) → holder_of h ≡ o → LeadsTo W cs (record { at = p; shared = k; holder = h })
    leads h q =
        record {
          within = omega (arith, s.order, s.room);
          shares = s.keys;
          place = ap (λ (d : Descent). d.place) ended ∙ add-zero p;
          left = ap (λ (d : Descent). d.left) ended;
          holder = ap (λ (d : Descent). d.holder) ended ∙ sym q;
        }

    pub all_raised : (r : ℕ) {U : List ℕ} → U ≡ s.done r ++ drop p W → U ≡ (from_top W cs).raised r
    all_raised r q = q ∙ sym (ap (λ (d : Descent). d.raised r) ended)

-- ---- a turn that raises

module _ {W cs : List ℕ} {r : ℕ} {U : List ℕ} {p t k : ℕ} (s : Raising W cs r U p t k) (l : p < t) where
  first : drop p W ≡ get_or W p 0 ∷ drop (suc p) W
  first = drop-cons W p 0 (omega (arith, s.on.room))

  -- the word at p is as it was
  pub as_was : get_or U p 0 ≡ get_or W p 0
  as_was =
      ap (λ (l : List ℕ). get_or l p 0) (s.words ∙ ap (s.on.done r ++◌) first)
      ∙ ap (λ (n : ℕ). get_or (s.on.done r ++ (get_or W p 0 ∷ drop (suc p) W)) n 0) (sym (s.on.long r))
      ∙ get_or-append_seam (s.on.done r) (get_or W p 0) (drop (suc p) W) 0

  module _ (m : k < length cs) (x : ℕ) (e : x ≡ extent_at U p) where
    pub raising_dive : get_or cs k 0 ≡ key_at U p → Raising W cs r (set U p (get_or U p 0 + r)) (p + 1) (p + x) (k + 1)
    unfolding dive
    raising_dive u =
        let v = get_or W p 0 + r in
        rw (add-one p, add-one k, e, as_was)
        (record {
          on = dive s.on l m (rw as_was at u);
          many = length-set U p v ∙ s.many;
          words =
              ap (λ (l : List ℕ). set l p v) (s.words ∙ ap (s.on.done r ++◌) first)
              ∙ set_at (s.on.done r) (get_or W p 0) (drop (suc p) W) v p (s.on.long r) ∙ sym (append_snoc (s.on.done r) v (drop (suc p) W));
        })

    pub raising_hop : key_at U p < get_or cs k 0 → Raising W cs r U (p + x) t k
    unfolding hop
    raising_hop u =
        let y = extent_at W p in
        rw (e, as_was)
        (record {
          on = hop s.on l m (rw as_was at u);
          many = s.many;
          words =
              s.words ∙ ap (s.on.done r ++◌) (sym (take-append-drop y (drop p W)) ∙ ap (take y (drop p W) ++◌) (drop-drop y p W))
              ∙ sym (append_assoc (s.on.done r) (take y (drop p W)) (drop (p + y) W));
        })
