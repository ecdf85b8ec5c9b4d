-- Numbers compared one by one.
use mathlib.Core.Path.{◌≡◌, refl, sym, ◌∙◌}
use mathlib.Core.Bool.{Bool, true, false, not, ◌&&◌, ◌||◌}
use mathlib.Core.List.{List, [], ◌∷◌}
use Prim.Native.Nat.{ℕ, suc, ◌+◌, ◌-◌, ◌<◌}
use native.Mathlib.Omega.{arith}
use native.Mathlib.Numerals.{add-one}
use native.Mathlib.Decide.{ℕ_discrete}
use lib.Dec.{eqb}
use lib.ListN.{length, get_or, take, drop, length-drop}
use lib.Seq.{drop-cons, take_all}
use borrow.Author.Tests.{ne_eqb}
use Rattle.std.specs.List.{list_any}
use Rattle.readback.specs.Saved.{is_new, all_differ}

same_either_way : (m n : ℕ) → eqb m n ≡ eqb n m
same_either_way m n = go (ℕ_discrete m n)
  where
    go : Dec (m ≡ n) → eqb m n ≡ eqb n m
    go (yes e) = rw e refl
    go (no e) = ne_eqb m n e ∙ sym (ne_eqb n m (λ q. e (sym q)))

-- a number that is new is none of the others
any_not_new : (n : ℕ) (ns : List ℕ) → list_any (λ m. eqb m n) ns ≡ not (is_new n ns)
any_not_new n [] = refl
any_not_new n (m ∷ ms) = rw (same_either_way m n, any_not_new n ms) (go (eqb n m) (is_new n ms))
  where
    go : (a b : Bool) → (a || not b) ≡ not (not a && b)
    go true b = refl
    go false b = refl

module _ (ns : List ℕ) (i : ℕ) (h : i < length ns) where
  -- whether it stands again after it
  abbrev again : Bool
  again = list_any (λ m. eqb m (get_or ns i 0)) (take (length ns - (i + 1)) (drop (i + 1) ns))

  differ_here : all_differ (drop i ns) ≡ (not again && all_differ (drop (i + 1) ns))
  differ_here =
      let n = get_or ns i 0 in
      let t : take (length ns - (i + 1)) (drop (i + 1) ns) ≡ drop (i + 1) ns = take_all _ _ (simp length-drop (omega arith)) in
      rw (t, any_not_new n (drop (i + 1) ns)) (simp add-one (rw (drop-cons ns i 0 h) (go (is_new n (drop (suc i) ns)))))
    where
      go : (a : Bool) → (a && all_differ (drop (suc i) ns)) ≡ (not (not a) && all_differ (drop (suc i) ns))
      go true = refl
      go false = refl

  pub differ_found : again ≡ true → all_differ (drop i ns) ≡ false
  differ_found e = differ_here ∙ rw e refl

  pub differ_next : again ≡ false → all_differ (drop i ns) ≡ all_differ (drop (i + 1) ns)
  differ_next e = differ_here ∙ rw e refl
