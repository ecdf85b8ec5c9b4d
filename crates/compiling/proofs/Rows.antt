-- A literal's Compares, row by row, as the code writes them.
use mathlib.Core.Path.{◌≡◌, refl, sym, ap, ap₂, ◌∙◌}
use mathlib.Core.Logic.{◌≢◌}
use mathlib.Core.Bool.{Bool, true, false, cond, ◌&&◌}
use mathlib.Core.List.{List, [], ◌∷◌, ◌++◌, map, flat_map, append-nil, map-append}
use Prim.Native.Nat.{ℕ, zero, suc, ◌+◌, ◌-◌, ◌*◌, ◌≤◌, ◌<◌, max}
use native.Mathlib.Nat.{add-zero, add-suc}
use native.Mathlib.Omega.{arith}
use native.Mathlib.Numerals.{add-one}
use native.Mathlib.Decide.{dec_lt}
use lib.ListN.{take, length, get_or, length-append, length-map}
use lib.Dec.{leb, ltb, eqb}
use borrow.Author.Tests.{eq-eqb, ne_eqb, le-leb, lt-leb, lt-ltb, le-ltb}
use Rattle.clause.specs.Lists.{numbers_below}
use Rattle.machine.specs.Instr.{Compare, Do, key, Step}
use Rattle.machine.specs.Compile.{first, repeats, compares}
use Rattle.compiling.specs.Inner.Rows.{firsts_of, firsts_in, variables_in, Numbered, repeats_by, row_keys}
use Rattle.compiling.specs.declared.puts.Put.{Put}
use Rattle.compiling.specs.Inner.Compiling.{Writes, step_keys}
use Rattle.compiling.specs.declared.keys.Keys.{Keys}
use Rattle.compiling.proofs.Writing.{writes_append}
use Rattle.machine.proofs.Length.{flat_map_numbers_below}
use Rattle.clause.proofs.Lists.{get_or-map-lt}

-- the key of a Compare
compare_key : (m k : ℕ) → 0x8_0000_0000 + m * 0x1_0000 + k ≡ key (Do (Compare m k))
unfolding key
compare_key m k = omega arith

-- the Compares of put m with the first n puts
module _ (firsts : List ℕ) (from m : ℕ) where
  abbrev pub cell : ℕ → List ℕ
  cell k = cond (repeats_by firsts from m k) (key (Do (Compare m k)) ∷ []) []

  unfoldable pub row_to : ℕ → List ℕ
  row_to n = flat_map cell (numbers_below n)

  row_suc : (k : ℕ) → row_to (k + 1) ≡ row_to k ++ cell k
  unfolding row_to
  row_suc k = rw add-one (flat_map_numbers_below cell k)

  early : (k : ℕ) → k < from → repeats_by firsts from m k ≡ false
  unfolding repeats_by
  early k h = rw (lt-leb from k h)

  low : (k : ℕ) → k ≤ m → repeats_by firsts from m k ≡ false
  unfolding repeats_by
  low k h = go (leb from k)
    where
      go : (b : Bool) → (b && (ltb m k && eqb (get_or firsts k 0) m)) ≡ false
      go true = rw (le-ltb m k h)
      go false = refl

  -- nothing before the literal, nothing up to m
  row_none : (n : ℕ) → ((k : ℕ) → k < n → repeats_by firsts from m k ≡ false) → row_to n ≡ []
  unfolding row_to numbers_below flat_map
  row_none zero h = refl
  row_none (suc n) h = flat_map_numbers_below cell n ∙ rw (row_none n (λ k l. h k (omega arith)), h n (omega arith))

  pub row_first : {n : ℕ} → n ≡ max from (m + 1) → row_to n ≡ []
  row_first {n = n} e = row_none n (λ k h. go k (dec_lt k from) (omega arith))
    where
      go : (k : ℕ) → Dec (k < from) → (from ≤ k → k ≤ m) → repeats_by firsts from m k ≡ false
      go k (yes l) h = early k l
      go k (no n) h = low k (h (omega arith))

  -- one put more
  pub row_hit : (k : ℕ) → from ≤ k → m < k → get_or firsts k 0 ≡ m → row_to (k + 1) ≡ row_to k ++ (key (Do (Compare m k)) ∷ [])
  unfolding repeats_by
  row_hit k h g e = row_suc k ∙ rw (le-leb from k h, lt-ltb m k g, eq-eqb (get_or firsts k 0) m e)

  pub row_miss : (k : ℕ) → from ≤ k → m < k → get_or firsts k 0 ≢ m → row_to (k + 1) ≡ row_to k
  unfolding repeats_by
  row_miss k h g n = row_suc k ∙ rw (le-leb from k h, lt-ltb m k g, ne_eqb (get_or firsts k 0) m n) (append-nil (row_to k))

  row_grows : (k d : ℕ) → length (row_to k) ≤ length (row_to (k + d))
  row_grows k zero = rw add-zero (omega arith)
  row_grows k (suc d) = rw (add-suc, ← add-one, row_suc) (simp length-append (omega (arith, row_grows k d)))

  pub row_le : (k n : ℕ) → k ≤ n → length (row_to k) ≤ length (row_to n)
  row_le k n h = let e : k + (n - k) ≡ n = omega arith in rw e at (row_grows k (n - k))

  pub row_to_whole : row_keys firsts from m ≡ row_to (length firsts)
  unfolding row_keys row_to
  row_to_whole = refl

  -- there is room for a Compare
  pub row_room : (k : ℕ) → from ≤ k → m < k → k < length firsts → get_or firsts k 0 ≡ m → length (row_to k) < length (row_keys firsts from m)
  unfolding row_keys
  row_room k h g l e =
      let one_more = ap length (row_hit k h g e) ∙ length-append (row_to k) (key (Do (Compare m k)) ∷ []) in
      omega (arith, one_more, row_le (k + 1) (length firsts) (omega arith), ap length row_to_whole)

  -- a Compare more, no Compare
  module _ {a b : Keys} (k : ℕ) (h : from ≤ k) (g : m < k) where
    pub row_writes : {c : Keys} → get_or firsts k 0 ≡ m → Writes (row_to k) a b
        → Writes ((0x8_0000_0000 + m * 0x1_0000 + k) ∷ []) b c → Writes (row_to (k + 1)) a c
    row_writes e s t = rw (row_hit k h g e, ← compare_key m k) (writes_append s t)

    pub row_over : get_or firsts k 0 ≢ m → Writes (row_to k) a b → Writes (row_to (k + 1)) a b
    row_over n s = rw (row_miss k h g n) s

-- the Compares of the first n puts with all
module _ (firsts : List ℕ) (from : ℕ) where
  unfoldable pub rows_to : ℕ → List ℕ
  rows_to n = flat_map (row_keys firsts from) (numbers_below n)

  rows_suc : (m : ℕ) → rows_to (m + 1) ≡ rows_to m ++ row_keys firsts from m
  unfolding rows_to
  rows_suc m = rw add-one (flat_map_numbers_below (row_keys firsts from) m)

  rows_grow : (m d : ℕ) → length (rows_to m) ≤ length (rows_to (m + d))
  rows_grow m zero = rw add-zero (omega arith)
  rows_grow m (suc d) = rw (add-suc, ← add-one, rows_suc) (simp length-append (omega (arith, rows_grow m d)))

  -- there is room for a row
  pub rows_room : (m : ℕ) → m < length firsts → length (rows_to m) + length (row_keys firsts from m) ≤ length (rows_to (length firsts))
  rows_room m h =
      let e : (m + 1) + (length firsts - (m + 1)) ≡ length firsts = omega arith in
      omega (
        arith,
        ap length (rows_suc m),
        length-append (rows_to m) (row_keys firsts from m),
        rw e at (rows_grow (m + 1) (length firsts - (m + 1))),
      )

  pub rows_none : rows_to 0 ≡ []
  unfolding rows_to numbers_below flat_map
  rows_none = refl

  pub rows_writes : {a b c : Keys} (m : ℕ) → Writes (rows_to m) a b → Writes (row_keys firsts from m) b c → Writes (rows_to (m + 1)) a c
  rows_writes m s t = rw rows_suc (writes_append s t)

-- the numbers of the first puts give a literal's Compares
steps_append : (xs ys : List Step) → step_keys (xs ++ ys) ≡ step_keys xs ++ step_keys ys
steps_append xs ys = rw (map-append Do xs ys) (map-append key (map Do xs) (map Do ys))

below_keys : (f : ℕ → List Step) (g : ℕ → List ℕ) (n : ℕ) → ((k : ℕ) → k < n → step_keys (f k) ≡ g k)
    → step_keys (flat_map f (numbers_below n)) ≡ flat_map g (numbers_below n)
unfolding numbers_below flat_map
below_keys f g zero h = refl
below_keys f g (suc n) h =
    ap step_keys (flat_map_numbers_below f n)
    ∙ steps_append (flat_map f (numbers_below n)) (f n)
    ∙ ap₂ ◌++◌ (below_keys f g n (λ k l. h k (omega arith))) (h n (omega arith))
    ∙ sym (flat_map_numbers_below g n)

module _ (puts : List ℕ) (from : ℕ) where
  repeats_by_lem : (m k : ℕ) → k < length puts → repeats puts from m k ≡ repeats_by (firsts_of puts) from m k
  unfolding repeats repeats_by
  repeats_by_lem m k h = rw (get_or-map-lt (λ v. first v puts) puts k 0 0 h)

  one_key : (m k : ℕ) → k < length puts
      → step_keys (cond (repeats puts from m k) (Compare m k ∷ []) []) ≡ cond (repeats_by (firsts_of puts) from m k) (key (Do (Compare m k)) ∷ []) []
  one_key m k h = rw (repeats_by_lem m k h) (go (repeats_by (firsts_of puts) from m k))
    where
      go : (b : Bool) → step_keys (cond b (Compare m k ∷ []) []) ≡ cond b (key (Do (Compare m k)) ∷ []) []
      go true = refl
      go false = refl

  row_keys_lem : (m : ℕ)
      → step_keys (flat_map (λ k. cond (repeats puts from m k) (Compare m k ∷ []) []) (numbers_below (length puts))) ≡ row_keys (firsts_of puts) from m
  unfolding row_keys
  row_keys_lem m = rw (length-map puts (λ v. first v puts)) (below_keys _ _ (length puts) (λ k j. one_key m k j))

  compare_keys_lem : step_keys (compares puts from) ≡ rows_to (firsts_of puts) from (length (firsts_of puts))
  unfolding compares rows_to
  compare_keys_lem = rw (length-map puts (λ v. first v puts)) (below_keys _ _ (length puts) (λ m i. row_keys_lem m))

-- by the puts that the code holds
pub compares_are : {count : ℕ} {puts : List Put} {vs : List ℕ} (from : ℕ) → variables_in (take count puts) ≡ vs → Numbered count puts
    → step_keys (compares vs from) ≡ rows_to (firsts_in (take count puts)) from (length (firsts_in (take count puts)))
compares_are {vs = vs} from e N = compare_keys_lem vs from ∙ ap (λ f. rows_to f from (length f)) (sym (N.numbers ∙ ap firsts_of e))
