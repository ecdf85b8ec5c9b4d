-- The pass over a tree's words finds the paths of its forest.
use mathlib.Core.Path.{◌≡◌, refl, sym, ap, ap₂, ◌∙◌}
use mathlib.Core.Bool.{false}
use mathlib.Core.List.{List, [], ◌∷◌, ◌++◌, map, map-append, append-nil, append_assoc}
use Prim.Native.Nat.{ℕ, zero, suc, ◌+◌, ◌-◌, ◌^◌, ◌≤◌, ◌<◌}
use native.Mathlib.Nat.{add-zero}
use native.Mathlib.Numerals.{add-one}
use native.Mathlib.Omega.{arith}
use native.Mathlib.Decide.{dec_lt}
use lib.ListN.{length, get_or, take, drop, set, length-append, length-set, drop_of_length-le}
use lib.Seq.{drop-cons, take-suc, get_or-set_same, get_or-set_other}
use borrow.Author.Tests.{lt-ltb, le-ltb}
use Rattle.std.specs.Prelude.{Some, Ok}
use Rattle.machine.specs.Compiled.{max_keys}
use Rattle.tree.specs.Keys.{first_key, next_key}
use Rattle.tree.specs.Forest.{Forest, empty, node, size, word as Forest·word, encode, Formed}
use Rattle.tree.specs.Laid.{key_of, extent_of}
use Rattle.tree.specs.Entries.{Entry}
use Rattle.tree.specs.Laws.{under, paths_of}
use Rattle.clause.proofs.Lists.{length-snoc}
use Rattle.tree.proofs.Words.{key_word, extent_word, length_encode}
use Rattle.readback.specs.Saved.{all_readable}
use Rattle.readback.proofs.Laws.{deep_unreadable}
use Rattle.checking.specs.Inner.Scan.{Open, still_open, path_to, scan, scan_from, opens, Closed, Nested, done, word, Comes}

-- ---- one word

open_there : (at : ℕ) (o : Open) (os : List Open) → at < o.end → still_open at (o ∷ os) ≡ o ∷ os
unfolding still_open
open_there at o os h = rw (still_open, lt-ltb at o.end h)

open_past : (at : ℕ) (o : Open) (os : List Open) → o.end ≤ at → still_open at (o ∷ os) ≡ still_open at os
unfolding still_open
open_past at o os h = rw (still_open, le-ltb at o.end h)

module _ (w : ℕ) (ws : List ℕ) (at : ℕ) (os : List Open) where
  scan_success : key_of w < first_key
      → scan (w ∷ ws) at os ≡ record { number = key_of w; keys = path_to (still_open at os) } ∷ scan ws (suc at) (still_open at os)
  unfolding scan
  scan_success h = rw (scan, lt-ltb (key_of w) first_key h)

  scan_other : first_key ≤ key_of w → scan (w ∷ ws) at os ≡ scan ws (suc at) (record { key = key_of w; end = at + extent_of w } ∷ still_open at os)
  unfolding scan
  scan_other h = rw (scan, le-ltb (key_of w) first_key h)

-- a word whose extent has ended is closed
scan_past : (ws : List ℕ) (at : ℕ) (o : Open) (os : List Open) → o.end ≤ at → scan ws at (o ∷ os) ≡ scan ws at os
unfolding scan
scan_past [] at o os h = refl
scan_past (w ∷ ws) at o os h = go (dec_lt (key_of w) first_key)
  where
    go : Dec (key_of w < first_key) → scan (w ∷ ws) at (o ∷ os) ≡ scan (w ∷ ws) at os
    go (yes s) =
        scan_success w ws at (o ∷ os) s
        ∙ ap (λ (l : List Open). record { number = key_of w; keys = path_to l } ∷ scan ws (suc at) l) (open_past at o os h) ∙ sym (scan_success w ws at os s)
    go (no n) =
        scan_other w ws at (o ∷ os) (omega arith)
        ∙ ap (λ (l : List Open). scan ws (suc at) (record { key = key_of w; end = at + extent_of w } ∷ l)) (open_past at o os h)
        ∙ sym (scan_other w ws at os (omega arith))

-- ---- a forest

-- the lowest of the words above, if there is one, reaches a place
abbrev Reaches : List Open → ℕ → Type 0
Reaches [] n = Unit {0}
Reaches (o ∷ os) n = n ≤ o.end

open_all : (at n : ℕ) (os : List Open) → Reaches os n → at < n → still_open at os ≡ os
unfolding still_open
open_all at n [] r h = refl
open_all at n (o ∷ os) r h = open_there at o os (omega arith)

reaches_less : (m n : ℕ) (os : List Open) → Reaches os n → m ≤ n → Reaches os m
reaches_less m n [] r h = tt
reaches_less m n (o ∷ os) r h = omega arith

-- an entry below the words above
under_all : List Open → Entry → Entry
under_all os e = record { number = e.number; keys = path_to os ++ e.keys }

under_one : (o : Open) (os : List Open) (es : List Entry) → map (under_all (o ∷ os)) es ≡ map (under_all os) (map (under o.key) es)
unfolding under_all path_to
under_one o os [] = refl
under_one o os (e ∷ es) =
    ap₂ ◌∷◌ (ap (λ (l : List ℕ). record { number = e.number; keys = l }) (append_assoc (path_to os) (o.key ∷ []) e.keys)) (under_one o os es)

scan_forest : (b : ℕ) (F : Forest) → Formed b F → size F < 2 ^ 28 → (ws : List ℕ) (at : ℕ) (os : List Open) → Reaches os (at + size F)
    → scan (encode F ++ ws) at os ≡ map (under_all os) (paths_of F) ++ scan ws (at + size F) os
unfolding under_all
scan_forest b empty f small ws at os r = rw add-zero
scan_forest b (node i empty R) f small ws at os r =
    let w = Forest·word i 1 in
    let k : key_of w ≡ i = key_word i 1 (omega arith) in
    let o : still_open at os ≡ os = open_all at (at + size (node i empty R)) os r (omega arith) in
    let p : path_to os ≡ path_to os ++ [] = sym (append-nil (path_to os)) in
    let e : suc at + size R ≡ at + size (node i empty R) = omega arith in
    scan_success w (encode R ++ ws) at os (rw k f.shape)
    ∙ rw (k, o)
    (ap₂ ◌∷◌ (ap (λ (l : List ℕ). record { number = i; keys = l }) p)
    (scan_forest (next_key i) R f.rest (omega arith) ws (suc at) os (reaches_less (suc at + size R) _ os r (omega arith))
    ∙ ap (λ n. map (under_all os) (paths_of R) ++ scan ws n os) e))
scan_forest b (node i (node j C S) R) f small ws at os r =
    let B : Forest = node j C S in
    let w = Forest·word i (suc (size B)) in
    let k : key_of w ≡ i = key_word i (suc (size B)) (omega arith) in
    let x : extent_of w ≡ suc (size B) = extent_word i (suc (size B)) (omega arith) in
    let o : still_open at os ≡ os = open_all at (at + size (node i B R)) os r (omega arith) in
    let n : suc at + size B ≡ at + suc (size B) = omega arith in
    let e : suc at + size B + size R ≡ at + suc (size B + size R) = omega arith in
    let above : Open = record { key = i; end = at + suc (size B) } in
    let first : scan ((w ∷ (encode B ++ encode R)) ++ ws) at os ≡ scan (encode B ++ (encode R ++ ws)) (suc at) (above ∷ os) =
    scan_other w ((encode B ++ encode R) ++ ws) at os (rw k f.shape) ∙ rw (k, x, o, append_assoc) in
    let inside : scan (encode B ++ (encode R ++ ws)) (suc at) (above ∷ os)
    ≡ map (under_all (above ∷ os)) (paths_of B) ++ scan (encode R ++ ws) (suc at + size B) (above ∷ os) =
    scan_forest 0 (node j C S) f.below (omega arith) (encode R ++ ws) (suc at) (above ∷ os) (omega arith) in
    let after : scan (encode R ++ ws) (suc at + size B) (above ∷ os) ≡ map (under_all os) (paths_of R) ++ scan ws (at + suc (size B + size R)) os =
    scan_past (encode R ++ ws) (suc at + size B) above os (omega arith)
    ∙ scan_forest (next_key i) R f.rest (omega arith) ws (suc at + size B) os (reaches_less (suc at + size B + size R) _ os r (omega arith))
    ∙ ap (λ n. map (under_all os) (paths_of R) ++ scan ws n os) e in
    first ∙ inside ∙ ap₂ ◌++◌ (under_one above os (paths_of B)) after
    ∙ sym (append_assoc (map (under_all os) (map (under i) (paths_of B))) (map (under_all os) (paths_of R)) (scan ws (at + suc (size B + size R)) os))
    ∙ ap (λ l. l ++ scan ws (at + suc (size B + size R)) os) (sym (map-append (under_all os) (map (under i) (paths_of B)) (paths_of R)))

-- the whole
pub scan_paths : (F : Forest) → Formed 0 F → size F < 2 ^ 28 → scan (encode F) 0 [] ≡ paths_of F
unfolding scan under_all path_to
scan_paths F f small =
    ap (λ l. scan l 0 []) (sym (append-nil (encode F))) ∙ scan_forest 0 F f small [] 0 [] tt ∙ append-nil (map (under_all []) (paths_of F)) ∙ top (paths_of F)
  where
    top : (es : List Entry) → map (under_all []) es ≡ es
    top [] = refl
    top (e ∷ es) = ap (λ (l : List Entry). e ∷ l) (top es)

-- ---- from a place on

module _ (ws : List ℕ) (at : ℕ) (h : at < length ws) (os : List Open) where
  here : drop at ws ≡ get_or ws at 0 ∷ drop (suc at) ws
  here = drop-cons ws at 0 h

  pub from_success : key_of (get_or ws at 0) < first_key
      → scan_from ws at os ≡ record { number = key_of (get_or ws at 0); keys = path_to (still_open at os) } ∷ scan_from ws (at + 1) (still_open at os)
  from_success k = simp add-one (rw here (scan_success (get_or ws at 0) (drop (suc at) ws) at os k))

  pub from_other : first_key ≤ key_of (get_or ws at 0)
      → scan_from ws at os ≡ scan_from ws (at + 1) (record { key = key_of (get_or ws at 0); end = at + extent_of (get_or ws at 0) } ∷ still_open at os)
  from_other k = simp add-one (rw here (scan_other (get_or ws at 0) (drop (suc at) ws) at os k))

pub from_end : (ws : List ℕ) (at : ℕ) (os : List Open) → length ws ≤ at → scan_from ws at os ≡ []
unfolding scan
from_end ws at os h = rw (drop_of_length-le ws h)

-- ---- the words above, by two arrays

-- they are what the first d entries say
opens_same : (ks ls es fs : List ℕ) (d : ℕ) → ((i : ℕ) → i < d → get_or ks i 0 ≡ get_or ls i 0) → ((i : ℕ) → i < d → get_or es i 0 ≡ get_or fs i 0)
    → opens ks es d ≡ opens ls fs d
unfolding opens
opens_same ks ls es fs zero f g = refl
opens_same ks ls es fs (suc d) f g = rw (f d (omega arith), g d (omega arith), opens_same ks ls es fs d (λ i h. f i (omega arith)) (λ i h. g i (omega arith)))

opens_push : (ks es : List ℕ) (d k e : ℕ) → d < length ks → d < length es
    → opens (set ks d k) (set es d e) (d + 1) ≡ record { key = k; end = e } ∷ opens ks es d
unfolding opens
opens_push ks es d k e h g =
    let below : opens (set ks d k) (set es d e) d ≡ opens ks es d =
    opens_same (set ks d k) ks (set es d e) es d (λ i l. get_or-set_other ks d i k 0 (λ q. omega arith)) (λ i l. get_or-set_other es d i e 0 (λ q. omega arith)) in
    simp add-one (rw (get_or-set_same ks d k 0 h, get_or-set_same es d e 0 g, below))

opens_path : (ks es : List ℕ) (d : ℕ) → d ≤ length ks → path_to (opens ks es d) ≡ take d ks
unfolding opens path_to
opens_path ks es zero h = refl
opens_path ks es (suc d) h = rw (opens_path ks es d (omega arith)) (sym (take-suc ks d 0 (omega arith)))

length_opens : (ks es : List ℕ) (d : ℕ) → length (opens ks es d) ≡ d
unfolding opens
length_opens ks es zero = refl
length_opens ks es (suc d) = ap suc (length_opens ks es d)

-- as many keys as words above
length_path : (os : List Open) → length (path_to os) ≡ length os
unfolding path_to
length_path [] = refl
length_path (o ∷ os) = length-snoc (path_to os) o.key ∙ ap suc (length_path os)

-- ---- closing them one by one

-- those after the first a are closed
pub record Closing (es : List ℕ) (d at a : ℕ) : Type 0 where
  pub fewer : a ≤ d
  pub rest : (ks : List ℕ) → still_open at (opens ks es a) ≡ still_open at (opens ks es d)

module _ (es : List ℕ) (d at a : ℕ) (c : Closing es d at a) where
  lowest : (ks : List ℕ) → 0 < a → opens ks es a ≡ record { key = get_or ks (a - 1) 0; end = get_or es (a - 1) 0 } ∷ opens ks es (a - 1)
  unfolding opens
  lowest ks h = let e : a ≡ suc (a - 1) = omega arith in ap (opens ks es) e

  pub closing_stops : 0 < a → at < get_or es (a - 1) 0 → Closed es d at (a - 1 + 1)
  closing_stops h g =
      let n : a - 1 + 1 ≡ a = omega arith in
      rw n (c.fewer, λ ks. let e = lowest ks h in e ∙ sym (open_there at _ (opens ks es (a - 1)) g) ∙ ap (still_open at) (sym e) ∙ c.rest ks)

  pub closing_next : 0 < a → get_or es (a - 1) 0 ≤ at → Closing es d at (a - 1)
  closing_next h g =
      record { fewer = omega (arith, c.fewer); rest = λ ks. sym (open_past at _ (opens ks es (a - 1)) g) ∙ ap (still_open at) (sym (lowest ks h)) ∙ c.rest ks }

  pub closing_none : a ≤ 0 → Closed es d at 0
  unfolding still_open opens
  closing_none h = (omega arith, λ ks. let e : 0 ≡ a = omega arith in ap (λ n. still_open at (opens ks es n)) e ∙ c.rest ks)

-- ---- words that are nested

nested_drop : (n : ℕ) {ws : List ℕ} → Nested ws → Nested (drop n ws)
nested_drop zero h = h
nested_drop (suc n) done = done
nested_drop (suc n) (word a b h) = nested_drop n h

nested_encode : (b : ℕ) (F : Forest) → Formed b F → size F < 2 ^ 28 → (ws : List ℕ) → Nested ws → Nested (encode F ++ ws)
nested_encode b empty f small ws h = h
nested_encode b (node i empty R) f small ws h =
    let w = Forest·word i 1 in
    let k : key_of w ≡ i = key_word i 1 (omega arith) in
    let x : extent_of w ≡ 1 = extent_word i 1 (omega arith) in
    let inside : extent_of w ≤ suc (length (encode R ++ ws)) = omega arith in
    let below : first_key ≤ key_of w → 2 ≤ extent_of w = λ g. absurd (omega (arith, f.shape)) in
    word {w = w} {ws = encode R ++ ws} inside below (nested_encode (next_key i) R f.rest (omega arith) ws h)
nested_encode b (node i (node j C S) R) f small ws h =
    let B : Forest = node j C S in
    let w = Forest·word i (suc (size B)) in
    let x : extent_of w ≡ suc (size B) = extent_word i (suc (size B)) (omega arith) in
    let n : Nested (encode B ++ (encode R ++ ws)) =
    nested_encode 0 (node j C S) f.below (omega arith) (encode R ++ ws) (nested_encode (next_key i) R f.rest (omega arith) ws h) in
    let m : Nested ((encode B ++ encode R) ++ ws) = rw append_assoc n in
    let l : length ((encode B ++ encode R) ++ ws) ≡ size B + size R + length ws =
    length-append (encode B ++ encode R) ws ∙ ap (λ n. n + length ws) (length-append (encode B) (encode R) ∙ ap₂ ◌+◌ (length_encode B) (length_encode R)) in
    let inside : extent_of w ≤ suc (length ((encode B ++ encode R) ++ ws)) = omega arith in
    let below : first_key ≤ key_of w → 2 ≤ extent_of w = λ g. omega arith in
    word {w = w} {ws = (encode B ++ encode R) ++ ws} inside below m

pub nested_forest : (F : Forest) → Formed 0 F → size F < 2 ^ 28 → Nested (encode F)
nested_forest F f small = rw append-nil at (nested_encode 0 F f small [] done)

-- ---- a path that is too deep

-- a word above reaches past the place, and there are too many: what is found below it is no clause's
too_deep : {ws : List ℕ} → Nested ws → (at : ℕ) (o : Open) (os : List Open) → at < o.end → o.end ≤ at + length ws → max_keys < length (o ∷ os)
    → all_readable (scan ws at (o ∷ os)) ≡ false
too_deep done at o os h g l = absurd (omega arith)
too_deep (word {w = w} {ws = ws} inside below n) at o os h g l =
    go (dec_lt (key_of w) first_key) (too_deep n (suc at) (record { key = key_of w; end = at + extent_of w }) (o ∷ os))
  where
    go : Dec (key_of w < first_key)
        → (suc at < at + extent_of w → at + extent_of w ≤ suc at + length ws → max_keys < length (record { key = key_of w; end = at + extent_of w } ∷ o ∷ os)
        → all_readable (scan ws (suc at) (record { key = key_of w; end = at + extent_of w } ∷ o ∷ os)) ≡ false)
        → all_readable (scan (w ∷ ws) at (o ∷ os)) ≡ false
    go (yes s) ih = rw (scan_success w ws at (o ∷ os) s, open_there at o os h, deep_unreadable (path_to (o ∷ os)) (rw (length_path (o ∷ os)) l))
    go (no m) ih =
        rw (scan_other w ws at (o ∷ os) (omega arith), open_there at o os h) (ih (omega (arith, below (omega arith))) (omega arith) (omega arith))

-- ---- from one Success to the next

-- what is left from a place on, with the words above in the two arrays
pub record Gone (ws : List ℕ) (from depth : ℕ) (ks₀ es₀ ks es : List ℕ) (at above : ℕ) : Type 0 where
  pub further : from ≤ at
  pub inside : at ≤ length ws
  pub few : above ≤ max_keys
  pub keys_length : length ks ≡ max_keys
  pub ends_length : length es ≡ max_keys
  pub rest : scan_from ws from (opens ks₀ es₀ depth) ≡ scan_from ws at (opens ks es above)

module _ {ws : List ℕ} {from depth : ℕ} {ks₀ es₀ ks es : List ℕ} {at above : ℕ} (g : Gone ws from depth ks₀ es₀ ks es at above) where
  pub gone_end : length ws ≤ at → scan_from ws from (opens ks₀ es₀ depth) ≡ []
  gone_end h = g.rest ∙ from_end ws at (opens ks es above) h

  module _ (h : at < length ws) (r : ℕ) (c : Closed es above at r) where
    abbrev pub here_word : ℕ
    here_word = get_or ws at 0

    open_now : still_open at (opens ks es above) ≡ opens ks es r
    open_now = sym (c.1 ks)

    few_now : r ≤ max_keys
    few_now = omega (arith, c.0, g.few)

    pub gone_success : key_of here_word < first_key → Comes ws from depth ks₀ es₀ (Ok (Some (record { place = at; above = r }))) ks es
    gone_success k =
        let p : path_to (opens ks es r) ≡ take r ks = opens_path ks es r (omega (arith, few_now, g.keys_length)) in
        (g.further, h, few_now, g.rest ∙ from_success ws at h (opens ks es above) k ∙ rw (open_now, p), k, g.keys_length, g.ends_length)

    -- one more word above
    one_more : List Open
    one_more = record { key = key_of here_word; end = at + extent_of here_word } ∷ opens ks es r

    rest_now : first_key ≤ key_of here_word → scan_from ws from (opens ks₀ es₀ depth) ≡ scan_from ws (at + 1) one_more
    unfolding one_more
    rest_now k = g.rest ∙ from_other ws at h (opens ks es above) k ∙ rw open_now

    pub gone_deep : Nested ws → first_key ≤ key_of here_word → max_keys ≤ r → all_readable (scan_from ws from (opens ks₀ es₀ depth)) ≡ false
    unfolding one_more
    gone_deep n k l = rw (rest_now k) (go (rw (drop-cons ws at 0 h) at (nested_drop at n)))
      where
        go : Nested (get_or ws at 0 ∷ drop (suc at) ws) → all_readable (scan_from ws (at + 1) one_more) ≡ false
        go (word inside below m) =
            simp add-one
            (too_deep m (suc at) (record { key = key_of (get_or ws at 0); end = at + extent_of (get_or ws at 0) }) (opens ks es r)
            (omega (arith, below k)) (omega (arith, inside)) (omega (arith, length_opens ks es r)))

    pub gone_next : first_key ≤ key_of here_word → r < max_keys → Gone ws from depth ks₀ es₀ (set ks r (key_of here_word)) (set es r (at + extent_of here_word)) (at + 1) (r + 1)
    unfolding one_more
    gone_next k l =
        record {
          further = omega (arith, g.further);
          inside = omega arith;
          few = omega arith;
          keys_length = length-set ks r (key_of here_word) ∙ g.keys_length;
          ends_length = length-set es r (at + extent_of here_word) ∙ g.ends_length;
          rest =
              rest_now k
              ∙ ap (scan_from ws (at + 1)) (sym (opens_push ks es r (key_of here_word) (at + extent_of here_word) (omega (arith, g.keys_length)) (omega (arith, g.ends_length))));
        }
