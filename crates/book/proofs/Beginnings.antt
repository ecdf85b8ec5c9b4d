-- The number that the book's test counts is that of the different beginnings of the compiled sequences.
use mathlib.Core.Path.{◌≡◌, refl, sym, ap, ap₂, ◌∙◌}
use mathlib.Core.Logic.{◌≢◌, ◌⊎◌, inl, inr}
use mathlib.Core.Bool.{Bool, true, false, or-true, false≢true}
use mathlib.Core.Option.{some, some-injective}
use mathlib.Core.List.{List, [], ◌∷◌, ◌++◌, map, nil≢cons, cons≢nil, head-eq_of_cons-eq, tail-eq_of_cons-eq, Memᴰ}
use Prim.Native.Nat.{ℕ, suc}
use lib.Dec.{T}
use lib.ListN.{length}
use Rattle.clause.specs.Lists.{All, none, also, Each, nobody, besides, alike}
use Rattle.machine.specs.Instr.{Instr, Success, key, instr_of}
use Rattle.machine.specs.Compile.{sequence, compile}
use Rattle.tree.specs.Entries.{Pair, Sound, entry}
use Rattle.tree.specs.Beginnings.{begins, beginnings, among, different}
use Rattle.book.specs.Laws.{IsBeginning, AllBeginnings}
use Rattle.clause.proofs.Tests.{or_cases, T_true}
use Rattle.clause.proofs.Lists.{alike_refl, alike_same, all_append, all_first, all_mem, all-weaken}
use Rattle.clause.proofs.Literals.{accepted}
use Rattle.machine.proofs.Keys.{Plain, instr_of_plain, instr_of_success}
use Rattle.machine.proofs.Codes.{sequence_plain}
use Rattle.tree.proofs.Laws.{tree_laws}

-- ---- an instruction that is known by its key

abbrev Known : Instr → Type 0
Known i = instr_of (key i) ≡ some i

known_same : {a b : List Instr} → All Known a → All Known b → map key a ≡ map key b → a ≡ b
known_same none none e = refl
known_same none (also h q) e = absurd (nil≢cons e)
known_same (also h p) none e = absurd (cons≢nil e)
known_same (also {x = i} h p) (also {x = j} g q) e =
    ap₂ ◌∷◌ (some-injective i j (sym h ∙ ap instr_of (head-eq_of_cons-eq e) ∙ g)) (known_same p q (tail-eq_of_cons-eq e))

all_known : {is : List Instr} → All Plain is → All Known is
all_known = all-weaken instr_of_plain

known_compiled : (p : Pair) → Sound p → All Known (compile p.clause p.number)
known_compiled p s =
    let success : Known (Success p.number) = rw (tree_laws.success p.number) (instr_of_success p.number s.number) in
    all_append (all_known (sequence_plain p.clause (accepted p.clause s.accepted) s.words)) (also success none)

-- ---- the beginnings one by one

starts : List Instr → List (List Instr)
starts [] = []
starts (i ∷ is) = (i ∷ []) ∷ map (i ∷◌) (starts is)

all_starts : List Pair → List (List Instr)
all_starts [] = []
all_starts (p ∷ K) = starts (compile p.clause p.number) ++ all_starts K

starts_begins : (is : List Instr) {b : List Instr} → Memᴰ b (starts is) → IsBeginning b is
unfolding starts
starts_begins [] {b = b} x' = elim x' [ ]
starts_begins (i ∷ is) (mathlib.Core.List.Memᴰ.head e) = ((λ f. cons≢nil (sym e ∙ f)), is, ap (◌++ is) e)
starts_begins (i ∷ is) (mathlib.Core.List.Memᴰ.tail m) =
    let (c, n, e) = mathlib.Core.List.Memᴰ.of_map (i ∷◌) (starts is) m in
    let (h, r, f) = starts_begins is n in
    ((λ g. cons≢nil (e ∙ g)), r, ap (◌++ r) (sym e) ∙ ap (i ∷◌) f)

begins_starts : (is b : List Instr) → IsBeginning b is → Memᴰ b (starts is)
unfolding starts
begins_starts is [] B = absurd (B.0 refl)
begins_starts [] (j ∷ b) B = absurd (cons≢nil B.2)
begins_starts (i ∷ is) (j ∷ []) B = mathlib.Core.List.Memᴰ.head (ap (◌∷ []) (head-eq_of_cons-eq B.2))
begins_starts (i ∷ is) (j ∷ k ∷ b) B =
    let e : j ≡ i = head-eq_of_cons-eq B.2 in
    rw e (mathlib.Core.List.Memᴰ.tail (mathlib.Core.List.Memᴰ.map (i ∷◌) (begins_starts is (k ∷ b) (cons≢nil, B.1, tail-eq_of_cons-eq B.2))))

-- those of a whole book
all_begins : (K : List Pair) (b : List Instr) → Memᴰ b (all_starts K) → (p : Pair) × Memᴰ p K × IsBeginning b (compile p.clause p.number)
unfolding all_starts
all_begins [] b m = elim m [ ]
all_begins (p ∷ K) b m = go (mathlib.Core.List.Memᴰ.append_cases (starts (compile p.clause p.number)) m) (all_begins K b)
  where
    go : Memᴰ b (starts (compile p.clause p.number)) ⊎ Memᴰ b (all_starts K)
        → (Memᴰ b (all_starts K) → (q : Pair) × Memᴰ q K × IsBeginning b (compile q.clause q.number))
        → (q : Pair) × Memᴰ q (p ∷ K) × IsBeginning b (compile q.clause q.number)
    go (inl n) ih = (p, mathlib.Core.List.Memᴰ.head refl, starts_begins (compile p.clause p.number) n)
    go (inr n) ih = let (q, k, B) = ih n in (q, mathlib.Core.List.Memᴰ.tail k, B)

begins_all : {p : Pair} {K : List Pair} {b : List Instr} → Memᴰ p K → IsBeginning b (compile p.clause p.number) → Memᴰ b (all_starts K)
unfolding all_starts
begins_all {p = p} {b = b} (mathlib.Core.List.Memᴰ.head {x = q} e) B =
    let m : Memᴰ b (starts (compile q.clause q.number)) = rw (← e) (begins_starts (compile p.clause p.number) b B) in
    mathlib.Core.List.Memᴰ.append_left _ m
begins_all {p = p} {b = b} (mathlib.Core.List.Memᴰ.tail {x = q} m) B = mathlib.Core.List.Memᴰ.append_right (starts (compile q.clause q.number)) (begins_all m B)

-- all of them are known by their keys
mems_all : {A : Type 0} {P : A → Type 0} (l : List A) → ((a : A) → Memᴰ a l → P a) → All P l
mems_all [] f = none
mems_all (x ∷ l) f = also (f x (mathlib.Core.List.Memᴰ.head refl)) (mems_all l (λ a m. f a (mathlib.Core.List.Memᴰ.tail m)))

known_all : (K : List Pair) → All Sound K → All (All Known) (all_starts K)
known_all K S = mems_all (all_starts K) known
  where
    known : (b : List Instr) → Memᴰ b (all_starts K) → All Known b
    known b m =
        let (p, k, B) = all_begins K b m in
        all_first b B.1 (rw B.2 (known_compiled p (all_mem S k)))

-- ---- by their keys

keys_under : (i : Instr) (ls : List (List Instr)) → map (map key) (map (i ∷◌) ls) ≡ map (key i ∷◌) (map (map key) ls)
keys_under i [] = refl
keys_under i (l ∷ ls) = ap ((key i ∷ map key l) ∷◌) (keys_under i ls)

keys_append : (ls ms : List (List Instr)) → map (map key) (ls ++ ms) ≡ map (map key) ls ++ map (map key) ms
keys_append [] ms = refl
keys_append (l ∷ ls) ms = ap (map key l ∷◌) (keys_append ls ms)

keys_starts : (is : List Instr) (n : ℕ) → map (map key) (starts (is ++ (Success n ∷ []))) ≡ begins (map key is) n
unfolding starts
keys_starts [] n = rw (tree_laws.success n)
keys_starts (i ∷ is) n = ap ((key i ∷ []) ∷◌) (keys_under i (starts (is ++ (Success n ∷ []))) ∙ ap (map (key i ∷◌)) (keys_starts is n))

keys_all : (K : List Pair) → map (map key) (all_starts K) ≡ beginnings (map entry K)
unfolding all_starts
keys_all [] = refl
keys_all (p ∷ K) =
    keys_append (starts (compile p.clause p.number)) (all_starts K) ∙ ap₂ ◌++◌ (keys_starts (sequence p.clause) p.number) (keys_all K)

-- ---- the different ones

among_mem : (x : List ℕ) (ls : List (List Instr)) → T (among x (map (map key) ls)) → (l : List Instr) × Memᴰ l ls × (x ≡ map key l)
among_mem x [] t = absurd t
among_mem x (l ∷ ls) t = go (or_cases (alike x (map key l)) (among x (map (map key) ls)) t) (among_mem x ls)
  where
    go : T (alike x (map key l)) ⊎ T (among x (map (map key) ls))
        → (T (among x (map (map key) ls)) → (m : List Instr) × Memᴰ m ls × (x ≡ map key m)) → (m : List Instr) × Memᴰ m (l ∷ ls) × (x ≡ map key m)
    go (inl u) ih = (l, mathlib.Core.List.Memᴰ.head refl, alike_same x (map key l) (T_true (alike x (map key l)) u))
    go (inr u) ih = let (m, k, e) = ih u in (m, mathlib.Core.List.Memᴰ.tail k, e)

mem_among : {l : List Instr} {ls : List (List Instr)} → Memᴰ l ls → among (map key l) (map (map key) ls) ≡ true
mem_among {l = l} (mathlib.Core.List.Memᴰ.head e) = rw (← e, alike_refl (map key l))
mem_among {l = l} (mathlib.Core.List.Memᴰ.tail {x = x} m) = rw (mem_among m) (or-true (alike (map key l) (map key x)))

thin : List (List Instr) → List (List Instr)
thin [] = []
thin (l ∷ ls) = elim (among (map key l) (map (map key) ls)) [ true ↦ thin ls | false ↦ l ∷ thin ls ]

-- a list is left out if it stands among the others, and only then
data Thinned (l : List Instr) (ls : List (List Instr)) : Type 0 where
  old : among (map key l) (map (map key) ls) ≡ true → thin (l ∷ ls) ≡ thin ls → different (map (map key) (l ∷ ls)) ≡ different (map (map key) ls) → Thinned l ls
  new : among (map key l) (map (map key) ls) ≡ false → thin (l ∷ ls) ≡ l ∷ thin ls → different (map (map key) (l ∷ ls)) ≡ suc (different (map (map key) ls)) → Thinned l ls

thinned : (l : List Instr) (ls : List (List Instr)) → Thinned l ls
unfolding thin
thinned l ls = go (among (map key l) (map (map key) ls)) refl
  where
    go : (t : Bool) → among (map key l) (map (map key) ls) ≡ t → Thinned l ls
    go true e = old e (rw (e, thin)) (rw (e, different))
    go false e = new e (rw (e, thin)) (rw (e, different))

thin_length : (ls : List (List Instr)) → length (thin ls) ≡ different (map (map key) ls)
unfolding thin
thin_length [] = refl
thin_length (l ∷ ls) = go (thinned l ls) (thin_length ls)
  where
    go : Thinned l ls → length (thin ls) ≡ different (map (map key) ls) → length (thin (l ∷ ls)) ≡ different (map (map key) (l ∷ ls))
    go (old e f g) ih = ap length f ∙ ih ∙ sym g
    go (new e f g) ih = ap length f ∙ ap suc ih ∙ sym g

thin_only : (ls : List (List Instr)) (b : List Instr) → Memᴰ b (thin ls) → Memᴰ b ls
unfolding thin
thin_only [] b m = m
thin_only (l ∷ ls) b m = go (thinned l ls) m (thin_only ls b)
  where
    more : Memᴰ b (l ∷ thin ls) → (Memᴰ b (thin ls) → Memᴰ b ls) → Memᴰ b (l ∷ ls)
    more (mathlib.Core.List.Memᴰ.head e) ih = mathlib.Core.List.Memᴰ.head e
    more (mathlib.Core.List.Memᴰ.tail n) ih = mathlib.Core.List.Memᴰ.tail (ih n)

    go : Thinned l ls → Memᴰ b (thin (l ∷ ls)) → (Memᴰ b (thin ls) → Memᴰ b ls) → Memᴰ b (l ∷ ls)
    go (old e f g) n ih = mathlib.Core.List.Memᴰ.tail (ih (rw f at n))
    go (new e f g) n ih = more (rw f at n) ih

thin_keeps : {ls : List (List Instr)} {b : List Instr} → All (All Known) ls → Memᴰ b ls → Memᴰ b (thin ls)
unfolding thin
thin_keeps {b = b} none m = elim m [ ]
thin_keeps {b = b} (also {x = l} {xs = ls} k ks) m = go (thinned l ls) m (λ a n. thin_keeps {b = a} ks n)
  where
    go : Thinned l ls → Memᴰ b (l ∷ ls) → ((a : List Instr) → Memᴰ a ls → Memᴰ a (thin ls)) → Memᴰ b (thin (l ∷ ls))
    go (new e f g) (mathlib.Core.List.Memᴰ.head u) ih = rw f (mathlib.Core.List.Memᴰ.head u)
    go (new e f g) (mathlib.Core.List.Memᴰ.tail n) ih = rw f (mathlib.Core.List.Memᴰ.tail (ih b n))
    go (old e f g) (mathlib.Core.List.Memᴰ.head u) ih =
        let (a, n, v) = among_mem (map key l) ls (rw e tt) in
        let w : b ≡ a = u ∙ known_same k (all_mem ks n) v in
        rw (f, w) (ih a n)
    go (old e f g) (mathlib.Core.List.Memᴰ.tail n) ih = rw f (ih b n)

thin_differ : (ls : List (List Instr)) → Each (λ a b. a ≢ b) (thin ls)
unfolding thin
thin_differ [] = nobody
thin_differ (l ∷ ls) = go (thinned l ls) (thin_differ ls)
  where
    go : Thinned l ls → Each (λ a b. a ≢ b) (thin ls) → Each (λ a b. a ≢ b) (thin (l ∷ ls))
    go (old e f g) ih = rw f ih
    go (new e f g) ih = rw f (besides (mems_all (thin ls) (λ b m u. false≢true (sym e ∙ mem_among (rw (← u) at (thin_only ls b m))))) ih)

-- the beginnings that the book counts
pub counted : (K : List Pair) → All Sound K → (bs : List (List Instr)) × AllBeginnings K bs × (length bs ≡ different (beginnings (map entry K)))
counted K S = (
  thin (all_starts K),
  record {
    differ = thin_differ (all_starts K);
    exactly = λ b. ((λ m. all_begins K b (thin_only (all_starts K) b m)), (λ h. let (p, k, B) = h in thin_keeps (known_all K S) (begins_all k B)));
  },
  thin_length (all_starts K) ∙ ap different (keys_all K),
)
