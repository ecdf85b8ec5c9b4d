-- The tree keeps the book: what an insertion and a removal do to both.
use mathlib.Core.Path.{◌≡◌, refl, sym, ap, ◌∙◌}
use mathlib.Core.List.{List, [], ◌∷◌}
use mathlib.Core.Logic.{◌⊎◌, inl, inr}
use mathlib.Core.Bool.{Bool, true, false, ◌||◌, or-true}
use mathlib.Core.Option.{Option, none, some}
use Prim.Native.Nat.{ℕ, suc, ◌^◌, ◌≤◌, ◌<◌}
use native.Mathlib.Decide.{ℕ_discrete}
use native.Mathlib.Omega.{arith}
use lib.Dec.{T, leb, eqb, eqb→eq}
use lib.ListN.{length}
use borrow.Author.Tests.{eq-eqb, leb-false}
use Rattle.clause.specs.Lists.{alike}
use Rattle.tree.specs.Keys.{first_key}
use Rattle.tree.specs.Forest.{Forest, empty, size, leaves, ins, del, find, holder, Has, Body, Free}
use Rattle.tree.specs.Entries.{Entry, Listed, Mirrors}
use Rattle.tree.specs.Inner.Books.{without_entry, Apart, Single}
use Rattle.tree.specs.Beginnings.{beginnings, different}
use Rattle.tree.specs.Laid.{max_kept}
use Rattle.tree.specs.Changes.{refuse, change, insert_into, remove_from, numbered, varied, refuses}
use Rattle.clause.proofs.Tests.{or_cases, T_true, T_false}
use Rattle.clause.proofs.Lists.{alike_refl, alike_same}
use Rattle.tree.proofs.Delete.{find_none, find_some}
use Rattle.tree.proofs.InsertWords.{ins_leaves}
use Rattle.tree.proofs.RemoveWords.{closes, del_leaves}
use Rattle.tree.proofs.Held.{Holding, holding}
use Rattle.tree.proofs.Count.{book_size}
use Rattle.tree.proofs.Mirror.{mirrors_empty, mirrors_ins, mirrors_del, without_entry_only, without_entry_same, without_entry_other}
use Rattle.tree.specs.declared.Refusal.{Refusal}
use Rattle.tree.specs.declared.Refusal.TheVariants.{NumberTaken, Held, NoSuchNumber, ListFull, NoRoom}

-- ---- the tests on the book

pub kept_numbered : (n : ℕ) (cs : List ℕ) (K : List Entry) → Listed K cs n → numbered n K ≡ true
kept_numbered n cs [] k = absurd k
kept_numbered n cs (e ∷ K) (inl q) = rw (eq-eqb n e.number q.1)
kept_numbered n cs (e ∷ K) (inr k) = rw (kept_numbered n cs K k) (or-true (eqb n e.number))

pub numbered_kept : (n : ℕ) (K : List Entry) → T (numbered n K) → (cs : List ℕ) × Listed K cs n
numbered_kept n [] t = absurd t
numbered_kept n (e ∷ K) t = go (or_cases (eqb n e.number) (numbered n K) t) (λ u. numbered_kept n K u)
  where
    go : T (eqb n e.number) ⊎ T (numbered n K) → (T (numbered n K) → (cs : List ℕ) × Listed K cs n) → (cs : List ℕ) × Listed (e ∷ K) cs n
    go (inl u) ih = (e.keys, inl (refl, eqb→eq n e.number u))
    go (inr u) ih = let r = ih u in (r.0, inr r.1)

pub kept_varied : (cs : List ℕ) (n : ℕ) (K : List Entry) → Listed K cs n → varied cs K ≡ true
kept_varied cs n [] k = absurd k
kept_varied cs n (e ∷ K) (inl q) = rw (← q.0, alike_refl cs)
kept_varied cs n (e ∷ K) (inr k) = rw (kept_varied cs n K k) (or-true (alike cs e.keys))

pub varied_kept : (cs : List ℕ) (K : List Entry) → T (varied cs K) → (n : ℕ) × Listed K cs n
varied_kept cs [] t = absurd t
varied_kept cs (e ∷ K) t = go (or_cases (alike cs e.keys) (varied cs K) t) (λ u. varied_kept cs K u)
  where
    go : T (alike cs e.keys) ⊎ T (varied cs K) → (T (varied cs K) → (n : ℕ) × Listed K cs n) → (n : ℕ) × Listed (e ∷ K) cs n
    go (inl u) ih = (e.number, inl (alike_same cs e.keys (T_true (alike cs e.keys) u), refl))
    go (inr u) ih = let r = ih u in (r.0, inr r.1)

-- ---- each number once

abbrev pub Once : List Entry → Type 0
Once [] = Unit {0}
Once (e ∷ K) = ((cs : List ℕ) → Listed K cs e.number → ⊥) × Once K

once_single : (K : List Entry) → Once K → Single K
once_single [] o cs ds n p q = absurd p
once_single (e ∷ K) o cs ds n (inl p) (inl q) = p.0 ∙ sym q.0
once_single (e ∷ K) o cs ds n (inl p) (inr q) = absurd (o.0 ds (rw p.1 at q))
once_single (e ∷ K) o cs ds n (inr p) (inl q) = absurd (o.0 cs (rw q.1 at p))
once_single (e ∷ K) o cs ds n (inr p) (inr q) = once_single K o.1 cs ds n p q

once_without : (n : ℕ) (K : List Entry) → Once K → Once (without_entry n K)
unfolding without_entry
once_without n [] o = tt
once_without n (e ∷ K) o = go (ℕ_discrete e.number n) (once_without n K o.1)
  where
    go : Dec (e.number ≡ n) → Once (without_entry n K) → Once (without_entry n (e ∷ K))
    go (yes u) ih = rw (without_entry_same n e K u) ih
    go (no u) ih = rw (without_entry_other n e K u) (λ cs p. o.0 cs (without_entry_only n K cs e.number p).0, ih)

-- the other sequences are still no variants of each other
pub apart_without : (n : ℕ) (K : List Entry) → Apart K → Apart (without_entry n K)
unfolding without_entry
apart_without n [] a = tt
apart_without n (e ∷ K) a = go (ℕ_discrete e.number n) (apart_without n K a.rest)
  where
    go : Dec (e.number ≡ n) → Apart (without_entry n K) → Apart (without_entry n (e ∷ K))
    go (yes u) ih = rw (without_entry_same n e K u) ih
    go (no u) ih =
        rw (without_entry_other n e K u) (record { body = a.body; number = a.number; new = λ m p. a.new m (without_entry_only n K e.keys m p).0; rest = ih })

without_entry_missing : (n : ℕ) (K : List Entry) → ((cs : List ℕ) → Listed K cs n → ⊥) → without_entry n K ≡ K
unfolding without_entry
without_entry_missing n [] h = refl
without_entry_missing n (e ∷ K) h = without_entry_other n e K (λ u. h e.keys (inl (refl, sym u))) ∙ ap (e ∷◌) (without_entry_missing n K (λ cs p. h cs (inr p)))

length_without : (n : ℕ) (cs : List ℕ) (K : List Entry) → Once K → Listed K cs n → length K ≡ suc (length (without_entry n K))
length_without n cs [] o k = absurd k
length_without n cs (e ∷ K) o k = go (ℕ_discrete e.number n) k (λ p. length_without n cs K o.1 p)
  where
    go : Dec (e.number ≡ n) → Listed (e ∷ K) cs n → (Listed K cs n → length K ≡ suc (length (without_entry n K)))
        → length (e ∷ K) ≡ suc (length (without_entry n (e ∷ K)))
    go (yes u) p ih = rw (without_entry_same n e K u, without_entry_missing n K (λ ds q. o.0 ds (rw u q)))
    go (no u) (inl q) ih = absurd (u (sym q.1))
    go (no u) (inr p) ih = rw (without_entry_other n e K u) (ap suc (ih p))

-- ---- the tree keeps the book

pub record Keeps (F : Forest) (K : List Entry) : Type 0 where
  pub mirrors : Mirrors F K
  pub once : Once K
  pub count : leaves F ≡ length K

pub keeps_empty : Keeps empty []
keeps_empty = record { mirrors = mirrors_empty; once = tt; count = refl }

keeps_ins : (F : Forest) (K : List Entry) (e : Entry) → Keeps F K → Body e.keys → e.number < first_key → ((cs : List ℕ) → Listed K cs e.number → ⊥)
    → ((m : ℕ) → Listed K e.keys m → ⊥) → Keeps (ins e.keys e.number F) (e ∷ K)
keeps_ins F K e k b l new_words new =
    record { mirrors = mirrors_ins F K e k.mirrors b l new; once = (new_words, k.once); count = ins_leaves e.keys e.number F b l ∙ ap suc k.count }

keeps_del : (F : Forest) (K : List Entry) (n : ℕ) (cs : List ℕ) → Keeps F K → n < first_key → find n F ≡ some cs → Keeps (del n F) (without_entry n K)
keeps_del F K n cs k l e =
    record {
      mirrors = mirrors_del F K cs n k.mirrors (once_single K k.once) l kept;
      once = once_without n K k.once;
      count = omega (arith, k.count, del_leaves n F cs l k.mirrors.formed e, length_without n cs K k.once kept);
    }
  where
    kept : Listed K cs n
    kept = (k.mirrors.paths cs n).0 (find_some n F l k.mirrors.formed cs e)

-- what a removal does to the tree and to the book
pub data Removes (F : Forest) (K : List Entry) (n : ℕ) : Type 0 where
  gone : remove_from F n ≡ change (del n F) → numbered n K ≡ true → Keeps (del n F) (without_entry n K) → size (del n F) ≤ size F → Removes F K n
  missing : remove_from F n ≡ refuse NoSuchNumber → numbered n K ≡ false → Removes F K n

pub removes : (F : Forest) (K : List Entry) (n : ℕ) → n < first_key → size F < 2 ^ 28 → Keeps F K → Removes F K n
unfolding remove_from
removes F K n l h k = go (find n F) refl
  where
    go : (o : Option (List ℕ)) → find n F ≡ o → Removes F K n
    go (some cs) e =
        gone (rw (e, remove_from)) (kept_numbered n cs K ((k.mirrors.paths cs n).0 (find_some n F l k.mirrors.formed cs e))) (keeps_del F K n cs k l e)
        (omega (arith, (closes n F l k.mirrors.formed h cs e).sized))
    go none e =
        missing (rw (e, remove_from))
        (T_false (numbered n K) (λ t. let r = numbered_kept n K t in find_none n F l k.mirrors.formed e r.0 ((k.mirrors.paths r.0 n).1 r.1)))

-- when an insertion is refused
module _ (len : ℕ) (K : List Entry) (e : Entry) where
  refuses_numbered : numbered e.number K ≡ true → refuses len K e ≡ true
  unfolding refuses
  refuses_numbered u = rw u

  refuses_varied : numbered e.number K ≡ false → varied e.keys K ≡ true → refuses len K e ≡ true
  unfolding refuses
  refuses_varied u v = rw (u, v)

  refuses_room : numbered e.number K ≡ false → varied e.keys K ≡ false
      → refuses len K e ≡ (leb max_kept (length K) || leb len (different (beginnings (e ∷ K))))
  unfolding refuses
  refuses_room u v = rw (u, v)

-- what an insertion does to the tree and to the book
pub data Inserts (len : ℕ) (F : Forest) (K : List Entry) (e : Entry) : Type 0 where
  refused : (r : Refusal) → insert_into len F e ≡ refuse r → refuses len K e ≡ true → Inserts len F K e
  grown : insert_into len F e ≡ change (ins e.keys e.number F) → refuses len K e ≡ false → Keeps (ins e.keys e.number F) (e ∷ K)
      → ((m : ℕ) → Listed K e.keys m → ⊥) → size (ins e.keys e.number F) < len → length K < max_kept → Inserts len F K e

module _ (len : ℕ) (e : Entry) (F : Forest) (K : List Entry) (b : Body e.keys) (l : e.number < first_key) (k : Keeps F K) where
  insert_taken : (cs : List ℕ) → find e.number F ≡ some cs → Inserts len F K e
  unfolding insert_into
  insert_taken cs u =
      let kept : Listed K cs e.number = (k.mirrors.paths cs e.number).0 (find_some e.number F l k.mirrors.formed cs u) in
      refused NumberTaken (rw (u, insert_into)) (refuses_numbered len K e (kept_numbered e.number cs K kept))

  module _ (u : find e.number F ≡ none) where
    new_number : (cs : List ℕ) → Listed K cs e.number → ⊥
    new_number cs p = find_none e.number F l k.mirrors.formed u cs ((k.mirrors.paths cs e.number).1 p)

    not_numbered : numbered e.number K ≡ false
    not_numbered = T_false (numbered e.number K) (λ t. let r = numbered_kept e.number K t in new_number r.0 r.1)

    insert_held : (m : ℕ) → holder e.keys F ≡ some m → Has F e.keys m → Inserts len F K e
    unfolding insert_into
    insert_held m v w =
        refused (Held m) (rw (u, v, insert_into)) (refuses_varied len K e not_numbered (kept_varied e.keys m K ((k.mirrors.paths e.keys m).0 w)))

    module _ (v : holder e.keys F ≡ none) (w : Free e.keys F) where
      new_keys : (m : ℕ) → Listed K e.keys m → ⊥
      new_keys m p = w m ((k.mirrors.paths e.keys m).1 p)

      not_varied : varied e.keys K ≡ false
      not_varied = T_false (varied e.keys K) (λ t. let r = varied_kept e.keys K t in new_keys r.0 r.1)

      larger : Keeps (ins e.keys e.number F) (e ∷ K)
      larger = keeps_ins F K e k b l new_number new_keys

      same_room : refuses len K e ≡ (leb max_kept (leaves F) || leb len (size (ins e.keys e.number F)))
      same_room = rw (k.count, book_size (ins e.keys e.number F) (e ∷ K) larger.mirrors) (refuses_room len K e not_numbered not_varied)

      insert_new : (s t : Bool) → leb max_kept (leaves F) ≡ s → leb len (size (ins e.keys e.number F)) ≡ t → Inserts len F K e
      unfolding insert_into
      insert_new true t p q = refused ListFull (rw (u, v, p, insert_into)) (rw (same_room, p))
      insert_new false true p q = refused NoRoom (rw (u, v, p, q, insert_into)) (rw (same_room, p, q))
      insert_new false false p q =
          grown (rw (u, v, p, q, insert_into)) (rw (same_room, p, q)) larger new_keys (leb-false len (size (ins e.keys e.number F)) q)
          (rw (← k.count) (leb-false max_kept (leaves F) p))

  pub inserts : Inserts len F K e
  inserts = go (find e.number F) refl (holder e.keys F) refl (holding 0 e.keys F k.mirrors.formed)
    where
      go : (o : Option (List ℕ)) → find e.number F ≡ o → (h : Option ℕ) → holder e.keys F ≡ h → Holding e.keys F h → Inserts len F K e
      go (some cs) u h v w = insert_taken cs u
      go none u (some m) v w = insert_held u m v w
      go none u none v w = insert_new u v w (leb max_kept (leaves F)) (leb len (size (ins e.keys e.number F))) refl refl
