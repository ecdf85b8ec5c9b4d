-- The tree of a clause alone: its slice, and the queries of it.
use Rattle.std.specs.Prelude.{Ok}
use mathlib.Core.Path.{◌≡◌, refl, ap}
use mathlib.Core.List.Memᴰ
use mathlib.Core.List.{List, [], ◌∷◌, map}
use Prim.Native.Nat.{ℕ, zero, suc, ◌-◌, ◌≤◌, ◌<◌}
use native.Mathlib.Nat.{le_trans}
use native.Mathlib.Omega.{arith}
use lib.ListN.{length, replicate, length-map}
use borrow.Author.Tests.{le-leb, lt-leb}
use Rattle.clause.specs.Lists.{All, none, also, nobody, besides}
use Rattle.clause.specs.Word.{Words}
use Rattle.clause.specs.Clause.{max_literals, Accepted, literals, Subsumes}
use Rattle.clause.proofs.Literals.{accepted}
use Rattle.machine.specs.Instr.{key}
use Rattle.machine.specs.Compile.{sequence, keys}
use Rattle.machine.specs.Machine.{State, initial}
use Rattle.machine.proofs.Length.{sequence_length}
use Rattle.tree.specs.Forest.{empty, size, leaves, layout, ins, find, holder}
use Rattle.tree.specs.Entries.{Pair, Sound, entry, Mirrors}
use Rattle.tree.specs.Inner.Books.{Apart}
use Rattle.tree.specs.Changes.{insert_into}
use Rattle.tree.specs.Calls.{insertion}
use Rattle.tree.specs.declared.Done.TheVariants.{Kept}
use Rattle.tree.proofs.Words.{length_layout, laid_layout, decode_layout}
use Rattle.tree.proofs.InsertWords.{chain_size, ins_leaves}
use Rattle.tree.proofs.Mirror.{mirrors_build}
use Rattle.walk.specs.Walk.{Answer, covered, not_covered, spent, broken, up_to, always, walk}
use Rattle.walk.specs.Ceiling.{arrangements}
use Rattle.walk.specs.Query.{machine, witness_words, answer_by, query}
use Rattle.walk.specs.Covering.{most, Subsumed, count_of, candidates}
use Rattle.walk.proofs.Paths.{Finds}
use Rattle.walk.proofs.Search.{Decides, found, nothing}
use Rattle.walk.proofs.Count.{of_covered, of_not_covered}
use Rattle.walk.proofs.Budget.{Capped, as_covered, as_not_covered, over, capped}
use Rattle.walk.proofs.Bound.{arrangements_le}
use Rattle.walk.proofs.Kept.{subsumes_finds}
use Rattle.walk.proofs.Covering.{query_tree, walk_decides, finds_subsumed, kept_arranged}
use Rattle.readback.proofs.Saved.{apart_pairs}
use Rattle.backward.specs.Listing.{lone, tried}

-- the only pair of that tree
abbrev pub itself : List ℕ → Pair
itself c = record { number = 0; clause = c }

-- the fresh slice is that of the empty tree
fresh_layout : (len : ℕ) → 2 ≤ len → replicate len 0 ≡ layout len empty
unfolding layout
fresh_layout len h = go len h
  where
    go : (n : ℕ) → 2 ≤ n → replicate n 0 ≡ layout n empty
    go zero h = elim h [ ]
    go (suc n) h = let e : suc n - 1 ≡ n = omega arith in rw e

-- what is subsumed by that pair's clause
itself_subsumes : (c d : List ℕ) → Subsumed (itself c ∷ []) d → Subsumes c d
itself_subsumes c d (p, Memᴰ.head e, u) = let same : p.clause ≡ c = ap (λ x. x.clause) e in rw same at u
itself_subsumes c d (p, Memᴰ.tail m, u) = elim m [ ]

-- what querying d in the tree of c alone, with a budget of b, comes to: c subsumes d, or does not, or the budget is not enough
pub data Tries (c d : List ℕ) (b : ℕ) : Answer State → Type 0 where
  subsuming : {n : ℕ} {s : State} {k : ℕ} → Subsumes c d → k ≡ candidates (lone c) d → k ≤ b → Tries c d b (covered n s k)
  other : {k : ℕ} → (Subsumes c d → ⊥) → k ≡ candidates (lone c) d → k ≤ b → Tries c d b (not_covered k)
  beyond : b < candidates (lone c) d → Tries c d b spent

module _ (c : List ℕ) (C : Accepted c) (w : Words c) where
  -- the pair is sound, and no other is beside it
  lone_sound : All Sound (itself c ∷ [])
  lone_sound = also {x = itself c} (record { accepted = C; words = w; number = omega arith }) none

  lone_apart : Apart (map entry (itself c ∷ []))
  lone_apart = apart_pairs (itself c ∷ []) (record { sound = lone_sound; numbers = besides none nobody; clauses = besides none nobody })

  -- the tree keeps that pair
  pub lone_mirrors : Mirrors (lone c) (map entry (itself c ∷ []))
  unfolding lone
  lone_mirrors = mirrors_build (map entry (itself c ∷ [])) lone_apart

  -- it has one leaf
  pub lone_leaves : leaves (lone c) ≡ 1
  unfolding lone
  lone_leaves = ins_leaves (keys c) 0 empty lone_apart.body lone_apart.number

  -- it has at most one word more than a clause has keys
  pub lone_size : size (lone c) ≤ 321
  unfolding lone ins
  lone_size = omega (arith, chain_size (keys c) 0, length-map (sequence c) key, sequence_length c (accepted c C))

  -- inserting the clause into the fresh slice makes it
  pub lone_insertion : (len : ℕ) → 2 ≤ len → len ≤ 65_536 → size (lone c) < len
      → insertion (replicate len 0) c 0 ≡ record { answer = Ok Kept; slice = layout len (lone c) }
  unfolding insertion insert_into find holder lone
  lone_insertion len low high room =
      let e : size empty < len = omega arith in
      rw (
        fresh_layout len low,
        length_layout len empty e,
        le-leb 2 len low,
        le-leb len 65_536 high,
        C.1,
        laid_layout len empty e (omega arith) tt (omega arith),
        length_layout len empty e,
        decode_layout len empty (omega arith),
        lt-leb len (size (lone c)) room,
        length_layout len empty e,
      )

  module _ (d : List ℕ) (D : Accepted d) (b : ℕ) where
    -- the query of its slice is the walk over it
    pub lone_query : (len : ℕ) → 2 ≤ len → len ≤ 65_536 → size (lone c) < len → (W : List ℕ) → witness_words ≤ length W
        → query (layout len (lone c)) d b W ≡ answer_by b W (tried c b d)
    unfolding tried
    lone_query len low high room W long = query_tree len (lone c) low high room d D b W long lone_mirrors.formed

    -- the walk with a budget, by the walk without one
    lone_outcome : (a a' : Answer State) → count_of a ≡ candidates (lone c) d → Decides (Finds (machine d) (lone c) initial) a → Capped b a a' → Tries c d b a'
    lone_outcome (covered n s k) a' e (found f) (as_covered h) = subsuming (itself_subsumes c d (finds_subsumed (itself c ∷ []) (lone c) lone_sound lone_mirrors d D n s f)) e h
    lone_outcome (covered n s k) a' e (found f) (over (of_covered h)) = beyond (omega arith)
    lone_outcome (not_covered k) a' e (nothing g) (as_not_covered h) =
        other (λ u. let (t, f) = subsumes_finds (itself c ∷ []) (lone c) lone_sound lone_mirrors d D (itself c) (Memᴰ.head refl) u in g 0 t f) e h
    lone_outcome (not_covered k) a' e (nothing g) (over (of_not_covered h)) = beyond (omega arith)
    lone_outcome spent a' e x3 _ = elim x3 [ ]
    lone_outcome broken a' e x4 _ = elim x4 [ ]

    -- so it decides whether c subsumes d
    pub lone_tries : Tries c d b (tried c b d)
    unfolding tried
    lone_tries =
        lone_outcome (walk (machine d) always (lone c) initial 0) (walk (machine d) (up_to b) (lone c) initial 0) refl
        (walk_decides (itself c ∷ []) (lone c) lone_sound lone_mirrors d D) (capped (machine d) b (lone c) initial 0 (omega arith))

  -- no query of an accepted clause takes more candidates than the arrangements of the most literals
  pub lone_few : (d : List ℕ) → Accepted d → candidates (lone c) d ≤ arrangements max_literals max_literals
  lone_few d D =
      let q = length (literals d) in
      let m = most (itself c ∷ []) in
      let few : m ≤ max_literals = omega (arith, (accepted c C).few) in
      let l = kept_arranged (itself c ∷ []) (lone c) lone_sound lone_mirrors lone_leaves d D in
      le_trans l (omega (arith, arrangements_le q max_literals m max_literals (accepted d D).few few))
