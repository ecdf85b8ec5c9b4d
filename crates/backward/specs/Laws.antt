-- What is claimed of listing backward, where some clauses are kept.
use Rattle.std.specs.Prelude.{◌≡◌, ◌↔◌, ◌⊎◌, ℕ, ◌+◌, ◌≤◌, ◌<◌, length, Ok}
use mathlib.Core.List.{List, [], ◌∷◌, ◌++◌, map, Memᴰ}
use Rattle.clause.specs.Lists.{Each}
use Rattle.clause.specs.Word.{Words}
use Rattle.clause.specs.Clause.{Accepted, Subsumes}
use Rattle.tree.specs.Entries.{Pair}
use Rattle.tree.specs.declared.Refusal.TheVariants.{Spent, ShortList}
use Rattle.walk.specs.Ceiling.{enough_budget}
use Rattle.walk.specs.Covering.{candidates}
use Rattle.readback.specs.Readback.{normal}
use Rattle.readback.specs.Saved.{IsTreeOf}
use Rattle.readback.specs.Calls.{over}
use Rattle.backward.specs.Listing.{rising, lone}
use Rattle.backward.specs.Calls.{unlisted, list_into, backward}

-- a kept pair as it is read back
abbrev pub as_read : Pair → Pair
as_read p = record { number = p.number; clause = normal p.clause }

-- the kept clauses in the order in which they are queried: as they are read back, by rising number
abbrev pub queried : List Pair → List Pair
queried K = rising (map as_read K)

-- the candidates of all queries of some clauses in the tree of c alone, without a budget
abbrev pub tries_of : (c : List ℕ) (pairs : List Pair) → ℕ
tries_of c [] = 0
tries_of c (p ∷ K) = candidates (lone c) p.clause + tries_of c K

-- the numbers of those that c subsumes, in their order
pub data Picks (c : List ℕ) : (pairs : List Pair) (numbers : List ℕ) → Type 0 where
  done : Picks c [] []
  picked : {p : Pair} {K : List Pair} {ns : List ℕ} → Subsumes c p.clause → Picks c K ns → Picks c (p ∷ K) (p.number ∷ ns)
  passed : {p : Pair} {K : List Pair} {ns : List ℕ} → (Subsumes c p.clause → ⊥) → Picks c K ns → Picks c (p ∷ K) ns

-- going over some pairs, one of them is met after others, of which c subsumes those with these numbers
pub record Met (c : List ℕ) (pairs : List Pair) : Type 0 where
  pub before : List Pair
  pub this : Pair
  pub after : List Pair
  pub whole : pairs ≡ before ++ (this ∷ after)
  pub numbers : List ℕ
  pub picks : Picks c before numbers

-- the list is long enough for the numbers before it, and the budget for the candidates before it, but not for its own too
pub record SpentAt (c : List ℕ) (b : ℕ) (L : List ℕ) (pairs : List Pair) : Type 0 where
  pub met : Met c pairs
  pub room : length met.numbers ≤ length L
  pub before : tries_of c met.before ≤ b
  pub over : b < tries_of c met.before + candidates (lone c) met.this.clause

-- the budget is enough for the candidates before it and for its own, c subsumes it, and the list is full with the numbers before it
pub record FullAt (c : List ℕ) (b : ℕ) (L : List ℕ) (pairs : List Pair) : Type 0 where
  pub met : Met c pairs
  pub full : length met.numbers ≡ length L
  pub fits : tries_of c met.before + candidates (lone c) met.this.clause ≤ b
  pub subsumes : Subsumes c met.this.clause

-- what listing backward comes to on a slice where the pairs K are kept
pub record ListsKept (T : List ℕ) (K : List Pair) (c : List ℕ) (b : ℕ) (L : List ℕ) : Type 0 where
  -- it is the listing of the pairs as they are read back
  pub listing : backward T c b L ≡ list_into c b L (map as_read K)
  -- the numbers that are to be listed: exactly those of the pairs whose clause c subsumes; they rise, so that each stands once
  pub numbers : List ℕ
  pub exactly : (n : ℕ) → Memᴰ n numbers ↔ ((p : Pair) × Memᴰ p K × (p.number ≡ n) × Subsumes c p.clause)
  pub rise : Each ◌<◌ numbers
  pub few : length numbers ≤ length K
  -- they are listed, with the candidates in all, exactly if list and budget are enough; the list's further words stay
  pub answered : (n k : ℕ) → ((backward T c b L).answer ≡ Ok (record { count = n; candidates = k }))
      ↔ ((length numbers ≤ length L) × (tries_of c (queried K) ≤ b) × (n ≡ length numbers) × (k ≡ tries_of c (queried K)))
  pub list : (n k : ℕ) → (backward T c b L).answer ≡ Ok (record { count = n; candidates = k }) → (backward T c b L).list ≡ over numbers L
  -- 12 and 16 come exactly where they are met, going by rising number, and leave every word
  pub spent : (backward T c b L ≡ unlisted (Spent b) L) ↔ SpentAt c b L (queried K)
  pub full : (backward T c b L ≡ unlisted ShortList L) ↔ FullAt c b L (queried K)
  -- and nothing else comes
  pub kinds : ((n : ℕ) × (k : ℕ) × ((backward T c b L).answer ≡ Ok (record { count = n; candidates = k })))
      ⊎ ((backward T c b L ≡ unlisted (Spent b) L) ⊎ (backward T c b L ≡ unlisted ShortList L))
  -- a budget that is enough for every query is enough for the listing
  pub enough : tries_of c (queried K) ≤ enough_budget

-- the claim: for the tree of any clauses, and every accepted clause, budget and list
abbrev pub BackwardLaws : Type 0
BackwardLaws =
    (T : List ℕ) (K : List Pair) → IsTreeOf T K → (c : List ℕ) → Accepted c → Words c → (b : ℕ) (L : List ℕ) → ListsKept T K c b L
