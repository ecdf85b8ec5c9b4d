-- What a listing answers: exactly one of three outcomes, and what follows from each answer.
use Rattle.std.specs.Prelude.{Ok, Result}
use mathlib.Core.Path.{◌≡◌, sym, ap, ◌∙◌}
use mathlib.Core.Logic.{◌⊎◌, inl, inr}
use mathlib.Core.List.{List}
use Prim.Native.Nat.{ℕ, ◌≤◌}
use lib.ListN.{length}
use Rattle.clause.specs.Word.{Words}
use Rattle.clause.specs.Clause.{Accepted}
use Rattle.tree.specs.Entries.{Pair}
use Rattle.tree.specs.declared.Refusal.{Refusal}
use Rattle.backward.specs.declared.Listed.{Listed}
use Rattle.tree.specs.declared.Refusal.TheVariants.{Spent, ShortList}
use Rattle.readback.specs.Calls.{over}
use Rattle.backward.specs.Listing.{list_from}
use Rattle.backward.specs.Calls.{Backed, unlisted, listed_in}
use Rattle.backward.specs.Laws.{tries_of, Picks, SpentAt, FullAt}
use Rattle.backward.proofs.Picking.{AllAccepted}
use Rattle.backward.proofs.Listings.{listed_is, spent_is, full_is, ways}

-- the answer tells what is listed
abbrev listing : Listed → Result Listed Refusal
listing = Ok

same_listed : {x y : Listed} → listing x ≡ listing y → x ≡ y
same_listed q = cc

-- the outcomes of listing pairs R by c with a budget of b into L, where the numbers ns are to be listed
pub record Outcomes (c : List ℕ) (b : ℕ) (L : List ℕ) (R : List Pair) (ns : List ℕ) (B : Backed) : Type 0 where
  pub ways : ((length ns ≤ length L) × (tries_of c R ≤ b)) ⊎ (SpentAt c b L R ⊎ FullAt c b L R)
  pub listed : length ns ≤ length L → tries_of c R ≤ b → B ≡ record { answer = Ok (record { count = length ns; candidates = tries_of c R }); list = over ns L }
  pub spent : SpentAt c b L R → B ≡ unlisted (Spent b) L
  pub full : FullAt c b L R → B ≡ unlisted ShortList L

-- those of a listing are such
pub outcomes : (c : List ℕ) → Accepted c → Words c → (b : ℕ) (L : List ℕ) (R : List Pair) → AllAccepted R → (ns : List ℕ) → Picks c R ns
    → (B : Backed) → B ≡ listed_in b L (list_from c b R (length L) 0) → Outcomes c b L R ns B
unfolding listed_in
outcomes c C w b L R A ns P B is =
    record {
      ways = ways c C w b R A L ns P;
      listed = λ h g. is ∙ ap (listed_in b L) (listed_is c C w b R A L ns P h g);
      spent = λ s. is ∙ ap (listed_in b L) (spent_is c C w b R A L s);
      full = λ s. is ∙ ap (listed_in b L) (full_is c C w b R A L s);
    }

module _ {c : List ℕ} {b : ℕ} {L : List ℕ} {R : List Pair} {ns : List ℕ} {B : Backed} (O : Outcomes c b L R ns B) where
  -- list and budget are enough, and these are the numbers of the answer
  abbrev Enough : ℕ → ℕ → Type 0
  Enough n k = (length ns ≤ length L) × (tries_of c R ≤ b) × (n ≡ length ns) × (k ≡ tries_of c R)

  -- they are if numbers are listed
  pub listed_enough : (n k : ℕ) → B.answer ≡ Ok (record { count = n; candidates = k }) → Enough n k
  listed_enough n k e = go O.ways
    where
      go : ((length ns ≤ length L) × (tries_of c R ≤ b)) ⊎ (SpentAt c b L R ⊎ FullAt c b L R) → Enough n k
      go (inl (h, g)) =
          let r = same_listed (sym (ap (λ (x : Backed). x.answer) (O.listed h g)) ∙ e) in
          (h, g, sym (ap (λ x. x.count) r), sym (ap (λ x. x.candidates) r))
      go (inr (inl s)) = let q = ap (λ (x : Backed). x.answer) (O.spent s) in cc
      go (inr (inr s)) = let q = ap (λ (x : Backed). x.answer) (O.full s) in cc

  -- and only then
  pub enough_listed : (n k : ℕ) → Enough n k → B.answer ≡ Ok (record { count = n; candidates = k })
  enough_listed n k (h, g, e, f) = rw (e, f) (ap (λ x. x.answer) (O.listed h g))

  -- they stand in the list
  pub listed_over : (n k : ℕ) → B.answer ≡ Ok (record { count = n; candidates = k }) → B.list ≡ over ns L
  listed_over n k e = let v = listed_enough n k e in ap (λ x. x.list) (O.listed v.0 v.1)

  -- spent: at a pair
  pub spent_at : B ≡ unlisted (Spent b) L → SpentAt c b L R
  spent_at e = go O.ways
    where
      go : ((length ns ≤ length L) × (tries_of c R ≤ b)) ⊎ (SpentAt c b L R ⊎ FullAt c b L R) → SpentAt c b L R
      go (inl (h, g)) = let q = ap (λ (x : Backed). x.answer) (sym e ∙ O.listed h g) in cc
      go (inr (inl s)) = s
      go (inr (inr s)) = let q = ap (λ (x : Backed). x.answer) (sym e ∙ O.full s) in cc

  -- full: at a pair
  pub full_at : B ≡ unlisted ShortList L → FullAt c b L R
  full_at e = go O.ways
    where
      go : ((length ns ≤ length L) × (tries_of c R ≤ b)) ⊎ (SpentAt c b L R ⊎ FullAt c b L R) → FullAt c b L R
      go (inl (h, g)) = let q = ap (λ (x : Backed). x.answer) (sym e ∙ O.listed h g) in cc
      go (inr (inl s)) = let q = ap (λ (x : Backed). x.answer) (sym e ∙ O.spent s) in cc
      go (inr (inr s)) = s

  -- nothing else is answered
  pub one_kind : ((n : ℕ) × (k : ℕ) × (B.answer ≡ Ok (record { count = n; candidates = k }))) ⊎ ((B ≡ unlisted (Spent b) L) ⊎ (B ≡ unlisted ShortList L))
  one_kind = go O.ways
    where
      go : ((length ns ≤ length L) × (tries_of c R ≤ b)) ⊎ (SpentAt c b L R ⊎ FullAt c b L R)
          → ((n : ℕ) × (k : ℕ) × (B.answer ≡ Ok (record { count = n; candidates = k }))) ⊎ ((B ≡ unlisted (Spent b) L) ⊎ (B ≡ unlisted ShortList L))
      go (inl (h, g)) = inl (length ns, tries_of c R, ap (λ x. x.answer) (O.listed h g))
      go (inr (inl s)) = inr (inl (O.spent s))
      go (inr (inr s)) = inr (inr (O.full s))
