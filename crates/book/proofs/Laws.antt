-- The claims of specs/Laws.
use Rattle.std.specs.Prelude.{Err, Ok, Result, ℕ, ⊤}
use mathlib.Core.Path.{◌≡◌, refl, sym, ap, ◌∙◌}
use mathlib.Core.Logic.{◌↔◌}
use mathlib.Core.Bool.{true}
use mathlib.Core.List.{List, [], ◌∷◌, map, Memᴰ}
use Prim.Native.Nat.{ℕ}
use lib.ListN.{get_or}
use Rattle.clause.specs.Lists.{All}
use Rattle.clause.specs.Clause.{Accepted}
use Rattle.machine.specs.Instr.{key}
use Rattle.machine.specs.Compile.{Variants, keys}
use Rattle.tree.specs.Changes.{numbered, varied}
use Rattle.tree.specs.Refusal.{code_of, values_of}
use Rattle.book.specs.Table.{Title, ready, kept, removed, is_covered, is_not_covered, returned, passed, read, listed, code, said_call, said_query, said_ceiling, said_check, said_read, said_back}
use Rattle.book.specs.Laws.{BookLaws}
use Rattle.clause.proofs.Lists.{all_mem}
use Rattle.book.proofs.Beginnings.{counted}
use Rattle.tree.proofs.Changes.{kept_numbered, numbered_kept, kept_varied, varied_kept}
use Rattle.tree.proofs.Pairs.{kept_pair, pair_kept}
use Rattle.readback.proofs.Saved.{sound_good, same_keys}
use Rattle.clause.specs.declared.Fault.TheVariants.{BadLength, Bad, Ninth}
use Rattle.tree.specs.Entries.{Pair, Sound, entry}
use Rattle.clause.specs.Word.{Words}
use Rattle.tree.specs.declared.Refusal.{Refusal}
use Rattle.tree.specs.declared.Refusal.TheVariants.{BadSlice, Broken, ShortWitness, NumberTaken, NoSuchNumber, ListFull, NoRoom, BadSize, BadClause, Held, Spent, NoSuchTree, ShortOutput, ShortList}
use Rattle.walk.specs.declared.Verdict.{Verdict}
use Rattle.walk.specs.declared.Verdict.TheVariants.{Covered, NotCovered}
use Rattle.tree.specs.declared.Done.{Done}
use Rattle.tree.specs.declared.Done.TheVariants.{Ready, Kept, Removed}
use Rattle.backward.specs.declared.Listed.{Listed}

number : (n : ℕ) (K : List Pair) → (numbered n (map entry K) ≡ true) ↔ ((p : Pair) × Memᴰ p K × (p.number ≡ n))
number n K = (
  λ e. let (cs, k) = numbered_kept n (map entry K) (rw e tt) in let (p, m, f, g) = kept_pair K cs n k in (p, m, sym g),
  λ h. let (p, m, g) = h in kept_numbered n (keys p.clause) (map entry K) (rw g at (pair_kept K p m)),
)

variant : (c : List ℕ) (K : List Pair) → Accepted c → Words c → All Sound K
    → (varied (keys c) (map entry K) ≡ true) ↔ ((p : Pair) × Memᴰ p K × Variants c p.clause)
variant c K C w S = (
  λ e. let (n, k) = varied_kept (keys c) (map entry K) (rw e tt) in
      let (p, m, f, g) = kept_pair K (keys c) n k in
      (p, m, same_keys c p.clause (record { accepted = C; words = w }) (sound_good p (all_mem S m)) f),
  λ h. let (p, m, v) = h in kept_varied (keys c) p.number (map entry K) (rw (← ap (map key) v) at (pair_kept K p m)),
)

-- ---- from what is said back to the answer

-- the refusal of a code and its values
refusal_of : (code : ℕ) (values : List ℕ) → Refusal
refusal_of c vs =
    let v : ℕ = get_or vs 0 0 in
    get_or (
    BadSize ∷ BadSlice ∷ Broken ∷ BadClause BadLength ∷ BadClause (Bad v) ∷ BadClause (Ninth v) ∷ ShortWitness ∷ NumberTaken ∷ Held v ∷ NoSuchNumber
    ∷ ListFull ∷ NoRoom ∷ Spent v ∷ BadSize ∷ NoSuchTree ∷ ShortOutput ∷ ShortList ∷ []
    ) c BadSize

refusal_back : (r : Refusal) → refusal_of (code_of r) (values_of r) ≡ r
unfolding refusal_of
refusal_back BadSlice = refl
refusal_back Broken = refl
refusal_back (BadClause BadLength) = refl
refusal_back (BadClause (Bad at)) = refl
refusal_back (BadClause (Ninth at)) = refl
refusal_back ShortWitness = refl
refusal_back NumberTaken = refl
refusal_back (Held n) = refl
refusal_back NoSuchNumber = refl
refusal_back ListFull = refl
refusal_back NoRoom = refl
refusal_back (Spent c) = refl
refusal_back BadSize = refl
refusal_back NoSuchTree = refl
refusal_back ShortOutput = refl
refusal_back ShortList = refl

call_as : Title → List ℕ → Result Done Refusal
call_as ready vs = Ok Ready
call_as kept vs = Ok Kept
call_as removed vs = Ok Removed
call_as is_covered vs = Ok Ready
call_as is_not_covered vs = Ok Ready
call_as returned vs = Ok Ready
call_as passed vs = Ok Ready
call_as read vs = Ok Ready
call_as listed vs = Ok Ready
call_as (code n) vs = Err (refusal_of n vs)

call_back : (a : Result Done Refusal) → call_as (said_call a).title (said_call a).values ≡ a
unfolding call_as
call_back (Err r) = ap Err (refusal_back r)
call_back (Ok Ready) = refl
call_back (Ok Kept) = refl
call_back (Ok Removed) = refl

query_as : Title → List ℕ → Result Verdict Refusal
query_as ready vs = Ok (NotCovered 0)
query_as kept vs = Ok (NotCovered 0)
query_as removed vs = Ok (NotCovered 0)
query_as is_covered vs = Ok (Covered (get_or vs 0 0) (get_or vs 1 0))
query_as is_not_covered vs = Ok (NotCovered (get_or vs 0 0))
query_as returned vs = Ok (NotCovered 0)
query_as passed vs = Ok (NotCovered 0)
query_as read vs = Ok (NotCovered 0)
query_as listed vs = Ok (NotCovered 0)
query_as (code n) vs = Err (refusal_of n vs)

query_back : (a : Result Verdict Refusal) → query_as (said_query a).title (said_query a).values ≡ a
unfolding query_as
query_back (Err r) = ap Err (refusal_back r)
query_back (Ok (Covered n c)) = refl
query_back (Ok (NotCovered c)) = refl

ceiling_as : Title → List ℕ → Result ℕ Refusal
ceiling_as ready vs = Ok 0
ceiling_as kept vs = Ok 0
ceiling_as removed vs = Ok 0
ceiling_as is_covered vs = Ok 0
ceiling_as is_not_covered vs = Ok 0
ceiling_as returned vs = Ok (get_or vs 0 0)
ceiling_as passed vs = Ok 0
ceiling_as read vs = Ok 0
ceiling_as listed vs = Ok 0
ceiling_as (code n) vs = Err (refusal_of n vs)

ceiling_back : (a : Result ℕ Refusal) → ceiling_as (said_ceiling a).title (said_ceiling a).values ≡ a
unfolding ceiling_as
ceiling_back (Err r) = ap Err (refusal_back r)
ceiling_back (Ok n) = refl

check_as : Title → List ℕ → Result ⊤ Refusal
check_as ready vs = Ok tt
check_as kept vs = Ok tt
check_as removed vs = Ok tt
check_as is_covered vs = Ok tt
check_as is_not_covered vs = Ok tt
check_as returned vs = Ok tt
check_as passed vs = Ok tt
check_as read vs = Ok tt
check_as listed vs = Ok tt
check_as (code n) vs = Err (refusal_of n vs)

check_back : (a : Result ⊤ Refusal) → check_as (said_check a).title (said_check a).values ≡ a
unfolding check_as
check_back (Err r) = ap Err (refusal_back r)
check_back (Ok tt) = refl

read_as : Title → List ℕ → Result ℕ Refusal
read_as ready vs = Ok 0
read_as kept vs = Ok 0
read_as removed vs = Ok 0
read_as is_covered vs = Ok 0
read_as is_not_covered vs = Ok 0
read_as returned vs = Ok 0
read_as passed vs = Ok 0
read_as read vs = Ok (get_or vs 0 0)
read_as listed vs = Ok 0
read_as (code n) vs = Err (refusal_of n vs)

read_back : (a : Result ℕ Refusal) → read_as (said_read a).title (said_read a).values ≡ a
unfolding read_as
read_back (Err r) = ap Err (refusal_back r)
read_back (Ok n) = refl

back_as : Title → List ℕ → Result Listed Refusal
back_as ready vs = Ok (record { count = 0; candidates = 0 })
back_as kept vs = Ok (record { count = 0; candidates = 0 })
back_as removed vs = Ok (record { count = 0; candidates = 0 })
back_as is_covered vs = Ok (record { count = 0; candidates = 0 })
back_as is_not_covered vs = Ok (record { count = 0; candidates = 0 })
back_as returned vs = Ok (record { count = 0; candidates = 0 })
back_as passed vs = Ok (record { count = 0; candidates = 0 })
back_as read vs = Ok (record { count = 0; candidates = 0 })
back_as listed vs = Ok (record { count = get_or vs 0 0; candidates = get_or vs 1 0 })
back_as (code n) vs = Err (refusal_of n vs)

back_back : (a : Result Listed Refusal) → back_as (said_back a).title (said_back a).values ≡ a
unfolding back_as
back_back (Err r) = ap Err (refusal_back r)
back_back (Ok l) = refl

pub book_laws : BookLaws
book_laws =
    record {
      call = λ a b e. sym (call_back a) ∙ ap (λ s. call_as s.title s.values) e ∙ call_back b;
      query = λ a b e. sym (query_back a) ∙ ap (λ s. query_as s.title s.values) e ∙ query_back b;
      ceiling = λ a b e. sym (ceiling_back a) ∙ ap (λ s. ceiling_as s.title s.values) e ∙ ceiling_back b;
      check = λ a b e. sym (check_back a) ∙ ap (λ s. check_as s.title s.values) e ∙ check_back b;
      read = λ a b e. sym (read_back a) ∙ ap (λ s. read_as s.title s.values) e ∙ read_back b;
      back = λ a b e. sym (back_back a) ∙ ap (λ s. back_as s.title s.values) e ∙ back_back b;
      number = number;
      variant = variant;
      counted = counted;
    }
