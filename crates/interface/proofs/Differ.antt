-- From the number returned and the words told back to the answer.
use Rattle.std.specs.Prelude.{Err, Ok, Result, ℕ, ⊤}
use mathlib.Core.Path.{◌≡◌, refl, sym, ap, ap₂, ◌∙◌}
use mathlib.Core.Bool.{Bool, true, false, cond, false≢true}
use mathlib.Core.Option.{Option, none, some}
use mathlib.Core.List.{List, [], ◌∷◌}
use Prim.Native.Nat.{ℕ, ◌≤◌}
use native.Mathlib.Omega.{arith}
use lib.Dec.{eqb}
use lib.ListN.{length, get_or}
use Rattle.clause.specs.Clause.{shape}
use Rattle.clause.specs.declared.Fault.TheVariants.{BadLength, Bad, Ninth}
use Rattle.tree.specs.Forest.{find}
use Rattle.tree.specs.Laid.{sized, well_laid, decode}
use Rattle.tree.specs.Entries.{entry}
use Rattle.tree.specs.Changes.{Change, refuse, change, insert_into, remove_from}
use Rattle.tree.specs.Calls.{Called, refused, changed, fresh, insert_as, insertion, removal}
use Rattle.tree.specs.Refusal.{code_of, values_of}
use Rattle.tree.specs.declared.Refusal.{Refusal}
use Rattle.tree.specs.declared.Refusal.TheVariants.{BadSlice, Broken, BadClause, ShortWitness, NumberTaken, Held, NoSuchNumber, ListFull, NoRoom, Spent, BadSize, NoSuchTree, ShortOutput, ShortList}
use Rattle.tree.specs.declared.Done.{Done}
use Rattle.tree.specs.declared.Done.TheVariants.{Ready, Kept, Removed}
use Rattle.readback.specs.Saved.{of_clauses}
use Rattle.readback.specs.Calls.{check, read_back}
use Rattle.backward.specs.Calls.{backward}
use Rattle.backward.specs.declared.Listed.{Listed}
use Rattle.walk.specs.Ceiling.{ceiling_call}
use Rattle.walk.specs.Query.{query}
use Rattle.walk.specs.declared.Verdict.{Verdict}
use Rattle.walk.specs.declared.Verdict.TheVariants.{Covered, NotCovered}
use Rattle.book.specs.Table.{said_call, said_query, said_ceiling, said_check, said_read, said_back}
use Rattle.interface.specs.Told.{number_of, told_by, replied}
use Rattle.interface.specs.Calls.{ct_fresh, ct_insert, ct_remove, ct_query, ct_ceiling, ct_read_back, ct_check, ct_backward}
use Rattle.interface.specs.Claims.{ToldApart}
use Rattle.clause.specs.declared.Fault.{Fault}

-- ---- the answers that each call gives

pub data Freshened : Result Done Refusal → Type 0 where
  ready : Freshened (Ok Ready)
  bad_slice : Freshened (Err BadSlice)

pub data Inserted : Result Done Refusal → Type 0 where
  kept : Inserted (Ok Kept)
  refusal : (r : Refusal) → Inserted (Err r)

pub data Taken : Result Done Refusal → Type 0 where
  removed : Taken (Ok Removed)
  bad_slice : Taken (Err BadSlice)
  broken : Taken (Err Broken)
  no_such : Taken (Err NoSuchNumber)

pub data Checked : Result ⊤ Refusal → Type 0 where
  passed : Checked (Ok tt)
  bad_slice : Checked (Err BadSlice)
  broken : Checked (Err Broken)
  no_tree : Checked (Err NoSuchTree)

-- what holds of two answers holds of either
either : {A : Type 0} (P : A → Type 0) (b : Bool) (x y : A) → P x → P y → P (cond b x y)
either P true x y p q = p
either P false x y p q = q

pub fresh_answers : (T : List ℕ) → Freshened (fresh T).answer
unfolding fresh
fresh_answers T = either (λ (r : Called). Freshened r.answer) (sized T) _ _ ready bad_slice

insert_changes : (T : List ℕ) (c : Change) → Inserted (changed T (Ok Kept) c).answer
insert_changes T (refuse r) = refusal r
insert_changes T (change F) = kept

insert_shaped : (s : Result ℕ Fault) (T c : List ℕ) (n : ℕ) → Inserted (insert_as s T c n).answer
insert_shaped (Err f) T c n = refusal (BadClause f)
insert_shaped (Ok q) T c n =
    let change : Change = insert_into (length T) (decode T) (entry (record { number = n; clause = c })) in
    either (λ (r : Called). Inserted r.answer) (well_laid T) (changed T (Ok Kept) change) (refused Broken T) (insert_changes T change) (refusal Broken)

pub insert_answers : (T c : List ℕ) (n : ℕ) → Inserted (insertion T c n).answer
unfolding insertion
insert_answers T c n = either (λ (r : Called). Inserted r.answer) (sized T) _ _ (insert_shaped (shape c) T c n) (refusal BadSlice)

remove_changes : (T : List ℕ) (n : ℕ) → Taken (changed T (Ok Removed) (remove_from (decode T) n)).answer
unfolding remove_from
remove_changes T n = go (find n (decode T)) refl
  where
    go : (o : Option (List ℕ)) → find n (decode T) ≡ o → Taken (changed T (Ok Removed) (remove_from (decode T) n)).answer
    go (some cs) e = rw (e, remove_from) removed
    go none e = rw (e, remove_from) no_such

pub remove_answers : (T : List ℕ) (n : ℕ) → Taken (removal T n).answer
unfolding removal
remove_answers T n = either (λ (r : Called). Taken r.answer) (sized T) _ _ (either (λ (r : Called). Taken r.answer) (well_laid T) _ _ (remove_changes T n) broken) bad_slice

check_answers : (T : List ℕ) → Checked (check T)
unfolding check
check_answers T = either Checked (sized T) _ _ (either Checked (well_laid T) _ _ (either Checked (of_clauses (decode T)) _ _ passed no_tree) broken) bad_slice

-- ---- back to the answer

-- what is done for 0, or the refusal of a code with the first word told
answer_of : {A : Type 0} (done : A) → (Refusal → A) → (number : ℕ) (told : List ℕ) → A
answer_of done refused n ts =
    let v : ℕ = get_or ts 0 0 in
    get_or (
    done ∷ refused BadSlice ∷ refused Broken ∷ refused (BadClause BadLength) ∷ refused (BadClause (Bad v)) ∷ refused (BadClause (Ninth v))
    ∷ refused ShortWitness ∷ refused NumberTaken ∷ refused (Held v) ∷ refused NoSuchNumber ∷ refused ListFull ∷ refused NoRoom ∷ refused (Spent v)
    ∷ refused BadSize ∷ refused NoSuchTree ∷ refused ShortOutput ∷ refused ShortList ∷ []
    ) n done

refusal_back : {A : Type 0} (done : A) (refused : Refusal → A) (r : Refusal) (t : ℕ) (ts : List ℕ)
    → answer_of done refused (code_of r) (told_by (values_of r) (t ∷ ts)) ≡ refused r
unfolding answer_of
refusal_back done refused BadSlice t ts = refl
refusal_back done refused Broken t ts = refl
refusal_back done refused (BadClause BadLength) t ts = refl
refusal_back done refused (BadClause (Bad at)) t ts = refl
refusal_back done refused (BadClause (Ninth at)) t ts = refl
refusal_back done refused ShortWitness t ts = refl
refusal_back done refused NumberTaken t ts = refl
refusal_back done refused (Held n) t ts = refl
refusal_back done refused NoSuchNumber t ts = refl
refusal_back done refused ListFull t ts = refl
refusal_back done refused NoRoom t ts = refl
refusal_back done refused (Spent c) t ts = refl
refusal_back done refused BadSize t ts = refl
refusal_back done refused NoSuchTree t ts = refl
refusal_back done refused ShortOutput t ts = refl
refusal_back done refused ShortList t ts = refl

-- a refusal's code is not 0
pub code_some : (r : Refusal) → code_of r ≡ 0 → ⊥
unfolding answer_of
code_some r e = false≢true (sym (refusal_back true (λ _. false) r 0 []) ∙ ap (λ n. answer_of true (λ _. false) n (told_by (values_of r) (0 ∷ []))) e)

fresh_back : {a : Result Done Refusal} → Freshened a → answer_of (Ok Ready) Err (number_of (said_call a).title) [] ≡ a
unfolding answer_of
fresh_back ready = refl
fresh_back bad_slice = refl

remove_back : {a : Result Done Refusal} → Taken a → answer_of (Ok Removed) Err (number_of (said_call a).title) [] ≡ a
unfolding answer_of
remove_back removed = refl
remove_back bad_slice = refl
remove_back broken = refl
remove_back no_such = refl

insert_back : {a : Result Done Refusal} → Inserted a → (ts : List ℕ) → 3 ≤ length ts
    → answer_of (Ok Kept) Err (replied (said_call a) ts).number (replied (said_call a) ts).told ≡ a
unfolding answer_of
insert_back kept ts h = refl
insert_back (refusal r) [] h = absurd (omega arith)
insert_back (refusal r) (t ∷ ts) h = refusal_back (Ok Kept) Err r t ts

-- a query's three values
asked_of : (number : ℕ) (told : List ℕ) → Result Verdict Refusal
asked_of n ts =
    answer_of (cond (eqb (get_or ts 0 0) 0) (Ok (NotCovered (get_or ts 2 0))) (Ok (Covered (get_or ts 1 0) (get_or ts 2 0)))) Err n ts

query_back : (a : Result Verdict Refusal) (ts : List ℕ) → 3 ≤ length ts → asked_of (replied (said_query a) ts).number (replied (said_query a) ts).told ≡ a
unfolding asked_of answer_of
query_back a [] h = absurd (omega arith)
query_back a (t ∷ []) h = absurd (omega arith)
query_back a (t ∷ u ∷ []) h = absurd (omega arith)
query_back (Err r) (t ∷ u ∷ v ∷ ts) h = refusal_back _ Err r t (u ∷ v ∷ ts)
query_back (Ok (Covered n c)) (t ∷ u ∷ v ∷ ts) h = refl
query_back (Ok (NotCovered c)) (t ∷ u ∷ v ∷ ts) h = refl

bounded_of : (number : ℕ) (told : List ℕ) → Result ℕ Refusal
bounded_of n ts = answer_of (Ok (get_or ts 0 0)) Err n ts

ceiling_back : (a : Result ℕ Refusal) (ts : List ℕ) → 3 ≤ length ts → bounded_of (replied (said_ceiling a) ts).number (replied (said_ceiling a) ts).told ≡ a
unfolding bounded_of answer_of
ceiling_back a [] h = absurd (omega arith)
ceiling_back (Err r) (t ∷ ts) h = refusal_back _ Err r t ts
ceiling_back (Ok n) (t ∷ ts) h = refl

read_of : (number : ℕ) (told : List ℕ) → Result ℕ Refusal
read_of n ts = answer_of (Ok (get_or ts 0 0)) Err n ts

read_back_lem : (a : Result ℕ Refusal) (ts : List ℕ) → 3 ≤ length ts → read_of (replied (said_read a) ts).number (replied (said_read a) ts).told ≡ a
unfolding read_of answer_of
read_back_lem a [] h = absurd (omega arith)
read_back_lem (Err r) (t ∷ ts) h = refusal_back _ Err r t ts
read_back_lem (Ok n) (t ∷ ts) h = refl

listed_of : (number : ℕ) (told : List ℕ) → Result Listed Refusal
listed_of n ts = answer_of (Ok (record { count = get_or ts 0 0; candidates = get_or ts 1 0 })) Err n ts

back_back : (a : Result Listed Refusal) (ts : List ℕ) → 3 ≤ length ts → listed_of (replied (said_back a) ts).number (replied (said_back a) ts).told ≡ a
unfolding listed_of answer_of
back_back a [] h = absurd (omega arith)
back_back a (t ∷ []) h = absurd (omega arith)
back_back (Err r) (t ∷ u ∷ ts) h = refusal_back _ Err r t (u ∷ ts)
back_back (Ok l) (t ∷ u ∷ ts) h = refl

check_back : {a : Result ⊤ Refusal} → Checked a → answer_of (Ok tt) Err (number_of (said_check a).title) [] ≡ a
unfolding answer_of
check_back passed = refl
check_back bad_slice = refl
check_back broken = refl
check_back no_tree = refl

-- ---- the claim

-- two answers to a query that are handed over the same
pub query_apart : (a b : Result Verdict Refusal) (ts us : List ℕ) → 3 ≤ length ts → 3 ≤ length us
    → (replied (said_query a) ts).number ≡ (replied (said_query b) us).number → (replied (said_query a) ts).told ≡ (replied (said_query b) us).told → a ≡ b
query_apart a b ts us h k e f = sym (query_back a ts h) ∙ ap₂ asked_of e f ∙ query_back b us k

pub told_apart : ToldApart
unfolding ct_fresh ct_insert ct_remove ct_query ct_ceiling ct_read_back ct_check ct_backward
told_apart =
    record {
      freshened = λ T U e. sym (fresh_back (fresh_answers T)) ∙ ap (λ n. answer_of (Ok Ready) Err n []) e ∙ fresh_back (fresh_answers U);
      inserted = λ T c n ts U d m us h k e f.
          sym (insert_back (insert_answers T c n) ts h) ∙ ap₂ (answer_of (Ok Kept) Err) e f ∙ insert_back (insert_answers U d m) us k;
      removed = λ T n U m e. sym (remove_back (remove_answers T n)) ∙ ap (λ k. answer_of (Ok Removed) Err k []) e ∙ remove_back (remove_answers U m);
      asked = λ T d b X ts U e a W us h k f g. query_apart (query T d b X).answer (query U e a W).answer ts us h k f g;
      bounded = λ k q m ts l r n us h i e f. sym (ceiling_back (ceiling_call k q m) ts h) ∙ ap₂ bounded_of e f ∙ ceiling_back (ceiling_call l r n) us i;
      read = λ T n X ts U m W us h k e f. sym (read_back_lem (read_back T n X).answer ts h) ∙ ap₂ read_of e f ∙ read_back_lem (read_back U m W).answer us k;
      listed = λ T c b L ts U e a M us h k f g. sym (back_back (backward T c b L).answer ts h) ∙ ap₂ listed_of f g ∙ back_back (backward U e a M).answer us k;
      checked = λ T U e. sym (check_back (check_answers T)) ∙ ap (λ n. answer_of (Ok tt) Err n []) e ∙ check_back (check_answers U);
    }
