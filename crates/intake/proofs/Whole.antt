-- A whole record at once is fed as it is byte after byte.
use mathlib.Core.Path.{◌≡◌, refl, sym, ap, ap₂, ◌∙◌}
use mathlib.Core.List.{List, [], ◌∷◌, ◌++◌, append-nil}
use mathlib.Core.Bool.{Bool, true, false, cond}
use Prim.Native.Nat.{ℕ, zero, suc, ◌+◌, ◌-◌, ◌*◌, ◌≤◌, ◌<◌}
use native.Mathlib.Omega.{arith}
use native.Mathlib.Decide.{dec_lt}
use native.Mathlib.Numerals.{add-one}
use lib.Dec.{ltb, eqb}
use lib.ListN.{length, take, drop, get_or, set, drop_of_length-le}
use lib.Seq.{sets, take_all, take-take, drop-cons, length-take-le}
use Rattle.record.specs.Output.{field_of, fields}
use Rattle.intake.specs.Feed.{Store, Fed, store_of, record_ended, proceeding, take_field, feed_then, feed}
use Rattle.intake.specs.Inner.Steps.{WholeRecord, Stepped}
use Rattle.intake.proofs.Bytes.{storing, at_count, at_empty, at_word, at_last}
use Rattle.record.specs.declared.Setting.{Setting}
use Rattle.record.specs.declared.Totals.{Totals}
use Rattle.intake.specs.declared.Half.{Half}
use Rattle.intake.specs.declared.Half.TheVariants.{Even}
use Rattle.intake.specs.declared.Stage.{Stage}
use Rattle.intake.specs.declared.Stage.TheVariants.{AtNumber, AtCount, AtWord}
use Rattle.intake.specs.declared.Session.{Session}
use Rattle.intake.specs.declared.Next.TheVariants.{Reads, Ends}

-- ---- field by field

-- one field after another
unfoldable pub feed_fields : Setting → Stage → Totals → Store → List ℕ → Fed
feed_fields v g t m [] = record { session = record { half = Even; stage = g; totals = t }; store = m; text = [] }
feed_fields v g t m (w ∷ ws) = feed_then (take_field v g t m w) (λ s m'. feed_fields v s.stage s.totals m' ws)

-- after a whole field the next byte is a first one
pub even_after : (v : Setting) (g : Stage) (t : Totals) (m : Store) (w : ℕ)
    → (take_field v g t m w).session ≡ record { half = Even; stage = (take_field v g t m w).session.stage; totals = (take_field v g t m w).session.totals }
unfolding take_field record_ended
even_after v AtNumber t m w = refl
even_after v (AtCount n) t m w = go (eqb w 0)
  where
    after : Bool → Session
    after b = (proceeding v (cond b (Ends (record { number = n; count = 0 })) (Reads Even (AtWord n w 0))) t m).session

    go : (b : Bool) → after b ≡ record { half = Even; stage = (after b).stage; totals = (after b).totals }
    go true = refl
    go false = refl
even_after v (AtWord n count i) t m w = go (ltb (i + 1) count)
  where
    after : Bool → Session
    after b = (proceeding v (cond b (Reads Even (AtWord n count (i + 1))) (Ends (record { number = n; count = count }))) t (storing m i w)).session

    go : (b : Bool) → after b ≡ record { half = Even; stage = (after b).stage; totals = (after b).totals }
    go true = refl
    go false = refl

-- ---- the words of a record, one after another

-- some words stored from a place on
abbrev pub filling : Store → (at : ℕ) (words : List ℕ) → Store
filling m i ws = record { words = sets m.words i ws; slice = m.slice; marks = m.marks; counters = m.counters }

-- the words that are still to come are there
pub collect : (v : Setting) (ws : List ℕ) (n count i : ℕ) (t : Totals) (m : Store) → i < count → count ≤ i + length ws
    → feed_fields v (AtWord n count i) t m ws
    ≡ feed_then (record_ended v n count t (filling m i (take (count - i) ws))) (λ s m'. feed_fields v s.stage s.totals m' (drop (count - i) ws))
unfolding feed_fields
collect v [] n count i t m h k = absurd (omega arith)
collect v (w ∷ ws) n count i t m h k = go (dec_lt (i + 1) count) (collect v ws n count (i + 1) t (storing m i w))
  where
    go : Dec (i + 1 < count)
        → (i + 1 < count → count ≤ i + 1 + length ws → feed_fields v (AtWord n count (i + 1)) t (storing m i w) ws
        ≡ feed_then (record_ended v n count t (filling (storing m i w) (i + 1) (take (count - (i + 1)) ws))) (λ s m'. feed_fields v s.stage s.totals m' (drop (count - (i + 1)) ws)))
        → feed_then (take_field v (AtWord n count i) t m w) (λ s m'. feed_fields v s.stage s.totals m' ws)
        ≡ feed_then (record_ended v n count t (filling m i (take (count - i) (w ∷ ws)))) (λ s m'. feed_fields v s.stage s.totals m' (drop (count - i) (w ∷ ws)))
    go (yes l) ih =
        let e : count - i ≡ suc (count - (i + 1)) = omega arith in
        rw (at_word v t m w n count i refl l, e) (ih l (omega arith) ∙ rw add-one)
    go (no l) ih =
        let e : count - i ≡ 1 = omega arith in
        rw (at_last v t m w n count i refl (omega arith), e)

-- ---- a whole record

-- an even number of bytes is fed field by field
feed_fields_lem : (v : Setting) (bs : List ℕ) (k : ℕ) (g : Stage) (t : Totals) (m : Store) → length bs ≡ k * 2
    → feed v (record { half = Even; stage = g; totals = t }) m bs ≡ feed_fields v g t m (fields bs)
unfolding feed feed_fields
feed_fields_lem v [] k g t m h = refl
feed_fields_lem v (a ∷ []) k g t m h = absurd (omega arith)
feed_fields_lem v (a ∷ b ∷ bs) k g t m h =
    let f : Fed = take_field v g t m (field_of a b) in
    ap (λ (x : Fed). record { session = x.session; store = x.store; text = f.text ++ x.text })
    (ap (λ (s : Session). feed v s f.store bs) (even_after v g t m (field_of a b)) ∙ feed_fields_lem v bs (k - 1) f.session.stage f.session.totals f.store (omega arith))

length_fields : (bs : List ℕ) (k : ℕ) → length bs ≡ k * 2 → length (fields bs) ≡ k
length_fields [] k h = omega arith
length_fields (a ∷ []) k h = absurd (omega arith)
length_fields (a ∷ b ∷ bs) k h = omega (arith, length_fields bs (k - 1) (omega arith))

-- nothing comes after the record
ended : (v : Setting) (n count : ℕ) (t : Totals) (m : Store) → feed_then (record_ended v n count t m) (λ s m'. feed_fields v s.stage s.totals m' []) ≡ record_ended v n count t m
unfolding record_ended feed_fields
ended v n count t m = rw append-nil

fields_record : (v : Setting) (count n : ℕ) (ws : List ℕ) (t : Totals) (m : Store) → length ws ≡ count
    → feed_fields v AtNumber t m (n ∷ count ∷ ws) ≡ record_ended v n count t (filling m 0 ws)
unfolding feed_fields take_field
fields_record v zero n [] t m h =
    ap (λ (f : Fed). feed_then f (λ s m'. feed_fields v s.stage s.totals m' [])) (at_empty v t m 0 n refl (omega arith)) ∙ ended v n 0 t m
fields_record v zero n (w ∷ ws) t m h = absurd (omega arith)
fields_record v (suc k) n ws t m h =
    ap (λ (f : Fed). feed_then f (λ s m'. feed_fields v s.stage s.totals m' ws)) (at_count v t m (suc k) n refl (omega arith))
    ∙ collect v ws n (suc k) 0 t m (omega arith) (omega arith)
    ∙ rw (take_all (suc k - 0) ws (omega arith), drop_of_length-le ws {i = suc k - 0} (omega arith)) (ended v n (suc k) t (filling m 0 ws))

-- the bytes of a whole record
pub whole_record : (v : Setting) (s : Session) (input : List ℕ) (count : ℕ) (m : Store) → WholeRecord s input count
    → feed v s m (take (4 + count * 2) input)
    ≡ record_ended v (field_of (get_or input 0 0) (get_or input 1 0)) count s.totals (filling m 0 (fields (take (count * 2) (drop 4 input))))
whole_record v s [] count m w = absurd (omega (arith, w.inside))
whole_record v s (a ∷ []) count m w = absurd (omega (arith, w.inside))
whole_record v s (a ∷ b ∷ []) count m w = absurd (omega (arith, w.inside))
whole_record v s (a ∷ b ∷ c ∷ []) count m w = absurd (omega (arith, w.inside))
whole_record v s (a ∷ b ∷ c ∷ d ∷ bs) count m w =
    let ws : List ℕ = take (count * 2) bs in
    let l : length ws ≡ count * 2 = length-take-le (count * 2) bs (omega (arith, w.inside)) in
    let e : 4 + count * 2 ≡ suc (suc (suc (suc (count * 2)))) = omega arith in
    ap (λ (k : ℕ). feed v s m (take k (a ∷ b ∷ c ∷ d ∷ bs))) e
    ∙ ap₂ (λ (h : Half) (g : Stage). feed v (record { half = h; stage = g; totals = s.totals }) m (a ∷ b ∷ c ∷ d ∷ ws)) w.half w.stage
    ∙ feed_fields_lem v (a ∷ b ∷ c ∷ d ∷ ws) (2 + count) AtNumber s.totals m (omega arith)
    ∙ ap (λ (k : ℕ). feed_fields v AtNumber s.totals m ((field_of a b) ∷ k ∷ fields ws)) (sym w.counts)
    ∙ fields_record v count (field_of a b) (fields ws) s.totals m (length_fields ws count l)

-- a whole record that was read
pub record_read : (s : Session) (input words : List ℕ) (count : ℕ) {n c : ℕ} {ws : List ℕ} → WholeRecord s input count
    → n ≡ field_of (get_or input 0 0) (get_or input 1 0)
    → c ≡ count
    → ws ≡ sets words 0 (fields (take (count * 2) (take (length input - 4) (drop 4 input))))
    → Stepped s input words (record { taken = 4 + count * 2; next = Ends (record { number = n; count = c }) }) ws
record_read s input words count w en ec ew =
    let e = take-take (count * 2) (length input - 4) (drop 4 input) (omega (arith, w.inside)) in
    record { some = omega arith; inside = w.inside; feeds = λ v T K C. whole_record v s input count (store_of words T K C) w ∙ rw (en, ec, ew, e) }

-- ---- the words, one after another

-- the words from one on are stored: the first of them, and then the others
pub read_more : (input words : List ℕ) (at i count : ℕ) → at + 1 < length input → i < count
    → sets words i (fields (take ((count - i) * 2) (drop at input)))
    ≡ sets (set words i (field_of (get_or input at 0) (get_or input (at + 1) 0))) (i + 1) (fields (take ((count - (i + 1)) * 2) (drop (at + 2) input)))
read_more input words at i count h l =
    let e : (count - i) * 2 ≡ suc (suc ((count - (i + 1)) * 2)) = omega arith in
    let f : at + 2 ≡ suc (suc at) = omega arith in
    let g : at + 1 ≡ suc at = omega arith in
    let d : drop at input ≡ get_or input at 0 ∷ get_or input (suc at) 0 ∷ drop (suc (suc at)) input =
    drop-cons input at 0 (omega arith) ∙ ap (λ (l : List ℕ). get_or input at 0 ∷ l) (drop-cons input (suc at) 0 (omega arith)) in
    rw (e, f, g, d, add-one)
