-- Text put into the output piece by piece, and a number digit after digit.
use mathlib.Core.Path.{◌≡◌, refl, sym, ap, ◌∙◌}
use mathlib.Core.List.{List, [], ◌∷◌, ◌++◌, append_assoc}
use borrow.Rule.Slice.PartMut.{put_mid, Post-is}
use Prim.Native.Nat.{ℕ, suc, ◌+◌, ◌-◌, ◌/◌, ◌%◌, ◌^◌, ◌≤◌, ◌<◌}
use native.Mathlib.Omega.{arith}
use native.Mathlib.Numerals.{add-one}
use lib.ListN.{length, take, drop, get_or, length-append, drop_of_length-le, set}
use lib.Seq.{sets, sets-eq, set_comm, length-sets, take_at, drop-cons}
use Rattle.record.specs.Text.{decimal, Written, put_at}
use Rattle.lines.specs.declared.Page.{Page}
use Rattle.lines.specs.Inner.Page.{Puts, HasRoom}
use Rattle.record.specs.Line.{named, says_removed, removal_line, removal_lines, removed_total}
use Rattle.record.specs.declared.Setting.{Setting}
use Rattle.record.specs.declared.Setting.TheVariants.{Plain, Back}
use Rattle.record.proofs.Text.{decimal_small, decimal_large, length_small, length_large, decimal_length}

-- text in two pieces
sets_append : (s t o : List ℕ) (at : ℕ) → sets o at (s ++ t) ≡ sets (sets o at s) (at + length s) t
sets_append [] t o at = let e : at + 0 ≡ at = omega arith in rw e
sets_append (b ∷ s) t o at = let e : at + suc (length s) ≡ suc at + length s = omega arith in rw e (sets_append s t (set o at b) (suc at))

pub put_at_append : (s t o : List ℕ) (at : ℕ) → put_at (s ++ t) o at ≡ put_at t (put_at s o at).output (put_at s o at).next
put_at_append s t o at = rw (length-append, sets_append s t o at) (let e : at + (length s + length t) ≡ (at + length s) + length t = omega arith in rw e)

-- no text
pub put_none : (o : List ℕ) (at : ℕ) → put_at [] o at ≡ record { next = at; output = o }
put_none o at = let e : at + 0 ≡ at = omega arith in rw e

-- the place after some text, and the output's length
pub placed : (t o : List ℕ) (at : ℕ) {r : ℕ} {p : List ℕ} → ◌≡◌ {A = Written} (record { next = r; output = p }) (put_at t o at)
    → (r ≡ at + length t) × (length p ≡ length o)
placed t o at e = (ap (λ (w : Written). w.next) e, ap (λ (w : Written). length w.output) e ∙ length-sets o at t)

-- what was put at the beginning of the output stands there
pub text_there : (t o : List ℕ) {r : ℕ} {p : List ℕ} → length t ≤ length o → ◌≡◌ {A = Written} (record { next = r; output = p }) (put_at t o 0) → take r p ≡ t
text_there t o h e =
    ap (λ (w : Written). take w.next w.output) e
    ∙ rw (sets-eq t o 0 (omega arith)) (take_at t (drop (0 + length t) o) (0 + length t) (omega arith))

-- ---- on a page

module _ {p q : Page} where
  -- the place after some text, and the length of the page
  pub on_page : (t : List ℕ) → Puts t p q → (q.at ≡ p.at + length t) × (length q.bytes.now ≡ length p.bytes.now)
  on_page t e = placed t p.bytes.now p.at e.put

  -- some text and a number of at most k + 1 digits after it: how far on the place after them is, and the length of the page
  pub named_put : (t : List ℕ) (k n : ℕ) → n < 10 ^ suc k → Puts (named t n) p q → (q.at ≤ p.at + length t + suc k) × (length q.bytes.now ≡ length p.bytes.now)
  named_put t k n h e = let z = on_page (named t n) e in (omega (arith, length-append t (decimal n), decimal_length k n h, z.0), z.1)

  -- after the first piece there is room for the rest
  pub rest_fits : (s t : List ℕ) → HasRoom (length (s ++ t)) p → Puts s p q → HasRoom (length t) q
  rest_fits s t h e = omega (arith, length-append s t, on_page s e)

  -- the first piece and then the rest is the whole
  pub joined : (s t : List ℕ) {r : Page} → Puts s p q → Puts t q r → Puts (s ++ t) p r
  joined s t e f =
      record { same = f.same ∙ e.same; put = f.put ∙ ap (λ (v : Written). put_at t v.output v.next) e.put ∙ sym (put_at_append s t p.bytes.now p.at) }

-- no text
pub put_nothing : (p : Page) → Puts [] p p
put_nothing p = record { same = refl; put = sym (put_none p.bytes.now p.at) }

-- a text copied over a part
pub put_part : (t o : List ℕ) (at : ℕ) → at + length t ≤ length o → put_mid at (at + length t - at) o t ≡ sets o at t
put_part t o at h = rw (Post-is at (at + length t) o (omega arith), sets-eq t o at h, append_assoc)

-- ---- how long a text with a number is

-- how many were removed, at the end of the line of totals, takes at most 29 bytes
pub removed_total_length : (s : Setting) (n : ℕ) → n < 10 ^ 20 → length (removed_total s n) ≤ 29
removed_total_length Plain n h = omega arith
removed_total_length Back n h = omega (arith, length-append says_removed (decimal n), decimal_length 19 n h)

-- ---- a number, digit after digit

-- a byte after some text may be put before the text
sets_set : (t o : List ℕ) (at i b : ℕ) → at + length t ≤ i → set (sets o at t) i b ≡ sets (set o i b) at t
sets_set [] o at i b h = refl
sets_set (a ∷ t) o at i b h = sets_set t (set o at a) (suc at) i b (omega arith) ∙ rw (set_comm o at i a b (λ e. omega arith))

-- a number's last digit first, and then the digits before it
pub put_last : (n : ℕ) (o : List ℕ) (at last : ℕ) → 10 ≤ n → last + 1 ≡ at + length (decimal n)
    → sets o at (decimal n) ≡ sets (set o last (48 + n % 10)) at (decimal (n / 10))
put_last n o at last h e =
    let l : at + length (decimal (n / 10)) ≡ last = omega (arith, length_large n h) in
    rw (decimal_large n h, sets_append, l) (sets_set (decimal (n / 10)) o at last (48 + n % 10) (omega arith))

-- the only digit
pub put_only : (n : ℕ) (o : List ℕ) (at last : ℕ) → n < 10 → last + 1 ≡ at + length (decimal n) → sets o at (decimal n) ≡ set o last (48 + n)
put_only n o at last h e = let l : last ≡ at = omega (arith, length_small n h) in rw (l, decimal_small n h)

-- ---- the lines of removals, one after another

-- the line of a number, and then those of the numbers after it
pub removals_more : (by : ℕ) (ns o : List ℕ) (at i : ℕ) {r : ℕ} {p : List ℕ} → i < length ns
    → ◌≡◌ {A = Written} (record { next = r; output = p }) (put_at (removal_line by (get_or ns i 0)) o at)
    → put_at (removal_lines by (drop i ns)) o at ≡ put_at (removal_lines by (drop (i + 1) ns)) p r
unfolding removal_lines
removals_more by ns o at i h e =
    rw (drop-cons ns i 0 h, add-one)
    (put_at_append (removal_line by (get_or ns i 0)) (removal_lines by (drop (suc i) ns)) o at
    ∙ ap (λ (w : Written). put_at (removal_lines by (drop (suc i) ns)) w.output w.next) (sym e))

-- none is left
pub removals_all : (by : ℕ) (ns o : List ℕ) (at i : ℕ) → length ns ≤ i → put_at (removal_lines by (drop i ns)) o at ≡ record { next = at; output = o }
unfolding removal_lines
removals_all by ns o at i h = rw (drop_of_length-le ns {i = i} h) (put_none o at)
