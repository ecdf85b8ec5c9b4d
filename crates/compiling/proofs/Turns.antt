-- What compiling one word comes to: the keys to come are the word's own and those after it.
use mathlib.Core.Path.{◌≡◌, refl, sym, ap, ◌∙◌}
use mathlib.Core.List.{List, [], ◌∷◌, ◌++◌, map, map-append, append_assoc, append-nil}
use Prim.Native.Nat.{ℕ, suc, ◌+◌, ◌≤◌, ◌<◌}
use native.Mathlib.Nat.{zero-add}
use native.Mathlib.Omega.{arith}
use native.Mathlib.Numerals.{add-one}
use lib.ListN.{length, get_or, drop, length-map, length-append, drop_of_length-le}
use lib.Seq.{drop-cons, sets-eq}
use Rattle.std.specs.Prelude.{Bool, true, false, not, Option, Some, None}
use Rattle.std.specs.Option.{is_some}
use Rattle.clause.specs.Clause.{max_words}
use Rattle.clause.specs.Word.{arity}
use Rattle.machine.specs.Instr.{Do, key}
use Rattle.machine.specs.Compile.{Saved, Place, ended, inside, Way, way, way_from, begun, closing, compares, act, puts_after, sequence_from, sequence, keys}
use Rattle.machine.specs.Compiled.{max_keys, Compiled}
use Rattle.compiling.specs.Inner.Compiling.{HasRoom, Writes, place_in, place_of, opening_keys, step_keys, to_come}
use Rattle.compiling.specs.Inner.Compiling.{Opened, Went, Orderly, way_of, head_keys, ending_keys, word_keys, Turned, first_spot}
use Rattle.compiling.specs.declared.keys.Keys.{Keys}
use Rattle.compiling.specs.declared.Spot.{Spot}
use Rattle.compiling.proofs.Writing.{writes_none, writes_append, wrote}
use Rattle.compiling.proofs.Spots.{way_pushed}
use Rattle.machine.proofs.Codes.{length_puts}
use Rattle.machine.proofs.Length.{sequence_few}

-- ---- the keys of a word

pub word_length : (w : ℕ) (s : Spot)
    → length (word_keys w s) ≡ length (opening_keys s) + (1 + (length (step_keys (way_of w s).steps) + length (ending_keys w s)))
unfolding word_keys
word_length w s = simp length-append (omega arith)

-- a literal begins at a put there is
begun_low : (p : Place) (puts : List ℕ) (from : ℕ) → from ≤ length puts → begun p puts from ≤ length puts
unfolding begun
begun_low ended puts from h = omega arith
begun_low (inside l v) puts from h = h

-- a word puts one variable at most
puts_grow : (puts : List ℕ) (w : ℕ) → (length puts ≤ length (puts_after puts w)) × (length (puts_after puts w) ≤ length puts + 1)
unfolding puts_after
puts_grow puts w = (simp length-append (omega arith), omega (arith, length_puts puts w))

pub way_grows : (p : Place) (a n : ℕ) → (way_from p a n).pushed ≤ n + 1
unfolding way_from
way_grows ended a n = way_pushed a 0 [] n
way_grows (inside l v) a n = way_pushed a l v n

-- the way from a spot that was opened
way_is : (w : ℕ) {left : ℕ} {s r : Spot} → Opened s left r → way (arity w) left r.saved r.pushed ≡ way_of w s
way_is w {s = s} O = rw O.pushed (sym (O.ways (arity w) s.pushed))

-- whether a spot is inside a literal
none_left : (o : Option ℕ) {b : Bool} → is_some o ≡ not b → b ≡ true → o ≡ None
none_left None e f = refl
none_left (Some l) e f = let g = rw f at e in cc

none_closes : (o : Option ℕ) (saved : List Saved) {b : Bool} (puts : List ℕ) (from : ℕ) → is_some o ≡ not b → b ≡ false
    → closing (place_in o saved) puts from ≡ []
unfolding closing
none_closes None saved puts from e f = let g = rw f at e in cc
none_closes (Some l) saved puts from e f = refl

-- the literal goes on, or ends with its Compares
module _ {w : ℕ} {s r : Spot} (T : Turned w s r) where
  ending_is : ending_keys w s ≡ step_keys (closing (place_of r) r.puts r.from)
  ending_is = rw (T.place, T.puts, T.from)

  pub ending_on : {b : Bool} → is_some r.left ≡ not b → b ≡ false → [] ≡ ending_keys w s
  ending_on e f = sym (ending_is ∙ ap step_keys (none_closes r.left r.saved r.puts r.from e f))

  pub ending_out : {b : Bool} → is_some r.left ≡ not b → b ≡ true → step_keys (compares r.puts r.from) ≡ ending_keys w s
  unfolding closing
  ending_out e f = sym (ending_is ∙ ap (λ o. step_keys (closing (place_in o r.saved) r.puts r.from)) (none_left r.left e f))

-- what the keys at its end ask, and what they come to
module _ (w : ℕ) (s : Spot) {C : List ℕ} {k k' : Keys} (h : Writes (head_keys w s) k k') (e : C ≡ ending_keys w s) where
  pub ending_room : HasRoom (length (word_keys w s)) k → HasRoom (length C) k'
  unfolding word_keys
  ending_room g = rw e (omega (arith, g, wrote h, length-append (head_keys w s) (ending_keys w s)))

  pub word_written : {next : Keys} → Writes C k' next → Writes (word_keys w s) k next
  unfolding word_keys
  word_written {next} g = let z : Writes (ending_keys w s) k' next = rw (← e) g in writes_append h z

module _ (w : ℕ) {left : ℕ} {s o : Spot} {k₀ k₁ : Keys} (O : Opened s left o × Writes (opening_keys s) k₀ k₁) where
  -- what the instruction of the word asks
  pub act_room : HasRoom (length (word_keys w s)) k₀ → HasRoom 1 k₁
  act_room h = omega (arith, h, word_length w s, wrote O.1)

  module _ {p : List ℕ} {k₂ : Keys} (A : (p ≡ puts_after o.puts w) × Writes (key (Do (act o.puts w)) ∷ []) k₁ k₂) where
    -- what the way asks
    pub way_room : HasRoom (length (word_keys w s)) k₀ → HasRoom (length (step_keys (way (arity w) left o.saved o.pushed).steps)) k₂
    way_room h = rw (way_is w O.0) (omega (arith, h, word_length w s, wrote O.1, wrote A.1))

    -- the spot after the word, and the keys up to there
    module _ {r : Spot} {k₃ : Keys} (order : Orderly s)
        (W : Went (way (arity w) left o.saved o.pushed) (record { left = o.left; pushed = o.pushed; from = o.from; puts = p; saved = o.saved }) r
        × Writes (step_keys (way (arity w) left o.saved o.pushed).steps) k₂ k₃)
      where
        puts_is : r.puts ≡ puts_after s.puts w
        puts_is = W.0.puts ∙ A.0 ∙ ap (λ l. puts_after l w) O.0.puts

        pub turned : Turned w s r
        turned =
            record {
              place = W.0.place ∙ ap (λ (t : Way). t.place) (way_is w O.0);
              pushed = W.0.pushed ∙ ap (λ (t : Way). t.pushed) (way_is w O.0);
              puts = puts_is;
              from = W.0.from ∙ O.0.from;
              orderly =
                  record {
                    saved_low = W.0.saved_low;
                    from_low = omega (arith, begun_low (place_of s) s.puts s.from order.from_low, puts_grow s.puts w, ap length puts_is, W.0.from, O.0.from);
                  };
            }

        pub head_written : Writes (head_keys w s) k₀ k₃
        head_written =
            let v : Writes (step_keys (way_of w s).steps) k₂ k₃ = rw (← way_is w O.0) W.1 in
            let a : Writes (key (Do (act s.puts w)) ∷ []) k₁ k₂ = rw (← O.0.puts) A.1 in
            writes_append O.1 (writes_append a v)

-- ---- all words

-- the words before i are compiled
pub record Compiling (words : List ℕ) (i : ℕ) (s : Spot) (before now : Keys) : Type 0 where
  pub low : i ≤ length words
  pub pushed_low : s.pushed ≤ i
  pub puts_low : length s.puts ≤ i
  pub orderly : Orderly s
  pub done : List ℕ
  pub comes : keys words ≡ done ++ to_come (drop i words) s
  pub writes : Writes done before now

pub compiling_starts : {words : List ℕ} {s : Spot} (k : Keys) → s ≡ first_spot → Compiling words 0 s k k
unfolding sequence
compiling_starts k e =
    rw e
    (record {
      low = omega arith;
      pushed_low = omega arith;
      puts_low = omega arith;
      orderly = record { saved_low = omega arith; from_low = omega arith };
      done = [];
      comes = refl;
      writes = writes_none k;
    })

-- the keys to come are the word's own and those after it
abbrev after : (w : ℕ) (ws : List ℕ) → Spot → List ℕ
after w ws s = map key (sequence_from ws (way_of w s).place (puts_after s.puts w) (begun (place_of s) s.puts s.from) (way_of w s).pushed)

comes_word : (w : ℕ) (ws : List ℕ) (s : Spot) → to_come (w ∷ ws) s ≡ word_keys w s ++ after w ws s
unfolding sequence_from word_keys
comes_word w ws s = simp (map-append, append_assoc)

module _ {words : List ℕ} {i : ℕ} {s : Spot} {before now : Keys} (C : Compiling words i s before now) where
  comes_at : i < length words → keys words ≡ (C.done ++ word_keys (get_or words i 0) s) ++ after (get_or words i 0) (drop (i + 1) words) s
  comes_at h =
      C.comes
      ∙ ap (λ l. C.done ++ l) (rw (add-one, drop-cons words i 0 h) (comes_word (get_or words i 0) (drop (suc i) words) s))
      ∙ sym (append_assoc C.done _ _)

  -- there is room for the word's keys
  pub compiling_room : length words ≤ max_words → max_keys ≤ length before.words.now → before.written ≡ 0 → i < length words
      → HasRoom (length (word_keys (get_or words i 0) s)) now
  compiling_room few wide z h =
      omega (
        arith,
        wrote C.writes,
        simp length-append at (ap length (comes_at h)),
        length-map (sequence words) key,
        sequence_few words,
      )

  pub compiling_goes_on : {r : Spot} {next : Keys} → i < length words → Turned (get_or words i 0) s r → Writes (word_keys (get_or words i 0) s) now next
      → Compiling words (i + 1) r before next
  compiling_goes_on {r} h T W =
      record {
        low = omega arith;
        pushed_low = omega (arith, T.pushed, way_grows (place_of s) (arity (get_or words i 0)) s.pushed, C.pushed_low);
        puts_low = omega (arith, ap length T.puts, puts_grow s.puts (get_or words i 0), C.puts_low);
        orderly = T.orderly;
        done = C.done ++ word_keys (get_or words i 0) s;
        comes = rw (T.place, T.puts, T.from, T.pushed) (comes_at h);
        writes = writes_append C.writes W;
      }

  none_to_come : length words ≤ i → to_come (drop i words) s ≡ []
  unfolding sequence_from
  none_to_come h = rw (drop_of_length-le words h)

  pub compiling_ends : length words ≤ i → length words ≤ max_words → max_keys ≤ length before.words.now → before.written ≡ 0
      → Compiled words before.words.now now.written now.words.now
  compiling_ends h few wide z =
      let e : keys words ≡ C.done = C.comes ∙ ap (λ l. C.done ++ l) (none_to_come h) ∙ append-nil C.done in
      let n : length C.done ≤ length before.words.now = omega (arith, ap length e, length-map (sequence words) key, sequence_few words) in
      record {
        answer_is = omega (arith, C.writes.stored.end_is, ap length e, z);
        after_is = rw e (C.writes.stored.after_is ∙ sets-eq C.done before.words.now before.written (omega arith) ∙ rw (z, zero-add));
      }
