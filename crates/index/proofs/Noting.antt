-- The places noted along the row of heads.
use mathlib.Core.Path.{◌≡◌, refl, sym, ap, ◌∙◌}
use mathlib.Core.Logic.{◌≢◌}
use mathlib.Core.Bool.{true}
use mathlib.Core.List.{List, [], ◌∷◌, append-nil}
use Prim.Native.Nat.{ℕ, suc, ◌+◌, ◌-◌, ◌%◌, ◌≤◌, ◌<◌}
use native.Mathlib.Omega.{arith}
use native.Mathlib.Decide.{ℕ_discrete}
use lib.Dec.{T}
use lib.ListN.{length, get_or, drop, set, length-set, length-drop, drop_of_length-le}
use lib.Seq.{get_or-set_same, get_or-set_other}
use Rattle.machine.specs.Instr.{operands, instr}
use Rattle.tree.specs.Keys.{next_key}
use Rattle.tree.specs.Forest.{Forest, empty, node, size, encode, Formed, WellFormed}
use Rattle.tree.specs.Laid.{most_words, key_of, extent_of, region, sized, well_laid, parse, decode}
use Rattle.tree.proofs.Words.{length_encode, region_layout}
use Rattle.tree.specs.Laws.{Stands}
use Rattle.tree.proofs.Grow.{laid_decode, sized_high}
use Rattle.index.specs.Inner.Heads.{entry_count, place_of, top_row, head_at, Checks, Headed, nothing, headed, IndexOf, SpareFor, Encoded}
use Rattle.index.proofs.Places.{place_here, place_later, place_absent, place_other, node_room, node_key, node_extent, node_rest}

-- the places of the siblings before p are noted; those from p on are `rest`
pub record Noting (W : List ℕ) (p : ℕ) (l : List ℕ) : Type 0 where
  pub rest : Forest
  pub bound : ℕ
  pub words : drop p W ≡ encode rest
  pub formed : Formed bound rest
  pub checks : Checks rest
  pub long : length l ≡ entry_count
  pub leads : (h : ℕ) → h < entry_count → place_of (instr 7 h) p rest (get_or l h 0) ≡ head_at (parse W) h

-- ---- before the first one

encode_nil : (F : Forest) → encode F ≡ [] → F ≡ empty
encode_nil empty e = refl
encode_nil (node i B R) e = absurd (let z : suc (size B + size R) ≡ 0 = sym (length_encode (node i B R)) ∙ ap length e in omega arith)

starts : (W : List ℕ) (F : Forest) (l : List ℕ) → parse W ≡ F → W ≡ encode F → WellFormed F → SpareFor F l → Headed F → Noting W 1 l
unfolding place_of top_row
starts W F l e w f S nothing =
    record {
      rest = empty;
      bound = 0;
      words = rw w;
      formed = tt;
      checks = tt;
      long = S.long;
      leads = λ h u. rw e (S.spare h u refl);
    }
starts W F l e w f S (headed {B} c) =
    record {
      rest = B;
      bound = 0;
      words = rw (w, append-nil (encode B));
      formed = f.below;
      checks = c;
      long = S.long;
      leads = λ h u. rw e (place_other (instr 7 h) 1 B (get_or l h 0) (omega arith) (λ z. S.spare h u z));
    }

pub noting_start : (W l : List ℕ) → Encoded W → SpareFor (parse W) l → Noting W 1 l
noting_start W l E S = starts W (parse W) l refl E.same E.formed S S.tree

-- ---- at a word

-- the Check at p: its head, its place, and where its next sibling stands
pub record Next (W : List ℕ) (p : ℕ) (l : List ℕ) (key extent : ℕ) : Type 0 where
  pub small : key % operands < entry_count
  pub some : 1 ≤ extent
  pub inside : p + extent ≤ length W
  pub noted : Noting W (p + extent) (set l (key % operands) p)

module _ (W : List ℕ) (p : ℕ) (l : List ℕ) (few : length W < most_words) (more : p < length W) where
  next_at : (F : Forest) (b : ℕ) → drop p W ≡ encode F → Formed b F → Checks F → length l ≡ entry_count
      → ((h : ℕ) → h < entry_count → place_of (instr 7 h) p F (get_or l h 0) ≡ head_at (parse W) h) → Next W p l (key_of (get_or W p 0)) (extent_of (get_or W p 0))
  next_at empty b w f c s leads = absurd (let z : length W - p ≡ 0 = sym (length-drop p W) ∙ ap length w in omega arith)
  next_at (node i B R) b w f c s leads =
      rw (node_key W p i B R (omega arith) w, node_extent W p i B R (omega arith) w)
      (record {
        small = c.1;
        some = omega arith;
        inside = omega (arith, node_room W p i B R (omega arith) w);
        noted =
            record {
              rest = R;
              bound = next_key i;
              words = node_rest W p i B R (omega arith) w;
              formed = f.rest;
              checks = c.2;
              long = length-set l (i % operands) p ∙ s;
              leads = λ h u. go h u (ℕ_discrete h (i % operands));
            };
      })
    where
      go : (h : ℕ) → h < entry_count → Dec (h ≡ i % operands)
          → place_of (instr 7 h) (p + suc (size B)) R (get_or (set l (i % operands) p) h 0) ≡ head_at (parse W) h
      go h u (yes e) =
          let k : i ≡ instr 7 h = c.0 ∙ ap (instr 7) (sym e) in
          let written : get_or (set l (i % operands) p) h 0 ≡ p = ap (λ (n : ℕ). get_or (set l (i % operands) p) n 0) e ∙ get_or-set_same l (i % operands) p 0 (omega (arith, c.1, s)) in
          rw written (place_absent (next_key i) (instr 7 h) (p + suc (size B)) R p f.rest (omega arith))
          ∙ sym (place_here (instr 7 h) p i B R (get_or l h 0) k) ∙ leads h u
      go h u (no n) =
          let k : i ≢ instr 7 h = λ e. n (omega (arith, e, c.0)) in
          rw (get_or-set_other l (i % operands) h p 0 n) (sym (place_later (instr 7 h) p i B R (get_or l h 0) k) ∙ leads h u)

  pub noting_next : Noting W p l → Next W p l (key_of (get_or W p 0)) (extent_of (get_or W p 0))
  noting_next N = next_at N.rest N.bound N.words N.formed N.checks N.long N.leads

-- ---- past the last one

pub noting_end : (W : List ℕ) (p : ℕ) (l : List ℕ) → length W ≤ p → Headed (parse W) → Noting W p l → IndexOf (parse W) l
unfolding place_of
noting_end W p l e t N =
    let z : N.rest ≡ empty = encode_nil N.rest (sym N.words ∙ drop_of_length-le W e) in
    record { tree = t; long = N.long; place = λ h u. let q = N.leads h u in rw z at q }

-- ---- the words of a slice

pub decode_region : (T : List ℕ) → decode T ≡ parse (region T)
unfolding decode region
decode_region [] = refl
decode_region (h ∷ ws) = refl

pub laid_encoded : (S : List ℕ) → sized S ≡ true → well_laid S ≡ true → Encoded (region S)
laid_encoded S s w =
    let high = sized_high S s in
    let t : T (well_laid S) = rw w tt in
    let D : Stands S (decode S) = laid_decode S (omega arith) t in
    let r : region S ≡ encode (decode S) = ap region D.words ∙ region_layout (length S) (decode S) (omega (arith, D.room)) in
    record {
      formed = rw (decode_region S) at D.formed;
      same = r ∙ ap encode (decode_region S);
      few = rw r (omega (arith, length_encode (decode S), D.room));
    }
