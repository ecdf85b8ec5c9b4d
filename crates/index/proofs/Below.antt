-- From the topmost row down to the Check that an index leads to, in the words W.
use mathlib.Core.Path.{◌≡◌, refl, sym, ap, ◌∙◌}
use mathlib.Core.Logic.{◌≢◌}
use mathlib.Core.Bool.{true}
use mathlib.Core.List.{List, ◌∷◌, append-nil}
use Prim.Native.Nat.{ℕ, suc, ◌+◌, ◌≤◌, ◌<◌}
use native.Mathlib.Omega.{arith}
use native.Mathlib.Decide.{ℕ_discrete, dec_le}
use lib.ListN.{length, get_or, drop}
use Rattle.machine.specs.Instr.{First, instr, key}
use Rattle.tree.specs.Keys.{next_key}
use Rattle.tree.specs.Forest.{Forest, empty, node, size, encode, extent_limit, Formed, WellFormed}
use Rattle.tree.specs.Laid.{sized, well_laid, region, parse}
use Rattle.tree.proofs.Hops.{key_at, extent_at}
use Rattle.index.specs.Inner.Heads.{entry_count, place_of, top_row, head_at, Headed, nothing, headed, Indexed}
use Rattle.index.proofs.Places.{place_here, place_later, place_absent, node_room, node_key, node_extent, node_rest}
use Rattle.index.proofs.Noting.{decode_region, laid_encoded}
use Rattle.merging.specs.Inner.Inserting.{Nested, Descending}
use Rattle.index.specs.Inner.Following.{Leading}
use Rattle.merging.proofs.Descending.{descending_start, descending_dive, descending_hop}

-- the descent has come below the word at p, whose key is that of the place k
abbrev BelowAt : (W cs : List ℕ) (p k : ℕ) → Type 0
BelowAt W cs p k = Descending W cs (p + 1) (p + extent_at W p) (k + 1)

-- ---- along a row, to the sibling with the key c

module _ (W cs : List ℕ) (k : ℕ) (small : length W < extent_limit) (m : k < length cs) where
  abbrev c : ℕ
  c = get_or cs k 0

  along : (b p : ℕ) (F : Forest) → drop p W ≡ encode F → Formed b F → place_of c p F 0 ≢ 0 → Descending W cs p (length W) k
      → BelowAt W cs (place_of c p F 0) k
  unfolding place_of
  along b p empty w f n s = absurd (n refl)
  along b p (node i B R) w f n s = go (ℕ_discrete i c) (along (next_key i) next R (node_rest W p i B R small w) f.rest)
    where
      -- the place of the next sibling
      next : ℕ
      next = p + suc (size B)

      room : p + size (node i B R) ≡ length W
      room = node_room W p i B R small w

      here : key_at W p ≡ i
      here = node_key W p i B R small w

      -- a key that comes later in the row is greater
      after : Dec (next_key i ≤ c) → place_of c next R 0 ≢ 0 → key_at W p < c
      after (yes l) later = omega (arith, here)
      after (no l) later = absurd (later (place_absent (next_key i) c next R 0 f.rest (omega arith)))

      go : Dec (i ≡ c) → (place_of c next R 0 ≢ 0 → Descending W cs next (length W) k → BelowAt W cs (place_of c next R 0) k)
          → BelowAt W cs (place_of c p (node i B R) 0) k
      go (yes e) ih = rw (place_here c p i B R 0 e) (descending_dive s (omega (arith, room)) m (extent_at W p) refl (sym (here ∙ e)))
      go (no u) ih =
          let q = place_later c p i B R 0 u in
          let later : place_of c next R 0 ≢ 0 = λ z. n (q ∙ z) in
          let hops = descending_hop s (omega (arith, room)) m (suc (size B)) (sym (node_extent W p i B R small w)) (after (dec_le (next_key i) c) later) in
          rw q (ih later hops)

-- ---- from the top, through First

module _ {W cs : List ℕ} {p : ℕ} (r : Nested W) (L : Leading W cs p) where
  two : 2 ≤ length cs
  two = rw L.begins (omega arith)

  small : length W < extent_limit
  small = omega (arith, L.encoded.few)

  from_top_lem : (F : Forest) → W ≡ encode F → WellFormed F → head_at F L.head ≡ p → Headed F → BelowAt W cs p 1
  unfolding place_of top_row
  from_top_lem F w f e nothing = absurd (omega (arith, L.some))
  from_top_lem F w f e (headed {B} _) =
      let all : 0 + suc (size B) ≡ length W = omega (arith, node_room W 0 (key First) B empty small w) in
      let first : get_or cs 0 0 ≡ key_at W 0 = ap (λ (l : List ℕ). get_or l 0 0) L.begins ∙ sym (node_key W 0 (key First) B empty small w) in
      let wide : suc (size B) ≡ extent_at W 0 = sym (node_extent W 0 (key First) B empty small w) in
      let dives = descending_dive (descending_start W cs r) (omega (arith, all)) (omega (arith, two)) (suc (size B)) wide first in
      let there : place_of (get_or cs 1 0) 1 B 0 ≡ p = ap (λ (l : List ℕ). place_of (get_or l 1 0) 1 B 0) L.begins ∙ e in
      rw (← there) (along W cs 1 small two 0 1 B (rw (w, append-nil (encode B))) f.below (λ z. omega (arith, there, L.some)) (rw all at dives))

  pub leads_below : BelowAt W cs p 1
  leads_below = from_top_lem (parse W) L.encoded.same L.encoded.formed L.place L.tree

-- ---- the entry of an index, for the head h

pub entry_leads : (T : List ℕ) {heads cs rest : List ℕ} {p : ℕ} (h : ℕ) → sized T ≡ true → well_laid T ≡ true → Indexed T heads → h < entry_count
    → cs ≡ key First ∷ instr 7 h ∷ rest → p ≡ get_or heads h 0 → 1 ≤ p → Leading (region T) cs p
entry_leads T {rest = rest} h s w I u b e l =
    let d = decode_region T in
    record {
      encoded = laid_encoded T s w;
      tree = rw d at I.tree;
      head = h;
      rest = rest;
      begins = b;
      place = sym (e ∙ rw d at (I.place h u));
      some = l;
    }
