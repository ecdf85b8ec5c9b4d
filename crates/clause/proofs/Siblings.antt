-- The right siblings of the terms of an accepted clause: heads have none, the first argument has all the others, and each next one has one fewer.
use mathlib.Core.Path.{◌≡◌, refl, sym, ap, ◌∙◌}
use mathlib.Core.List.{List, [], ◌∷◌, ◌++◌, map, flatten, append-nil, append_cancel_right}
use Prim.Native.Nat.{ℕ, zero, suc, ◌+◌, ◌<◌}
use native.Mathlib.Nat.{zero-add}
use native.Mathlib.Numerals.{one-add}
use native.Mathlib.Omega.{arith}
use lib.ListN.{length, get_or, take, drop, length-drop}
use lib.Seq.{take-add, take-suc}
use Rattle.clause.specs.Lists.{All, none, also}
use Rattle.clause.specs.Word.{arity, Sort, symbol, variable, head, wrong, sort, if_head}
use Rattle.clause.specs.Clause.{before, literals, skip, starts, start_of, Shaped, end, next_word}
use Rattle.clause.specs.Accepted.{IsLiteral}
use Rattle.clause.specs.Positions.{jump, push_due, siblings, rights}
use Rattle.clause.proofs.Lists.{get_or-map-lt, all_take, all_get}
use Rattle.clause.proofs.Skip.{skip_zero, Enough, done, more, shaped_enough, enough_fewer}
use Rattle.clause.proofs.Jump.{enough_here, enough_word, enough_term}
use Rattle.clause.proofs.Literals.{Clause, joined, literal_shaped}
use Rattle.clause.proofs.Starts.{length_starts, found}
use Rattle.clause.proofs.Terms.{shaped_append}

-- the right siblings of a word that is read with the numbers of arguments still to come
abbrev pub rights_of : List ℕ → ℕ
rights_of [] = 0
rights_of (zero ∷ due) = 0
rights_of (suc n ∷ due) = n

-- the arguments still to come after one more term
abbrev pub after_term : List ℕ → List ℕ
after_term [] = []
after_term (zero ∷ due) = due
after_term (suc n ∷ due) = push_due n due

-- the arguments still to come after words
unfoldable pub due_after : List ℕ → List ℕ → List ℕ
due_after [] due = due
due_after (w ∷ ws) due = due_after ws (push_due (arity w) (after_term due))

pub siblings_cons : (w : ℕ) (ws due : List ℕ) → siblings (w ∷ ws) due ≡ rights_of due ∷ siblings ws (push_due (arity w) (after_term due))
unfolding siblings
siblings_cons w ws [] = refl
siblings_cons w ws (zero ∷ due) = refl
siblings_cons w ws (suc n ∷ due) = refl

pub due_append : (u v due : List ℕ) → due_after (u ++ v) due ≡ due_after v (due_after u due)
unfolding due_after
due_append [] v due = refl
due_append (w ∷ u) v due = due_append u v (push_due (arity w) (after_term due))

-- each word's right siblings by the words before it
pub siblings_at : (ws due : List ℕ) (p : ℕ) → p < length ws → get_or (siblings ws due) p 0 ≡ rights_of (due_after (take p ws) due)
unfolding due_after
siblings_at [] due p h = absurd (omega arith)
siblings_at (w ∷ ws) due zero h = rw (siblings_cons w ws due)
siblings_at (w ∷ ws) due (suc p) h = rw (siblings_cons w ws due) (siblings_at ws (push_due (arity w) (after_term due)) p (omega arith))

pub length_siblings : (ws due : List ℕ) → length (siblings ws due) ≡ length ws
unfolding siblings
length_siblings [] due = refl
length_siblings (w ∷ ws) due = rw (siblings_cons w ws due) (ap suc (length_siblings ws (push_due (arity w) (after_term due))))

-- one more term has one right sibling fewer
rights_after : (due : List ℕ) (l : ℕ) → rights_of due ≡ suc l → rights_of (after_term due) ≡ l
unfolding push_due
rights_after [] l e = absurd (omega arith)
rights_after (zero ∷ due) l e = absurd (omega arith)
rights_after (suc zero ∷ due) l e = absurd (omega arith)
rights_after (suc (suc n) ∷ due) l e = omega arith

-- how many arguments are still to come in all
abbrev pub total : List ℕ → ℕ
total [] = 0
total (n ∷ due) = n + total due

-- none of the numbers is 0
abbrev pub Positive : List ℕ → Type 0
Positive = All (λ n. 0 < n)

pub push_append : (n : ℕ) (due rest : List ℕ) → push_due n (due ++ rest) ≡ push_due n due ++ rest
unfolding push_due
push_append zero due rest = refl
push_append (suc n) due rest = refl

pub push_total : (n : ℕ) (due : List ℕ) → total (push_due n due) ≡ n + total due
unfolding push_due
push_total zero due = omega arith
push_total (suc n) due = refl

pub push_positive : (n : ℕ) {due : List ℕ} → Positive due → Positive (push_due n due)
unfolding push_due
push_positive zero p = p
push_positive (suc n) p = also {x = suc n} (omega arith) p

-- words that are all the arguments still to come
clear : {n : ℕ} {u : List ℕ} → Shaped n u → (due rest : List ℕ) → Positive due → n ≡ total due → due_after u (due ++ rest) ≡ rest
unfolding due_after
clear end [] rest p e = refl
clear end (k ∷ due) rest (also h p) e = absurd (omega arith)
clear (next_word h) [] rest p e = absurd (omega arith)
clear (next_word h) (zero ∷ due) rest (also q p) e = absurd (omega arith)
clear (next_word {w} h) (suc j ∷ due) rest (also q p) e =
    rw (push_append j due rest, push_append (arity w) (push_due j due) rest)
    (clear h (push_due (arity w) (push_due j due)) rest (push_positive (arity w) (push_positive j p)) (simp push_total (omega arith)))

-- after a whole term one argument fewer is to come
pub due_term : {u : List ℕ} → Shaped 1 u → (due : List ℕ) → due_after u due ≡ after_term due
unfolding due_after
due_term h due = go h refl
  where
    go : {n : ℕ} {u : List ℕ} → Shaped n u → n ≡ 1 → due_after u due ≡ after_term due
    go end e = absurd (omega arith)
    go (next_word {w} h) e =
        rw (push_append (arity w) [] (after_term due))
        (clear h (push_due (arity w) []) (after_term due) (push_positive (arity w) none) (simp push_total (omega arith)))

-- the first k terms, where there are as many
pub enough_shaped : {k : ℕ} {ws : List ℕ} → Enough k ws → Shaped k (take (skip k ws) ws)
unfolding skip
enough_shaped (done {ws}) = rw (skip_zero ws) end
enough_shaped (more h) = next_word (enough_shaped h)

-- and so it is from a position to the end of its term
pub due_jump : (d due : List ℕ) (p : ℕ) → Enough 1 (drop p d) → due_after (take (jump d 1 p) d) due ≡ after_term (due_after (take p d) due)
unfolding jump
due_jump d due p h = rw (take-add, due_append, due_term (enough_shaped h) (due_after (take p d) due))

-- the words left are the arguments still to come and some terms more
record Reached (due ws : List ℕ) : Type 0 where
  positive : Positive due
  others : ℕ
  shaped : Shaped (total due + others) ws

shaped_tail : {n w : ℕ} {ws : List ℕ} → Shaped n (w ∷ ws) → (k : ℕ) × (n ≡ suc k) × Shaped (arity w + k) ws
shaped_tail (next_word {w} {k} h) = (k, refl, h)

reached_word : (due : List ℕ) (w : ℕ) (ws : List ℕ) → Reached due (w ∷ ws) → Reached (push_due (arity w) (after_term due)) ws
reached_word due w ws R = let (k, e, h) = shaped_tail R.shaped in go due R.positive k e h
  where
    go : (due : List ℕ) → Positive due → (k : ℕ) → total due + R.others ≡ suc k → Shaped (arity w + k) ws
        → Reached (push_due (arity w) (after_term due)) ws
    go [] p k e h =
        let f : total (push_due (arity w) []) + k ≡ arity w + k = rw (push_total (arity w) []) (omega arith) in
        record { positive = push_positive (arity w) none; others = k; shaped = rw f h }
    go (zero ∷ due) (also q p) k e h = absurd (omega arith)
    go (suc n ∷ due) (also q p) k e h =
        let f : total (push_due (arity w) (push_due n due)) + R.others ≡ arity w + k = simp push_total (omega arith) in
        record { positive = push_positive (arity w) (push_positive n p); others = R.others; shaped = rw f h }

reached_at : (due ws : List ℕ) → Reached due ws → (p : ℕ) → Reached (due_after (take p ws) due) (drop p ws)
unfolding due_after
reached_at due ws R zero = R
reached_at due [] R (suc p) = R
reached_at due (w ∷ ws) R (suc p) = reached_at (push_due (arity w) (after_term due)) ws (reached_word due w ws R) p

-- where a word is left, a term and its right siblings are
reached_enough : (due ws : List ℕ) → Reached due ws → 0 < length ws → Enough (suc (rights_of due)) ws
reached_enough due ws R h = go due R.positive (rw append-nil at (shaped_enough R.shaped [])) (shaped_pos R.shaped h)
  where
    shaped_pos : {n : ℕ} {ws : List ℕ} → Shaped n ws → 0 < length ws → 0 < n
    shaped_pos end h = absurd (omega arith)
    shaped_pos (next_word g) h = omega arith

    go : (due : List ℕ) → Positive due → Enough (total due + R.others) ws → 0 < total due + R.others → Enough (suc (rights_of due)) ws
    go [] p e l = enough_fewer e 1 (omega arith)
    go (zero ∷ due) (also q p) e l = absurd (omega arith)
    go (suc n ∷ due) p e l = enough_fewer e (suc n) (omega arith)

-- the literals before literal j
pub starts_before : (ws : List ℕ) (j : ℕ) → j < length (literals ws) → take (start_of ws j) ws ≡ before ws ++ flatten (take j (literals ws))
unfolding starts literals before flatten
starts_before [] j h = absurd (omega arith)
starts_before (w ∷ ws) j h = go (sort w) j h (starts_before ws)
  where
    later : (j : ℕ) → j < length (literals ws) → take (start_of ws j) ws ≡ before ws ++ flatten (take j (literals ws))
        → take (get_or (map suc (starts ws)) j 0) (w ∷ ws) ≡ w ∷ (before ws ++ flatten (take j (literals ws)))
    later j h e = rw (get_or-map-lt suc (starts ws) j 0 0 (rw length_starts h)) (ap (λ (l : List ℕ). w ∷ l) e)

    go : (s : Sort) (j : ℕ) → j < length (if_head s ((w ∷ before ws) ∷ []) [] ++ literals ws)
        → ((j : ℕ) → j < length (literals ws) → take (start_of ws j) ws ≡ before ws ++ flatten (take j (literals ws)))
        → take (get_or (if_head s (0 ∷ []) [] ++ map suc (starts ws)) j 0) (w ∷ ws)
        ≡ if_head s [] (w ∷ before ws) ++ flatten (take j (if_head s ((w ∷ before ws) ∷ []) [] ++ literals ws))
    go symbol j h ih = later j h (ih j h)
    go variable j h ih = later j h (ih j h)
    go wrong j h ih = later j h (ih j h)
    go head zero h ih = refl
    go head (suc j) h ih = let g : j < length (literals ws) = omega arith in later j g (ih j g)

-- after whole literals no argument is to come
due_literals : {ls : List (List ℕ)} → All IsLiteral ls → due_after (flatten ls) [] ≡ []
unfolding flatten due_after
due_literals none = refl
due_literals (also {x = l} {xs = ls} h p) = rw (due_append l (flatten ls) [], due_term (literal_shaped h) []) (due_literals p)

shaped_literals : {ls : List (List ℕ)} → All IsLiteral ls → Shaped (length ls) (flatten ls)
unfolding flatten
shaped_literals none = end
shaped_literals (also {x = l} {xs = ls} h p) = rw (← one-add (length ls)) (shaped_append (literal_shaped h) (shaped_literals p))

module _ (d : List ℕ) (D : Clause d) where
  reached : (p : ℕ) → Reached (due_after (take p d) []) (drop p d)
  reached p =
      let h : Shaped (length (literals d)) d = rw D.whole at (shaped_literals D.all) in
      reached_at [] d (record { positive = none; others = length (literals d); shaped = rw (zero-add (length (literals d))) h }) p

  pub no_words_before : before d ≡ []
  no_words_before = append_cancel_right (before d) [] (flatten (literals d)) (joined d ∙ sym D.whole)

  -- at every position a whole term stands, and as many right siblings after it as it has
  pub enough_rights : (p : ℕ) → p < length d → Enough (suc (rights d p)) (drop p d)
  enough_rights p h = rw (siblings_at d [] p h) (reached_enough (due_after (take p d) []) (drop p d) (reached p) (simp length-drop (omega arith)))

  -- where a literal begins stands a whole term
  pub enough_start : (j : ℕ) → j < length (literals d) → Enough 1 (drop (start_of d j) d)
  enough_start j h = let (r, f) = found d j h in rw f (shaped_enough (literal_shaped (all_get (literals d) D.all j [] h)) r)

  -- a head has no right siblings
  pub rights_start : (j : ℕ) → j < length (literals d) → rights d (start_of d j) ≡ 0
  rights_start j h =
      let g : start_of d j < length d = enough_here d 0 (start_of d j) (enough_start j h) in
      rw (siblings_at d [] (start_of d j) g, starts_before d j h, no_words_before, due_literals (all_take j D.all))

  -- a word with arguments is not the last
  pub down_inside : (p a : ℕ) → p < length d → arity (get_or d p 0) ≡ suc a → suc p < length d
  down_inside p a h e = enough_here d a (suc p) (enough_fewer (enough_word d (rights d p) p (enough_rights p h)) (suc a) (omega arith))

  -- the first argument has all the others as right siblings
  pub rights_down : (p a : ℕ) → p < length d → arity (get_or d p 0) ≡ suc a → rights d (suc p) ≡ a
  unfolding due_after push_due
  rights_down p a h e = rw (siblings_at d [] (suc p) (down_inside p a h e), take-suc d p 0 h, due_append, e)

  -- a term that has right siblings is not the last
  pub right_inside : (p l : ℕ) → p < length d → rights d p ≡ suc l → jump d 1 p < length d
  right_inside p l h e = enough_here d l (jump d 1 p) (enough_term d (suc l) p (rw e at (enough_rights p h)))

  -- the next argument has one right sibling fewer
  pub rights_right : (p l : ℕ) → p < length d → rights d p ≡ suc l → rights d (jump d 1 p) ≡ l
  rights_right p l h e =
      let f : rights_of (due_after (take p d) []) ≡ suc l = sym (siblings_at d [] p h) ∙ e in
      rw (siblings_at d [] (jump d 1 p) (right_inside p l h e), due_jump d [] p (enough_fewer (enough_rights p h) 1 (omega arith)))
      (rights_after (due_after (take p d) []) l f)
