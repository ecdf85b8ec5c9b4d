-- `answer` meets its contract: where a clause is found the witness is shown, else it stays.
use mathlib.Core.Path.{◌≡◌, refl, ◌∙◌}
use mathlib.Core.List.{List}
use Prim.Native.Nat.{ℕ}
use Rattle.std.specs.Prelude.{Result, Ok, Err}
use Rattle.cells.specs.Inner.Cells.{no_position, state_of}
use Rattle.walk.specs.Query.{shown, with_shown}
use Rattle.walking.specs.declared.End.{End}
use Rattle.walking.specs.declared.End.TheVariants.{Found, Broken, Spent}
use Rattle.walking.specs.Inner.Findings.{out_by}
use Rattle.query.specs.Inner.Telling.{told_out}
use Rattle.query.proofs.ask.answer.Goals as goal
use Rattle.query.proofs.ask.answer.Goals.{in-Err+in-Found, in-Err+in_default-end, in_default}

-- the witness stays where no clause is found
missed : (b : ℕ) (W : List ℕ) (r : Result ℕ End) (l : List ℕ) → ((e : End) → r ≡ Err e → ⊥)
    → record { answer = (told_out b W (out_by r l)).answer; witness = W } ≡ told_out b W (out_by r l)
unfolding out_by told_out
missed b W (Ok c) l h = refl
missed b W (Err e) l h = absurd (h e refl)

stays : (b : ℕ) (W : List ℕ) (e : End) (l : List ℕ) → ((n c : ℕ) → e ≡ Found n c → ⊥)
    → record { answer = (told_out b W (out_by (Err e) l)).answer; witness = W } ≡ told_out b W (out_by (Err e) l)
unfolding out_by told_out
stays b W (Found n c) l h = absurd (h n c refl)
stays b W Broken l h = refl
stays b W Spent l h = refl

-- and is shown where one is
shows : (b : ℕ) (W : List ℕ) {e : End} (l : List ℕ) {n c : ℕ} → e ≡ Found n c
    → record { answer = (told_out b W (out_by (Err e) l)).answer; witness = with_shown (shown (state_of no_position l)) W } ≡ told_out b W (out_by (Err e) l)
unfolding out_by told_out
shows b W l f = rw f

pub returns : goal.returns
returns c =
    let a = c.args in
    let t = c.told.ensures a.witness.now a.cells.now in
    elim c.match-found.branch [
      | in-Err+in-Found w ↦ rw (w.witness-is ∙ w.show.ensures, t, w.found-is, w.in-Err.is) (shows a.budget a.witness.now a.cells.now w.in-Found.is)
      | in-Err+in_default-end w ↦ rw (w.witness-is, t, w.found-is, w.in-Err.is) (stays a.budget a.witness.now _ a.cells.now w.in_default-end.not-Found)
      | in_default w ↦ rw (w.witness-is, t, w.found-is) (missed a.budget a.witness.now _ a.cells.now w.in_default.not-Err)
    ]
