-- A list of calls as words of 16 bits, any words allowed: for each call 0 for a removal, or one more than its clause has words for an insertion;
-- the number, upper half first; and the clause's words. Three words that are not all there stand for no call, and a clause ends where the words do.
-- So a list with a clause of 65,535 words or more has no words; every other list of calls that fit has some (`HasWords`).
use Rattle.std.specs.Prelude.{◌≡◌, List, [], ◌∷◌, ℕ, zero, suc, ◌+◌, ◌-◌, ◌*◌, ◌^◌, ◌<◌, length, take, drop}
use Rattle.clause.specs.Lists.{All}
use Rattle.clause.specs.Word.{Words}
use Rattle.book.specs.Book.{Call, insert, remove, Fit, AllFit, call}

-- a number of 32 bits by its halves
abbrev pub whole : (upper lower : ℕ) → ℕ
whole upper lower = upper * 2 ^ 16 + lower

-- the calls that words stand for; the fuel is at least the number of words
unfoldable pub calls_within : ℕ → List ℕ → List Call
calls_within zero ws = []
calls_within (suc f) [] = []
calls_within (suc f) (k ∷ []) = []
calls_within (suc f) (k ∷ h ∷ []) = []
calls_within (suc f) (zero ∷ h ∷ l ∷ ws) = remove (whole h l) ∷ calls_within f ws
calls_within (suc f) (suc n ∷ h ∷ l ∷ ws) = insert (take n ws) (whole h l) ∷ calls_within f (drop n ws)

-- the calls that words stand for
abbrev pub calls_of : List ℕ → List Call
calls_of ws = calls_within (length ws) ws

-- an insertion whose clause is no longer than its first word can say, or a removal
abbrev pub Short : Call → Type 0
Short (insert c n) = length c < 2 ^ 16 - 1
Short (remove n) = Unit {0}

-- every list of such calls has words
abbrev pub HasWords : Type 0
HasWords = (xs : List Call) → AllFit xs → All Short xs → (ws : List ℕ) × Words ws × (calls_of ws ≡ xs)

-- one call was run: the first that some words stand for; those after it have the rest of the words
pub record Ran (before words rest after : List ℕ) : Type 0 where
  pub first : Call
  pub reads : (f : ℕ) → calls_within (suc f) words ≡ first ∷ calls_within f rest
  pub fit : Fit first
  pub slice : after ≡ (call before first).slice
  pub end : (n : ℕ) × (rest ≡ drop n words)
  pub shorter : length rest < length words
