-- What the queries of the clauses on a shelf come to.
use Rattle.std.specs.Prelude.{◌≡◌, ◌⊎◌, List, ℕ, ◌≤◌, length, take, Result, Ok, Err}
use Rattle.tree.specs.declared.Refusal.{Refusal}
use Rattle.tree.specs.declared.Refusal.TheVariants.{Spent, ShortList}
use Rattle.backward.specs.declared.Listed.{Listed}
use Rattle.backward.specs.Listing.{Listing, listed, overfull, spent}

-- what a listing came to, under a budget and into a list with room for so many
abbrev pub CameTo : (budget room : ℕ) → Listing → Result Listed Refusal → (numbers : List ℕ) → Type 0
CameTo b room l (Ok r) ns = (r.count ≤ length ns) × (r.count ≤ room) × (l ≡ listed (take r.count ns) r.candidates)
CameTo b room l (Err r) ns = ((l ≡ overfull) × (r ≡ ShortList)) ⊎ ((l ≡ spent) × (r ≡ Spent b))
