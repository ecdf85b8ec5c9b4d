-- Effects of steps.
use mathlib.Core.Path.{◌≡◌, refl}
use Rattle.machine.specs.Machine.{Effect, next, fails, stuck, bind}

module _ {S : Type 0} where
  -- the three effects are apart
  pub fails≢next : {t : S} → fails ≡ next t → ⊥
  fails≢next e = cc

  pub stuck≢next : {t : S} → stuck ≡ next t → ⊥
  stuck≢next e = cc

  pub fails≢stuck : ◌≡◌ {A = Effect S} fails stuck → ⊥
  fails≢stuck e = cc

  -- a run that ends goes on behind its first step
  pub bind_next : {t : S} (o : Effect S) (k : S → Effect S) → bind o k ≡ next t → (s : S) × (o ≡ next s) × (k s ≡ next t)
  bind_next (next s) k e = (s, refl, e)
  bind_next fails k e = absurd (fails≢next e)
  bind_next stuck k e = absurd (stuck≢next e)

  -- what is stuck stays so
  pub stuck_again : (o : Effect S) (k k' : S → Effect S) → ((s : S) → k s ≡ stuck → k' s ≡ stuck) → bind o k ≡ stuck → bind o k' ≡ stuck
  stuck_again (next s) k k' h e = h s e
  stuck_again fails k k' h e = e
  stuck_again stuck k k' h e = refl
