-- Two jobs that do not clash: neither sees whether the other was done, and they may change places. Assumes nothing.
use mathlib.Core.Path.{◌≡◌, sym, ◌∙◌}
use mathlib.Core.Logic.{inl, inr}
use Rattle.reorder.specs.Jobs.{Jobs, Agree, Laws, Clash}

pub clash-sym : (J : Jobs) (i j : J.Job) → Clash J i j → Clash J j i
clash-sym J i j (inl h) = inr h
clash-sym J i j (inr h) = inl h

module _ (J : Jobs) (L : Laws J) (i j : J.Job) (free : ¬ (Clash J i j)) where
  -- j reads nothing that i writes
  pub unseen : (s : J.Pic) → J.Fit s → Agree J j (J.step i s) s
  unseen s f p r = L.frame i s f p (λ w. free (inl (p, w, inl r)))

  pub answer-free : (s : J.Pic) → J.Fit s → J.answer j (J.step i s) ≡ J.answer j s
  answer-free s f = L.answer-local j (J.step i s) s (L.fits i s f) f (unseen s f)

module _ (J : Jobs) (L : Laws J) (i j : J.Job) (free : ¬ (Clash J i j)) where
  free' : ¬ (Clash J j i)
  free' c = free (clash-sym J j i c)

  pub step-comm : (s : J.Pic) → J.Fit s → J.step j (J.step i s) ≡ J.step i (J.step j s)
  step-comm s f = L.ext (J.step j (J.step i s)) (J.step i (J.step j s)) (L.fits j (J.step i s) fi) (L.fits i (J.step j s) fj) at
    where
      fi : J.Fit (J.step i s)
      fi = L.fits i s f

      fj : J.Fit (J.step j s)
      fj = L.fits j s f

      at : (p : J.Place) → J.look (J.step j (J.step i s)) p ≡ J.look (J.step i (J.step j s)) p
      at p = elim (L.writes? i p) [
        | yes w ↦
            let nj : ¬ (J.Writes j p) = λ w'. free (inl (p, w, inr w')) in
            L.frame j (J.step i s) fi p nj ∙ sym (L.step_local i (J.step j s) s fj f (unseen J L j i free' s f) p (L.frame j s f p nj))
        | no ni ↦
            L.step_local j (J.step i s) s fi f (unseen J L i j free s f) p (L.frame i s f p ni) ∙ sym (L.frame i (J.step j s) fj p ni)
      ]
