-- Certified runs are certificates, and stand for all runs from their start.
use Rattle.std.proofs.Common.{◌≡◌, ℕ, List, [], ◌∷◌, Some, ap, subst, ◌∙◌}
use Rattle.model.specs.Design.{Design}
use Rattle.model.specs.States.{Evaluate, State}
use Rattle.loose.specs.declared.transition.LooseTransition.{LooseTransition}
use Rattle.traces.specs.Traces.{IsRunOfMoves}
use Rattle.traces.specs.Certificates.{IsCertificate}
use Rattle.traces.proofs.Certificates.{certificate_stands_for_all}
use Rattle.footprints.specs.Footprints.{Footprint}
use Rattle.footprints.specs.Moves.{OrderedState, IsWaiting, IsMove, GivesTo, loose_moves}
use Rattle.footprints.proofs.AlikeFootprints.{is_of_process}
use Rattle.footprints.proofs.LooseMoves.{loose_steps_are_moves}
use Rattle.footprints.proofs.Swaps.{loose_steps_have_swaps}
use Rattle.certificates.specs.Certified.{AreCertified}
use Rattle.certificates.specs.CertificateLaws.{IsReachedLoosely, CertifiedIsCertificate, CertifiedStandsForAll}
use Rattle.certificates.proofs.OneEvent.{HasOneEvent, step_keeps, reached_has_one, woken_has_none}

-- each process has one event at most
abbrev EachHasOne : State → Type 0
EachHasOne s = (p : ℕ) → HasOneEvent s p

-- a step gives no event to who waits
gives_none : (class : ℕ → ℕ) (design : Design) (s t : OrderedState) (a b : LooseTransition) (f : Footprint) → EachHasOne s.0 → IsMove class design s.0 a f t.0 → GivesTo f b → IsWaiting class s.0 b → ⊥
gives_none class design s t a b f one (entry, x, step, owner, leads) (p, is, woken) (number, action, active, own) =
    let evaluation : Some action ≡ Some (Evaluate p) = is_of_process class p (Some action) (own ∙ ap Some is) in
    woken_has_none class design s.0 entry f x p number s.1 (one p) step woken (active ∙ evaluation)

next_has_one : (class : ℕ → ℕ) (design : Design) (s t : OrderedState) (a : LooseTransition) (f : Footprint) → EachHasOne s.0 → IsMove class design s.0 a f t.0 → EachHasOne t.0
next_has_one class design s t a f one (entry, x, step, owner, leads) p =
    subst (λ z. HasOneEvent z p) leads (step_keeps class design s.0 entry x p s.1 step.0 (one p))

certificate_of : (class : ℕ → ℕ) (design : Design) (w : List (LooseTransition × Footprint)) (s t : OrderedState) → EachHasOne s.0 → IsRunOfMoves (loose_moves class design) s w t → AreCertified class design w
    → IsCertificate (loose_moves class design) s w t
certificate_of class design [] s t one run certified = run
certificate_of class design (x ∷ w) s t one (m, step, later) (free, each, certified) = (
  m,
  step,
  free,
  (λ b other given waits. gives_none class design s m x.0 b x.1 one step given waits),
  each,
  certificate_of class design w m t (next_has_one class design s m x.0 x.1 one step) later certified,
)

pub reached : (class : ℕ → ℕ) (design : Design) (s : State) → IsReachedLoosely class design s → EachHasOne s
reached class design s (journal, e, run, same) p = subst (λ z. HasOneEvent z p) same (reached_has_one class design journal e p run)

pub certified_is_certificate : CertifiedIsCertificate
certified_is_certificate class design s t w come run certified = certificate_of class design w s t (reached class design s.0 come) run certified

pub certified_stands_for_all : CertifiedStandsForAll
certified_stands_for_all class design s t u v w come run certified over run' over' =
    certificate_stands_for_all (loose_moves class design) s t u v w (loose_steps_are_moves class design) (loose_steps_have_swaps class design)
    (certified_is_certificate class design s t v come run certified) over run' over'
