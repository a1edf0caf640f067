-- Certified runs as ways of a search.
use Rattle.std.specs.Prelude.{◌≢◌, ℕ, List, [], ◌∷◌, map}
use Rattle.model.specs.declared.end.Limits.{Limits}
use Rattle.model.specs.Design.{Design}
use Rattle.model.specs.States.{State}
use Rattle.orders.specs.Alike.{IsInOrder}
use Rattle.loose.specs.declared.transition.LooseTransition.{LooseTransition}
use Rattle.traces.specs.Traces.{IsRunOfMoves}
use Rattle.footprints.specs.Footprints.{Footprint}
use Rattle.footprints.specs.Moves.{OrderedState, loose_moves}
use Rattle.certificates.specs.Certified.{AreCertified}
use Rattle.certificates.specs.CertificateLaws.{IsReachedLoosely, NobodyWaits}
use Rattle.looseruns.specs.LooseCover.{CoverMoves}

-- the actors of steps, in their order
abbrev pub actors_of : List (LooseTransition × Footprint) → List LooseTransition
actors_of w = map (λ x. x.0) w

-- From a state that a loose run comes to there is a certified run of one step or more, after which nobody waits. Its actors are a way that
-- covers whatever leads on from that state.
abbrev pub CertifiedWayCovers : Type 0
CertifiedWayCovers =
    (class : ℕ → ℕ) (design : Design) (limits : Limits) (s : State) (order : IsInOrder s) (t : OrderedState)
    (v : List (LooseTransition × Footprint)) → v ≢ [] → IsReachedLoosely class design s
    → IsRunOfMoves (loose_moves class design) (s, order) v t → AreCertified class design v → NobodyWaits class t.0
    → CoverMoves class design limits s (actors_of v ∷ [])
