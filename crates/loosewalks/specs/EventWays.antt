-- Where one way through events stands for all: a certified run, or a way through a phase of combinational processes.
use Rattle.std.specs.Prelude.{◌≡◌, ◌≢◌, ℕ, List, [], ◌∷◌}
use Rattle.model.specs.declared.end.Limits.{Limits}
use Rattle.model.specs.Design.{Design}
use Rattle.model.specs.States.{State}
use Rattle.model.specs.Runs.{Effect}
use Rattle.orders.specs.Alike.{IsInOrder}
use Rattle.phases.specs.Phase.{Block, SettleBetween, IsPhase}
use Rattle.loose.specs.declared.transition.LooseTransition.{LooseTransition}
use Rattle.loose.specs.declared.transition.LooseTransition.TheVariants.{Process, FirstOf, Change}
use Rattle.traces.specs.Traces.{IsRunOfMoves}
use Rattle.footprints.specs.Footprints.{Footprint}
use Rattle.footprints.specs.Moves.{OrderedState, loose_moves}
use Rattle.certificates.specs.Certified.{AreCertified}
use Rattle.certificates.specs.CertificateLaws.{NobodyWaits}
use Rattle.certifiedruns.specs.CertifiedCover.{actors_of}
use Rattle.looseruns.specs.LooseGoing.{GoesLooselyTo}
use Rattle.loosewalks.specs.Sole.{StandsForAllLoosely, IsLikeReached}

-- each of these transitions takes an event
abbrev pub AreOfActors : List LooseTransition → Type 0
AreOfActors [] = Unit {0}
AreOfActors (Process p ∷ more) = AreOfActors more
AreOfActors (FirstOf c ∷ more) = AreOfActors more
AreOfActors (Change entry ∷ more) = ⊥

-- From a state that is like one that a loose run comes to there is a certified run of one step or more, after which nobody waits. Its
-- actors stand for all.
abbrev pub CertifiedWayStandsForAll : Type 0
CertifiedWayStandsForAll =
    (class : ℕ → ℕ) (design : Design) (limits : Limits) (s : State) (order : IsInOrder s) (t : OrderedState)
    (v : List (LooseTransition × Footprint)) → v ≢ [] → IsLikeReached class design s → IsRunOfMoves (loose_moves class design) (s, order) v t
    → AreCertified class design v → NobodyWaits class t.0 → StandsForAllLoosely class design limits s (actors_of v)

-- A way through a phase of combinational processes, which takes one event or more and after which none is active, stands for all, where
-- the members settle between its begin and its end.
abbrev pub PhaseWayStandsForAll : Type 0
PhaseWayStandsForAll =
    (class : ℕ → ℕ) (design : Design) (limits : Limits) (members : List ℕ) (block : ℕ → Block) (rank : ℕ → ℕ) (s : State) (g : Effect)
    (way : List LooseTransition) → IsInOrder s → IsPhase design s members block rank → way ≢ [] → AreOfActors way
    → GoesLooselyTo class design limits s way g → g.state.active ≡ [] → SettleBetween design members block s g.state
    → StandsForAllLoosely class design limits s way
