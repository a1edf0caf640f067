-- The actors of a certified run stand for all.
use Rattle.std.proofs.Common.{◌≡◌, ◌≢◌, ℕ, true, false, List, [], ◌∷◌, Some, refl, subst}
use Rattle.model.specs.declared.end.Limits.{Limits}
use Rattle.model.specs.Design.{Design}
use Rattle.model.specs.States.{Action, Event, State, start}
use Rattle.model.specs.Runs.{silent, action_in, has_any}
use Rattle.orders.specs.Alike.{IsInOrder}
use Rattle.orders.proofs.StatesInOrder.{start_is_in_order}
use Rattle.loose.specs.declared.transition.LooseTransition.{LooseTransition}
use Rattle.loose.specs.Loose.{AlikeIn}
use Rattle.loose.proofs.ClassStates.{states_in-sym}
use Rattle.loose.proofs.LooseSteps.{loose_run_keeps_order}
use Rattle.traces.specs.Traces.{AreMoves, IsRunOfMoves}
use Rattle.traces.specs.Certificates.{IsCertificate}
use Rattle.footprints.specs.Footprints.{Footprint}
use Rattle.footprints.specs.Moves.{OrderedState, loose_moves}
use Rattle.footprints.proofs.Steps.{loose_parts}
use Rattle.footprints.proofs.LooseMoves.{loose_steps_are_moves}
use Rattle.certificates.specs.Certified.{AreCertified}
use Rattle.certificates.specs.CertificateLaws.{IsReachedLoosely, NobodyWaits}
use Rattle.certificates.proofs.CertifiedRuns.{certified_is_certificate}
use Rattle.certificates.proofs.Prefixes.{none_where_ended}
use Rattle.certifiedruns.specs.CertifiedCover.{actors_of}
use Rattle.certifiedruns.proofs.Covering.{certified_way_covers}
use Rattle.loosewalks.specs.Sole.{StandsForAllLoosely}
use Rattle.loosewalks.specs.EventWays.{CertifiedWayStandsForAll}
use Rattle.loosewalks.proofs.SoleLooseWays.{alike_stand_for_all}

-- a run from a state that is alike
abbrev RunsToo : (ℕ → ℕ) → Design → OrderedState → List (LooseTransition × Footprint) → OrderedState → Type 0
RunsToo class design s v t =
    (u : OrderedState) × IsRunOfMoves (loose_moves class design) s v u × AlikeIn class t.0 u.0

runs_too : (class : ℕ → ℕ) (design : Design) (v : List (LooseTransition × Footprint)) (s r t : OrderedState) → AlikeIn class s.0 r.0 → IsRunOfMoves (loose_moves class design) s v t → RunsToo class design r v t
runs_too class design [] s r t near run = (r, refl, subst (λ (x : OrderedState). AlikeIn class x.0 r.0) run near)
runs_too class design (x ∷ v) s r t near (m, step, later) =
    let laws : AreMoves (loose_moves class design) = loose_steps_are_moves class design in
    let (n, step', near') = laws.steps_alike s r m x.0 x.1 near step in
    let (u, run, near'') = runs_too class design v m n t near' later in
    (u, (n, step', run), near'')

-- who steps has an event, and the run isn't finished
some_active : (n : ℕ) (a : Action) (events : List Event) → action_in events n ≡ Some a → has_any events ≡ true
some_active n a [] is = cc
some_active n a (e ∷ events) is = refl

first_steps : (class : ℕ → ℕ) (design : Design) (s t : OrderedState) (v : List (LooseTransition × Footprint)) → v ≢ [] → IsRunOfMoves (loose_moves class design) s v t → (has_any s.0.active ≡ true) × (s.0.finished ≡ false)
first_steps class design s t [] some run = absurd (some refl)
first_steps class design s t (x ∷ v) some (m, (entry, e, step, owner, leads), later) =
    let laws : AreMoves (loose_moves class design) = loose_steps_are_moves class design in
    let (number, action, is, own) = laws.waiting s m x.0 x.1 (entry, e, step, owner, leads) in
    let (going, none, made) = loose_parts class design s.0 entry e step.0 in
    (some_active number action s.0.active is, going)

-- from a state that a loose run comes to
reached_stands : (class : ℕ → ℕ) (design : Design) (limits : Limits) (s : State) (order : IsInOrder s) (t : OrderedState) (v : List (LooseTransition × Footprint)) → v ≢ [] → IsReachedLoosely class design s → IsRunOfMoves (loose_moves class design) (s, order) v t
    → AreCertified class design v → NobodyWaits class t.0 → StandsForAllLoosely class design limits s (actors_of v)
reached_stands class design limits s order t v some come run certified over =
    let first : OrderedState = (s, order) in
    let cert : IsCertificate (loose_moves class design) first v t = certified_is_certificate class design first t v come run certified in
    let (active, going) = first_steps class design first t v some run in
    record {
      covers = certified_way_covers class design limits s order t v some come run certified over;
      goes_on = λ end here. none_where_ended class design limits first t first v [] cert over refl end here.0 here.1 active going here.2;
    }

pub certified_way_stands_for_all : CertifiedWayStandsForAll
certified_way_stands_for_all class design limits s order t v some like run certified over =
    let r : State = like.effect.state in
    let i : IsInOrder r = loose_run_keeps_order class design (silent (start design)) like.effect like.journal (start_is_in_order design) like.reached in
    let near : AlikeIn class s r = states_in-sym class r s like.alike in
    let (u, run', near') = runs_too class design v (s, order) (r, i) t near run in
    let laws : AreMoves (loose_moves class design) = loose_steps_are_moves class design in
    let over' : NobodyWaits class u.0 = λ a waits. over a (laws.waits_alike u t a (states_in-sym class t.0 u.0 near') waits) in
    let come : IsReachedLoosely class design r = (like.journal, like.effect, like.reached, refl) in
    alike_stand_for_all class design limits r s (actors_of v) i order like.alike (reached_stands class design limits r i u v some come run' certified over')
