-- Laws of runs that are certified by their footprints.
use Rattle.std.specs.Prelude.{◌≡◌, ℕ, List, ◌++◌, Some}
use Rattle.model.specs.declared.entry.Entry.{Entry}
use Rattle.model.specs.declared.end.Limits.{Limits}
use Rattle.model.specs.declared.end.End.{End}
use Rattle.model.specs.Design.{Design}
use Rattle.model.specs.States.{State}
use Rattle.model.specs.Runs.{Effect}
use Rattle.model.specs.Texts.{EndsHere}
use Rattle.orders.specs.Alike.{IsInOrder}
use Rattle.loose.specs.declared.transition.LooseTransition.{LooseTransition}
use Rattle.loose.specs.Loose.{AlikeIn, loose_run, loose_run_from}
use Rattle.traces.specs.Traces.{IsRunOfMoves, printed_by_steps}
use Rattle.traces.specs.Certificates.{IsCertificate}
use Rattle.footprints.specs.Footprints.{Footprint}
use Rattle.footprints.specs.Moves.{OrderedState, IsWaiting, loose_moves, TakeEvents}
use Rattle.certificates.specs.Certified.{AreCertified}

-- a state is what a loose run comes to from the start
abbrev pub IsReachedLoosely : (ℕ → ℕ) → Design → State → Type 0
IsReachedLoosely class design s = (journal : List Entry) × (e : Effect) × (loose_run class design journal ≡ Some e) × (e.state ≡ s)

-- no event is active of any actor
abbrev pub NobodyWaits : (ℕ → ℕ) → State → Type 0
NobodyWaits class s = (a : LooseTransition) → IsWaiting class s a → ⊥

-- From a state that a loose run comes to, a run that is certified by its footprints is a certificate.
abbrev pub CertifiedIsCertificate : Type 0
CertifiedIsCertificate =
    (class : ℕ → ℕ) (design : Design) (s t : OrderedState) (w : List (LooseTransition × Footprint)) → IsReachedLoosely class design s.0
    → IsRunOfMoves (loose_moves class design) s w t → AreCertified class design w → IsCertificate (loose_moves class design) s w t

-- From such a state there is a certified run, after which nobody waits. Each run from there to where nobody waits prints the same, and
-- leads to a state that is alike.
abbrev pub CertifiedStandsForAll : Type 0
CertifiedStandsForAll =
    (class : ℕ → ℕ) (design : Design) (s t u : OrderedState) (v w : List (LooseTransition × Footprint))
    → IsReachedLoosely class design s.0 → IsRunOfMoves (loose_moves class design) s v t → AreCertified class design v → NobodyWaits class t.0
    → IsRunOfMoves (loose_moves class design) s w u → NobodyWaits class u.0
    → AlikeIn class u.0 t.0 × (printed_by_steps (λ f. f.lines) w ≡ printed_by_steps (λ f. f.lines) v)

-- What a loose run does first, up to where nobody waits: these entries take events, print the same as a certified run, and lead to a state
-- that is like the one after it.
abbrev pub BeginsLike : (ℕ → ℕ) → Design → Effect → List (LooseTransition × Footprint) → State → List Entry → Effect → Type 0
BeginsLike class design e v t entries f =
    TakeEvents entries × (loose_run_from class design e entries ≡ Some f) × (f.lines ≡ e.lines ++ printed_by_steps (λ g. g.lines) v)
    × AlikeIn class f.state t

-- Where nobody waits after a certified run, each loose run from its start to an end begins like it.
abbrev pub CertifiedIsPrefix : Type 0
CertifiedIsPrefix =
    (class : ℕ → ℕ) (design : Design) (limits : Limits) (e g : Effect) (order : IsInOrder e.state) (t : OrderedState)
    (v : List (LooseTransition × Footprint)) (entries : List Entry) (end : End) → IsReachedLoosely class design e.state
    → IsRunOfMoves (loose_moves class design) (e.state, order) v t → AreCertified class design v → NobodyWaits class t.0
    → loose_run_from class design e entries ≡ Some g → EndsHere design limits g end
    → (before : List Entry) × (after : List Entry) × (f : Effect) × (before ++ after ≡ entries)
    × BeginsLike class design e v t.0 before f × (loose_run_from class design f after ≡ Some g)
