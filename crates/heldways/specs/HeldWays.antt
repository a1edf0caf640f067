-- Ways of all but held combinational processes whose steps certify each other, and what they say of all runs from where they begin.
use Rattle.std.specs.Prelude.{◌≡◌, ◌≢◌, ℕ, true, false, ◌==◌, List, [], ◌∷◌, ◌++◌}
use Rattle.std.specs.List.{list_any}
use Rattle.model.specs.declared.end.End.{End}
use Rattle.model.specs.declared.end.Limits.{Limits}
use Rattle.model.specs.declared.entry.Entry.{Entry}
use Rattle.model.specs.Design.{Design, Trigger}
use Rattle.model.specs.Texts.{EndsHere}
use Rattle.model.specs.Turns.{contains}
use Rattle.model.specs.States.{State}
use Rattle.model.specs.Runs.{Effect, silent}
use Rattle.orders.specs.Alike.{IsInOrder}
use Rattle.loose.specs.declared.transition.LooseTransition.{LooseTransition}
use Rattle.loose.specs.declared.transition.LooseTransition.TheVariants.{Process, FirstOf, Change}
use Rattle.loose.specs.Loose.{AlikeIn}
use Rattle.loose.specs.LooseLaws.{IsOneLooseNode}
use Rattle.phases.specs.Phase.{Block, SettleBetween, IsOutput}
use Rattle.loosephases.specs.LoosePhase.{EndsPhaseLoosely}
use Rattle.loosephases.specs.Held.{AreHeldMembers, HasCone, KeepOffOnWays}
use Rattle.traces.specs.Traces.{IsRunOfMoves}
use Rattle.traces.specs.Certificates.{HoldsOf}
use Rattle.footprints.specs.Footprints.{Footprint, changed_registers, written_registers}
use Rattle.footprints.specs.Moves.{OrderedState}
use Rattle.certificates.specs.Certified.{AreCertified}
use Rattle.certificates.specs.CertificateLaws.{IsReachedLoosely, NobodyWaits}
use Rattle.looseruns.specs.LooseCover.{CoverMoves}
use Rattle.looseruns.specs.LooseGoing.{GoesLooselyTo}
use Rattle.heldmoves.specs.WithoutHeld.{without_held}
use Rattle.heldmoves.specs.HeldMoves.{held_moves}
use Rattle.heldways.specs.Passing.{Passing, IsPassing, AllPass, OutputsPass, SleepThrough, put_to_sleep}

-- A step keeps off what is held: it uses no output in a cone, writes no output, doesn't go on to wait for one, and doesn't finish. What it
-- changes is among some registers.
pub record StepKeepsOff (members : List ℕ) (block : ℕ → Block) (cone touched : List ℕ) (f : Footprint) : Type 0 where
  pub uses : (r : ℕ) → contains f.uses r ≡ true → IsOutput members block r → contains cone r ≡ false
  pub writes : (r : ℕ) → contains (written_registers f) r ≡ true → IsOutput members block r → ⊥
  pub waits : (r : ℕ) → IsOutput members block r → list_any (λ (t : Trigger). t.1 == r) f.awaits ≡ false
  pub goes_on : f.finishes ≡ false
  pub changes : (r : ℕ) → contains (changed_registers f.changes) r ≡ true → contains touched r ≡ true

-- a list of registers has the cone of all that is pending, and of each member with an input among the registers that are touched
pub record HasConeOfAll (s : State) (members : List ℕ) (block : ℕ → Block) (touched cone : List ℕ) : Type 0 where
  pub pending : HasCone s members block cone
  pub woken :
      (p q r : ℕ) → contains members p ≡ true → contains (block p).inputs q ≡ true → contains touched q ≡ true
      → contains (block p).outputs r ≡ true → contains cone r ≡ true

-- From a state the steps of all but held members and some sleepers lead to where nobody else is active. These steps are certified, with
-- footprints that leave aside what is held and the sleepers, and keep off what is held. The members are held where the sleepers wait for
-- nothing. These sleep through it: whatever the steps change passes, and the outputs pass through what they may be given meanwhile.
pub record HasHeldWay (class : ℕ → ℕ) (design : Design) (members : List ℕ) (block : ℕ → Block) (rank : ℕ → ℕ) (s : State) : Type 0 where
  pub order : IsInOrder s
  pub sleepers : List ℕ
  pub held : AreHeldMembers design (put_to_sleep sleepers s) members block rank
  pub steps : List (LooseTransition × Footprint)
  pub last : OrderedState
  pub runs : IsRunOfMoves (held_moves class design (contains (members ++ sleepers))) (s, order) steps last
  pub certified : AreCertified class design steps
  pub over : NobodyWaits class (without_held (contains (members ++ sleepers)) last.0)
  pub touched : List ℕ
  pub cone : List ℕ
  pub has_cone : HasConeOfAll s members block touched cone
  pub keep : HoldsOf (StepKeepsOff members block cone touched) steps
  pub passes : Passing
  pub is_passing : IsPassing passes
  pub steps_pass : HoldsOf (λ f. AllPass passes f.changes) steps
  pub outputs_pass : OutputsPass design s.store s.time members block cone passes
  pub sleep : SleepThrough s members sleepers passes

-- a state is like what a loose run comes to from the start
pub record IsLikeLooselyReached (class : ℕ → ℕ) (design : Design) (s : State) : Type 0 where
  pub comes_to : State
  pub reached : IsReachedLoosely class design comes_to
  pub alike : AlikeIn class comes_to s

-- wherever a way leads from such a state where the sleepers wait for nothing, the others keep off what is held
abbrev pub CertifiedKeepOff : Type 0
CertifiedKeepOff =
    (class : ℕ → ℕ) (design : Design) (members : List ℕ) (block : ℕ → Block) (rank : ℕ → ℕ) (e : Effect)
    → IsLikeLooselyReached class design e.state → (way : HasHeldWay class design members block rank e.state)
    → KeepOffOnWays class design members block (record e { state = put_to_sleep way.sleepers e.state })

-- Whichever events come first, up to where none is active, there is one loose node, where the members settle between the begin and one of
-- the ends.
abbrev pub HeldEndsInOneNode : Type 0
HeldEndsInOneNode =
    (class : ℕ → ℕ) (design : Design) (members : List ℕ) (block : ℕ → Block) (rank : ℕ → ℕ) (e f g : Effect) (entries others : List Entry)
    → IsLikeLooselyReached class design e.state → HasHeldWay class design members block rank e.state
    → EndsPhaseLoosely class design e entries f → EndsPhaseLoosely class design e others g
    → SettleBetween design members block e.state g.state → IsOneLooseNode class f g

-- each of these transitions takes an event
abbrev pub TransitionsTakeEvents : List LooseTransition → Type 0
TransitionsTakeEvents [] = Unit {0}
TransitionsTakeEvents (Process p ∷ more) = TransitionsTakeEvents more
TransitionsTakeEvents (FirstOf c ∷ more) = TransitionsTakeEvents more
TransitionsTakeEvents (Change entry ∷ more) = ⊥

-- Where something is active in such a state, whichever transitions that take events lead in time to where none is active, and the members
-- settle between there and here, cover by themselves whatever loose runs lead on from there; and none ends there.
abbrev pub HeldWayCovers : Type 0
HeldWayCovers =
    (class : ℕ → ℕ) (design : Design) (limits : Limits) (members : List ℕ) (block : ℕ → Block) (rank : ℕ → ℕ) (s : State) (g : Effect)
    (way : List LooseTransition) → IsLikeLooselyReached class design s → HasHeldWay class design members block rank s → way ≢ []
    → TransitionsTakeEvents way → GoesLooselyTo class design limits s way g → g.state.active ≡ []
    → SettleBetween design members block s g.state
    → CoverMoves class design limits s (way ∷ []) × ((end : End) → EndsHere design limits (silent s) end → ⊥)
