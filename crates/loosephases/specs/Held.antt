-- Combinational processes that are held until the others are done, where other events are active besides theirs.
use Rattle.std.specs.Prelude.{◌≡◌, ◌≢◌, ℕ, ◌<◌, true, false, List, [], ◌∷◌, ◌++◌, ◌⊎◌, length, Some}
use Rattle.model.specs.declared.entry.Entry.{Entry}
use Rattle.model.specs.declared.entry.Entry.TheVariants.{Turn, Update, ActivateInactive, ActivateNba, ActivateMonitor, Advance}
use Rattle.model.specs.declared.end.Limits.{Limits}
use Rattle.model.specs.declared.end.End.{End}
use Rattle.model.specs.Design.{Design}
use Rattle.model.specs.Turns.{contains}
use Rattle.model.specs.Turns as turns
use Rattle.model.specs.States.{Evaluate, State}
use Rattle.model.specs.Runs.{Effect, action_in, joined, turn_of}
use Rattle.model.specs.Texts.{EndsHere}
use Rattle.orders.specs.Alike.{IsInOrder, updates_in}
use Rattle.orders.specs.Apart.{continuation_after, written_by}
use Rattle.loose.specs.Loose.{loose_step, loose_run_from}
use Rattle.loose.specs.LooseLaws.{IsOneLooseNode}
use Rattle.phases.specs.Phase.{IsActive, Block, continuation_of, IsBlock, IsTurnPending, IsBlockWaiting, StandsSince, SettleBetween, waits_for_register, updated_in, IsOutput, IsPhase, TakesEvent}
use Rattle.loosephases.specs.LoosePhase.{EndsPhaseLoosely, IsLooselyReachable, IsLooselyVisited, CoversLoosely}

-- The members are combinational processes, whatever else is active. Each of them is pending, or waits. No register is an output of two
-- of them, nor an output that is updated. They stand in an order, in which each comes before those that read its outputs. No other
-- process waits for an output.
abbrev pub AreHeldMembers : Design → State → List ℕ → (ℕ → Block) → (ℕ → ℕ) → Type 0
AreHeldMembers design s members block rank =
    record {
      goes_on : s.finished ≡ false;
      exist : (p : ℕ) → contains members p ≡ true → p < length s.processes;
      blocks : (p : ℕ) → contains members p ≡ true → IsBlock design p (block p);
      stands : (p : ℕ) → contains members p ≡ true → IsTurnPending s p (block p) ⊎ IsBlockWaiting s p (block p);
      single : (p q r : ℕ) → contains members p ≡ true → contains members q ≡ true → p ≢ q → contains (block p).outputs r ≡ true
          → contains (block q).outputs r ≡ false;
      updates : (r : ℕ) → contains (updated_in s) r ≡ true → (p : ℕ) → contains members p ≡ true → contains (block p).outputs r ≡ false;
      order : (p q r : ℕ) → contains members p ≡ true → contains members q ≡ true → contains (block p).outputs r ≡ true
          → contains (block q).inputs r ≡ true → rank p < rank q;
      others : (q r : ℕ) → contains members q ≡ false → IsOutput members block r → waits_for_register (continuation_of s q) r ≡ false;
    }

-- A list of registers has the cone of what is pending: the outputs of each member that is active, and those of each member that has an
-- input in the list.
abbrev pub HasCone : State → List ℕ → (ℕ → Block) → List ℕ → Type 0
HasCone s members block cone =
    record {
      begins : (p r : ℕ) → contains members p ≡ true → IsActive s p → contains (block p).outputs r ≡ true → contains cone r ≡ true;
      goes_on : (p q r : ℕ) → contains members p ≡ true → contains (block p).inputs q ≡ true → contains cone q ≡ true
          → contains (block p).outputs r ≡ true → contains cone r ≡ true;
    }

-- a register is outside the cone of what is pending: a list has the cone without it
abbrev pub IsOutsideCone : State → List ℕ → (ℕ → Block) → ℕ → Type 0
IsOutsideCone s members block r = (cone : List ℕ) × HasCone s members block cone × (contains cone r ≡ false)

-- A turn keeps off what is held: it uses no output in the cone of what is pending, writes no output, doesn't go on to wait for one, and
-- doesn't finish.
abbrev pub KeepsOffHeld : State → List ℕ → (ℕ → Block) → turns.Turn → Type 0
KeepsOffHeld s members block turn =
    record {
      uses : (r : ℕ) → contains turn.uses r ≡ true → IsOutput members block r → IsOutsideCone s members block r;
      writes : (r : ℕ) → contains (written_by turn) r ≡ true → IsOutput members block r → ⊥;
      waits : (r : ℕ) → IsOutput members block r → waits_for_register (continuation_after turn) r ≡ false;
      goes_on : turn.finish ≡ false;
    }

-- each active process that is no member has a short turn that keeps off what is held
abbrev pub OthersKeepOff : Design → State → List ℕ → (ℕ → Block) → Type 0
OthersKeepOff design s members block =
    (p : ℕ) → IsActive s p → contains members p ≡ false
    → (turn : turns.Turn) × (turn_of design s p ≡ Some turn) × KeepsOffHeld s members block turn

-- an entry takes an event that is no member's
abbrev pub TakesOther : State → List ℕ → Entry → Type 0
TakesOther s members (Turn number) = (p : ℕ) × (action_in s.active number ≡ Some (Evaluate p)) × (contains members p ≡ false)
TakesOther s members (Update number) = Unit {0}
TakesOther s members ActivateInactive = ⊥
TakesOther s members ActivateNba = ⊥
TakesOther s members ActivateMonitor = ⊥
TakesOther s members (Advance time) = ⊥

-- a way: the entries lead loosely from one effect to another, and take no event of a member
abbrev pub IsWayOfOthers : (ℕ → ℕ) → Design → List ℕ → Effect → List Entry → Effect → Type 0
IsWayOfOthers class design members e [] f = e ≡ f
IsWayOfOthers class design members e (entry ∷ entries) f =
    (g : Effect) × TakesOther e.state members entry × (loose_step class design e.state entry ≡ Some g)
    × IsWayOfOthers class design members (joined e g) entries f

-- wherever a way leads, the others keep off what is held
abbrev pub KeepOffOnWays : (ℕ → ℕ) → Design → List ℕ → (ℕ → Block) → Effect → Type 0
KeepOffOnWays class design members block e =
    (entries : List Entry) (f : Effect) → IsWayOfOthers class design members e entries f → OthersKeepOff design f.state members block

-- However events are taken loosely up to where none is active, the events of the members may be put off until the others are done: a
-- way prints the same, it leads to a phase of the members, in which no update is active, and whichever way through that phase is taken
-- behind it, the end is one loose node, where the members settle between the begin and one of both ends.
abbrev pub HeldIsPutOff : Type 0
HeldIsPutOff =
    (class : ℕ → ℕ) (design : Design) (members : List ℕ) (block : ℕ → Block) (rank : ℕ → ℕ) (e f : Effect) (entries : List Entry)
    → IsInOrder e.state → AreHeldMembers design e.state members block rank → KeepOffOnWays class design members block e
    → EndsPhaseLoosely class design e entries f
    → (way : List Entry) × (g : Effect) × IsWayOfOthers class design members e way g × (f.lines ≡ g.lines)
    × IsPhase design g.state members block rank × (updates_in g.state.active ≡ [])
    × ((p : ℕ) → contains members p ≡ true → StandsSince design e.state g.state p (block p))
    × ((others : List Entry) (k : Effect) → EndsPhaseLoosely class design g others k
    → SettleBetween design members block e.state f.state ⊎ SettleBetween design members block e.state k.state → IsOneLooseNode class f k)

-- where the others keep off, an entry that takes an event leads to where the members are held still
abbrev pub HeldStaysHeld : Type 0
HeldStaysHeld =
    (class : ℕ → ℕ) (design : Design) (members : List ℕ) (block : ℕ → Block) (rank : ℕ → ℕ) (s : State) (entry : Entry) (f : Effect)
    → IsInOrder s → AreHeldMembers design s members block rank → OthersKeepOff design s members block → TakesEvent entry
    → loose_step class design s entry ≡ Some f → AreHeldMembers design f.state members block rank

-- where only updates and members are active, as in a phase, the members are held
abbrev pub PhaseIsHeld : Type 0
PhaseIsHeld =
    (design : Design) (s : State) (members : List ℕ) (block : ℕ → Block) (rank : ℕ → ℕ) → IsPhase design s members block rank
    → AreHeldMembers design s members block rank

-- However a loose run goes on from such a state to an end, it first takes events up to where none is active.
abbrev pub HeldIsPrefix : Type 0
HeldIsPrefix =
    (class : ℕ → ℕ) (design : Design) (limits : Limits) (members : List ℕ) (block : ℕ → Block) (rank : ℕ → ℕ) (e g : Effect)
    (entries : List Entry) (end : End) → IsInOrder e.state → AreHeldMembers design e.state members block rank
    → KeepOffOnWays class design members block e → loose_run_from class design e entries ≡ Some g → EndsHere design limits g end
    → (before : List Entry) × (after : List Entry) × (f : Effect) × (before ++ after ≡ entries) × EndsPhaseLoosely class design e before f
    × (loose_run_from class design f after ≡ Some g)

-- Ways that don't take the members' events are enough: where each that leads to a phase of the members may be gone on through it to a
-- node that was visited, and the members settle between the begin and there, these nodes cover the loose runs.
abbrev pub HeldCovers : Type 0
HeldCovers =
    (class : ℕ → ℕ) (design : Design) (limits : Limits) (nodes : List Effect) (members : List ℕ) (block : ℕ → Block) (rank : ℕ → ℕ)
    (e : Effect) → IsLooselyReachable class design e → AreHeldMembers design e.state members block rank → KeepOffOnWays class design members block e
    → e.state.active ≢ []
    → ((way : List Entry) (g : Effect) → IsWayOfOthers class design members e way g → IsPhase design g.state members block rank
    → ((p : ℕ) → contains members p ≡ true → StandsSince design e.state g.state p (block p))
    → (others : List Entry) × (k : Effect) × EndsPhaseLoosely class design g others k × SettleBetween design members block e.state k.state
    × IsLooselyVisited class nodes k)
    → CoversLoosely class design limits nodes e
