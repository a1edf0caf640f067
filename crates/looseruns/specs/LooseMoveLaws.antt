-- Laws of moves: they are loose steps, and whatever steps do, moves do.
use Rattle.std.specs.Prelude.{◌≡◌, ℕ, List, length, Some}
use Rattle.model.specs.declared.entry.Entry.{Entry}
use Rattle.model.specs.declared.end.Limits.{Limits}
use Rattle.model.specs.Design.{Design}
use Rattle.model.specs.States.{State}
use Rattle.model.specs.Runs.{Effect, IsTimely, AreTimely}
use Rattle.orders.specs.Alike.{IsInOrder}
use Rattle.loose.specs.declared.transition.LooseTransition.{LooseTransition}
use Rattle.loose.specs.Loose.{AlikeIn, loose_transition_of, loose_step, loose_run_from}
use Rattle.loose.specs.LooseLaws.{AreAlikeEffectsIn, IsOneLooseNode}
use Rattle.looseruns.specs.LooseMoves.{entry_for, move, moves_from, IsTimelyMove, AreTimelyMoves}

-- the entry of a loose transition in a state has that transition there
abbrev pub EntryHasTransition : Type 0
EntryHasTransition =
    (class : ℕ → ℕ) (s : State) (transition : LooseTransition) (entry : Entry) → IsInOrder s
    → entry_for class s transition ≡ Some entry → loose_transition_of class s entry ≡ Some transition

-- a move is the loose step of an entry that has its transition
abbrev pub MoveIsLooseStep : Type 0
MoveIsLooseStep =
    (class : ℕ → ℕ) (design : Design) (s : State) (transition : LooseTransition) (f : Effect) → IsInOrder s
    → move class design s transition ≡ Some f
    → (entry : Entry) × (loose_transition_of class s entry ≡ Some transition) × (loose_step class design s entry ≡ Some f)

-- whatever entry steps loosely has a transition, and what comes of the move of that is alike
abbrev pub LooseStepHasMove : Type 0
LooseStepHasMove =
    (class : ℕ → ℕ) (design : Design) (s : State) (entry : Entry) (f : Effect) → IsInOrder s → loose_step class design s entry ≡ Some f
    → (transition : LooseTransition) × (g : Effect) × (loose_transition_of class s entry ≡ Some transition)
    × (move class design s transition ≡ Some g) × AreAlikeEffectsIn class f g

-- what a transition does in a state, it does in one that is alike in classes
abbrev pub AlikeInStatesMoveAlike : Type 0
AlikeInStatesMoveAlike =
    (class : ℕ → ℕ) (design : Design) (s t : State) (transition : LooseTransition) (f : Effect) → IsInOrder s → IsInOrder t
    → AlikeIn class s t → move class design s transition ≡ Some f
    → (g : Effect) × (move class design t transition ≡ Some g) × AreAlikeEffectsIn class f g

-- an entry and its transition are in time together
abbrev pub TransitionIsTimely : Type 0
TransitionIsTimely =
    (class : ℕ → ℕ) (limits : Limits) (s : State) (entry : Entry) (transition : LooseTransition)
    → loose_transition_of class s entry ≡ Some transition
    → (IsTimely limits entry → IsTimelyMove limits transition) × (IsTimelyMove limits transition → IsTimely limits entry)

-- moves keep the events in the order of their numbers
abbrev pub MovesKeepOrder : Type 0
MovesKeepOrder =
    (class : ℕ → ℕ) (design : Design) (e f : Effect) (transitions : List LooseTransition) → IsInOrder e.state
    → moves_from class design e transitions ≡ Some f → IsInOrder f.state

-- what comes of moves comes of as many entries, each permitted loosely where it stands, and these are in time where the moves are
abbrev pub MovesAreLooseRun : Type 0
MovesAreLooseRun =
    (class : ℕ → ℕ) (design : Design) (limits : Limits) (e f : Effect) (transitions : List LooseTransition) → IsInOrder e.state
    → moves_from class design e transitions ≡ Some f
    → (entries : List Entry) × (length entries ≡ length transitions) × (AreTimelyMoves limits transitions → AreTimely limits entries)
    × (loose_run_from class design e entries ≡ Some f)

-- Moves go on alike from two effects that are one loose node: by the same transitions, to one loose node again.
abbrev pub OneLooseNodeMovesOn : Type 0
OneLooseNodeMovesOn =
    (class : ℕ → ℕ) (design : Design) (e f g : Effect) (transitions : List LooseTransition) → IsInOrder e.state → IsInOrder f.state
    → IsOneLooseNode class e f → moves_from class design e transitions ≡ Some g
    → (k : Effect) × (moves_from class design f transitions ≡ Some k) × IsOneLooseNode class g k

-- However a run goes on loosely and in time from one of two effects that are one loose node, as many moves in time go on from the other,
-- and come to one loose node again.
abbrev pub LooseRunHasMoves : Type 0
LooseRunHasMoves =
    (class : ℕ → ℕ) (design : Design) (limits : Limits) (e f g : Effect) (entries : List Entry) → IsInOrder e.state → IsInOrder f.state
    → IsOneLooseNode class e f → loose_run_from class design e entries ≡ Some g → AreTimely limits entries
    → (transitions : List LooseTransition) × (k : Effect) × (length transitions ≡ length entries) × AreTimelyMoves limits transitions
    × (moves_from class design f transitions ≡ Some k) × IsOneLooseNode class g k
