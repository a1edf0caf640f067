-- What an observer sees of loose runs that are told by their transitions.
use Rattle.std.specs.Prelude.{◌≡◌, ℕ, List, [], ◌∷◌, Option, Some, option_map, option_and_then}
use Rattle.std.specs.List.{All}
use Rattle.model.specs.declared.entry.Entry.{Entry}
use Rattle.model.specs.declared.entry.Entry.TheVariants.{Turn, Update, ActivateInactive, ActivateNba, ActivateMonitor, Advance}
use Rattle.model.specs.Design.{Design}
use Rattle.model.specs.States.{State, start}
use Rattle.model.specs.Runs.{Effect, silent, joined}
use Rattle.loose.specs.declared.transition.LooseTransition.{LooseTransition}
use Rattle.loose.specs.declared.transition.LooseTransition.TheVariants.{Process, FirstOf, Change}
use Rattle.loose.specs.Loose.{AlikeIn}
use Rattle.looseruns.specs.LooseMoves.{move}
use Rattle.looseruns.specs.ObservedJournals.{Observer, seen_at, effect_with_seen}

-- it sees the same of states that are alike in classes, whatever the classes are
abbrev pub SeesAlike : Observer → Type 0
SeesAlike observe = (class : ℕ → ℕ) (s t : State) → AlikeIn class s t → observe s ≡ observe t

-- what is seen where a loose transition is taken: that of its change of the regions, and nothing at a turn or an update
abbrev pub seen_at_move : Observer → State → LooseTransition → List ℕ
seen_at_move observe s (Process p) = []
seen_at_move observe s (FirstOf c) = []
seen_at_move observe s (Change entry) = seen_at observe s entry

-- one observed move: what comes of a loose transition, and before its lines what is seen where it is taken
abbrev pub observed_move : (ℕ → ℕ) → Design → Observer → State → LooseTransition → Option Effect
observed_move class design observe s transition = option_map (effect_with_seen (seen_at_move observe s transition)) (move class design s transition)

-- what comes of loose transitions and is seen at them, after what came before them
abbrev pub observed_moves_from : (ℕ → ℕ) → Design → Observer → Effect → List LooseTransition → Option Effect
observed_moves_from class design observe e [] = Some e
observed_moves_from class design observe e (transition ∷ more) =
    option_and_then (λ f. observed_moves_from class design observe (joined e f) more) (observed_move class design observe e.state transition)

-- what comes of loose transitions and is seen at them, from the start
abbrev pub observed_moves_run : (ℕ → ℕ) → Design → Observer → List LooseTransition → Option Effect
observed_moves_run class design observe transitions = observed_moves_from class design observe (silent (start design)) transitions

-- an entry lets no time pass
abbrev pub StaysAtEntry : Entry → Type 0
StaysAtEntry (Turn number) = Unit {0}
StaysAtEntry (Update number) = Unit {0}
StaysAtEntry ActivateInactive = Unit {0}
StaysAtEntry ActivateNba = Unit {0}
StaysAtEntry ActivateMonitor = Unit {0}
StaysAtEntry (Advance time) = ⊥

-- a loose transition lets no time pass: it is no advance
abbrev pub StaysInTime : LooseTransition → Type 0
StaysInTime (Process p) = Unit {0}
StaysInTime (FirstOf c) = Unit {0}
StaysInTime (Change entry) = StaysAtEntry entry

-- time passes on a way at its first transition alone, or nowhere
abbrev pub PassesTimeFirst : List LooseTransition → Type 0
PassesTimeFirst [] = Unit {0}
PassesTimeFirst (transition ∷ more) = All StaysInTime more

-- what is seen where the first transition of a way is taken, and nothing where there is none
abbrev pub seen_first : Observer → State → List LooseTransition → List ℕ
seen_first observe s [] = []
seen_first observe s (transition ∷ more) = seen_at_move observe s transition
