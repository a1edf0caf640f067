-- Where ways stand for all observed loose runs from a state, and such ways that are put together.
use Rattle.std.specs.Prelude.{◌≡◌, ℕ, ◌<◌, List, [], ◌∷◌, ◌++◌, length, Some}
use Rattle.std.specs.List.{All, Any}
use Rattle.model.specs.declared.entry.Entry.{Entry}
use Rattle.model.specs.declared.end.Limits.{Limits}
use Rattle.model.specs.declared.end.End.{End}
use Rattle.model.specs.Design.{Design}
use Rattle.model.specs.States.{State}
use Rattle.model.specs.Runs.{Effect, silent}
use Rattle.model.specs.Texts.{EndsHere}
use Rattle.orders.specs.Alike.{IsInOrder}
use Rattle.loose.specs.declared.transition.LooseTransition.{LooseTransition}
use Rattle.loose.specs.Loose.{AlikeIn, loose_run}
use Rattle.loose.specs.LooseLaws.{IsOneLooseNode}
use Rattle.looseruns.specs.LooseMoves.{AreTimelyMoves}
use Rattle.looseruns.specs.LooseCover.{CoverMoves}
use Rattle.looseruns.specs.ObservedJournals.{Observer, SeenEnd}
use Rattle.looseruns.specs.ObservedMoves.{SeesAlike, observed_moves_from, PassesTimeFirst}
use Rattle.looseruns.specs.ObservedRuns.{ComesObserved, EndsHereObserved}
use Rattle.looseruns.specs.ObservedGoing.{GoesObservedTo}
use Rattle.looseruns.specs.ObservedCover.{CoverObservedRuns}

-- from a state these transitions lead to one loose node of one observed text with that way, which is in time
abbrev pub LeadToOneObservedNode : (ℕ → ℕ) → Design → Limits → Observer → State → List LooseTransition → List LooseTransition → Type 0
LeadToOneObservedNode class design limits observe s transitions way =
    (e : Effect) × (f : Effect) × (observed_moves_from class design observe (silent s) transitions ≡ Some e)
    × (observed_moves_from class design observe (silent s) way ≡ Some f) × AreTimelyMoves limits way × IsOneLooseNode class e f

-- Whatever transitions lead on in time from a state to where a run may end, a first part of them, one at least, leads to one loose node of one
-- observed text with one of these ways.
abbrev pub CoverObservedMoves : (ℕ → ℕ) → Design → Limits → Observer → State → List (List LooseTransition) → Type 0
CoverObservedMoves class design limits observe s ways =
    (transition : LooseTransition) (more : List LooseTransition) (g : Effect) (end : SeenEnd)
    → observed_moves_from class design observe (silent s) (transition ∷ more) ≡ Some g → AreTimelyMoves limits (transition ∷ more)
    → EndsHereObserved design limits observe g end
    → (part : List LooseTransition) × (rest : List LooseTransition) × (0 < length part) × (part ++ rest ≡ transition ∷ more)
    × Any (λ way. LeadToOneObservedNode class design limits observe s part way) ways

-- From a state this way stands for all that an observer sees: it covers what leads on from there, and no run ends there.
pub record StandsForAllObserved (class : ℕ → ℕ) (design : Design) (limits : Limits) (observe : Observer) (s : State) (way : List LooseTransition) : Type 0 where
  pub covers : CoverObservedMoves class design limits observe s (way ∷ [])
  pub goes_on : (end : End) → EndsHere design limits (silent s) end → ⊥

-- Ways that cover what leads on, line by line, from a state that is alike to where a loose run comes, cover what an observer sees of it, where time
-- passes on each of them at its first transition alone, or nowhere.
abbrev pub CoveringMovesAreObserved : Type 0
CoveringMovesAreObserved =
    (class : ℕ → ℕ) (design : Design) (limits : Limits) (observe : Observer) (s : State) (ways : List (List LooseTransition))
    (journal : List Entry) (e : Effect) → IsInOrder s → loose_run class design journal ≡ Some e → AlikeIn class e.state s
    → CoverMoves class design limits s ways → All PassesTimeFirst ways → CoverObservedMoves class design limits observe s ways

-- ways that cover what an observer sees from a state cover it behind an observed run that leads to a state that is alike
abbrev pub ObservedMovesCover : Type 0
ObservedMovesCover =
    (class : ℕ → ℕ) (design : Design) (limits : Limits) (observe : Observer) (run : List LooseTransition) (e : Effect) (s : State)
    (ways : List (List LooseTransition)) → SeesAlike observe → ComesObserved class design limits observe run e → IsInOrder s
    → AlikeIn class e.state s → CoverObservedMoves class design limits observe s ways
    → CoverObservedRuns class design limits observe run ways

-- A way that stands for all that an observer sees, and one that does from where it leads, stand for all together, however often time passes on
-- them.
abbrev pub ObservedSoleWaysGoOn : Type 0
ObservedSoleWaysGoOn =
    (class : ℕ → ℕ) (design : Design) (limits : Limits) (observe : Observer) (s : State) (way more : List LooseTransition) (f : Effect)
    → SeesAlike observe → IsInOrder s → StandsForAllObserved class design limits observe s way
    → GoesObservedTo class design limits observe s way f → StandsForAllObserved class design limits observe f.state more
    → StandsForAllObserved class design limits observe s (way ++ more)
