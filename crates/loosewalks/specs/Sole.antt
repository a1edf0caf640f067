-- Where one way stands for all loose runs from a state, and ways that are put together of such ways.
use Rattle.std.specs.Prelude.{◌≡◌, ℕ, List, [], ◌∷◌, ◌++◌, Some, None}
use Rattle.model.specs.declared.entry.Entry.{Entry}
use Rattle.model.specs.declared.end.Limits.{Limits}
use Rattle.model.specs.declared.end.End.{End}
use Rattle.model.specs.Design.{Design}
use Rattle.model.specs.States.{State}
use Rattle.model.specs.Runs.{Effect, silent, refusal, step, IsTimely}
use Rattle.model.specs.Texts.{EndsHere}
use Rattle.orders.specs.Alike.{IsInOrder}
use Rattle.loose.specs.declared.transition.LooseTransition.{LooseTransition}
use Rattle.loose.specs.Loose.{AlikeIn, loose_refusal, loose_run, loose_transition_of}
use Rattle.looseruns.specs.LooseCover.{CoverMoves}
use Rattle.looseruns.specs.LooseGoing.{GoesLooselyTo}

-- From a state this way stands for all: it covers what leads on from there, and no run ends there.
pub record StandsForAllLoosely (class : ℕ → ℕ) (design : Design) (limits : Limits) (s : State) (way : List LooseTransition) : Type 0 where
  pub covers : CoverMoves class design limits s (way ∷ [])
  pub goes_on : (end : End) → EndsHere design limits (silent s) end → ⊥

-- the events of a state stand in the order of their numbers, and it is like one that a loose run comes to
pub record IsLikeReached (class : ℕ → ℕ) (design : Design) (s : State) : Type 0 where
  pub order : IsInOrder s
  pub journal : List Entry
  pub effect : Effect
  pub reached : loose_run class design journal ≡ Some effect
  pub alike : AlikeIn class effect.state s

-- where transitions lead to from such a state is one
abbrev pub LikeReachedGoesOn : Type 0
LikeReachedGoesOn =
    (class : ℕ → ℕ) (design : Design) (limits : Limits) (s : State) (g : Effect) (moves : List LooseTransition) → IsLikeReached class design s
    → GoesLooselyTo class design limits s moves g → IsLikeReached class design g.state

-- what stands for all from a state stands for all from one that is alike in classes
abbrev pub AlikeStandForAll : Type 0
AlikeStandForAll =
    (class : ℕ → ℕ) (design : Design) (limits : Limits) (s t : State) (way : List LooseTransition) → IsInOrder s → IsInOrder t
    → AlikeIn class s t → StandsForAllLoosely class design limits s way → StandsForAllLoosely class design limits t way

-- a way that stands for all, and one that does from where it leads, stand for all together
abbrev pub SoleLooseWaysGoOn : Type 0
SoleLooseWaysGoOn =
    (class : ℕ → ℕ) (design : Design) (limits : Limits) (s : State) (way more : List LooseTransition) (f : Effect) → IsInOrder s
    → StandsForAllLoosely class design limits s way → GoesLooselyTo class design limits s way f
    → StandsForAllLoosely class design limits f.state more → StandsForAllLoosely class design limits s (way ++ more)

-- The rules permit this entry, loosely they permit it alone, and it is in time.
pub record IsOnlyLooseEntry (class : ℕ → ℕ) (limits : Limits) (s : State) (entry : Entry) : Type 0 where
  pub only : (other : Entry) → loose_refusal class s other ≡ None → other ≡ entry
  pub permitted : refusal s entry ≡ None
  pub timely : IsTimely limits entry

-- the transition of such an entry stands for all where that takes a step
abbrev pub OnlyEntryStandsForAll : Type 0
OnlyEntryStandsForAll =
    (class : ℕ → ℕ) (design : Design) (limits : Limits) (s : State) (entry : Entry) (f : Effect) (transition : LooseTransition) → IsInOrder s
    → IsOnlyLooseEntry class limits s entry → step design s entry ≡ Some f → loose_transition_of class s entry ≡ Some transition
    → StandsForAllLoosely class design limits s (transition ∷ [])
