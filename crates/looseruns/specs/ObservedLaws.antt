-- What a search of observed loose runs has to know of them, and what it says of the lawful journals.
use Rattle.std.specs.Prelude.{◌≡◌, ℕ, List, [], ◌++◌, Some}
use Rattle.model.specs.declared.entry.Entry.{Entry}
use Rattle.model.specs.declared.end.Limits.{Limits}
use Rattle.model.specs.declared.end.End.{End}
use Rattle.model.specs.Design.{Design}
use Rattle.model.specs.Runs.{Effect, run, AreTimely}
use Rattle.model.specs.Texts.{EndsHere}
use Rattle.loose.specs.declared.transition.LooseTransition.{LooseTransition}
use Rattle.loose.specs.Loose.{AlikeIn}
use Rattle.explore.specs.declared.Shown.{Shown}
use Rattle.explore.specs.Search.{IsShown, Serves, AreAllShown, NeverEnds}
use Rattle.looseruns.specs.LooseMoves.{moves_run}
use Rattle.looseruns.specs.LooseRunLaws.{HoldAlike}
use Rattle.looseruns.specs.ObservedJournals.{Observer, SeesNothing, SeenEnd, observed_run, AreAllObservedTexts}
use Rattle.looseruns.specs.ObservedMoves.{SeesAlike, observed_moves_run}
use Rattle.looseruns.specs.ObservedRuns.{ComesObserved, observed_runs_of}

-- To observe changes nothing: an observed run of a journal leads to the state of its run, with the same changes, and each run of a journal
-- is observed.
abbrev pub ObservedRunIsRun : Type 0
ObservedRunIsRun =
    (design : Design) (observe : Observer) (journal : List Entry)
    → ((e : Effect) → observed_run design observe journal ≡ Some e
    → (f : Effect) × (run design journal ≡ Some f) × (e.state ≡ f.state) × (e.changes ≡ f.changes))
    × ((f : Effect) → run design journal ≡ Some f
    → (e : Effect) × (observed_run design observe journal ≡ Some e) × (e.state ≡ f.state) × (e.changes ≡ f.changes))

-- an observer that sees nothing leaves journals and loose runs as they are, so that observed texts are texts
abbrev pub NothingSeenIsPlain : Type 0
NothingSeenIsPlain =
    (class : ℕ → ℕ) (design : Design) (observe : Observer) → SeesNothing observe
    → ((journal : List Entry) → observed_run design observe journal ≡ run design journal)
    × ((transitions : List LooseTransition) → observed_moves_run class design observe transitions ≡ moves_run class design transitions)

-- observed loose runs that are alike serve one another
abbrev pub AlikeObservedRunsServe : {Node : Type 0} → (Node → Effect → Type 0) → Type 0
AlikeObservedRunsServe Holds =
    (class : ℕ → ℕ) (design : Design) (limits : Limits) (observe : Observer) (i j : List LooseTransition) → SeesAlike observe
    → (observed_runs_of Holds class design limits observe).Alike i j → Serves (observed_runs_of Holds class design limits observe) i j

-- loose runs of one observed text at which nodes stand that hold states alike in classes are alike
abbrev pub AlikeHeldObservedAreAlike : {Node : Type 0} → (Node → Effect → Type 0) → Type 0
AlikeHeldObservedAreAlike {Node} Holds =
    (class : ℕ → ℕ) (design : Design) (limits : Limits) (observe : Observer) (a b : Node) (i j : List LooseTransition)
    → HoldAlike Holds class a b → (observed_runs_of Holds class design limits observe).Stands a i
    → (observed_runs_of Holds class design limits observe).Stands b j
    → (observed_runs_of Holds class design limits observe).text i ≡ (observed_runs_of Holds class design limits observe).text j
    → (observed_runs_of Holds class design limits observe).Alike i j

-- nothing is printed or seen before the first transition of a loose run
abbrev pub ObservedRunsBeginSilent : {Node : Type 0} → (Node → Effect → Type 0) → Type 0
ObservedRunsBeginSilent Holds =
    (class : ℕ → ℕ) (design : Design) (limits : Limits) (observe : Observer)
    → (observed_runs_of Holds class design limits observe).text [] ≡ []

-- Where all is shown of the observed loose runs, the observed text and the observed end of each lawful journal in time are shown, but for
-- ends by the most entries or for want of memory.
abbrev pub AllObservedShownAreAll : {Node : Type 0} → (Node → Effect → Type 0) → Type 0
AllObservedShownAreAll Holds =
    (class : ℕ → ℕ) (design : Design) (limits : Limits) (observe : Observer) (shown : List (Shown LooseTransition SeenEnd))
    → SeesAlike observe → AreAllShown (observed_runs_of Holds class design limits observe) shown
    → AreAllObservedTexts design limits observe (IsShown shown)

-- Where a lawful journal in time leads to a state that is alike in classes to that of an observed loose run which comes to no end, no lawful
-- journal in time that goes on from it comes to one.
abbrev pub ObservedEndlessIsEndless : {Node : Type 0} → (Node → Effect → Type 0) → Type 0
ObservedEndlessIsEndless Holds =
    (class : ℕ → ℕ) (design : Design) (limits : Limits) (observe : Observer) (journal : List Entry) (e : Effect)
    (transitions : List LooseTransition) (f : Effect) → run design journal ≡ Some e → AreTimely limits journal
    → ComesObserved class design limits observe transitions f → AlikeIn class e.state f.state
    → NeverEnds (observed_runs_of Holds class design limits observe) transitions
    → (more : List Entry) (g : Effect) (end : End) → run design (journal ++ more) ≡ Some g → AreTimely limits (journal ++ more)
    → EndsHere design limits g end → ⊥
