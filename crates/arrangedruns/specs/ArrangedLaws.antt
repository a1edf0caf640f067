-- What a search of arranged loose runs has to know of them, and what it says of the lawful journals.
use Rattle.std.specs.Prelude.{◌≡◌, ℕ, List, []}
use Rattle.model.specs.declared.end.Limits.{Limits}
use Rattle.model.specs.Design.{Design}
use Rattle.model.specs.Runs.{Effect}
use Rattle.loose.specs.declared.transition.LooseTransition.{LooseTransition}
use Rattle.explore.specs.declared.Shown.{Shown}
use Rattle.explore.specs.Search.{AreAllShown, IsEndless, IsShown, Serves}
use Rattle.looseruns.specs.LooseRunLaws.{HoldAlike}
use Rattle.looseruns.specs.ObservedJournals.{AreAllObservedTexts, Observer, SeenEnd}
use Rattle.looseruns.specs.ObservedMoves.{SeesAlike}
use Rattle.looseruns.specs.ObservedRuns.{observed_runs_of}
use Rattle.wavetexts.specs.Reading.{ReadText, read_on, unread}
use Rattle.arrangedruns.specs.ArrangedRuns.{arranged_end, arranged_runs_of}

-- Runs that print and see the same but for the order of lines at one time, and lead to states that are alike in classes, serve one another.
abbrev pub AlikeArrangedRunsServe : {Node : Type 0} → (Node → Effect → Type 0) → (Node → ReadText) → Type 0
AlikeArrangedRunsServe Holds tail =
    (registers : ℕ) (class : ℕ → ℕ) (design : Design) (limits : Limits) (observe : Observer) (i j : List LooseTransition) → SeesAlike observe
    → (arranged_runs_of Holds tail registers class design limits observe).Alike i j
    → Serves (arranged_runs_of Holds tail registers class design limits observe) i j

-- Runs of one text in order for good are such where the nodes that stand at them hold states that are alike, and have the same rest.
abbrev pub AlikeHeldArrangedAreAlike : {Node : Type 0} → (Node → Effect → Type 0) → (Node → ReadText) → Type 0
AlikeHeldArrangedAreAlike {Node} Holds tail =
    (registers : ℕ) (class : ℕ → ℕ) (design : Design) (limits : Limits) (observe : Observer) (a b : Node) (i j : List LooseTransition)
    → HoldAlike Holds class a b → tail a ≡ tail b → (arranged_runs_of Holds tail registers class design limits observe).Stands a i
    → (arranged_runs_of Holds tail registers class design limits observe).Stands b j
    → (arranged_runs_of Holds tail registers class design limits observe).text i ≡ (arranged_runs_of Holds tail registers class design limits observe).text j
    → (arranged_runs_of Holds tail registers class design limits observe).Alike i j

-- nothing is in order for good before the first transition of a run
abbrev pub ArrangedRunsBeginSilent : {Node : Type 0} → (Node → Effect → Type 0) → (Node → ReadText) → Type 0
ArrangedRunsBeginSilent Holds tail =
    (registers : ℕ) (class : ℕ → ℕ) (design : Design) (limits : Limits) (observe : Observer)
    → (arranged_runs_of Holds tail registers class design limits observe).text [] ≡ []

-- of the observed text of a journal, and of its observed end, this is shown with the lines of each time in order
abbrev pub IsShownArranged : {Move : Type 0} → ℕ → List (Shown Move SeenEnd) → List ℕ → SeenEnd → Type 0
IsShownArranged registers shown text end =
    IsShown shown (read_on registers unread text).done (arranged_end registers (read_on registers unread text) end)

-- Where all arranged runs are shown, so are the observed text and the observed end of each lawful journal in time, in order, but for ends by the most
-- entries or for want of memory.
abbrev pub AllArrangedShownAreAll : {Node : Type 0} → (Node → Effect → Type 0) → (Node → ReadText) → Type 0
AllArrangedShownAreAll Holds tail =
    (registers : ℕ) (class : ℕ → ℕ) (design : Design) (limits : Limits) (observe : Observer) (shown : List (Shown LooseTransition SeenEnd))
    → SeesAlike observe → AreAllShown (arranged_runs_of Holds tail registers class design limits observe) shown
    → AreAllObservedTexts design limits observe (IsShownArranged registers shown)

-- a run from which no arranged run comes to an end is one from which none does before the observer
abbrev pub ArrangedEndlessIsEndless : {Node : Type 0} → (Node → Effect → Type 0) → (Node → ReadText) → Type 0
ArrangedEndlessIsEndless Holds tail =
    (registers : ℕ) (class : ℕ → ℕ) (design : Design) (limits : Limits) (observe : Observer) (run : List LooseTransition)
    → IsEndless (arranged_runs_of Holds tail registers class design limits observe) run
    → IsEndless (observed_runs_of Holds class design limits observe) run
