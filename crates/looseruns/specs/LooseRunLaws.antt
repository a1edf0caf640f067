-- What a search of loose runs has to know of them, and what it says of the lawful journals.
use Rattle.std.specs.Prelude.{◌≡◌, ◌≢◌, ℕ, List, [], ◌++◌, Some}
use Rattle.model.specs.declared.entry.Entry.{Entry}
use Rattle.model.specs.declared.end.Limits.{Limits}
use Rattle.model.specs.declared.end.Why.TheVariants.{Entries, Memory}
use Rattle.model.specs.declared.end.End.{End}
use Rattle.model.specs.declared.end.End.TheVariants.{Stopped}
use Rattle.model.specs.Design.{Design}
use Rattle.model.specs.Runs.{Effect, run, lines, AreTimely, Ends}
use Rattle.model.specs.Texts.{EndsHere}
use Rattle.loose.specs.declared.transition.LooseTransition.{LooseTransition}
use Rattle.loose.specs.Loose.{AlikeIn}
use Rattle.explore.specs.declared.Shown.{Shown}
use Rattle.explore.specs.Search.{IsShown, Serves, AreAllShown, NeverEnds}
use Rattle.looseruns.specs.LooseRuns.{ComesOfMoves, loose_runs_of}

-- loose runs that are alike serve one another
abbrev pub AlikeLooseRunsServe : {Node : Type 0} → (Node → Effect → Type 0) → Type 0
AlikeLooseRunsServe Holds =
    (class : ℕ → ℕ) (design : Design) (limits : Limits) (i j : List LooseTransition) → (loose_runs_of Holds class design limits).Alike i j
    → Serves (loose_runs_of Holds class design limits) i j

-- two nodes hold states that are alike in classes
abbrev pub HoldAlike : {Node : Type 0} → (Node → Effect → Type 0) → (ℕ → ℕ) → Node → Node → Type 0
HoldAlike Holds class a b = (e f : Effect) → Holds a e → Holds b f → AlikeIn class e.state f.state

-- loose runs of one text at which nodes stand that hold such states are alike
abbrev pub AlikeHeldRunsAreAlike : {Node : Type 0} → (Node → Effect → Type 0) → Type 0
AlikeHeldRunsAreAlike {Node} Holds =
    (class : ℕ → ℕ) (design : Design) (limits : Limits) (a b : Node) (i j : List LooseTransition) → HoldAlike Holds class a b
    → (loose_runs_of Holds class design limits).Stands a i → (loose_runs_of Holds class design limits).Stands b j
    → (loose_runs_of Holds class design limits).text i ≡ (loose_runs_of Holds class design limits).text j
    → (loose_runs_of Holds class design limits).Alike i j

-- no loose run prints before its first transition
abbrev pub LooseRunsBeginSilent : {Node : Type 0} → (Node → Effect → Type 0) → Type 0
LooseRunsBeginSilent Holds =
    (class : ℕ → ℕ) (design : Design) (limits : Limits) → (loose_runs_of Holds class design limits).text [] ≡ []

-- Where all is shown of the loose runs, the lines and the end of each lawful journal in time are shown, but for ends by the most entries or
-- for want of memory.
abbrev pub AllLooseShownAreAll : {Node : Type 0} → (Node → Effect → Type 0) → Type 0
AllLooseShownAreAll Holds =
    (class : ℕ → ℕ) (design : Design) (limits : Limits) (shown : List (Shown LooseTransition End))
    → AreAllShown (loose_runs_of Holds class design limits) shown
    → (journal : List Entry) (text : List ℕ) (end : End) → lines design journal ≡ Some text → AreTimely limits journal
    → Ends design limits journal end → end ≢ Stopped Entries → end ≢ Stopped Memory → IsShown shown text end

-- Where a lawful journal in time leads to a state that is alike in classes to that of a loose run which comes to no end, no lawful journal
-- in time that goes on from it comes to one.
abbrev pub LooseEndlessIsEndless : {Node : Type 0} → (Node → Effect → Type 0) → Type 0
LooseEndlessIsEndless Holds =
    (class : ℕ → ℕ) (design : Design) (limits : Limits) (journal : List Entry) (e : Effect) (transitions : List LooseTransition) (f : Effect)
    → run design journal ≡ Some e → AreTimely limits journal → ComesOfMoves class design limits transitions f
    → AlikeIn class e.state f.state → NeverEnds (loose_runs_of Holds class design limits) transitions
    → (more : List Entry) (g : Effect) (end : End) → run design (journal ++ more) ≡ Some g → AreTimely limits (journal ++ more)
    → EndsHere design limits g end → ⊥
