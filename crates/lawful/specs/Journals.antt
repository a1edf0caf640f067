-- The lawful journals of what a search of loose runs shows. How a run ends is told as the search tells it, and what a lawful journal of a text and
-- such an end is, a relation says.
use Rattle.std.specs.Prelude.{◌≡◌, ◌⊎◌, ℕ, Bool, true, List, [], ◌∷◌, ◌++◌, map, Option, Some, IfSome}
use Rattle.std.specs.List.{All, Any}
use Rattle.model.specs.declared.entry.Entry.{Entry}
use Rattle.model.specs.declared.end.Limits.{Limits}
use Rattle.model.specs.Design.{Design}
use Rattle.model.specs.Runs.{Effect}
use Rattle.model.specs.Texts.{ComesOf, IsEndlessJournal, IsWithinLimits}
use Rattle.explore.specs.declared.Explored.{Explored}
use Rattle.explore.specs.declared.Shown.{Shown}
use Rattle.explore.specs.declared.stopped.Stopped.{Stopped}
use Rattle.explore.specs.declared.stopped.Stopped.TheVariants as stop
use Rattle.loose.specs.declared.transition.LooseTransition.{LooseTransition}

-- says which journals are lawful ones of a text and an end
abbrev pub JournalRelation : Type 0 → Type 1
JournalRelation End = List ℕ → End → List Entry → Type 0

-- the texts and the ends that are shown, without the moves
abbrev pub texts_and_ends : {Move End : Type 0} → List (Shown Move End) → List (List ℕ × End)
texts_and_ends shown = map (λ s. (s.text.items, s.end)) shown

-- a text and an end are among these
abbrev pub IsTextAmong : {End : Type 0} → List (List ℕ × End) → List ℕ → End → Type 0
IsTextAmong told text end = Any (λ pair. (pair.0 ≡ text) × (pair.1 ≡ end)) told

-- this journal is known of a text and an end
abbrev pub IsKnownJournal : {End : Type 0} → List (Shown Entry End) → List ℕ → End → List Entry → Type 0
IsKnownJournal known text end journal = Any (λ s. (s.text.items ≡ text) × (s.end ≡ end) × (s.moves.items ≡ journal)) known

-- what is shown has a lawful journal of its text and its end beside it
abbrev pub HasLawfulJournal : {End : Type 0} → JournalRelation End → Shown Entry End → Type 0
HasLawfulJournal IsJournal shown = IsJournal shown.text.items shown.end shown.moves.items

-- the same text and the same end are shown, and a lawful journal of them
pub record IsShownLawfully {End : Type 0} (IsJournal : JournalRelation End) (shown : Shown LooseTransition End) (lawful : Shown Entry End) : Type 0 where
  pub text : lawful.text.items ≡ shown.text.items
  pub end_is : lawful.end ≡ shown.end
  pub journal : HasLawfulJournal IsJournal lawful

-- the same texts and ends are shown, in their order, and a lawful journal of each
pub record AreShownLawfully {End : Type 0} (IsJournal : JournalRelation End) (shown : List (Shown LooseTransition End)) (lawful : List (Shown Entry End)) : Type 0 where
  pub same : texts_and_ends lawful ≡ texts_and_ends shown
  pub journals : All (HasLawfulJournal IsJournal) lawful

-- a text and an end were added with a lawful journal of them
abbrev pub IsAddedLawfully : {End : Type 0} → JournalRelation End → List (Shown Entry End) → Shown LooseTransition End → List (Shown Entry End) → Type 0
IsAddedLawfully {End} IsJournal before loosely after =
    (lawful : Shown Entry End) × (after ≡ before ++ lawful ∷ []) × IsShownLawfully IsJournal loosely lawful

-- The same texts and ends are shown as in a first part of what loose runs show, with a lawful journal of each. Where nothing was left out,
-- that part is the whole.
pub record AreFirstShownLawfully {End : Type 0} (IsJournal : JournalRelation End) (shown : List (Shown LooseTransition End)) (lawful : List (Shown Entry End)) (whole : Bool) : Type 0 where
  pub part : List (Shown LooseTransition End)
  pub rest : List (Shown LooseTransition End)
  pub split : part ++ rest ≡ shown
  pub all : whole ≡ true → rest ≡ []
  pub shown_is : AreShownLawfully IsJournal part lawful

-- why a search stopped: as it did where all its runs have their journals, and for want of memory where some lack them
abbrev pub IsStoppedBy : Option Stopped → Bool → Option Stopped → Type 0
IsStoppedBy before whole stopped = ((whole ≡ true) × (stopped ≡ before)) ⊎ (stopped ≡ Some stop.Memory)

-- this journal is lawful and in time, and it has no more entries than it may have
pub record IsLedJournal (design : Design) (limits : Limits) (journal : List Entry) : Type 0 where
  pub effect : Effect
  pub lawful : ComesOf design limits journal effect
  pub within : IsWithinLimits limits journal

-- A search found the same texts and ends, or the first of them, with a lawful journal of each, in as many nodes. It stopped for the same
-- reason where none was left out. A journal from which no run is said to come to an end is such a lawful one, and the one that is said to
-- lead to where most ways lead on is lawful; before which time nothing was left out is as it was told.
pub record IsFoundLawfully {End : Type 0} (IsJournal : JournalRelation End) (design : Design) (limits : Limits) (loosely : Explored LooseTransition End) (lawful : Explored Entry End) : Type 0 where
  -- whether none was left out
  pub whole : Bool
  pub shown_is : AreFirstShownLawfully IsJournal loosely.shown.items lawful.shown.items whole
  pub stopped_is : IsStoppedBy loosely.stopped whole lawful.stopped
  pub nodes_are : lawful.nodes ≡ loosely.nodes
  pub never_ends : IfSome lawful.endless (λ journal. IsEndlessJournal design limits journal.items)
  pub before_is : lawful.followed_before ≡ loosely.followed_before
  pub widest_led : IfSome lawful.widest (λ journal. IsLedJournal design limits journal.items)
