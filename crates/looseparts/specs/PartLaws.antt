-- Laws of what stands for all that some actors do alone.
use Rattle.std.specs.Prelude.{◌≡◌, ℕ, true, List, [], ◌++◌}
use Rattle.std.specs.List.{All, Contains}
use Rattle.model.specs.declared.end.Limits.{Limits}
use Rattle.model.specs.Design.{Design}
use Rattle.model.specs.States.{State}
use Rattle.orders.specs.Alike.{IsInOrder}
use Rattle.loose.specs.declared.transition.LooseTransition.{LooseTransition}
use Rattle.footprints.specs.Moves.{IsWaiting}
use Rattle.certificates.specs.Notes.{NoteView}
use Rattle.certificates.specs.Apart.{SayApart}
use Rattle.looseruns.specs.LooseCover.{CoverMoves}
use Rattle.looseruns.specs.ObservedEnding.{CoverToFinish}
use Rattle.looseparts.specs.StandTogether.{concern, StandTogether, IsFollowedFirst}

-- Where each actor of a group was followed first, and nobody else waits whom the notes concern, what was found stands for all of it.
abbrev pub FollowedStand : Type 0
FollowedStand =
    (class : ℕ → ℕ) (design : Design) (s : State) (group : List LooseTransition) (ways ends : List (List LooseTransition))
    (notes : List NoteView) → IsInOrder s → All (IsFollowedFirst class design s group ways ends notes) group
    → ((a : LooseTransition) → IsWaiting class s a → concern notes a ≡ true → Contains group a) → (group ≡ [] → Contains ways [])
    → StandTogether class design s ways ends notes

-- all notes of one list say that they are apart from all notes of another
abbrev pub SayAllApart : List NoteView → List NoteView → Type 0
SayAllApart ones others = All (λ note. All (SayApart note) others) ones

-- these ways have each of some ways with each of others behind it
abbrev pub HaveEachBehind : List (List LooseTransition) → List (List LooseTransition) → List (List LooseTransition) → Type 0
HaveEachBehind ones others ways =
    (one other : List LooseTransition) → Contains ones one → Contains others other → Contains ways (one ++ other)

-- What stands for all of two parts that are apart does so together: one way of each, one after the other, and the ends of both.
abbrev pub ApartStand : Type 0
ApartStand =
    (class : ℕ → ℕ) (design : Design) (s : State) (ones others ways ends more : List (List LooseTransition)) (notes further : List NoteView)
    → StandTogether class design s ones ends notes → StandTogether class design s others more further → SayAllApart notes further
    → HaveEachBehind ones others ways → StandTogether class design s ways (ends ++ more) (notes ++ further)

-- What stands for all who wait, where somebody does, covers whatever leads on.
abbrev pub StandingCovers : Type 0
StandingCovers =
    (class : ℕ → ℕ) (design : Design) (limits : Limits) (s : State) (ways ends : List (List LooseTransition)) (notes : List NoteView)
    (somebody : LooseTransition) → IsWaiting class s somebody → StandTogether class design s ways ends notes
    → ((a : LooseTransition) → IsWaiting class s a → concern notes a ≡ true) → CoverToFinish class design limits s ways ends

-- where there are no other ways, that is the cover of a search
abbrev pub NoEndsCover : Type 0
NoEndsCover =
    (class : ℕ → ℕ) (design : Design) (limits : Limits) (s : State) (ways : List (List LooseTransition))
    → CoverToFinish class design limits s ways [] → CoverMoves class design limits s ways
