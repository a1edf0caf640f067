-- What stands for all that some actors do alone from a state: ways, the texts of those that end, and notes of all their steps.
use Rattle.std.specs.Prelude.{◌≡◌, ◌⊎◌, ℕ, Bool, true, false, List, [], ◌∷◌}
use Rattle.std.specs.List.{list_any, Contains}
use Rattle.model.specs.Design.{Design}
use Rattle.model.specs.States.{State}
use Rattle.orders.specs.Alike.{IsInOrder}
use Rattle.loose.specs.declared.transition.LooseTransition.{LooseTransition}
use Rattle.loose.specs.Loose.{AlikeIn}
use Rattle.traces.specs.Traces.{IsRunOfMoves, printed_by_steps}
use Rattle.traces.specs.StandsFor.{FoundOfSet, StandsFor}
use Rattle.footprints.specs.Footprints.{Footprint}
use Rattle.footprints.specs.Moves.{OrderedState, IsWaiting, IsMove, loose_moves}
use Rattle.certificates.specs.Notes.{NoteView, TellsOf}
use Rattle.certificates.specs.Coming.{begins, wakes_actor}
use Rattle.certifiedruns.specs.CertifiedCover.{actors_of}

-- whether one of these notes is of an actor, or says that he is woken
abbrev pub concern : List NoteView → LooseTransition → Bool
concern notes a = list_any (λ note. begins note a) notes

-- one of these notes tells of a step
abbrev pub IsTold : Footprint → List NoteView → Type 0
IsTold f notes = (note : NoteView) × Contains notes note × TellsOf note f

-- From a state one of these ways is a run to where it has finished, and prints this text.
abbrev pub EndsBy : (ℕ → ℕ) → Design → OrderedState → List (List LooseTransition) → List ℕ → Type 0
EndsBy class design s ends text =
    (w : List (LooseTransition × Footprint)) × (u : OrderedState) × IsRunOfMoves (loose_moves class design) s w u × (u.0.finished ≡ true)
    × (printed_by_steps (λ f. f.lines) w ≡ text) × Contains ends (actors_of w)

-- From a state these ways stand for all that those actors do alone whom these notes concern. The notes tell of each of their steps, and
-- where one of these ends the run, one of the other ways prints the same until it ends.
pub record StandTogether (class : ℕ → ℕ) (design : Design) (s : State) (ways ends : List (List LooseTransition)) (notes : List NoteView) : Type 0 where
  pub order : IsInOrder s
  pub found : FoundOfSet LooseTransition Footprint (List NoteView)
  pub stands : StandsFor (loose_moves class design) (λ f told. IsTold f told) (concern notes) (s, order) found
  pub told : (f : Footprint) → IsTold f found.summary → IsTold f notes
  pub ways_are : (w : List (LooseTransition × Footprint)) → Contains found.ways w → Contains ways (actors_of w)
  pub ends_are : (text : List ℕ) → Contains found.texts text → EndsBy class design (s, order) ends text

-- After a step of an actor, from what is like the state then, something stands for all that is done alone by those of the group who wait
-- there, and by those whom the step woke. What it is, with the step before it, is among these ways and notes.
pub record GoesOnTogether (class : ℕ → ℕ) (design : Design) (group : List LooseTransition) (note : NoteView) (after : State) (ways ends : List (List LooseTransition)) (notes : List NoteView) (a : LooseTransition) : Type 0 where
  pub near : State
  pub alike : AlikeIn class after near
  pub more_ways : List (List LooseTransition)
  pub more_ends : List (List LooseTransition)
  pub more_notes : List NoteView
  pub stand : StandTogether class design near more_ways more_ends more_notes
  pub all : (b : LooseTransition) → IsWaiting class near b → Contains group b ⊎ (wakes_actor note b ≡ true) → concern more_notes b ≡ true
  pub ways_on : (way : List LooseTransition) → Contains more_ways way → Contains ways (a ∷ way)
  pub ends_on : (way : List LooseTransition) → Contains more_ends way → Contains ends (a ∷ way)
  pub notes_on : (other : NoteView) → Contains more_notes other → Contains notes other

-- An actor of a group was followed first from a state: its step is noted. Either it ends the run, and is a way to an end, or what comes
-- after it is among these ways and notes.
pub record IsFollowedFirst (class : ℕ → ℕ) (design : Design) (s : State) (group : List LooseTransition) (ways ends : List (List LooseTransition)) (notes : List NoteView) (a : LooseTransition) : Type 0 where
  pub note : NoteView
  pub own : Footprint
  pub after : State
  pub after_order : IsInOrder after
  pub steps : IsMove class design s a own after
  pub tells : TellsOf note own
  pub there : Contains notes note
  pub on :
      ((own.finishes ≡ true) × (after.finished ≡ true) × Contains ends (a ∷ []))
      ⊎ ((own.finishes ≡ false) × GoesOnTogether class design group note after ways ends notes a)
