-- What was found of a group of actors from a state.
use Rattle.std.specs.Prelude.{◌≡◌, ℕ, true, List}
use Rattle.std.specs.List.{All}
use Rattle.model.specs.States.{State}
use Rattle.orders.specs.Alike.{IsInOrder}
use Rattle.design.specs.Compiled.{Compiled, design_of}
use Rattle.loose.specs.declared.transition.LooseTransition.{LooseTransition}
use Rattle.looseparts.specs.StandTogether.{concern, StandTogether, IsFollowedFirst}
use Rattle.looseparts.specs.FoundWays.{ways_in}
use Rattle.looseparts.specs.declared.found.PartFindings.{PartFindings}
use Rattle.looseparts.specs.declared.found.FoundPart.{FoundPart}

-- what was found stands for all that those do alone whom its notes concern
abbrev pub FoundStandsForAll : (ℕ → ℕ) → Compiled → State → PartFindings → Type 0
FoundStandsForAll class code s found = StandTogether class (design_of code) s (ways_in found.ways.items) (ways_in found.ends.items) found.notes.items

-- what was found concerns each actor of a group, and stands for all
pub record IsFoundFor (class : ℕ → ℕ) (code : Compiled) (s : State) (group : List LooseTransition) (found : PartFindings) : Type 0 where
  pub stand : FoundStandsForAll class code s found
  pub all : All (λ a. concern found.notes.items a ≡ true) group

-- an actor of a group was followed first, and this was found
abbrev pub IsFollowedBy : (ℕ → ℕ) → Compiled → State → List LooseTransition → LooseTransition → PartFindings → Type 0
IsFollowedBy class code s group actor found =
    IsFollowedFirst class (design_of code) s group (ways_in found.ways.items) (ways_in found.ends.items) found.notes.items actor

-- what was found of a part stands for all
abbrev pub IsPart : (ℕ → ℕ) → Compiled → State → FoundPart → Type 0
IsPart class code s part = FoundStandsForAll class code s part.found

-- from whatever state what was found of each part stands for all, this does so for all of them together
abbrev pub PartsStandTogether : List FoundPart → PartFindings → Type 0
PartsStandTogether parts found =
    (class : ℕ → ℕ) (code : Compiled) (s : State) → IsInOrder s → All (IsPart class code s) parts → FoundStandsForAll class code s found
