-- What was found of some actors, in its parts.
use Rattle.std.specs.Prelude.{◌≡◌, List, ◌∷◌, ◌++◌, map}
use Rattle.certificates.specs.Notes.{NoteView}
use Rattle.looseparts.specs.PartLaws.{HaveEachBehind, SayAllApart}
use Rattle.looseparts.specs.FoundWays.{ways_in}
use Rattle.looseparts.specs.declared.found.PartFindings.{PartFindings}
use Rattle.loose.specs.declared.transition.LooseTransition.{LooseTransition}

-- what was found was put behind a step of an actor, which has these notes
pub record IsPutBehind (actor : LooseTransition) (notes : List NoteView) (old new : PartFindings) : Type 0 where
  pub ways : ways_in new.ways.items ≡ map (λ way. actor ∷ way) (ways_in old.ways.items)
  pub ends : ways_in new.ends.items ≡ map (λ way. actor ∷ way) (ways_in old.ends.items)
  pub notes_are : new.notes.items ≡ old.notes.items ++ notes

-- what was found where another actor steps first was added
pub record AreAdded (old next new : PartFindings) : Type 0 where
  pub ways : new.ways.items ≡ old.ways.items ++ next.ways.items
  pub ends : new.ends.items ≡ old.ends.items ++ next.ends.items
  pub notes : new.notes.items ≡ old.notes.items ++ next.notes.items

-- what was found of two parts whose notes say that they are apart was put together
pub record IsPutTogether (one other both : PartFindings) : Type 0 where
  pub apart : SayAllApart one.notes.items other.notes.items
  pub ways : HaveEachBehind (ways_in one.ways.items) (ways_in other.ways.items) (ways_in both.ways.items)
  pub ends : both.ends.items ≡ one.ends.items ++ other.ends.items
  pub notes : both.notes.items ≡ one.notes.items ++ other.notes.items
