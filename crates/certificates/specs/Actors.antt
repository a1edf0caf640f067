-- Sets of actors, by their marks.
use Rattle.std.specs.Prelude.{Bool, false}
use Rattle.loose.specs.declared.transition.LooseTransition.{LooseTransition}
use Rattle.loose.specs.declared.transition.LooseTransition.TheVariants.{Process, FirstOf}
use Rattle.certificates.specs.declared.actors.Actors.{Actors}
use Rattle.certificates.specs.Marks.{is_marked}

-- whether an actor is in a set
abbrev pub has : Actors → LooseTransition → Bool
has actors (Process p) = is_marked actors.processes.items p
has actors (FirstOf c) = is_marked actors.classes.items c
has actors _ = false
