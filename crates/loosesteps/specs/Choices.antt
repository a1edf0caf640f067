-- The loose transitions of active events, and lists of them in which each stands once.
use Rattle.std.specs.Prelude.{◌≢◌, ◌↔◌, ◌⊎◌, ℕ, List, map, Option}
use Rattle.std.specs.List.{AllPairs, Contains}
use Rattle.std.specs.Option.{option_to_list}
use Rattle.model.specs.declared.entry.Entry.{Entry}
use Rattle.loose.specs.declared.transition.LooseTransition.{LooseTransition}
use Rattle.loose.specs.declared.transition.LooseTransition.TheVariants.{Process, FirstOf, Change}
use Rattle.regions.specs.declared.queue.Update.{Update}
use Rattle.regions.specs.declared.queue.Evaluation.{Evaluation}

-- the transition of an active update
abbrev pub update_transition : (ℕ → ℕ) → Update → LooseTransition
update_transition class u = FirstOf (class u.register)

-- the transition of an active evaluation
abbrev pub evaluation_transition : Evaluation → LooseTransition
evaluation_transition e = Process e.process

-- the transition of the change that is due, where one is
abbrev pub due_choices : Option Entry → List LooseTransition
due_choices due = map Change (option_to_list due)

-- The new ones are the old ones and the added, and if each of the old ones stands there once, so does each of the new ones.
abbrev pub AreGathered : List LooseTransition → List LooseTransition → List LooseTransition → Type 0
AreGathered old added new =
    record {
      members : (t : LooseTransition) → Contains new t ↔ (Contains old t ⊎ Contains added t);
      once : AllPairs ◌≢◌ old → AllPairs ◌≢◌ new;
    }
