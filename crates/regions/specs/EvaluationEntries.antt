-- The entries that take evaluations, and all that may be next.
use Rattle.std.specs.Prelude.{Bool, true, false, List, [], ◌++◌, map, Option}
use Rattle.std.specs.Option.{option_to_list}
use Rattle.model.specs.declared.entry.Entry.{Entry}
use Rattle.model.specs.declared.entry.Entry.TheVariants.{Turn}
use Rattle.regions.specs.declared.queue.Evaluation.{Evaluation}

-- the turn that takes an evaluation
abbrev pub turn_entry_of : Evaluation → Entry
turn_entry_of e = Turn e.number

-- the turns of these evaluations and one other entry, or nothing in a run that is over
abbrev pub choices_of : Bool → List Evaluation → Option Entry → List Entry
choices_of true evaluations other = []
choices_of false evaluations other = map turn_entry_of evaluations ++ option_to_list other
