-- How far in time a search came that met a limit, and where most of its choices are.
use Rattle.std.specs.Prelude.{◌≡◌, ℕ, List, [], ◌++◌, map, Option, Some, None}
use Rattle.locations.specs.declared.location.ProcessLocation.{ProcessLocation}
use Rattle.verdict.specs.ReachLines.{choices_text, followed_text}
use Rattle.naming.specs.LineOrders.{printer_of}
use Rattle.naming.specs.declared.reach.OpenChoice.{OpenChoice}

-- the line on a choice, if there is one, with where each of its processes begins
abbrev pub choice_line : List ProcessLocation → Option OpenChoice → List ℕ
choice_line processes (Some choice) = choices_text choice.time (map (printer_of processes) choice.processes.items)
choice_line processes None = []

-- A text has grown by the line on a time before which all orders were followed, and by that on a choice among processes, if there is one.
pub record TellsReach (processes : List ProcessLocation) (time : ℕ) (old new : List ℕ) : Type 0 where
  pub choice : Option OpenChoice
  pub new_is : new ≡ old ++ (followed_text time ++ choice_line processes choice)
