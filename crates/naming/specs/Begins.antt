-- Where processes begin.
use Rattle.std.specs.Prelude.{ℕ, List, Option, option_map, slice_get}
use Rattle.locations.specs.SourceLocations.{PlainProcess, plain_process}
use Rattle.locations.specs.declared.location.ProcessLocation.{ProcessLocation}
use Rattle.verdict.specs.declared.race.ProcessDescription.{ProcessDescription}

-- where a process begins, as it is told: by its word and where that stands
abbrev pub plain_begin : ProcessDescription → PlainProcess
plain_begin told = record { always = told.always; at = told.at.now }

-- where the process with a number begins, if that is known
abbrev pub begin_of : List ProcessLocation → ℕ → Option PlainProcess
begin_of processes number = option_map plain_process (slice_get processes number)
