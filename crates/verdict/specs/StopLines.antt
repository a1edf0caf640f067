-- The lines on runs that stop short: by a turn that is too long, or where the time would pass the last one.
use Rattle.std.specs.Prelude.{ℕ, Bool, true, false, List, [], ◌∷◌, ◌++◌, Option, Some, codes, decimal}
use Rattle.verdict.specs.RaceLines.{saved_journal_text}
use Rattle.verdict.specs.declared.stops.StopCause.{StopCause}
use Rattle.verdict.specs.declared.stops.StopCause.TheVariants.{LongTurn, LastTime}
use Rattle.verdict.specs.declared.stops.StopDescription.{StopDescription}

-- there are some
abbrev pub has_stops : List StopDescription → Bool
has_stops [] = false
has_stops (s ∷ ss) = true

-- that an entry would be a turn of a process that is too long
abbrev pub long_turn_text : ℕ → List ℕ
long_turn_text process = codes " would be a turn of process " ++ decimal process ++ codes ", which is too long\n"

-- why an entry isn't taken
abbrev pub stop_cause_text : StopCause → List ℕ
stop_cause_text (LongTurn process) = long_turn_text process
stop_cause_text LastTime = codes " would advance the time past 281474976710656\n"

-- the line on a text or a wave, as this word says, whose run stops short, with its journal, where that is saved
abbrev pub stop_description_text : List ℕ → Option (List ℕ) → StopDescription → List ℕ
stop_description_text word prefix stop =
    word ++ decimal stop.number ++ saved_journal_text prefix (Some stop.number) ++ codes " stops short: entry " ++ decimal stop.entry ++ stop_cause_text stop.cause

-- the lines on some of them
abbrev pub stops_text : List ℕ → Option (List ℕ) → List StopDescription → List ℕ
stops_text word prefix [] = []
stops_text word prefix (s ∷ ss) = stop_description_text word prefix s ++ stops_text word prefix ss
