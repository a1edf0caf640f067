-- What is said of waves: of what two runs have in common where more or less than their lines, in order, is compared.
use Rattle.std.specs.Prelude.{ℕ, ◌==◌, Bool, true, false, if◌then◌else◌, List, [], ◌++◌, Option, Some, None, option_map, codes, decimal}
use Rattle.verdict.specs.RaceLines.{quoted_line, saved_journal_text}
use Rattle.verdict.specs.Verdicts.{endless_text, many_every, none_every, number_between, sampled_text, so_far_text, states_text, up_to}
use Rattle.verdict.specs.StopLines.{has_stops, stops_text}
use Rattle.verdict.specs.EndingLines.{endings_text}
use Rattle.verdict.specs.declared.endings.RunEndings.{RunEndings}
use Rattle.verdict.specs.declared.stops.StopDescription.{StopDescription}
use Rattle.verdict.specs.declared.claim.Claim.{Claim}
use Rattle.verdict.specs.declared.claim.Claim.TheVariants.{Every, SoFar, Sampled}
use Rattle.verdict.specs.declared.waves.WaveDescription.{WaveDescription}
use Rattle.verdict.specs.declared.waves.WaveSite.{WaveSite}
use Rattle.verdict.specs.declared.waves.WaveSite.TheVariants.{Register, Line, Time, End}

-- that a wave parts from the first one in a register, when a time passes
abbrev pub register_parting_text : List ℕ → List ℕ → List ℕ
register_parting_text name time = codes " parts from wave 1 in register " ++ name ++ codes " when time " ++ time ++ codes " passes\n"

-- in what a wave parts first from the first one
abbrev pub wave_site_text : WaveSite → List ℕ
wave_site_text (Register name time) = register_parting_text name.now time.now
wave_site_text Line = codes " parts from wave 1 in a line\n"
wave_site_text Time = codes " parts from wave 1 in the time that passes\n"
wave_site_text End = codes " has the lines and the values of wave 1, and another end\n"

-- what stands there in a wave, and its journal, where that is saved
abbrev pub side_text : Option (List ℕ) → ℕ → List ℕ → List ℕ
side_text prefix number line = codes "  in wave " ++ decimal number ++ saved_journal_text prefix (Some number) ++ codes " it" ++ quoted_line line

-- what stands there in the first wave, and in this one
abbrev pub sides_text : WaveDescription → List ℕ
sides_text wave =
    side_text (option_map (λ path. path.now) wave.prefix) 1 wave.first.now
    ++ side_text (option_map (λ path. path.now) wave.prefix) wave.number wave.second.now

-- so it is, unless they differ in their ends alone
abbrev pub sides_of : WaveSite → WaveDescription → List ℕ
sides_of (Register name time) wave = sides_text wave
sides_of Line wave = sides_text wave
sides_of Time wave = sides_text wave
sides_of End wave = []

-- the lines on a wave that isn't the first one
abbrev pub wave_text : WaveDescription → List ℕ
wave_text wave = codes "wave " ++ decimal wave.number ++ wave_site_text wave.site ++ sides_of wave.site wave

-- how many waves there are
abbrev pub wave_count_text : ℕ → List ℕ
wave_count_text count = if count == 0 then codes "no wave" else if count == 1 then codes "one wave" else (decimal count ++ codes " waves")

-- what stands before so many registers, by whether they are all of a design
abbrev pub these_or_all : Bool → List ℕ
these_or_all true = codes "all "
these_or_all false = codes "these "

-- that so many registers, which are all or not, have the same values, with words for one
abbrev pub these_registers : Bool → ℕ → List ℕ
these_registers all registers =
    if registers == 1 then codes "this register has the same values whenever time passes"
    else number_between (these_or_all all) registers (codes " registers have the same values whenever time passes")

-- that the same lines are printed, with words for none and one
abbrev pub same_lines_text : ℕ → List ℕ
same_lines_text lines =
    if lines == 0 then codes "no line is printed" else if lines == 1 then codes "the same line is printed"
    else number_between (codes "the same ") lines (codes " lines are printed")

-- that they are printed at the same times
abbrev pub at_times_text : ℕ → List ℕ
at_times_text lines = same_lines_text lines ++ (if lines == 0 then codes "\n" else codes " at the same times\n")

-- that so many registers have the same values, and so many lines are printed
abbrev pub same_values_text : Bool → ℕ → ℕ → List ℕ
same_values_text all registers lines = these_registers all registers ++ codes " (and " ++ same_lines_text lines ++ codes ")\n"

-- what is the same in every run
abbrev pub same_text : Bool → ℕ → ℕ → List ℕ
same_text all registers lines = if registers == 0 then at_times_text lines else same_values_text all registers lines

-- that all lawful runs are spoken of, or that none comes to an end, where some stop short
abbrev pub in_every_or_none : Bool → List ℕ
in_every_or_none false = codes ": in every lawful run"
in_every_or_none true = codes ": no lawful run"

-- that what follows is so in those with an end, or in those that stop short
abbrev pub run_has : Bool → List ℕ
run_has false = codes " that comes to an end "
run_has true = codes " comes to an end, and in every one that stops short "

-- that every lawful run with an end has the same wave, or that none has an end, and each that stops short has it
abbrev pub one_wave : ℕ → Option ℕ → Bool → ℕ → ℕ → RunEndings → List StopDescription → Option ℕ → Option (List ℕ) → List ℕ
one_wave states until all registers lines endings stops endless prefix =
    in_every_or_none (has_stops stops) ++ up_to until ++ run_has (has_stops stops) ++ same_text all registers lines ++ states_text states
    ++ endings_text endings (has_stops stops) until ++ stops_text (codes "wave ") prefix stops ++ endless_text endless prefix

-- what is said of every lawful run
abbrev pub every_wave_text : ℕ → Option ℕ → Option ℕ → ℕ → Bool → ℕ → ℕ → RunEndings → List StopDescription → Option (List ℕ) → List ℕ
every_wave_text states endless until count all registers lines endings stops prefix =
    if count == 0 then none_every until endless prefix else if count == 1 then one_wave states until all registers lines endings stops endless prefix
    else many_every until true endings (codes "wave ") stops endless prefix

-- what the waves are among those of all lawful runs, and whose runs stop short
abbrev pub wave_claim_text : Claim → Option ℕ → ℕ → Bool → ℕ → ℕ → RunEndings → List StopDescription → Option (List ℕ) → List ℕ
wave_claim_text (Every states endless) until count all registers lines endings stops prefix =
    every_wave_text states endless until count all registers lines endings stops prefix
wave_claim_text (SoFar stop) until count all registers lines endings stops prefix = so_far_text stop count ++ stops_text (codes "wave ") prefix stops
wave_claim_text (Sampled orders) until count all registers lines endings stops prefix = sampled_text orders ++ stops_text (codes "wave ") prefix stops

-- what is said of the waves: how many there are, what they are among those of all lawful runs, and whose runs stop short
abbrev pub wave_verdict_text : Claim → Option ℕ → ℕ → Bool → ℕ → ℕ → RunEndings → List StopDescription → Option (List ℕ) → List ℕ
wave_verdict_text claim until count all registers lines endings stops prefix = wave_count_text count ++ wave_claim_text claim until count all registers lines endings stops prefix
