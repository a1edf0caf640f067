-- The lines on a race.
use Rattle.std.specs.Prelude.{ℕ, ◌==◌, Bool, true, false, List, [], ◌∷◌, ◌++◌, reverse, if◌then◌else◌, Option, Some, None, option_map, codes, decimal}
use Rattle.model.specs.Journal.{newline}
use Rattle.verdict.specs.declared.race.RaceDescription.{RaceDescription}
use Rattle.verdict.specs.declared.race.RoleDescription.{RoleDescription}
use Rattle.verdict.specs.declared.race.RunDescription.{RunDescription}
use Rattle.verdict.specs.declared.race.SiteDescription.{SiteDescription}
use Rattle.verdict.specs.declared.race.SiteDescription.TheVariants.{Register, Printing, Strobing, Finishing, Updating}
use Rattle.verdict.specs.declared.race.ProcessDescription.{ProcessDescription}

-- for what two processes race
abbrev pub site_text : SiteDescription → List ℕ
site_text (Register name) = codes ": register " ++ name.now ++ codes ", time "
site_text Printing = codes ": the order of lines, time "
site_text Strobing = codes ": the order of strobes, time "
site_text Finishing = codes ": the end of the run, time "
site_text Updating = codes ": the order of updates, time "

-- with which word a process begins
abbrev pub begin_word : Bool → List ℕ
begin_word true = codes ", always at "
begin_word false = codes ", initial at "

-- where a process begins, if that is known
abbrev pub begin_text : Option ProcessDescription → List ℕ
begin_text (Some process) = begin_word process.always ++ process.at.now
begin_text None = []

-- the line on one of the two processes
abbrev pub role_text : RoleDescription → List ℕ
role_text role = codes "  process " ++ decimal role.number ++ begin_text role.begins ++ codes ", " ++ role.does.now ++ codes "\n"

-- the path of the journal with a number
abbrev pub path_text : List ℕ → ℕ → List ℕ
path_text prefix number = codes " (" ++ prefix ++ codes "." ++ decimal number ++ codes ".journal)"

-- which journal has a run, where journals are saved
abbrev pub saved_journal_text : Option (List ℕ) → Option ℕ → List ℕ
saved_journal_text (Some prefix) (Some number) = path_text prefix number
saved_journal_text (Some prefix) None = []
saved_journal_text None number = []

-- a line that isn't empty, without its newline, where it is given from its last byte on
abbrev pub without_newline : ℕ → List ℕ → List ℕ
without_newline last back = if last == newline then reverse back else reverse (last ∷ back)

-- a line in quotes
abbrev pub in_quotes : List ℕ → List ℕ
in_quotes line = codes " is `" ++ line ++ codes "`\n"

-- so it stands in quotes; an empty one says that the text has ended before
abbrev pub quoted_back : List ℕ → List ℕ
quoted_back [] = codes " is missing\n"
quoted_back (last ∷ back) = in_quotes (without_newline last back)

-- a line in quotes, without its newline
abbrev pub quoted_line : List ℕ → List ℕ
quoted_line line = quoted_back (reverse line)

-- the line in which two runs differ, if not only in their ends
abbrev pub differing_line_text : Option ℕ → List ℕ → List ℕ
differing_line_text (Some number) line = codes ": printed line " ++ decimal number ++ quoted_line line
differing_line_text None line = codes ": the same lines, and another end\n"

-- the path that journals begin with, where they are saved
abbrev pub prefix_of : RaceDescription → Option (List ℕ)
prefix_of race = option_map (λ path. path.now) race.prefix

-- the line on one of the two runs
abbrev pub run_text : RaceDescription → List ℕ → RunDescription → List ℕ
run_text race order run = order ++ saved_journal_text (prefix_of race) run.journal ++ differing_line_text race.line run.line.now

-- the first line on a race: its number, for what, and when
abbrev pub race_title_text : RaceDescription → List ℕ
race_title_text race = codes "race " ++ decimal race.number ++ site_text race.site ++ decimal race.time ++ codes "\n"

-- the lines on its two processes
abbrev pub roles_text : RaceDescription → List ℕ
roles_text race = role_text race.first ++ role_text race.second

-- the lines on its two runs
abbrev pub runs_text : RaceDescription → List ℕ
runs_text race =
    run_text race (codes "  the first before the second") race.original ++ run_text race (codes "  the second before the first") race.exchanged

-- the lines on a race
abbrev pub race_text : RaceDescription → List ℕ
race_text race = race_title_text race ++ roles_text race ++ runs_text race

-- the line on the first text and another one, by its number, for which no race was found
abbrev pub unnamed_text : ℕ → List ℕ
unnamed_text number = codes "texts 1 and " ++ decimal number ++ codes ": no two entries were found whose order parts them\n"
