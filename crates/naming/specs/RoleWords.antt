-- What a process does, in words, and the lines in which it does so.
use Rattle.std.specs.Prelude.{ℕ, ◌-◌, ◌==◌, List, [], ◌++◌, Bool, true, false, if◌then◌else◌, flat_map, get_or, length, map, Option, Some, None, codes, decimal, slice_get}
use Rattle.std.specs.List.{filter, fold}
use Rattle.accesses.specs.declared.role.Does.{Does}
use Rattle.accesses.specs.declared.role.Does.TheVariants.{Writes, Assigns, Updates, Reads, Waits, Prints, Strobes, Finishes, Runs, Schedules}
use Rattle.accesses.specs.declared.role.Role.{Role}
use Rattle.verdict.specs.declared.race.SiteDescription.{SiteDescription}
use Rattle.verdict.specs.declared.race.SiteDescription.TheVariants.{Register, Printing, Strobing, Finishing, Updating}
use Rattle.statements.specs.declared.part.StatementPart.{StatementPart}
use Rattle.statements.specs.declared.part.StatementPart.TheVariants as parts
use Rattle.statements.specs.PlainStatementTokens.{plain_statement_token}
use Rattle.executed.specs.declared.statements.RunStatements.{RunStatements}
use Rattle.statements.specs.StatementLines.{is_sought, line_of_byte, lines_of_tokens, sought_byte}
use Rattle.statements.specs.declared.lines.LineRange.{LineRange}
use Rattle.naming.specs.LineOrders.{is_number, with_one}
use Rattle.naming.specs.RaceWords.{access_word}
use Rattle.naming.specs.declared.places.SourcePlaces.{SourcePlaces}

-- what a token does by which a process does this: an update is that of a nonblocking assignment, and so are scheduled ones; a turn alone has no token
abbrev pub part_done : Does → Option StatementPart
part_done Writes = Some parts.Written
part_done Assigns = Some parts.Assigned
part_done Updates = Some parts.Assigned
part_done Reads = Some parts.Read
part_done Waits = Some parts.Awaited
part_done Prints = Some parts.Printing
part_done Strobes = Some parts.Strobing
part_done Finishes = Some parts.Finishing
part_done Runs = None
part_done Schedules = Some parts.Assigned

-- this is done to a register
abbrev pub is_to_register : Does → Bool
is_to_register Writes = true
is_to_register Assigns = true
is_to_register Updates = true
is_to_register Reads = true
is_to_register Waits = true
is_to_register Prints = false
is_to_register Strobes = false
is_to_register Finishes = false
is_to_register Runs = false
is_to_register Schedules = false

-- the name of the register to which this is done
abbrev pub name_done : SiteDescription → Does → Option (List ℕ)
name_done (Register name) does = if is_to_register does then Some name.now else None
name_done Printing does = None
name_done Strobing does = None
name_done Finishing does = None
name_done Updating does = None

-- the lines of the first and the last token that does so in the process with a number, if one does
abbrev pub lines_done : SourcePlaces → ℕ → Option (List ℕ) → Option StatementPart → Option LineRange
lines_done places process name (Some part) = lines_of_tokens places.source.now (filter (is_sought part process name) (map plain_statement_token places.statements.now))
lines_done places process name None = None

-- the lines between which a process does what it is told for at a site, if they are known
abbrev pub role_lines : SourcePlaces → SiteDescription → Role → Option LineRange
role_lines places site role = lines_done places role.process (name_done site role.does) (part_done role.does)

-- a word, and behind it the one line of a range, or its two lines
abbrev pub in_range : List ℕ → LineRange → List ℕ
in_range word range =
    if range.first == range.last then (word ++ codes " at line " ++ decimal range.first) else (word ++ codes " between lines " ++ decimal range.first ++ codes " and " ++ decimal range.last)

-- a word, and behind it lines, if they are known
abbrev pub in_lines : List ℕ → Option LineRange → List ℕ
in_lines word (Some range) = in_range word range
in_lines word None = word

-- the first bytes of the tokens that do so in the process with a number
abbrev pub bytes_done : SourcePlaces → ℕ → Option (List ℕ) → Option StatementPart → List ℕ
bytes_done places process name (Some part) = flat_map (λ t. sought_byte part process name (plain_statement_token t)) places.statements.now
bytes_done places process name None = []

-- lines, and with them that of a byte, if there is one
abbrev pub with_numbered_line : List ℕ → List ℕ → Option ℕ → List ℕ
with_numbered_line source lines (Some byte) = with_one is_number lines (line_of_byte source byte)
with_numbered_line source lines None = lines

-- the lines of the bytes with these numbers, each once
abbrev pub numbered_lines : List ℕ → List ℕ → List ℕ → List ℕ
numbered_lines source bytes numbers = fold (λ lines number. with_numbered_line source lines (slice_get bytes number)) [] numbers

-- the lines of statements that ran; none where as many don't stand in the text
abbrev pub lines_of_run : List ℕ → List ℕ → RunStatements → List ℕ
lines_of_run source bytes run = if run.total == length bytes then numbered_lines source bytes run.numbers.items else []

-- so it is where they are known
abbrev pub lines_run : List ℕ → List ℕ → Option RunStatements → List ℕ
lines_run source bytes (Some run) = lines_of_run source bytes run
lines_run source bytes None = []

-- a word, and behind it two lines, or three
abbrev pub at_two_lines : List ℕ → ℕ → ℕ → List ℕ
at_two_lines word one other = word ++ codes " at lines " ++ decimal one ++ codes " and " ++ decimal other

abbrev pub at_three_lines : List ℕ → ℕ → ℕ → ℕ → List ℕ
at_three_lines word one other third = word ++ codes " at lines " ++ decimal one ++ codes ", " ++ decimal other ++ codes " and " ++ decimal third

-- the first of some lines, and the last
abbrev pub ends_of_lines : List ℕ → LineRange
ends_of_lines lines = record { first = get_or lines 0 0; last = get_or lines (length lines - 1) 0 }

-- a word, and behind it the first and the last of many lines
abbrev pub between_ends : List ℕ → LineRange → List ℕ
between_ends word range = word ++ codes " between lines " ++ decimal range.first ++ codes " and " ++ decimal range.last

-- a word, and behind it some lines: up to three by themselves, and of more the first and the last
abbrev pub at_lines : List ℕ → List ℕ → List ℕ
at_lines word lines =
    if length lines == 1 then (word ++ codes " at line " ++ decimal (get_or lines 0 0))
    else (if length lines == 2 then at_two_lines word (get_or lines 0 0) (get_or lines 1 0)
    else (if length lines == 3 then at_three_lines word (get_or lines 0 0) (get_or lines 1 0) (get_or lines 2 0)
    else between_ends word (ends_of_lines lines)))

-- a word, and behind it the lines of what ran, or else those between which it stands, if they are known
abbrev pub in_lines_run : List ℕ → List ℕ → Option LineRange → List ℕ
in_lines_run word lines range = if length lines == 0 then in_lines word range else at_lines word lines

-- the lines of the statements that ran by which a process does what it is told for at a site
abbrev pub role_run : SourcePlaces → SiteDescription → Role → Option RunStatements → List ℕ
role_run places site role run = lines_run places.source.now (bytes_done places role.process (name_done site role.does) (part_done role.does)) run

-- what a process does, and in which lines: in those of these statements that ran, or else between which it does so, if these are known
abbrev pub role_words : SourcePlaces → SiteDescription → Role → Option RunStatements → List ℕ
role_words places site role run = in_lines_run (access_word role.does) (role_run places site role run) (role_lines places site role)
