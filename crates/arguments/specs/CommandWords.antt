-- What the words of a command line ask for, by what clap finds in them.
use Rattle.std.specs.Prelude.{◌≡◌, ◌≢◌, ◌⊎◌, ℕ, List, [], ◌∷◌, Option, Some, None, is_some, ◌&&◌, Bool, nat_lt, if◌then◌else◌, map, drop, slice_get, option_map, unwrap_or, string_bytes, codes, String, true, false}
use Rattle.std.specs.Str.Parse.{digits_value, without_leading_plus}
use Rattle.clap.specs.Words.{App, Row, Rule, Text, Kinds, IsAmong, fault_of, first_of, matches_of, new_app, new_rule, one_of, with_rule, with_subcommand}
use Rattle.clap.specs.Kinds.{or_else}
use Rattle.clap.specs.Simple.{on_top}
use Rattle.clap.specs.declared.error.kind.ErrorKind.{ErrorKind}
use Rattle.clap.specs.declared.error.kind.ErrorKind.TheVariants.{ArgumentConflict, DisplayHelp, DisplayVersion, InvalidValue, MissingSubcommand, OutOfMemory}
use Rattle.clap.specs.declared.builder.action.ArgAction.TheVariants.{Set, SetTrue}
use Rattle.clap.specs.declared.builder.value_parser.ValueParser.{ValueParser}
use Rattle.arguments.specs.declared.run_options.RunOptions.{RunOptions}
use Rattle.arguments.specs.declared.request.NoRequest.{NoRequest}
use Rattle.arguments.specs.declared.request.NoRequest.TheVariants as no_request
use Rattle.arguments.specs.declared.request.Request.{Request}
use Rattle.arguments.specs.declared.request.Request.TheVariants as request
use Rattle.arguments.specs.declared.request.RunRequest.{RunRequest}
use Rattle.arguments.specs.declared.request.ReplayRequest.{ReplayRequest}
use Rattle.arguments.specs.declared.request.RacesRequest.{RacesRequest}
use Rattle.arguments.specs.declared.request.CheckRequest.{CheckRequest}
use Rattle.arguments.specs.declared.request.ExplainRequest.{ExplainRequest}
use Rattle.arguments.specs.declared.request.WavesRequest.{WavesRequest}
use Rattle.arguments.specs.declared.request.DiffRequest.{DiffRequest}
use Rattle.arguments.specs.declared.request.FlattenRequest.{FlattenRequest}
use Rattle.arguments.specs.declared.parameters.Parameter.{Parameter}
use Rattle.arguments.specs.declared.parameters.Form.{Form}
use Rattle.arguments.specs.declared.parameters.Form.TheVariants as form
use Rattle.arguments.specs.declared.command_task.CommandTask.{CommandTask}
use Rattle.arguments.specs.declared.command_task.CommandTask.TheVariants as task
use Rattle.arguments.specs.declared.search_options.SearchOptions.{SearchOptions}
use Rattle.arguments.specs.declared.vain_words.VainWords.{VainWords}
use Rattle.arguments.specs.declared.vain_words.VainWords.TheVariants as vain
use Rattle.arguments.specs.Options.{CanRun, CanSearch}
use Rattle.arguments.specs.Observing.{IsObserved, ObservesNothing, ObservesOther}
use Rattle.std.specs.Str.{bytes_eq}
use Rattle.std.specs.Option.{option_map_or}
use Rattle.literals.specs.declared.literal.Radix.{Radix}
use Rattle.literals.specs.declared.literal.Radix.TheVariants.{Binary, Decimal, Hex}
use Rattle.arguments.specs.Arguments.{flag_parser, form_of, name_of, number_parser, workers_parser, until_parser, entries_parser, seed_parser}

-- the bytes of each word
abbrev pub texts_of : {Z : Type 0} → List (String Z) → List Text
texts_of = map string_bytes

-- a word that has to be given
abbrev pub place : Text → Rule
place name = record (new_rule name) { required = true; action = Some Set }

-- an option with one value, which may have to pass a parser
abbrev pub choice : Text → Option ValueParser → Rule
choice name parser = record (new_rule name) {
  long = Some name;
  value_names = 1;
  action = Some Set;
  parser = parser;
}

-- an option that has to be given
abbrev pub need : Text → Rule
need name = record (choice name None) { required = true }

-- an option that takes no value
abbrev pub flag : Text → Rule
flag name = record (new_rule name) { long = Some name; action = Some SetTrue; parser = Some flag_parser }

-- a word or an option that takes this, as clap has it under this name
abbrev pub argument_by : Form → Text → Rule
argument_by form.Place name = place name
argument_by form.Flag name = flag name
argument_by form.Text name = choice name None
argument_by form.Needed name = need name
argument_by (form.Number kind) name = choice name (Some (number_parser kind))

-- a word or an option as clap has it
abbrev pub argument_of : Parameter → Rule
argument_of p = argument_by (form_of p) (name_of p)

-- a command with these words and options more
abbrev pub with_arguments : App → List Parameter → App
with_arguments app [] = app
with_arguments app (p ∷ ps) = with_arguments (with_rule app (argument_of p)) ps

-- `run` with its words and options
unfoldable pub run_app : App
run_app =
    with_rule
    (with_rule
    (with_rule
    (with_rule
    (with_rule
    (with_rule (new_app (codes "run")) (place (codes "FILE")))
    (choice (codes "workers") (Some workers_parser)))
    (choice (codes "until") (Some until_parser)))
    (choice (codes "max-entries") (Some entries_parser)))
    (choice (codes "journal") None))
    (choice (codes "seed") (Some seed_parser))

-- `replay` with its words
unfoldable pub replay_app : App
replay_app =
    with_rule
    (with_rule (new_app (codes "replay")) (place (codes "FILE")))
    (place (codes "JOURNAL"))

-- `races` with its words and options
unfoldable pub races_app : App
races_app =
    with_rule
    (with_rule
    (with_rule
    (with_rule
    (with_rule
    (with_rule
    (with_rule
    (with_rule
    (with_rule
    (with_rule (new_app (codes "races")) (place (codes "FILE")))
    (choice (codes "until") (Some until_parser)))
    (choice (codes "max-entries") (Some entries_parser)))
    (choice (codes "max-states") (Some entries_parser)))
    (choice (codes "max-texts") (Some entries_parser)))
    (choice (codes "max-memory") (Some entries_parser)))
    (choice (codes "journals") None))
    (choice (codes "samples") (Some entries_parser)))
    (choice (codes "seed") (Some seed_parser)))
    (choice (codes "observe") None)

-- `check` with its word and option
unfoldable pub check_app : App
check_app =
    with_rule
    (with_rule (new_app (codes "check")) (place (codes "FILE")))
    (flag (codes "all"))

-- `explain` with its words and options
unfoldable pub explain_app : App
explain_app =
    with_rule
    (with_rule
    (with_rule
    (with_rule
    (with_rule
    (with_rule
    (with_rule
    (with_rule
    (with_rule (new_app (codes "explain")) (place (codes "FILE")))
    (place (codes "JOURNAL")))
    (choice (codes "from") (Some entries_parser)))
    (choice (codes "to") (Some entries_parser)))
    (choice (codes "from-time") (Some until_parser)))
    (choice (codes "to-time") (Some until_parser)))
    (choice (codes "radix") None))
    (flag (codes "versions")))
    (choice (codes "registers") None)

-- `waves` with its words and option
unfoldable pub waves_app : App
waves_app =
    with_rule
    (with_rule
    (with_rule (new_app (codes "waves")) (place (codes "FILE")))
    (place (codes "JOURNAL")))
    (need (codes "out"))

-- `diff` with its words and option
unfoldable pub diff_app : App
diff_app =
    with_rule
    (with_rule
    (with_rule
    (with_rule (new_app (codes "diff")) (place (codes "FILE")))
    (place (codes "J1")))
    (place (codes "J2")))
    (flag (codes "all"))

-- `flatten` with its word and option
unfoldable pub flatten_app : App
flatten_app =
    with_rule
    (with_rule (new_app (codes "flatten")) (place (codes "FILE")))
    (choice (codes "out") None)

-- the command of a task
abbrev pub app_by : CommandTask → App
app_by task.Run = run_app
app_by task.Replay = replay_app
app_by task.Races = races_app
app_by task.Check = check_app
app_by task.Explain = explain_app
app_by task.Waves = waves_app
app_by task.Diff = diff_app
app_by task.Flatten = flatten_app

-- a program with the commands of these tasks more
abbrev pub with_tasks : App → List CommandTask → App
with_tasks app [] = app
with_tasks app (asked ∷ more) = with_tasks (with_subcommand app (app_by asked).top) more

-- all tasks
abbrev pub every_task : List CommandTask
every_task = task.Run ∷ task.Replay ∷ task.Races ∷ task.Check ∷ task.Explain ∷ task.Waves ∷ task.Diff ∷ task.Flatten ∷ []

-- the program, which has a version
abbrev pub bare_app : App
bare_app = on_top (λ s. record s { has_version = true; subcommand_required = true; arg_required_else_help = true }) (new_app (codes "vsimtx"))

-- the program with the eight
unfoldable pub whole_app : App
whole_app =
    with_subcommand
    (with_subcommand
    (with_subcommand
    (with_subcommand
    (with_subcommand
    (with_subcommand
    (with_subcommand
    (with_subcommand bare_app run_app.top)
    replay_app.top)
    races_app.top)
    check_app.top)
    explain_app.top)
    waves_app.top)
    diff_app.top)
    flatten_app.top

-- what clap finds in the words of a run, from `run` on
unfoldable pub run_rows : List Text → List Row
run_rows = matches_of run_app

-- and in those of a replay
unfoldable pub replay_rows : List Text → List Row
replay_rows = matches_of replay_app

-- and in those of a search for races
unfoldable pub races_rows : List Text → List Row
races_rows = matches_of races_app

-- and in those of a check
unfoldable pub check_rows : List Text → List Row
check_rows = matches_of check_app

-- and in those of a telling of a journal
unfoldable pub explain_rows : List Text → List Row
explain_rows = matches_of explain_app

-- and in those of a value change dump
unfoldable pub waves_rows : List Text → List Row
waves_rows = matches_of waves_app

-- and in those of a comparison of two journals
unfoldable pub diff_rows : List Text → List Row
diff_rows = matches_of diff_app

-- and in those of a flat module
unfoldable pub flatten_rows : List Text → List Row
flatten_rows = matches_of flatten_app

-- what clap finds in the words of a task
abbrev pub rows_by : CommandTask → List Text → List Row
rows_by asked = matches_of (app_by asked)

-- the number that was given under a name, in decimal digits, with a plus before them or none
abbrev pub number_given : Text → List Row → Option ℕ
number_given name rows = option_map (λ text. digits_value 10 (without_leading_plus text)) (one_of name rows)

-- an option that takes no value was given under a name
abbrev pub flag_given : Text → List Row → Bool
flag_given name rows = bytes_eq (unwrap_or (one_of name rows) []) (codes "true")

-- the digits that a letter stands for, binary ones where it is no other
abbrev pub radix_of : Text → Radix
radix_of letter = if bytes_eq letter (codes "d") then Decimal else (if bytes_eq letter (codes "h") then Hex else Binary)

-- in which digits values are told: binary ones where the words give none
abbrev pub radix_given : List Row → Radix
radix_given rows = option_map_or radix_of (first_of (codes "radix") rows) Binary

-- the options of a run: 2 workers, no limit of time and 1,000,000 entries where the words give no other number
abbrev pub options_of : List Row → RunOptions
options_of rows = record {
  workers = unwrap_or (number_given (codes "workers") rows) 2;
  until = number_given (codes "until") rows;
  max_entries = unwrap_or (number_given (codes "max-entries") rows) 1000000;
}

-- a number, or two where it is less: so many texts a race has
abbrev pub at_least_two : ℕ → ℕ
at_least_two number = if nat_lt number 2 then 2 else number

-- how far orders are searched: no limit of time, 1,000,000 entries, 1,000,000 states, 8 texts and 4,096 megabytes where the words
-- give no other number; whether random orders are tried in place of the search, and from which seed
abbrev pub search_options_of : List Row → SearchOptions
search_options_of rows = record {
  until = number_given (codes "until") rows;
  max_entries = unwrap_or (number_given (codes "max-entries") rows) 1000000;
  max_states = unwrap_or (number_given (codes "max-states") rows) 1000000;
  max_texts = at_least_two (unwrap_or (number_given (codes "max-texts") rows) 8);
  max_memory = unwrap_or (number_given (codes "max-memory") rows) 4096;
  samples = number_given (codes "samples") rows;
  seed = unwrap_or (number_given (codes "seed") rows) 0;
}

-- both a seed and a number of workers are given
abbrev pub has_two_orders : List Row → Bool
has_two_orders rows = is_some (first_of (codes "seed") rows) && is_some (first_of (codes "workers") rows)

-- the kind of error by which words are answered that clap takes, and that ask for nothing that can be
abbrev pub kind_in_vain : VainWords → ErrorKind
kind_in_vain vain.TwoOrders = ArgumentConflict
kind_in_vain vain.NothingObserved = InvalidValue
kind_in_vain vain.SamplesObserved = ArgumentConflict
kind_in_vain vain.NoRadix = InvalidValue
kind_in_vain vain.NoEntries = InvalidValue
kind_in_vain vain.NoTimes = InvalidValue

-- the words of a run give both a seed and a number of workers, which is answered by this kind of error
abbrev pub AsksTwoOrders : CommandTask → List Row → ErrorKind → Type 0
AsksTwoOrders asked rows kind =
    (asked ≡ task.Run) × (has_two_orders rows ≡ true) × ((kind ≡ OutOfMemory) ⊎ (kind ≡ ArgumentConflict))

-- the words of a search for races name nothing that can be observed, which is answered by this kind of error
abbrev pub ObservesInVain : CommandTask → List Row → ErrorKind → Type 0
ObservesInVain asked rows kind =
    (asked ≡ task.Races) × ObservesNothing (first_of (codes "observe") rows) × ((kind ≡ OutOfMemory) ⊎ (kind ≡ InvalidValue))

-- the words of a search for races ask for random orders, which are compared by their lines, and to compare runs by something else, which is
-- answered by this kind of error
abbrev pub SamplesInVain : CommandTask → List Row → ErrorKind → Type 0
SamplesInVain asked rows kind =
    (asked ≡ task.Races) × (is_some (number_given (codes "samples") rows) ≡ true) × ObservesOther (first_of (codes "observe") rows)
    × ((kind ≡ OutOfMemory) ⊎ (kind ≡ ArgumentConflict))

-- a letter is given that stands for no digits
abbrev pub HasNoRadix : Option Text → Type 0
HasNoRadix None = ⊥
HasNoRadix (Some letter) = (letter ≢ codes "b") × (letter ≢ codes "d") × (letter ≢ codes "h")

-- an entry or a time stands behind another one, if that is given
abbrev pub is_behind : ℕ → Option ℕ → Bool
is_behind from (Some to) = nat_lt to from
is_behind from None = false

-- the first entry that is to be told stands behind the last one
abbrev pub tells_no_entry : List Row → Bool
tells_no_entry rows = is_behind (unwrap_or (number_given (codes "from") rows) 1) (number_given (codes "to") rows)

-- the first time that is to be told comes behind the last one
abbrev pub tells_no_time : List Row → Bool
tells_no_time rows = is_behind (unwrap_or (number_given (codes "from-time") rows) 0) (number_given (codes "to-time") rows)

-- a journal is to be told in digits that a letter doesn't stand for, or no entry of it, or no time
abbrev pub TellsNothing : List Row → Type 0
TellsNothing rows = HasNoRadix (first_of (codes "radix") rows) ⊎ ((tells_no_entry rows ≡ true) ⊎ (tells_no_time rows ≡ true))

-- so the words of a telling of a journal ask, which is answered by this kind of error
abbrev pub TellsInVain : CommandTask → List Row → ErrorKind → Type 0
TellsInVain asked rows kind = (asked ≡ task.Explain) × TellsNothing rows × ((kind ≡ OutOfMemory) ⊎ (kind ≡ InvalidValue))

-- so it is of words that ask for a task in one of these ways
abbrev pub AsksInVain : CommandTask → List Row → ErrorKind → Type 0
AsksInVain asked rows kind =
    AsksTwoOrders asked rows kind ⊎ (ObservesInVain asked rows kind ⊎ (SamplesInVain asked rows kind ⊎ TellsInVain asked rows kind))

-- the word after the program's name is this one
abbrev pub Begins : List Text → Text → Type 0
Begins words name = slice_get words 1 ≡ Some name

-- the word that asks for a task
abbrev pub word_of_task : CommandTask → Text
word_of_task task.Run = codes "run"
word_of_task task.Replay = codes "replay"
word_of_task task.Races = codes "races"
word_of_task task.Check = codes "check"
word_of_task task.Explain = codes "explain"
word_of_task task.Waves = codes "waves"
word_of_task task.Diff = codes "diff"
word_of_task task.Flatten = codes "flatten"

-- the word after the program's name asks for no task
abbrev pub AsksNoTask : List Text → Type 0
AsksNoTask words = ((asked : CommandTask) → Begins words (word_of_task asked) → ⊥) × (Begins words (codes "--version") → ⊥)

-- this run is asked for: of FILE, with these options, which are in range, by this seed or else on workers, and for its journal
-- in OUT where that is given
pub record IsRunOf (rows : List Row) (run : RunRequest) : Type 0 where
  pub in_range : CanRun run.options
  pub file : first_of (codes "FILE") rows ≡ Some run.file.now
  pub options : run.options ≡ options_of rows
  pub seed : run.seed ≡ number_given (codes "seed") rows
  pub one_order : has_two_orders rows ≡ false
  pub journal : first_of (codes "journal") rows ≡ option_map (λ path. path.now) run.journal

-- this replay is asked for: of JOURNAL on FILE
pub record IsReplayOf (rows : List Row) (replay : ReplayRequest) : Type 0 where
  pub file : first_of (codes "FILE") rows ≡ Some replay.file.now
  pub journal : first_of (codes "JOURNAL") rows ≡ Some replay.journal.now

-- this search for races is asked for: of FILE, so far, by what is to be observed of runs, and for journals at paths that begin with PREFIX where that is given
pub record IsRacesOf (rows : List Row) (races : RacesRequest) : Type 0 where
  pub in_range : CanSearch races.search_options
  pub file : first_of (codes "FILE") rows ≡ Some races.file.now
  pub search_options : races.search_options ≡ search_options_of rows
  pub observed : IsObserved (first_of (codes "observe") rows) races.observed
  pub journals : first_of (codes "journals") rows ≡ option_map (λ path. path.now) races.journals

-- this check is asked for: of FILE, and of all places of each note where `--all` is given
pub record IsCheckOf (rows : List Row) (check : CheckRequest) : Type 0 where
  pub file : first_of (codes "FILE") rows ≡ Some check.file.now
  pub all : check.all ≡ flag_given (codes "all") rows

-- this telling is asked for: of JOURNAL on FILE, from one entry to another, where the words give them, and else from the
-- first to the last, and so by their times, in these digits, with versions where `--versions` is given, and of the registers with these names alone
-- where names are given
pub record IsExplainOf (rows : List Row) (explain : ExplainRequest) : Type 0 where
  pub file : first_of (codes "FILE") rows ≡ Some explain.file.now
  pub journal : first_of (codes "JOURNAL") rows ≡ Some explain.journal.now
  pub from : explain.from ≡ unwrap_or (number_given (codes "from") rows) 1
  pub to : explain.to ≡ number_given (codes "to") rows
  pub some_entry : tells_no_entry rows ≡ false
  pub from_time : explain.from_time ≡ unwrap_or (number_given (codes "from-time") rows) 0
  pub to_time : explain.to_time ≡ number_given (codes "to-time") rows
  pub some_time : tells_no_time rows ≡ false
  pub radix : explain.radix ≡ radix_given rows
  pub versions : explain.versions ≡ flag_given (codes "versions") rows
  pub registers : first_of (codes "registers") rows ≡ option_map (λ names. names.now) explain.registers

-- this value change dump is asked for: of JOURNAL on FILE, in OUT
pub record IsWavesOf (rows : List Row) (waves : WavesRequest) : Type 0 where
  pub file : first_of (codes "FILE") rows ≡ Some waves.file.now
  pub journal : first_of (codes "JOURNAL") rows ≡ Some waves.journal.now
  pub out : first_of (codes "out") rows ≡ Some waves.out.now

-- this comparison is asked for: of J1 and J2 on FILE, and of all times of each register that differs where `--all` is given
pub record IsDiffOf (rows : List Row) (diff : DiffRequest) : Type 0 where
  pub file : first_of (codes "FILE") rows ≡ Some diff.file.now
  pub first : first_of (codes "J1") rows ≡ Some diff.first.now
  pub second : first_of (codes "J2") rows ≡ Some diff.second.now
  pub all_times : diff.all_times ≡ flag_given (codes "all") rows

-- this flat module is asked for: of FILE, in OUT, where that is given
pub record IsFlattenOf (rows : List Row) (flatten : FlattenRequest) : Type 0 where
  pub file : first_of (codes "FILE") rows ≡ Some flatten.file.now
  pub out : first_of (codes "out") rows ≡ option_map (λ path. path.now) flatten.out

-- this is asked for by what clap finds in the words of a task
abbrev pub IsAskedBy : CommandTask → List Row → Request → Type 0
IsAskedBy asked rows (request.Run run) = (asked ≡ task.Run) × IsRunOf rows run
IsAskedBy asked rows (request.Replay replay) = (asked ≡ task.Replay) × IsReplayOf rows replay
IsAskedBy asked rows (request.Races races) = (asked ≡ task.Races) × IsRacesOf rows races
IsAskedBy asked rows (request.Check check) = (asked ≡ task.Check) × IsCheckOf rows check
IsAskedBy asked rows (request.Explain explain) = (asked ≡ task.Explain) × IsExplainOf rows explain
IsAskedBy asked rows (request.Waves waves) = (asked ≡ task.Waves) × IsWavesOf rows waves
IsAskedBy asked rows (request.Diff diff) = (asked ≡ task.Diff) × IsDiffOf rows diff
IsAskedBy asked rows (request.Flatten flatten) = (asked ≡ task.Flatten) × IsFlattenOf rows flatten
IsAskedBy asked rows request.Version = ⊥

-- the words ask for this run
pub record AsksRun (words : List Text) (run : RunRequest) : Type 0 where
  pub begins : Begins words (codes "run")
  pub is_run : IsRunOf (run_rows (drop 1 words)) run

-- the words ask for this replay
pub record AsksReplay (words : List Text) (replay : ReplayRequest) : Type 0 where
  pub begins : Begins words (codes "replay")
  pub is_replay : IsReplayOf (replay_rows (drop 1 words)) replay

-- the words ask for this search for races
pub record AsksRaces (words : List Text) (races : RacesRequest) : Type 0 where
  pub begins : Begins words (codes "races")
  pub is_races : IsRacesOf (races_rows (drop 1 words)) races

-- the words ask for this check
pub record AsksCheck (words : List Text) (check : CheckRequest) : Type 0 where
  pub begins : Begins words (codes "check")
  pub is_check : IsCheckOf (check_rows (drop 1 words)) check

-- the words ask for this telling
pub record AsksExplain (words : List Text) (explain : ExplainRequest) : Type 0 where
  pub begins : Begins words (codes "explain")
  pub is_explain : IsExplainOf (explain_rows (drop 1 words)) explain

-- the words ask for this value change dump
pub record AsksWaves (words : List Text) (waves : WavesRequest) : Type 0 where
  pub begins : Begins words (codes "waves")
  pub is_waves : IsWavesOf (waves_rows (drop 1 words)) waves

-- the words ask for this comparison of two journals
pub record AsksDiff (words : List Text) (diff : DiffRequest) : Type 0 where
  pub begins : Begins words (codes "diff")
  pub is_diff : IsDiffOf (diff_rows (drop 1 words)) diff

-- the words ask for this flat module
pub record AsksFlatten (words : List Text) (flatten : FlattenRequest) : Type 0 where
  pub begins : Begins words (codes "flatten")
  pub is_flatten : IsFlattenOf (flatten_rows (drop 1 words)) flatten

-- the words ask for this
abbrev pub Asks : List Text → Request → Type 0
Asks words (request.Run run) = AsksRun words run
Asks words (request.Replay replay) = AsksReplay words replay
Asks words (request.Races races) = AsksRaces words races
Asks words (request.Check check) = AsksCheck words check
Asks words (request.Explain explain) = AsksExplain words explain
Asks words (request.Waves waves) = AsksWaves words waves
Asks words (request.Diff diff) = AsksDiff words diff
Asks words (request.Flatten flatten) = AsksFlatten words flatten
Asks words request.Version = Begins words (codes "--version")

-- the kinds of error by which clap may answer the words of a run, from `run` on
unfoldable pub run_faults : List Text → Kinds
run_faults = fault_of run_app

-- those of a replay
unfoldable pub replay_faults : List Text → Kinds
replay_faults = fault_of replay_app

-- those of a search for races
unfoldable pub races_faults : List Text → Kinds
races_faults = fault_of races_app

-- those of a check
unfoldable pub check_faults : List Text → Kinds
check_faults = fault_of check_app

-- those of a telling of a journal
unfoldable pub explain_faults : List Text → Kinds
explain_faults = fault_of explain_app

-- those of a value change dump
unfoldable pub waves_faults : List Text → Kinds
waves_faults = fault_of waves_app

-- those of a comparison of two journals
unfoldable pub diff_faults : List Text → Kinds
diff_faults = fault_of diff_app

-- those of a flat module
unfoldable pub flatten_faults : List Text → Kinds
flatten_faults = fault_of flatten_app

-- those of a task
abbrev pub faults_by : CommandTask → List Text → Kinds
faults_by asked = fault_of (app_by asked)

-- and those of a whole command line that asks for no task
unfoldable pub other_faults : List Text → Kinds
other_faults words = or_else (fault_of whole_app words) (MissingSubcommand ∷ [])

-- clap may answer the words by this kind of error, or they ask for a run both by a seed and on workers, or to observe nothing that can be, or something else than lines of
-- random orders, or to be told a journal in digits that a letter doesn't stand for, or no entry of it
pub data MayFail (words : List Text) (kind : ErrorKind) : Type 0 where
  of_run : Begins words (codes "run") → IsAmong kind (run_faults (drop 1 words)) → MayFail words kind
  of_two_orders : Begins words (codes "run") → has_two_orders (run_rows (drop 1 words)) ≡ true → kind ≡ ArgumentConflict → MayFail words kind
  of_replay : Begins words (codes "replay") → IsAmong kind (replay_faults (drop 1 words)) → MayFail words kind
  of_races : Begins words (codes "races") → IsAmong kind (races_faults (drop 1 words)) → MayFail words kind
  of_nothing_observed : Begins words (codes "races") → ObservesNothing (first_of (codes "observe") (races_rows (drop 1 words))) → kind ≡ InvalidValue → MayFail words kind
  of_samples : Begins words (codes "races") → is_some (number_given (codes "samples") (races_rows (drop 1 words))) ≡ true → ObservesOther (first_of (codes "observe") (races_rows (drop 1 words))) → kind ≡ ArgumentConflict → MayFail words kind
  of_check : Begins words (codes "check") → IsAmong kind (check_faults (drop 1 words)) → MayFail words kind
  of_explain : Begins words (codes "explain") → IsAmong kind (explain_faults (drop 1 words)) → MayFail words kind
  of_no_telling : Begins words (codes "explain") → TellsNothing (explain_rows (drop 1 words)) → kind ≡ InvalidValue → MayFail words kind
  of_waves : Begins words (codes "waves") → IsAmong kind (waves_faults (drop 1 words)) → MayFail words kind
  of_diff : Begins words (codes "diff") → IsAmong kind (diff_faults (drop 1 words)) → MayFail words kind
  of_flatten : Begins words (codes "flatten") → IsAmong kind (flatten_faults (drop 1 words)) → MayFail words kind
  of_others : AsksNoTask words → IsAmong kind (other_faults words) → MayFail words kind

-- memory was refused, or clap may answer the words so
abbrev pub FailsAs : List Text → ErrorKind → Type 0
FailsAs words kind = (kind ≡ OutOfMemory) ⊎ MayFail words kind

-- the words ask for help
abbrev pub AsksHelp : List Text → Type 0
AsksHelp words = MayFail words DisplayHelp ⊎ MayFail words DisplayVersion

-- the words are wrong: they may be answered by an error that isn't help
abbrev pub AreWrong : List Text → Type 0
AreWrong words = (kind : ErrorKind) × MayFail words kind × (kind ≢ DisplayHelp) × (kind ≢ DisplayVersion)

-- what is answered to an error of this kind, but for memory, which may be refused for any text
abbrev pub IsNoRequestBy : ErrorKind → NoRequest → Type 0
IsNoRequestBy kind (no_request.Help text) = (kind ≡ DisplayHelp) ⊎ (kind ≡ DisplayVersion)
IsNoRequestBy kind (no_request.Usage text) = (kind ≢ OutOfMemory) × (kind ≢ DisplayHelp) × (kind ≢ DisplayVersion)
IsNoRequestBy kind no_request.Memory = Unit {0}

-- the words make no request for this reason, but for memory, which may be refused for any words
abbrev pub IsNoRequest : List Text → NoRequest → Type 0
IsNoRequest words (no_request.Help text) = AsksHelp words
IsNoRequest words (no_request.Usage text) = AreWrong words
IsNoRequest words no_request.Memory = Unit {0}
