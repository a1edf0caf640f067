-- What the commands of the program take, and what a parse of them gives.
use Rattle.std.specs.Prelude.{◌≡◌, ◌⊎◌, ◌≤◌, ℕ, Bool, true, false, List, [], ◌∷◌, map, Option, Some, None, ⊤, is_some, codes, pos}
use Rattle.clap.specs.Facts.{least_values}
use Rattle.clap.specs.Words.{args_of, IsPlain, IsPlainArg, Accepts, one_text, read_as, reading_of, first_value}
use Rattle.clap.specs.declared.builder.action.ArgAction.{ArgAction}
use Rattle.clap.specs.declared.builder.action.ArgAction.TheVariants.{Set, SetTrue}
use Rattle.clap.specs.declared.builder.arg.Arg.{Arg}
use Rattle.clap.specs.declared.builder.command.Command.{Command}
use Rattle.clap.specs.declared.builder.command.Command.TheViews.{out-Command}
use Rattle.clap.specs.declared.builder.value_parser.ValueParser.{ValueParser}
use Rattle.clap.specs.declared.builder.value_parser.ValueParser.TheVariants.{Signed, Unsigned}
use Rattle.clap.specs.declared.builder.value_parser.ValueParser.TheVariants as vp
use Rattle.clap.specs.declared.parser.matches.Found.{Found}
use Rattle.arguments.specs.declared.parameters.Parameter.{Parameter}
use Rattle.arguments.specs.declared.parameters.Parameter.TheVariants as parameter
use Rattle.arguments.specs.declared.parameters.Form.{Form}
use Rattle.arguments.specs.declared.parameters.Form.TheVariants as form
use Rattle.arguments.specs.declared.parameters.NumberKind.{NumberKind}
use Rattle.arguments.specs.declared.parameters.NumberKind.TheVariants as number
use Rattle.arguments.specs.declared.command_task.CommandTask.{CommandTask}
use Rattle.arguments.specs.declared.command_task.CommandTask.TheVariants as task

-- an argument: its id, whether it is required, what its values have to pass, and whether it takes one or only stands there
pub record Rule : Type 0 where
  pub id : List ℕ
  pub required : Bool
  pub parser : Option ValueParser
  pub action : ArgAction

-- a rule for an argument with this id that takes one value
abbrev pub rule : List ℕ → Bool → Option ValueParser → Rule
rule id required parser = record { id = id; required = required; parser = parser; action = Set }

-- an option that takes no value is true where it stands, and else false
abbrev pub flag_parser : ValueParser
flag_parser = vp.Bool

-- a rule for an option with this id that takes no value
abbrev pub flag_rule : List ℕ → Rule
flag_rule id = record { id = id; required = false; parser = Some flag_parser; action = SetTrue }

-- the argument is by this rule, and excludes nothing; where it takes a value, it takes one at least
pub record FollowsRule (a : Arg) (r : Rule) : Type 0 where
  pub id : a.id.now ≡ r.id
  pub required : a.required ≡ r.required
  pub parser : (q : ValueParser) → r.parser ≡ Some q → a.value_parser ≡ Some q
  pub action : a.action ≡ Some r.action
  pub least : r.action ≡ Set → 1 ≤ least_values a
  pub whole : a.val_delim ≡ None
  pub plain : IsPlainArg a
  pub local : a.global ≡ false

-- the arguments follow the rules, one by one
abbrev pub Follow : List Arg → List Rule → Type 0
Follow [] [] = ⊤
Follow [] (r ∷ rs) = ⊥
Follow (a ∷ xs) [] = ⊥
Follow (a ∷ xs) (r ∷ rs) = FollowsRule a r × Follow xs rs

-- the command has these arguments alone
pub record HasRules (c : Command) (rs : List Rule) : Type 0 where
  pub args : Follow (args_of c) rs
  pub plain : IsPlain c
  pub local : (out-Command c).has_globals ≡ false
  pub negates : (out-Command c).subcommand_negates_reqs ≡ false

-- a number of workers is 1 to 16
abbrev pub workers_parser : ValueParser
workers_parser = Signed (pos 1) (pos 16)

-- a limit of time is 0 to 2 to the 48
abbrev pub until_parser : ValueParser
until_parser = Unsigned 0 281474976710656

-- a limit of entries, as any number of things of which there is at least one, is 1 to the greatest number of 32 bits
abbrev pub entries_parser : ValueParser
entries_parser = Signed (pos 1) (pos 4294967295)

-- a seed is 0 to the greatest number of 64 bits
abbrev pub seed_parser : ValueParser
seed_parser = Unsigned 0 18446744073709551615

-- what the command of a task takes
abbrev pub parameters_of : CommandTask → List Parameter
parameters_of task.Run =
    parameter.File
    ∷ parameter.Workers
    ∷ parameter.Until
    ∷ parameter.MaxEntries
    ∷ parameter.JournalTo
    ∷ parameter.Seed
    ∷ []
parameters_of task.Replay = parameter.File ∷ parameter.Journal ∷ []
parameters_of task.Races =
    parameter.File
    ∷ parameter.Until
    ∷ parameter.MaxEntries
    ∷ parameter.MaxStates
    ∷ parameter.MaxTexts
    ∷ parameter.MaxMemory
    ∷ parameter.JournalsTo
    ∷ parameter.Samples
    ∷ parameter.Seed
    ∷ parameter.Observe
    ∷ []
parameters_of task.Check = parameter.File ∷ parameter.All ∷ []
parameters_of task.Explain =
    parameter.File
    ∷ parameter.Journal
    ∷ parameter.From
    ∷ parameter.To
    ∷ parameter.FromTime
    ∷ parameter.ToTime
    ∷ parameter.Radix
    ∷ parameter.Versions
    ∷ parameter.Registers
    ∷ []
parameters_of task.Waves = parameter.File ∷ parameter.Journal ∷ parameter.Out ∷ []
parameters_of task.Diff = parameter.File ∷ parameter.FirstJournal ∷ parameter.SecondJournal ∷ parameter.AllTimes ∷ []
parameters_of task.Flatten = parameter.File ∷ parameter.FlatOut ∷ []

-- what a number has to be
abbrev pub number_parser : NumberKind → ValueParser
number_parser number.Workers = workers_parser
number_parser number.Count = entries_parser
number_parser number.Time = until_parser
number_parser number.Seed = seed_parser

-- what a word or an option takes
abbrev pub form_of : Parameter → Form
form_of parameter.File = form.Place
form_of parameter.Journal = form.Place
form_of parameter.FirstJournal = form.Place
form_of parameter.SecondJournal = form.Place
form_of parameter.Workers = form.Number number.Workers
form_of parameter.Until = form.Number number.Time
form_of parameter.MaxEntries = form.Number number.Count
form_of parameter.MaxStates = form.Number number.Count
form_of parameter.MaxTexts = form.Number number.Count
form_of parameter.MaxMemory = form.Number number.Count
form_of parameter.Samples = form.Number number.Count
form_of parameter.Seed = form.Number number.Seed
form_of parameter.Observe = form.Text
form_of parameter.From = form.Number number.Count
form_of parameter.To = form.Number number.Count
form_of parameter.FromTime = form.Number number.Time
form_of parameter.ToTime = form.Number number.Time
form_of parameter.Radix = form.Text
form_of parameter.Versions = form.Flag
form_of parameter.Registers = form.Text
form_of parameter.JournalTo = form.Text
form_of parameter.JournalsTo = form.Text
form_of parameter.Out = form.Needed
form_of parameter.All = form.Flag
form_of parameter.AllTimes = form.Flag
form_of parameter.FlatOut = form.Text

-- the name of a word or an option
abbrev pub name_of : Parameter → List ℕ
name_of parameter.File = codes "FILE"
name_of parameter.Journal = codes "JOURNAL"
name_of parameter.FirstJournal = codes "J1"
name_of parameter.SecondJournal = codes "J2"
name_of parameter.Workers = codes "workers"
name_of parameter.Until = codes "until"
name_of parameter.MaxEntries = codes "max-entries"
name_of parameter.MaxStates = codes "max-states"
name_of parameter.MaxTexts = codes "max-texts"
name_of parameter.MaxMemory = codes "max-memory"
name_of parameter.Samples = codes "samples"
name_of parameter.Seed = codes "seed"
name_of parameter.Observe = codes "observe"
name_of parameter.From = codes "from"
name_of parameter.To = codes "to"
name_of parameter.FromTime = codes "from-time"
name_of parameter.ToTime = codes "to-time"
name_of parameter.Radix = codes "radix"
name_of parameter.Versions = codes "versions"
name_of parameter.Registers = codes "registers"
name_of parameter.JournalTo = codes "journal"
name_of parameter.JournalsTo = codes "journals"
name_of parameter.Out = codes "out"
name_of parameter.All = codes "all"
name_of parameter.AllTimes = codes "all"
name_of parameter.FlatOut = codes "out"

-- the rule of a word or an option that takes this, under this name
abbrev pub rule_by : Form → List ℕ → Rule
rule_by form.Place name = rule name true None
rule_by form.Flag name = flag_rule name
rule_by form.Text name = rule name false None
rule_by form.Needed name = rule name true None
rule_by (form.Number kind) name = rule name false (Some (number_parser kind))

-- the rule of a word or an option
abbrev pub rule_for : Parameter → Rule
rule_for p = rule_by (form_of p) (name_of p)

-- the rules of the command of a task
abbrev pub rules_of : CommandTask → List Rule
rules_of asked = map rule_for (parameters_of asked)

-- the argument has no value, or its value passed the parser
abbrev pub IsGivenArgument : Found → List ℕ → ValueParser → Type 0
IsGivenArgument f id q = (one_text f id ≡ None)
    ⊎ ((text : List ℕ) × (any_case : Bool) × (one_text f id ≡ Some (read_as (reading_of q) text)) × Accepts any_case q text)

-- what a parse of `run` gives
pub record GivesRun (f : Found) : Type 0 where
  pub file : is_some (first_value f (codes "FILE")) ≡ true
  pub workers : IsGivenArgument f (codes "workers") workers_parser
  pub until : IsGivenArgument f (codes "until") until_parser
  pub max_entries : IsGivenArgument f (codes "max-entries") entries_parser
  pub seed : IsGivenArgument f (codes "seed") seed_parser

-- what a parse of `replay` gives
pub record GivesReplay (f : Found) : Type 0 where
  pub file : is_some (first_value f (codes "FILE")) ≡ true
  pub journal : is_some (first_value f (codes "JOURNAL")) ≡ true

-- what a parse of `races` gives
pub record GivesRaces (f : Found) : Type 0 where
  pub file : is_some (first_value f (codes "FILE")) ≡ true
  pub until : IsGivenArgument f (codes "until") until_parser
  pub max_entries : IsGivenArgument f (codes "max-entries") entries_parser
  pub max_states : IsGivenArgument f (codes "max-states") entries_parser
  pub max_texts : IsGivenArgument f (codes "max-texts") entries_parser
  pub max_memory : IsGivenArgument f (codes "max-memory") entries_parser
  pub samples : IsGivenArgument f (codes "samples") entries_parser
  pub seed : IsGivenArgument f (codes "seed") seed_parser

-- what a parse of `check` gives
pub record GivesCheck (f : Found) : Type 0 where
  pub file : is_some (first_value f (codes "FILE")) ≡ true
  pub all : IsGivenArgument f (codes "all") flag_parser

-- what a parse of `explain` gives
pub record GivesExplain (f : Found) : Type 0 where
  pub file : is_some (first_value f (codes "FILE")) ≡ true
  pub journal : is_some (first_value f (codes "JOURNAL")) ≡ true
  pub from : IsGivenArgument f (codes "from") entries_parser
  pub to : IsGivenArgument f (codes "to") entries_parser
  pub from_time : IsGivenArgument f (codes "from-time") until_parser
  pub to_time : IsGivenArgument f (codes "to-time") until_parser
  pub versions : IsGivenArgument f (codes "versions") flag_parser

-- what a parse of `waves` gives
pub record GivesWaves (f : Found) : Type 0 where
  pub file : is_some (first_value f (codes "FILE")) ≡ true
  pub journal : is_some (first_value f (codes "JOURNAL")) ≡ true
  pub out : is_some (first_value f (codes "out")) ≡ true

-- what a parse of `diff` gives
pub record GivesDiff (f : Found) : Type 0 where
  pub file : is_some (first_value f (codes "FILE")) ≡ true
  pub first : is_some (first_value f (codes "J1")) ≡ true
  pub second : is_some (first_value f (codes "J2")) ≡ true
  pub all : IsGivenArgument f (codes "all") flag_parser

-- what a parse of `flatten` gives
pub record GivesFlatten (f : Found) : Type 0 where
  pub file : is_some (first_value f (codes "FILE")) ≡ true

-- what a parse of the words of a task gives
abbrev pub Gives : CommandTask → Found → Type 0
Gives task.Run f = GivesRun f
Gives task.Replay f = GivesReplay f
Gives task.Races f = GivesRaces f
Gives task.Check f = GivesCheck f
Gives task.Explain f = GivesExplain f
Gives task.Waves f = GivesWaves f
Gives task.Diff f = GivesDiff f
Gives task.Flatten f = GivesFlatten f
