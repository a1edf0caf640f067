-- The commands of the tasks, one for all: how they are built, what is found in their words, and what that says of the words.
use Rattle.std.proofs.Common.{◌≡◌, ◌∙◌, ◌+◌, ◌++◌, ap, ap₂, refl, sym, subst, ℕ, List, [], ◌∷◌, map, drop, take, true, false, codes, Some, None, inl, inr}
use Rattle.std.specs.List.{All}
use Rattle.std.specs.Prelude.{IfOk, Result, Ok, Err, Option, String}
use Rattle.std.specs.declared.alloc.Global.{Global}
use Rattle.std.proofs.lemmas.List.{map-append}
use Rattle.clap.specs.Simple.{app_of_fields}
use Rattle.clap.specs.declared.builder.command.Command.TheViews.{out-Command}
use Rattle.clap.specs.Built.{IsParsedFrom, IsPlainArg, AddsArg, AddsSubcommand}
use Rattle.clap.specs.Words.{App, HasKind, Row, Text, app_of, args_of, found_of, is_simple, is_simple_and_free, kind_of, new_app, rule_of, with_rule, with_subcommand}
use Rattle.clap.specs.declared.builder.arg.Arg.{Arg}
use Rattle.clap.specs.declared.builder.command.Command.{Command}
use Rattle.clap.specs.declared.error.Error.{Error}
use Rattle.clap.specs.declared.parser.matches.ArgMatches.{ArgMatches}
use Rattle.arguments.specs.declared.parameters.Parameter.{Parameter}
use Rattle.arguments.specs.declared.request.Request.{Request}
use Rattle.arguments.specs.declared.request.Request.TheVariants as request
use Rattle.arguments.specs.declared.command_task.CommandTask.{CommandTask}
use Rattle.arguments.specs.declared.command_task.CommandTask.TheVariants as task
use Rattle.arguments.specs.Arguments.{Follow, FollowsRule, Gives, HasRules, Rule, flag_parser, flag_rule, parameters_of, rule, rule_for, rules_of, workers_parser, until_parser, entries_parser, seed_parser}
use Rattle.arguments.specs.CommandWords.{Asks, AsksInVain, Begins, FailsAs, IsAskedBy, IsRunOf, IsReplayOf, IsRacesOf, IsCheckOf, IsExplainOf, IsWavesOf, IsDiffOf, IsFlattenOf, app_by, argument_of, bare_app, every_task, faults_by, rows_by, with_arguments, with_tasks, word_of_task, run_app, replay_app, races_app, check_app, explain_app, waves_app, diff_app, flatten_app, whole_app, run_rows, replay_rows, races_rows, check_rows, explain_rows, waves_rows, diff_rows, flatten_rows, run_faults, replay_faults, races_faults, check_faults, explain_faults, waves_faults, diff_faults, flatten_faults}
use Rattle.arguments.proofs.GivenLemmas.{given, one_more, required_text}
use Rattle.arguments.proofs.WordLemmas.{run_fails, replay_fails, races_fails, check_fails, explain_fails, waves_fails, diff_fails, flatten_fails, no_telling_fails, nothing_observed_fails, samples_fail, two_orders_fail}

-- how a command is built

with_arguments_more : (app : App) (ps : List Parameter) (p : Parameter) → with_arguments app (ps ++ p ∷ []) ≡ with_rule (with_arguments app ps) (argument_of p)
with_arguments_more app [] p = refl
with_arguments_more app (q ∷ ps) p = with_arguments_more (with_rule app (argument_of q)) ps p

with_tasks_more : (app : App) (ts : List CommandTask) (t : CommandTask) → with_tasks app (ts ++ t ∷ []) ≡ with_subcommand (with_tasks app ts) (app_by t).top
with_tasks_more app [] t = refl
with_tasks_more app (u ∷ ts) t = with_tasks_more (with_subcommand app (app_by u).top) ts t

pub task_app : (asked : CommandTask) → with_arguments (new_app (word_of_task asked)) (parameters_of asked) ≡ app_by asked
unfolding run_app replay_app races_app check_app explain_app waves_app diff_app flatten_app
task_app task.Run = refl
task_app task.Replay = refl
task_app task.Races = refl
task_app task.Check = refl
task_app task.Explain = refl
task_app task.Waves = refl
task_app task.Diff = refl
task_app task.Flatten = refl

pub all_tasks : with_tasks bare_app every_task ≡ whole_app
unfolding whole_app
all_tasks = refl

pub task_is_simple : (asked : CommandTask) → is_simple (app_by asked) ≡ true
unfolding run_app replay_app races_app check_app explain_app waves_app diff_app flatten_app
task_is_simple task.Run = refl
task_is_simple task.Replay = refl
task_is_simple task.Races = refl
task_is_simple task.Check = refl
task_is_simple task.Explain = refl
task_is_simple task.Waves = refl
task_is_simple task.Diff = refl
task_is_simple task.Flatten = refl

pub task_is_free : (asked : CommandTask) → is_simple_and_free (app_by asked) ≡ true
unfolding run_app replay_app races_app check_app explain_app waves_app diff_app flatten_app
task_is_free task.Run = refl
task_is_free task.Replay = refl
task_is_free task.Races = refl
task_is_free task.Check = refl
task_is_free task.Explain = refl
task_is_free task.Waves = refl
task_is_free task.Diff = refl
task_is_free task.Flatten = refl

-- what is found in the words

pub task_gives : (asked : CommandTask) (cmd : Command) (m : ArgMatches) → IsParsedFrom cmd m → HasRules cmd (rules_of asked) → Gives asked (found_of m)
task_gives task.Run cmd m p h = record {
  file = required_text cmd m (rules_of task.Run) 0 (rule (codes "FILE") true None) p h refl refl refl refl refl;
  workers = given cmd m (rules_of task.Run) 1 (rule (codes "workers") false (Some workers_parser)) workers_parser p h refl refl refl refl;
  until = given cmd m (rules_of task.Run) 2 (rule (codes "until") false (Some until_parser)) until_parser p h refl refl refl refl;
  max_entries = given cmd m (rules_of task.Run) 3 (rule (codes "max-entries") false (Some entries_parser)) entries_parser p h refl refl refl refl;
  seed = given cmd m (rules_of task.Run) 5 (rule (codes "seed") false (Some seed_parser)) seed_parser p h refl refl refl refl;
}
task_gives task.Replay cmd m p h = record {
  file = required_text cmd m (rules_of task.Replay) 0 (rule (codes "FILE") true None) p h refl refl refl refl refl;
  journal = required_text cmd m (rules_of task.Replay) 1 (rule (codes "JOURNAL") true None) p h refl refl refl refl refl;
}
task_gives task.Races cmd m p h = record {
  file = required_text cmd m (rules_of task.Races) 0 (rule (codes "FILE") true None) p h refl refl refl refl refl;
  until = given cmd m (rules_of task.Races) 1 (rule (codes "until") false (Some until_parser)) until_parser p h refl refl refl refl;
  max_entries = given cmd m (rules_of task.Races) 2 (rule (codes "max-entries") false (Some entries_parser)) entries_parser p h refl refl refl refl;
  max_states = given cmd m (rules_of task.Races) 3 (rule (codes "max-states") false (Some entries_parser)) entries_parser p h refl refl refl refl;
  max_texts = given cmd m (rules_of task.Races) 4 (rule (codes "max-texts") false (Some entries_parser)) entries_parser p h refl refl refl refl;
  max_memory = given cmd m (rules_of task.Races) 5 (rule (codes "max-memory") false (Some entries_parser)) entries_parser p h refl refl refl refl;
  samples = given cmd m (rules_of task.Races) 7 (rule (codes "samples") false (Some entries_parser)) entries_parser p h refl refl refl refl;
  seed = given cmd m (rules_of task.Races) 8 (rule (codes "seed") false (Some seed_parser)) seed_parser p h refl refl refl refl;
}
task_gives task.Check cmd m p h = record {
  file = required_text cmd m (rules_of task.Check) 0 (rule (codes "FILE") true None) p h refl refl refl refl refl;
  all = given cmd m (rules_of task.Check) 1 (flag_rule (codes "all")) flag_parser p h refl refl refl refl;
}
task_gives task.Explain cmd m p h = record {
  file = required_text cmd m (rules_of task.Explain) 0 (rule (codes "FILE") true None) p h refl refl refl refl refl;
  journal = required_text cmd m (rules_of task.Explain) 1 (rule (codes "JOURNAL") true None) p h refl refl refl refl refl;
  from = given cmd m (rules_of task.Explain) 2 (rule (codes "from") false (Some entries_parser)) entries_parser p h refl refl refl refl;
  to = given cmd m (rules_of task.Explain) 3 (rule (codes "to") false (Some entries_parser)) entries_parser p h refl refl refl refl;
  from_time = given cmd m (rules_of task.Explain) 4 (rule (codes "from-time") false (Some until_parser)) until_parser p h refl refl refl refl;
  to_time = given cmd m (rules_of task.Explain) 5 (rule (codes "to-time") false (Some until_parser)) until_parser p h refl refl refl refl;
  versions = given cmd m (rules_of task.Explain) 7 (flag_rule (codes "versions")) flag_parser p h refl refl refl refl;
}
task_gives task.Waves cmd m p h = record {
  file = required_text cmd m (rules_of task.Waves) 0 (rule (codes "FILE") true None) p h refl refl refl refl refl;
  journal = required_text cmd m (rules_of task.Waves) 1 (rule (codes "JOURNAL") true None) p h refl refl refl refl refl;
  out = required_text cmd m (rules_of task.Waves) 2 (rule (codes "out") true None) p h refl refl refl refl refl;
}
task_gives task.Diff cmd m p h = record {
  file = required_text cmd m (rules_of task.Diff) 0 (rule (codes "FILE") true None) p h refl refl refl refl refl;
  first = required_text cmd m (rules_of task.Diff) 1 (rule (codes "J1") true None) p h refl refl refl refl refl;
  second = required_text cmd m (rules_of task.Diff) 2 (rule (codes "J2") true None) p h refl refl refl refl refl;
  all = given cmd m (rules_of task.Diff) 3 (flag_rule (codes "all")) flag_parser p h refl refl refl refl;
}
task_gives task.Flatten cmd m p h = record { file = required_text cmd m (rules_of task.Flatten) 0 (rule (codes "FILE") true None) p h refl refl refl refl refl }

-- what that says of the words

pub task_fails : (asked : CommandTask) (words own : List Text) (e : Error) → Begins words (word_of_task asked) → own ≡ drop 1 words → HasKind (faults_by asked own) e
    → FailsAs words (kind_of e)
unfolding run_faults replay_faults races_faults check_faults explain_faults waves_faults diff_faults flatten_faults
task_fails task.Run words own e begins same h = run_fails words own e begins same h
task_fails task.Replay words own e begins same h = replay_fails words own e begins same h
task_fails task.Races words own e begins same h = races_fails words own e begins same h
task_fails task.Check words own e begins same h = check_fails words own e begins same h
task_fails task.Explain words own e begins same h = explain_fails words own e begins same h
task_fails task.Waves words own e begins same h = waves_fails words own e begins same h
task_fails task.Diff words own e begins same h = diff_fails words own e begins same h
task_fails task.Flatten words own e begins same h = flatten_fails words own e begins same h

pub task_asks : (asked : CommandTask) (words own : List Text) (rows : List Row) (r : Request) → Begins words (word_of_task asked) → own ≡ drop 1 words → rows ≡ rows_by asked own
    → IsAskedBy asked rows r → Asks words r
unfolding run_rows replay_rows races_rows check_rows explain_rows waves_rows diff_rows flatten_rows
task_asks asked words own rows (request.Run run) begins same found (e, is) = record {
  begins = subst (λ (t : CommandTask). Begins words (word_of_task t)) e begins;
  is_run = subst (λ (r : List Row). IsRunOf r run) (found ∙ (ap (λ (t : CommandTask). rows_by t own) e ∙ ap (rows_by task.Run) same)) is;
}
task_asks asked words own rows (request.Replay replay) begins same found (e, is) = record {
  begins = subst (λ (t : CommandTask). Begins words (word_of_task t)) e begins;
  is_replay = subst (λ (r : List Row). IsReplayOf r replay) (found ∙ (ap (λ (t : CommandTask). rows_by t own) e ∙ ap (rows_by task.Replay) same)) is;
}
task_asks asked words own rows (request.Races races) begins same found (e, is) = record {
  begins = subst (λ (t : CommandTask). Begins words (word_of_task t)) e begins;
  is_races = subst (λ (r : List Row). IsRacesOf r races) (found ∙ (ap (λ (t : CommandTask). rows_by t own) e ∙ ap (rows_by task.Races) same)) is;
}
task_asks asked words own rows (request.Check check) begins same found (e, is) = record {
  begins = subst (λ (t : CommandTask). Begins words (word_of_task t)) e begins;
  is_check = subst (λ (r : List Row). IsCheckOf r check) (found ∙ (ap (λ (t : CommandTask). rows_by t own) e ∙ ap (rows_by task.Check) same)) is;
}
task_asks asked words own rows (request.Explain explain) begins same found (e, is) = record {
  begins = subst (λ (t : CommandTask). Begins words (word_of_task t)) e begins;
  is_explain = subst (λ (r : List Row). IsExplainOf r explain) (found ∙ (ap (λ (t : CommandTask). rows_by t own) e ∙ ap (rows_by task.Explain) same)) is;
}
task_asks asked words own rows (request.Waves waves) begins same found (e, is) = record {
  begins = subst (λ (t : CommandTask). Begins words (word_of_task t)) e begins;
  is_waves = subst (λ (r : List Row). IsWavesOf r waves) (found ∙ (ap (λ (t : CommandTask). rows_by t own) e ∙ ap (rows_by task.Waves) same)) is;
}
task_asks asked words own rows (request.Diff diff) begins same found (e, is) = record {
  begins = subst (λ (t : CommandTask). Begins words (word_of_task t)) e begins;
  is_diff = subst (λ (r : List Row). IsDiffOf r diff) (found ∙ (ap (λ (t : CommandTask). rows_by t own) e ∙ ap (rows_by task.Diff) same)) is;
}
task_asks asked words own rows (request.Flatten flatten) begins same found (e, is) = record {
  begins = subst (λ (t : CommandTask). Begins words (word_of_task t)) e begins;
  is_flatten = subst (λ (r : List Row). IsFlattenOf r flatten) (found ∙ (ap (λ (t : CommandTask). rows_by t own) e ∙ ap (rows_by task.Flatten) same)) is;
}
task_asks asked words own rows request.Version begins same found h = absurd h

pub task_in_vain : (asked : CommandTask) (words own : List Text) (rows : List Row) (e : Error) → Begins words (word_of_task asked) → own ≡ drop 1 words → rows ≡ rows_by asked own
    → AsksInVain asked rows (kind_of e) → FailsAs words (kind_of e)
unfolding run_rows races_rows explain_rows
task_in_vain asked words own rows e begins same found (inl (is_run, two, kind)) =
    two_orders_fail words own rows e (subst (λ (t : CommandTask). Begins words (word_of_task t)) is_run begins) same
    (found ∙ ap (λ (t : CommandTask). rows_by t own) is_run) two kind
task_in_vain asked words own rows e begins same found (inr (inl (is_races, nothing, kind))) =
    nothing_observed_fails words own rows e (subst (λ (t : CommandTask). Begins words (word_of_task t)) is_races begins) same
    (found ∙ ap (λ (t : CommandTask). rows_by t own) is_races) nothing kind
task_in_vain asked words own rows e begins same found (inr (inr (inr (is_explain, none, kind)))) =
    no_telling_fails words own rows e (subst (λ (t : CommandTask). Begins words (word_of_task t)) is_explain begins) same
    (found ∙ ap (λ (t : CommandTask). rows_by t own) is_explain) none kind
task_in_vain asked words own rows e begins same found (inr (inr (inl (is_races, some, other, kind)))) =
    samples_fail words own rows e (subst (λ (t : CommandTask). Begins words (word_of_task t)) is_races begins) same
    (found ∙ ap (λ (t : CommandTask). rows_by t own) is_races) some other kind

-- one word or option more
pub argument_more : (asked : CommandTask) (taken : List Parameter) (i : ℕ) (p : Parameter) (c d : Command) (a : Arg)
    → take (i + 1) taken ≡ take i taken ++ p ∷ [] → FollowsRule a (rule_for p) → rule_of a ≡ argument_of p → AddsArg c a d
    → HasRules c (map rule_for (take i taken)) → app_of c ≡ with_arguments (new_app (word_of_task asked)) (take i taken)
    → HasRules d (map rule_for (take (i + 1) taken)) × (app_of d ≡ with_arguments (new_app (word_of_task asked)) (take (i + 1) taken))
argument_more asked taken i p c d a more takes is added rules app =
    let list : map rule_for (take (i + 1) taken) ≡ map rule_for (take i taken) ++ rule_for p ∷ [] =
    ap (map rule_for) more ∙ map-append rule_for (take i taken) (p ∷ []) in (
      subst (HasRules d) (sym list) (one_more c d a (map rule_for (take i taken)) (rule_for p) rules takes added),
      added.shape takes.local
          ∙ (ap₂ with_rule app is
          ∙ (sym (with_arguments_more (new_app (word_of_task asked)) (take i taken) p) ∙ ap (with_arguments (new_app (word_of_task asked))) (sym more))),
    )

-- a command that is called otherwise in usage has the same words and options
same_rules : (c d : Command) (called : Option (String Global)) (rs : List Rule) → out-Command d ≡ record (out-Command c) { bin_name = called } → HasRules c rs → HasRules d rs
same_rules c d called rs e h =
    let args : args_of d ≡ args_of c = ap (λ f. f.args.items) e in
    record {
      args = subst (λ (xs : List Arg). Follow xs rs) (sym args) h.args;
      plain = (subst (λ (xs : List Arg). All IsPlainArg xs) (sym args) h.plain.0, ap (λ f. f.groups.items) e ∙ h.plain.1);
      local = ap (λ f. f.has_globals) e ∙ h.local;
      negates = ap (λ f. f.subcommand_negates_reqs) e ∙ h.negates;
    }

pub called_rules : {E : Type 0} (r : Result Command E) (c : Command) (rs : List Rule) (P : Command → Type 0)
    → IfOk r (λ d. (out-Command d ≡ record (out-Command c) { bin_name = (out-Command d).bin_name }) × P d) → HasRules c rs → IfOk r (λ d. HasRules d rs)
called_rules (Ok d) c rs P h rules = same_rules c d (out-Command d).bin_name rs h.0 rules
called_rules (Err e) c rs P h rules = tt

pub called_app : {E : Type 0} (r : Result Command E) (c : Command) (app : App) (P : Command → Type 0)
    → IfOk r (λ d. (out-Command d ≡ record (out-Command c) { bin_name = (out-Command d).bin_name }) × P d) → app_of c ≡ app → IfOk r (λ d. app_of d ≡ app)
called_app (Ok d) c app P h is = ap app_of_fields h.0 ∙ is
called_app (Err e) c app P h is = tt

-- one command more
pub next_task : (t : CommandTask) (c d next : Command) → HasRules next (rules_of t) → app_of next ≡ app_by t → AddsSubcommand c next d
    → app_of d ≡ with_subcommand (app_of c) (app_by t).top
next_task t c d next rules is added = added.shape rules.local ∙ ap (λ (a : App). with_subcommand (app_of c) a.top) is

-- and the tasks up to it
pub task_more : (tasks : List CommandTask) (i : ℕ) (t : CommandTask) (c d : Command) → take (i + 1) tasks ≡ take i tasks ++ t ∷ []
    → app_of d ≡ with_subcommand (app_of c) (app_by t).top
    → app_of c ≡ with_tasks bare_app (take i tasks) → app_of d ≡ with_tasks bare_app (take (i + 1) tasks)
task_more tasks i t c d more added app =
    added
    ∙ (ap (λ (a : App). with_subcommand a (app_by t).top) app ∙ (sym (with_tasks_more bare_app (take i tasks) t) ∙ ap (with_tasks bare_app) (sym more)))

-- which task is asked for

-- none of these tasks is
abbrev pub NoneBegins : List Text → List CommandTask → Type 0
NoneBegins words [] = Unit {0}
NoneBegins words (t ∷ ts) = (Begins words (word_of_task t) → ⊥) × NoneBegins words ts

none_then : (words : List Text) (ts : List CommandTask) (t : CommandTask) → NoneBegins words ts → (Begins words (word_of_task t) → ⊥) → NoneBegins words (ts ++ t ∷ [])
none_then words [] t before unasked = (unasked, tt)
none_then words (u ∷ ts) t before unasked = (before.0, none_then words ts t before.1 unasked)

-- nor one more
pub none_more : (words : List Text) (tasks : List CommandTask) (i : ℕ) (t : CommandTask) → take (i + 1) tasks ≡ take i tasks ++ t ∷ []
    → (Begins words (word_of_task t) → ⊥) → NoneBegins words (take i tasks) → NoneBegins words (take (i + 1) tasks)
none_more words tasks i t more unasked before = subst (NoneBegins words) (sym more) (none_then words (take i tasks) t before unasked)

-- nor any other, where they are all
pub none_of_every : (words : List Text) (asked : CommandTask) → NoneBegins words every_task → Begins words (word_of_task asked) → ⊥
none_of_every words task.Run none = none.0
none_of_every words task.Replay none = none.1.0
none_of_every words task.Races none = none.1.1.0
none_of_every words task.Check none = none.1.1.1.0
none_of_every words task.Explain none = none.1.1.1.1.0
none_of_every words task.Waves none = none.1.1.1.1.1.0
none_of_every words task.Diff none = none.1.1.1.1.1.1.0
none_of_every words task.Flatten none = none.1.1.1.1.1.1.1.0
