-- What the requests of the words, the files and the statuses tell of a command that ended.
use Rattle.std.proofs.Common.{◌≡◌, ◌≢◌, ◌⊎◌, Bool, true, false, string_bytes, ◌++◌, ◌∙◌, ap, append_assoc, sym, subst, inl, inr, refl, ℕ, List, [], ◌∷◌, Option, Some, None, IfOk, IfErr, OnOk, OnErr, Result, Ok, Err, option_map, codes, drop, arith}
use Rattle.std.specs.Io.KnownBytes.{Appends, Keeps}
use Rattle.std.specs.Str.{bytes_eq}
use Rattle.std.specs.Prelude.{IsSome}
use Rattle.model.specs.declared.entry.Entry.{Entry}
use Rattle.arguments.specs.declared.run_options.RunOptions.{RunOptions}
use Rattle.clap.specs.Words.{Text, first_of}
use Rattle.program.specs.declared.fault.Stop.{Stop}
use Rattle.program.specs.declared.running.LeftByRun.{LeftByRun}
use Rattle.arguments.specs.declared.request.NoRequest.{NoRequest}
use Rattle.arguments.specs.declared.request.NoRequest.TheVariants as no_request
use Rattle.arguments.specs.declared.request.Request.{Request}
use Rattle.arguments.specs.declared.request.Request.TheVariants as request
use Rattle.arguments.specs.declared.request.RunRequest.{RunRequest}
use Rattle.arguments.proofs.SecondWord.{unlike}
use Rattle.arguments.specs.declared.request.RacesRequest.{RacesRequest}
use Rattle.arguments.specs.declared.request.WavesRequest.{WavesRequest}
use Rattle.arguments.specs.declared.request.DiffRequest.{DiffRequest}
use Rattle.arguments.specs.declared.search_options.SearchOptions.{SearchOptions}
use Rattle.program.specs.declared.finding.SearchFinding.{SearchFinding}
use Rattle.program.specs.declared.fault.CommandFault.{CommandFault}
use Rattle.program.specs.declared.fault.CommandFault.TheVariants as faults
use Rattle.program.specs.declared.racing.ToldRaces.{ToldRaces}
use Rattle.program.specs.Findings.{journals_of}
use Rattle.design.specs.Compiled.{Compiled}
use Rattle.arguments.specs.Options.{CanRun, CanSearch}
use Rattle.program.specs.declared.ending.Ending.{Ending}
use Rattle.program.specs.declared.ending.Ending.TheVariants as ending
use Rattle.program.specs.declared.finding.SearchFinding.TheVariants as finding
use Rattle.program.specs.Program.{IsNoRequestStatus, compared_ending, ended_status, finding_status, help_text, right_text, status_of, stop_of, stop_status, version_text}
use Rattle.program.specs.Printed.{AsksCheckOf, HasBegun, HasEnded, HasLeft, HasPrintedBy, HasRefused, HasRefusedDesign, HasRun, HasRunTo, HasSavedSome, HasSearched, HasChecked, HasDumped, HasCompared, HasComparedFiles, HasExplainedPart, HasSearchedBy, HasSearchedTo, HasShown, HasWaves, HaveDiffered, IsDone, IsLeft, IsLeftByRun, IsRight, IsUnprinted, IsWrong, begun, checked, compared, helped, interrupted, ran, searched, untouched, versioned, waves_begun}
use Rattle.program.specs.Observed.{HasBegunWaves, HasLeftWaves, HasObserved, HasObservedTo}
use Rattle.program.specs.Subjects.{AreLeft, Sources}
use Rattle.locations.specs.declared.location.ProcessLocation.{ProcessLocation}
use Rattle.arguments.specs.VerilogWords.{AskWhole}
use Rattle.arguments.specs.declared.verilog_words.DesignWords.{DesignWords}
use Rattle.arguments.specs.Observing.{IsObserved}
use Rattle.arguments.specs.declared.observed.Observed.TheVariants.{Lines}
use Rattle.program.specs.StandardError.{HasExplainedTold, HasNamedNoRegister, IsEndTold, IsReported, IsUnfinished, IsWanting, nothing, of_fault, of_name, of_source, of_stop, of_words}
use Rattle.program.specs.declared.register_option.RegisterOption.{RegisterOption}
use Rattle.program.specs.declared.register_option.RegisterOption.TheVariants as options
use Rattle.program.specs.RegisterOptions.{naming_option, word_of_option}
use Rattle.program.specs.ProgramLines.{no_register_line}
use Rattle.telling.specs.FaultLines.{Tells}
use Rattle.program.proofs.Statuses.{not_of_fault, not_of_stop}
use Rattle.journal.specs.declared.counted.Counted.{Counted}
use Rattle.files.specs.Saved.{AddsFile, IsOpened, SavesAllWhereAsked, KeepsFiles, KeepsHeld, MadeFile, SavesSomeWhereAsked, SavesWhereAsked}
use Rattle.arguments.specs.CommandWords.{AreWrong, Asks, Begins, AsksDiff, AsksRaces, AsksRun, AsksWaves, IsNoRequest, search_options_of, options_of, races_rows, run_rows}

-- files

pub kept : (files : Option (List MadeFile)) → KeepsFiles files files
kept None = tt
kept (Some fs) = refl

-- what files hold stays known
pub held_on : (a b : Option (List ℕ → List ℕ)) (path : List ℕ) (left : Option (List ℕ)) → KeepsHeld a b → IsOpened b path left → IsOpened a path left
held_on None b path left h k = tt
held_on (Some holds) b path left h k = subst (λ (o : Option (List ℕ → List ℕ)). IsOpened o path left) h k

pub kept_on : (a b c : Option (List MadeFile)) → KeepsFiles a b → KeepsFiles b c → KeepsFiles a c
kept_on None b c h k = tt
kept_on (Some fs) b c h k = subst (λ (o : Option (List MadeFile)). KeepsFiles o c) h k

pub added_on : (a b c : Option (List MadeFile)) (file : MadeFile) → KeepsFiles a b → AddsFile b c file → AddsFile a c file
added_on None b c file h k = tt
added_on (Some fs) b c file h k = subst (λ (o : Option (List MadeFile)). AddsFile o c file) h k

pub saved_on : (a b c : Option (List MadeFile)) (path : Option (List ℕ)) (entries : List Entry) → KeepsFiles a b
    → SavesWhereAsked b c path entries → SavesWhereAsked a c path entries
saved_on a b c None entries h k = kept_on a b c h k
saved_on a b c (Some p) entries h k = added_on a b c _ h k

-- what was printed and saved is what the run left
pub printed_by : (from : Sources) (file : List ℕ) (seed : Option ℕ) (options : RunOptions) (path : Option (List ℕ)) (old new : Option (List ℕ)) (files files' : Option (List MadeFile)) (left : LeftByRun) (told : Option Stop)
    → IsLeftByRun from file seed options left → Appends old new (string_bytes left.lines) → SavesWhereAsked files files' path left.journal.items → told ≡ stop_of left.end
    → HasPrintedBy from file seed options path old new files files' told
printed_by from file None options path old new files files' left told made lines saved end = record {
  closed = made.closed;
  is_run = made.is_run;
  lines = subst (λ (text : List ℕ). Appends old new text) made.lines lines;
  saved = subst (λ (entries : List Entry). SavesWhereAsked files files' path entries) made.journal saved;
  end = end ∙ ap stop_of made.end;
}
printed_by from file (Some seed) options path old new files files' left told made lines saved end = record {
  run = made.run;
  is_run = made.is_run;
  lines = subst (λ (text : List ℕ). Appends old new text) made.lines lines;
  saved = subst (λ (entries : List Entry). SavesWhereAsked files files' path entries) made.journal saved;
  end = end ∙ ap stop_of made.end;
}

pub all_saved_on : (a b c : Option (List MadeFile)) (prefix : Option (List ℕ)) (journals : List (List Entry)) → KeepsFiles a b
    → SavesAllWhereAsked b c prefix journals → SavesAllWhereAsked a c prefix journals
all_saved_on a b c None journals h k = kept_on a b c h k
all_saved_on None b c (Some p) journals h k = tt
all_saved_on (Some fs) b c (Some p) journals h k = subst (λ (o : Option (List MadeFile)). SavesAllWhereAsked o c (Some p) journals) h k

-- requests

pub run_of_words : (from : Sources) (words : List Text) (run : RunRequest) (old new : Option (List ℕ)) (files files' : Option (List MadeFile)) (told : Option Stop)
    → AsksRun words run → HasPrintedBy from run.file.now run.seed run.options (option_map (λ path. path.now) run.journal) old new files files' told
    → HasRun from words old new files files' told
run_of_words from words run old new files files' told asks h = record {
  begins = asks.begins;
  can_run = subst CanRun asks.is_run.options asks.is_run.in_range;
  file = run.file.now;
  is_file = asks.is_run.file;
  printed = subst (λ (seed : Option ℕ). HasPrintedBy from run.file.now seed (options_of (run_rows (drop 1 words))) (first_of (codes "journal") (run_rows (drop 1 words))) old new files files' told) asks.is_run.seed
      (subst (λ (path : Option (List ℕ)). HasPrintedBy from run.file.now run.seed (options_of (run_rows (drop 1 words))) path old new files files' told) (sym asks.is_run.journal)
      (subst (λ (options : RunOptions). HasPrintedBy from run.file.now run.seed options (option_map (λ path. path.now) run.journal) old new files files' told) asks.is_run.options h));
}

pub search_of_words : (from : Sources) (words : List Text) (races : RacesRequest) (old new : Option (List ℕ)) (files files' : Option (List MadeFile)) (found : SearchFinding)
    → AsksRaces words races → races.observed ≡ Lines → HasShown from races.file.now races.search_options (option_map (λ path. path.now) races.journals) old new files files' found
    → HasSearched from words old new files files' found
search_of_words from words races old new files files' found asks lines h = inl (record {
  begins = asks.begins;
  can_search = subst CanSearch asks.is_races.search_options asks.is_races.in_range;
  file = races.file.now;
  is_file = asks.is_races.file;
  observed = subst (IsObserved (first_of (codes "observe") (races_rows (drop 1 words)))) lines asks.is_races.observed;
  shown = subst (λ (path : Option (List ℕ)). HasShown from races.file.now (search_options_of (races_rows (drop 1 words))) path old new files files' found) (sym asks.is_races.journals)
      (subst (λ (search_options : SearchOptions). HasShown from races.file.now search_options (option_map (λ path. path.now) races.journals) old new files files' found) asks.is_races.search_options h);
})

-- a search for waves ended so
pub waves_of_words : (from : Sources) (words : List Text) (races : RacesRequest) (old new : Option (List ℕ)) (files files' : Option (List MadeFile)) (e : Ending)
    → AsksRaces words races → HasObserved from races.file.now races.observed races.search_options (option_map (λ path. path.now) races.journals) old new files files' e
    → HasSearchedBy from words old new files files' e
waves_of_words from words races old new files files' e asks h = record {
  begins = asks.begins;
  can_search = subst CanSearch asks.is_races.search_options asks.is_races.in_range;
  file = races.file.now;
  is_file = asks.is_races.file;
  asked = races.observed;
  observed = asks.is_races.observed;
  has_observed = subst (λ (path : Option (List ℕ)). HasObserved from races.file.now races.observed (search_options_of (races_rows (drop 1 words))) path old new files files' e) (sym asks.is_races.journals)
      (subst (λ (search_options : SearchOptions). HasObserved from races.file.now races.observed search_options (option_map (λ path. path.now) races.journals) old new files files' e) asks.is_races.search_options h);
}

-- words that begin so don't ask for a check
pub no_check : (words : List Text) (command : Text) → bytes_eq command (codes "check") ≡ false → Begins words command → Begins words (codes "check") → ⊥
no_check words command apart begins check = unlike command (codes "check") apart (sym begins ∙ check)

-- a whole design is refused, as a command ends
pub design_refused : (from : Sources) (words : List Text) (old new : Option (List ℕ)) (files files' : Option (List MadeFile)) → (Begins words (codes "check") → ⊥) → IsSome from.words × Keeps old new × KeepsFiles files files'
    → HasRefusedDesign from words old new files files'
design_refused from words old new files files' other (whole, keeps, saves) = record { other = other; whole = whole; unprinted = keeps; unsaved = saves }

-- a search for waves ends as that of a command
waves_ended : (from : Sources) (words : List Text) (races : RacesRequest) (old new : Option (List ℕ)) (files files' : Option (List MadeFile)) (e : Ending) → AsksRaces words races
    → HasObservedTo from races.file.now races.observed races.search_options (option_map (λ path. path.now) races.journals) old new files files' e → HasEnded from words old new files files' e
waves_ended from words races old new files files' ending.Done asks h = absurd h.is_ending
waves_ended from words races old new files files' (ending.Stopped s) asks h = absurd h.is_ending
waves_ended from words races old new files files' (ending.Found f) asks h = inr (waves_of_words from words races old new files files' (ending.Found f) asks h)
waves_ended from words races old new files files' (ending.Wrong text) asks h = inr (design_refused from words old new files files' (no_check words (codes "races") refl asks.begins) h)
waves_ended from words races old new files files' (ending.NoRegister name) asks h = inl (waves_of_words from words races old new files files' (ending.NoRegister name) asks h)
waves_ended from words races old new files files' ending.Differ asks h = absurd h.is_ending

pub waves_performed_by : (from : Sources) (words : List Text) (races : RacesRequest) (old new : Option (List ℕ)) (files files' : Option (List MadeFile)) (r : Result Ending CommandFault)
    → AsksRaces words races → IfOk r (HasObservedTo from races.file.now races.observed races.search_options (option_map (λ path. path.now) races.journals) old new files files')
    → IfOk r (HasEnded from words old new files files')
waves_performed_by from words races old new files files' (Ok e) asks h = waves_ended from words races old new files files' e asks h
waves_performed_by from words races old new files files' (Err f) asks h = tt

pub some_saved_on : (a b c : Option (List MadeFile)) (prefix : Option (List ℕ)) (journals : List (List Entry)) → KeepsFiles a b
    → SavesSomeWhereAsked b c prefix journals → SavesSomeWhereAsked a c prefix journals
some_saved_on a b c None journals h k = kept_on a b c h k
some_saved_on None b c (Some p) journals h (count, k) = (count, tt)
some_saved_on (Some fs) b c (Some p) journals h k = subst (λ (o : Option (List MadeFile)). SavesSomeWhereAsked o c (Some p) journals) h k

-- what a search left behind its races, where the files were the same before it
more_on : (processes : List ProcessLocation) (source : List ℕ) (design : Compiled) (search_options : SearchOptions) (prefix : Option (List ℕ)) (early : ToldRaces) (first : List ℕ) (old new : Option (List ℕ)) (a b c : Option (List MadeFile)) → KeepsFiles a b
    → (Appends old new first × SavesSomeWhereAsked b c prefix (journals_of early.known.items None)) ⊎ HasSavedSome processes source design search_options prefix early first old new b c
    → (Appends old new first × SavesSomeWhereAsked a c prefix (journals_of early.known.items None)) ⊎ HasSavedSome processes source design search_options prefix early first old new a c
more_on processes source design search_options prefix early first old new a b c h (inl (p, s)) = inl (p, some_saved_on a b c prefix (journals_of early.known.items None) h s)
more_on processes source design search_options prefix early first old new a b c h (inr m) = inr (record {
  last = m.last;
  has_found = m.has_found;
  printed = m.printed;
  saved = some_saved_on a b c prefix (journals_of m.has_found.shown m.has_found.endless) h m.saved;
})

-- what a search left, where the files were the same before it
left_on : (from : Sources) (file : List ℕ) (search_options : SearchOptions) (prefix : Option (List ℕ)) (old new : Option (List ℕ)) (a b c : Option (List MadeFile)) → KeepsFiles a b
    → HasLeft from file search_options prefix old new b c → HasLeft from file search_options prefix old new a c
left_on from file search_options prefix old new a b c h (inl (k, s)) = inl (k, kept_on a b c h s)
left_on from file search_options prefix old new a b c h (inr begins) = inr (record {
  subject = begins.subject;
  is_subject = begins.is_subject;
  early = begins.early;
  first = begins.first;
  is_first = begins.is_first;
  left = more_on begins.subject.processes.items begins.subject.source.items begins.subject.design search_options prefix begins.early begins.first old new a b c h begins.left;
})

pub search_left_on : (from : Sources) (file : List ℕ) (search_options : SearchOptions) (prefix : Option (List ℕ)) (old new : Option (List ℕ)) (a b c : Option (List MadeFile)) (r : Result SearchFinding CommandFault) → KeepsFiles a b
    → IfErr r (λ f. status_of f ≡ 6 → HasLeft from file search_options prefix old new b c) → IfErr r (λ f. status_of f ≡ 6 → HasLeft from file search_options prefix old new a c)
search_left_on from file search_options prefix old new a b c (Ok found) h k = tt
search_left_on from file search_options prefix old new a b c (Err f) h k = λ six. left_on from file search_options prefix old new a b c h (k six)

-- what a search shows, where the files were the same before it
pub shown_on : (from : Sources) (file : List ℕ) (search_options : SearchOptions) (prefix : Option (List ℕ)) (old new : Option (List ℕ)) (a b c : Option (List MadeFile)) (r : Result SearchFinding CommandFault) → KeepsFiles a b
    → IfOk r (HasShown from file search_options prefix old new b c) → IfOk r (HasShown from file search_options prefix old new a c)
shown_on from file search_options prefix old new a b c (Ok found) h k = record {
  subject = k.subject;
  is_subject = k.is_subject;
  early = k.early;
  first = k.first;
  is_first = k.is_first;
  last = k.last;
  has_found = k.has_found;
  printed = k.printed;
  saved = all_saved_on a b c prefix (journals_of k.has_found.shown k.has_found.endless) h k.saved;
  finding = k.finding;
}
shown_on from file search_options prefix old new a b c (Err fault) h k = tt

-- faults of output and of memory are none of a source
pub output_kept : {T : Type 0} (K : Type 0) (r : Result T CommandFault) → IfErr r (λ f. (status_of f ≡ 1) ⊎ (status_of f ≡ 6))
    → IfErr r (λ f. (status_of f ≡ 3) ⊎ (status_of f ≡ 5) → K)
output_kept K (Ok found) h = tt
output_kept K (Err fault) h = λ e. absurd (neither (status_of fault) h e)
  where
    neither : (n : ℕ) → (n ≡ 1) ⊎ (n ≡ 6) → (n ≡ 3) ⊎ (n ≡ 5) → ⊥
    neither n (inl a) (inl b) = absurd (omega (arith, a, b))
    neither n (inl a) (inr b) = absurd (omega (arith, a, b))
    neither n (inr a) (inl b) = absurd (omega (arith, a, b))
    neither n (inr a) (inr b) = absurd (omega (arith, a, b))

-- refusals

pub refused_done : (from : Sources) (words : List Text) (r : NoRequest) (n : ℕ) (old new : Option (List ℕ)) (files : Option (List MadeFile)) → IsNoRequest words r
    → IsNoRequestStatus r n → (n ≡ 0 → Appends old new (help_text r)) → n ≡ 0 → IsDone from words old new files files
refused_done from words (no_request.Help text) n old new files is status shown e = helped is (help_text (no_request.Help text)) (shown e) (kept files)
refused_done from words (no_request.Usage text) n old new files is status shown e = absurd (clash (sym status ∙ e))
  where
    clash : ◌≡◌ {A = ℕ} 2 0 → ⊥
    clash q = cc
refused_done from words no_request.Memory n old new files is status shown e = absurd (clash (sym status ∙ e))
  where
    clash : ◌≡◌ {A = ℕ} 6 0 → ⊥
    clash q = cc

pub refused_wrong : (words : List Text) (r : NoRequest) (n : ℕ) → IsNoRequest words r → IsNoRequestStatus r n → n ≡ 2 → AreWrong words
refused_wrong words (no_request.Help text) n is (inl status) e = absurd (clash (sym status ∙ e))
  where
    clash : ◌≡◌ {A = ℕ} 0 2 → ⊥
    clash q = cc
refused_wrong words (no_request.Help text) n is (inr status) e = absurd (clash (sym status ∙ e))
  where
    clash : ◌≡◌ {A = ℕ} 1 2 → ⊥
    clash q = cc
refused_wrong words (no_request.Usage text) n is status e = is
refused_wrong words no_request.Memory n is status e = absurd (clash (sym status ∙ e))
  where
    clash : ◌≡◌ {A = ℕ} 6 2 → ⊥
    clash q = cc

-- what a status tells of how a command ended

pub done_by_status : (from : Sources) (words : List Text) (old new : Option (List ℕ)) (files files' : Option (List MadeFile)) (ended : Result Ending CommandFault)
    → IfOk ended (HasEnded from words old new files files') → ended_status ended ≡ 0 → IsDone from words old new files files'
done_by_status from words old new files files' (Ok ending.Done) h e = h
done_by_status from words old new files files' (Ok (ending.Stopped s)) h e = absurd (not_of_stop s 0 refl e)
done_by_status from words old new files files' (Ok (ending.Found finding.One)) h e = searched h
done_by_status from words old new files files' (Ok (ending.Found finding.Unfinished)) h e = cc
done_by_status from words old new files files' (Ok (ending.Found finding.Memory)) h e = cc
done_by_status from words old new files files' (Ok (ending.Found finding.Several)) h e = cc
done_by_status from words old new files files' (Ok (ending.Wrong text)) h e = cc
done_by_status from words old new files files' (Ok (ending.NoRegister name)) h e = cc
done_by_status from words old new files files' (Ok ending.Differ) h e = cc
done_by_status from words old new files files' (Err f) h e = absurd (not_of_fault f 0 refl e)

-- the option that names registers is that of the command which the words ask for

option_of_races : (words : List Text) (r : Request) → Asks words r → Begins words (codes "races") → naming_option r ≡ options.Observe
option_of_races words (request.Run run) asks begins = refl
option_of_races words (request.Replay replay) asks begins = refl
option_of_races words (request.Races races) asks begins = refl
option_of_races words (request.Check check) asks begins = refl
option_of_races words (request.Explain explain) asks begins = absurd (unlike (codes "explain") (codes "races") refl (sym asks.begins ∙ begins))
option_of_races words (request.Waves waves) asks begins = refl
option_of_races words (request.Diff diff) asks begins = refl
option_of_races words (request.Flatten flatten) asks begins = refl
option_of_races words request.Version asks begins = refl

option_of_explain : (words : List Text) (r : Request) → Asks words r → Begins words (codes "explain") → naming_option r ≡ options.Registers
option_of_explain words (request.Run run) asks begins = absurd (unlike (codes "run") (codes "explain") refl (sym asks.begins ∙ begins))
option_of_explain words (request.Replay replay) asks begins = absurd (unlike (codes "replay") (codes "explain") refl (sym asks.begins ∙ begins))
option_of_explain words (request.Races races) asks begins = absurd (unlike (codes "races") (codes "explain") refl (sym asks.begins ∙ begins))
option_of_explain words (request.Check check) asks begins = absurd (unlike (codes "check") (codes "explain") refl (sym asks.begins ∙ begins))
option_of_explain words (request.Explain explain) asks begins = refl
option_of_explain words (request.Waves waves) asks begins = absurd (unlike (codes "waves") (codes "explain") refl (sym asks.begins ∙ begins))
option_of_explain words (request.Diff diff) asks begins = absurd (unlike (codes "diff") (codes "explain") refl (sym asks.begins ∙ begins))
option_of_explain words (request.Flatten flatten) asks begins = absurd (unlike (codes "flatten") (codes "explain") refl (sym asks.begins ∙ begins))
option_of_explain words request.Version asks begins = absurd (unlike (codes "--version") (codes "explain") refl (sym asks ∙ begins))

-- the line of a name, told with one option, is that with the other where the two are the same
told_with : {E : Type 0} (contents : E → Option (List ℕ)) (err err' : Counted E) (name : List ℕ) (one other : RegisterOption) → one ≡ other → Tells contents err err' (no_register_line one name) → Tells contents err err' (no_register_line other name)
told_with contents err err' name one other same told = subst (λ (o : RegisterOption). Tells contents err err' (no_register_line o name)) same told

-- a name that no register has is the only end with that status
pub unnamed_by_status : {E : Type 0} (from : Sources) (words : List Text) (old new : Option (List ℕ)) (files files' : Option (List MadeFile)) (contents : E → Option (List ℕ))
    (err err' : Counted E) (option : RegisterOption) (r : Request) (ended : Result Ending CommandFault)
    → Asks words r → option ≡ naming_option r → IfOk ended (HasEnded from words old new files files') → IsEndTold contents err err' option ended → ended_status ended ≡ 2
    → HasNamedNoRegister from words old new files files' contents err err'
unnamed_by_status from words old new files files' contents err err' option r (Ok ending.Done) asks is h t e = cc
unnamed_by_status from words old new files files' contents err err' option r (Ok (ending.Stopped s)) asks is h t e = absurd (not_of_stop s 2 refl e)
unnamed_by_status from words old new files files' contents err err' option r (Ok (ending.Found finding.One)) asks is h t e = cc
unnamed_by_status from words old new files files' contents err err' option r (Ok (ending.Found finding.Unfinished)) asks is h t e = cc
unnamed_by_status from words old new files files' contents err err' option r (Ok (ending.Found finding.Memory)) asks is h t e = cc
unnamed_by_status from words old new files files' contents err err' option r (Ok (ending.Found finding.Several)) asks is h t e = cc
unnamed_by_status from words old new files files' contents err err' option r (Ok (ending.Wrong text)) asks is h t e = cc
unnamed_by_status from words old new files files' contents err err' option r (Ok (ending.NoRegister name)) asks is (inl h) t e = record {
  name = string_bytes name;
  option = options.Observe;
  asked = (ending.NoRegister name, refl, h);
  told = told_with contents err err' (string_bytes name) option options.Observe (is ∙ option_of_races words r asks h.begins) t;
}
unnamed_by_status from words old new files files' contents err err' option r (Ok (ending.NoRegister name)) asks is (inr h) t e = record {
  name = string_bytes name;
  option = options.Registers;
  asked = h;
  told = told_with contents err err' (string_bytes name) option options.Registers (is ∙ option_of_explain words r asks h.begins) t;
}
unnamed_by_status from words old new files files' contents err err' option r (Ok ending.Differ) asks is h t e = cc
unnamed_by_status from words old new files files' contents err err' option r (Err f) asks is h t e = absurd (not_of_fault f 2 refl e)

pub refused_by_status : (from : Sources) (words : List Text) (old new : Option (List ℕ)) (files files' : Option (List MadeFile)) (ended : Result Ending CommandFault)
    → IfOk ended (HasEnded from words old new files files') → Begins words (codes "check") → IfErr ended (λ f. (status_of f ≡ 1) ⊎ (status_of f ≡ 6)) → ended_status ended ≡ 3
    → HasRefused from words old new files files'
refused_by_status from words old new files files' (Ok ending.Done) h begins k e = cc
refused_by_status from words old new files files' (Ok (ending.Stopped s)) h begins k e = absurd (not_of_stop s 3 refl e)
refused_by_status from words old new files files' (Ok (ending.Found finding.One)) h begins k e = cc
refused_by_status from words old new files files' (Ok (ending.Found finding.Unfinished)) h begins k e = cc
refused_by_status from words old new files files' (Ok (ending.Found finding.Memory)) h begins k e = cc
refused_by_status from words old new files files' (Ok (ending.Found finding.Several)) h begins k e = cc
refused_by_status from words old new files files' (Ok (ending.Wrong text)) (inl h) begins k e = h
refused_by_status from words old new files files' (Ok (ending.Wrong text)) (inr h) begins k e = absurd (h.other begins)
refused_by_status from words old new files files' (Ok (ending.NoRegister name)) h begins k e = cc
refused_by_status from words old new files files' (Ok ending.Differ) h begins k e = cc
refused_by_status from words old new files files' (Err f) h begins (inl one) e = absurd (omega (arith, one, e))
refused_by_status from words old new files files' (Err f) h begins (inr six) e = absurd (omega (arith, six, e))

pub faulty_by_status : {E : Type 0} (from : Sources) (words : List Text) (old new : Option (List ℕ)) (contents : E → Option (List ℕ)) (err err' : Counted E) (option : RegisterOption) (ended : Result Ending CommandFault)
    → IfErr ended (λ f. status_of f ≡ 5 → HasExplainedPart from words old new f) → IsEndTold contents err err' option ended → ended_status ended ≡ 5
    → HasExplainedTold from words old new contents err err'
faulty_by_status from words old new contents err err' option (Ok ending.Done) h t e = cc
faulty_by_status from words old new contents err err' option (Ok (ending.Stopped s)) h t e = absurd (not_of_stop s 5 refl e)
faulty_by_status from words old new contents err err' option (Ok (ending.Found finding.One)) h t e = cc
faulty_by_status from words old new contents err err' option (Ok (ending.Found finding.Unfinished)) h t e = cc
faulty_by_status from words old new contents err err' option (Ok (ending.Found finding.Memory)) h t e = cc
faulty_by_status from words old new contents err err' option (Ok (ending.Found finding.Several)) h t e = cc
faulty_by_status from words old new contents err err' option (Ok (ending.Wrong text)) h t e = cc
faulty_by_status from words old new contents err err' option (Ok (ending.NoRegister name)) h t e = cc
faulty_by_status from words old new contents err err' option (Ok ending.Differ) h t e = cc
faulty_by_status from words old new contents err err' option (Err f) h t e = record { fault = f; explained = h e; told = t }

pub stopped_by_status : {E : Type 0} (from : Sources) (words : List Text) (old new : Option (List ℕ)) (files files' : Option (List MadeFile)) (contents : E → Option (List ℕ))
    (err err' : Counted E) (option : RegisterOption) (ended : Result Ending CommandFault) → IfOk ended (HasEnded from words old new files files') → IsEndTold contents err err' option ended
    → ended_status ended ≡ 4 → IsUnfinished from words old new files files' contents err err'
stopped_by_status from words old new files files' contents err err' option (Ok ending.Done) h t e = cc
stopped_by_status from words old new files files' contents err err' option (Ok (ending.Stopped s)) h t e = inl (record { stop = s; status_is = e; has_run = h; told = t })
stopped_by_status from words old new files files' contents err err' option (Ok (ending.Found finding.One)) h t e = cc
stopped_by_status from words old new files files' contents err err' option (Ok (ending.Found finding.Unfinished)) h t e = inr (h, t)
stopped_by_status from words old new files files' contents err err' option (Ok (ending.Found finding.Memory)) h t e = cc
stopped_by_status from words old new files files' contents err err' option (Ok (ending.Found finding.Several)) h t e = cc
stopped_by_status from words old new files files' contents err err' option (Ok (ending.Wrong text)) h t e = cc
stopped_by_status from words old new files files' contents err err' option (Ok (ending.NoRegister name)) h t e = cc
stopped_by_status from words old new files files' contents err err' option (Ok ending.Differ) h t e = cc
stopped_by_status from words old new files files' contents err err' option (Err f) h t e = absurd (not_of_fault f 4 refl e)

pub wanting_by_status : {E : Type 0} (from : Sources) (words : List Text) (old new : Option (List ℕ)) (files files' : Option (List MadeFile)) (contents : E → Option (List ℕ))
    (err err' : Counted E) (option : RegisterOption) (ended : Result Ending CommandFault) → IfOk ended (HasEnded from words old new files files') → IfErr ended (λ f. status_of f ≡ 6 → IsLeft from words old new files files')
    → IsEndTold contents err err' option ended → ended_status ended ≡ 6 → IsWanting from words old new files files' contents err err'
wanting_by_status from words old new files files' contents err err' option (Ok ending.Done) h k t e = cc
wanting_by_status from words old new files files' contents err err' option (Ok (ending.Stopped s)) h k t e = inl (inl (record { stop = s; status_is = e; has_run = h; told = t }))
wanting_by_status from words old new files files' contents err err' option (Ok (ending.Found finding.One)) h k t e = cc
wanting_by_status from words old new files files' contents err err' option (Ok (ending.Found finding.Unfinished)) h k t e = cc
wanting_by_status from words old new files files' contents err err' option (Ok (ending.Found finding.Memory)) h k t e = inl (inr (record { has_searched = h; told = t }))
wanting_by_status from words old new files files' contents err err' option (Ok (ending.Found finding.Several)) h k t e = cc
wanting_by_status from words old new files files' contents err err' option (Ok (ending.Wrong text)) h k t e = cc
wanting_by_status from words old new files files' contents err err' option (Ok (ending.NoRegister name)) h k t e = cc
wanting_by_status from words old new files files' contents err err' option (Ok ending.Differ) h k t e = cc
wanting_by_status from words old new files files' contents err err' option (Err f) h k t e = inr (k e)

-- the only ends with that status
is_several : (ended : Result Ending CommandFault) → ended_status ended ≡ 7 → (ended ≡ Ok (ending.Found finding.Several)) ⊎ (ended ≡ Ok ending.Differ)
is_several (Ok ending.Done) e = cc
is_several (Ok (ending.Stopped s)) e = absurd (not_of_stop s 7 refl e)
is_several (Ok (ending.Found finding.One)) e = cc
is_several (Ok (ending.Found finding.Unfinished)) e = cc
is_several (Ok (ending.Found finding.Memory)) e = cc
is_several (Ok (ending.Found finding.Several)) e = inl refl
is_several (Ok (ending.Wrong text)) e = cc
is_several (Ok (ending.NoRegister name)) e = cc
is_several (Ok ending.Differ) e = inr refl
is_several (Err f) e = absurd (not_of_fault f 7 refl e)

pub several_by_status : (from : Sources) (words : List Text) (old new : Option (List ℕ)) (files files' : Option (List MadeFile)) (ended : Result Ending CommandFault)
    → IfOk ended (HasEnded from words old new files files') → ended_status ended ≡ 7 → HaveDiffered from words old new files files'
several_by_status from words old new files files' ended h e = elim (is_several ended e) [
  | inl is ↦ inl (subst (λ (r : Result Ending CommandFault). IfOk r (HasEnded from words old new files files')) is h)
  | inr is ↦ inr (subst (λ (r : Result Ending CommandFault). IfOk r (HasEnded from words old new files files')) is h)
]

-- statuses 2, 3 and 5
abbrev pub IsSourceStatus : ℕ → Type 0
IsSourceStatus n = (n ≡ 2) ⊎ ((n ≡ 3) ⊎ (n ≡ 5))

no_stop : (s : Stop) → IsSourceStatus (stop_status s) → ⊥
no_stop s (inl e) = not_of_stop s 2 refl e
no_stop s (inr (inl e)) = not_of_stop s 3 refl e
no_stop s (inr (inr e)) = not_of_stop s 5 refl e

no_finding : (found : SearchFinding) → IsSourceStatus (finding_status found) → ⊥
no_finding finding.One (inl e) = cc
no_finding finding.One (inr (inl e)) = cc
no_finding finding.One (inr (inr e)) = cc
no_finding finding.Unfinished (inl e) = cc
no_finding finding.Unfinished (inr (inl e)) = cc
no_finding finding.Unfinished (inr (inr e)) = cc
no_finding finding.Memory (inl e) = cc
no_finding finding.Memory (inr (inl e)) = cc
no_finding finding.Memory (inr (inr e)) = cc
no_finding finding.Several (inl e) = cc
no_finding finding.Several (inr (inl e)) = cc
no_finding finding.Several (inr (inr e)) = cc

no_zero : ◌≡◌ {A = ℕ} 0 2 ⊎ (◌≡◌ {A = ℕ} 0 3 ⊎ ◌≡◌ {A = ℕ} 0 5) → ⊥
no_zero (inl e) = cc
no_zero (inr (inl e)) = cc
no_zero (inr (inr e)) = cc

no_seven : ◌≡◌ {A = ℕ} 7 2 ⊎ (◌≡◌ {A = ℕ} 7 3 ⊎ ◌≡◌ {A = ℕ} 7 5) → ⊥
no_seven (inl e) = cc
no_seven (inr (inl e)) = cc
no_seven (inr (inr e)) = cc

not_one : (n : ℕ) → (n ≡ 3) ⊎ (n ≡ 5) → n ≢ 1
not_one n (inl e) one = omega (arith, e, one)
not_one n (inr e) one = omega (arith, e, one)

of_source_or_journal : (f : CommandFault) → IsSourceStatus (status_of f) → (status_of f ≡ 3) ⊎ (status_of f ≡ 5)
of_source_or_journal f (inl e) = absurd (not_of_fault f 2 refl e)
of_source_or_journal f (inr h) = h

pub source_status : (words : List Text) (n : ℕ) → IsUnprinted words n → IsSourceStatus n
source_status words n (inl e) = inl e
source_status words n (inr (inl e)) = inr (inl e)
source_status words n (inr (inr (e, other))) = inr (inr e)

pub nothing_by_status : (from : Sources) (words : List Text) (old new : Option (List ℕ)) (files files' : Option (List MadeFile)) (ended : Result Ending CommandFault)
    → IfOk ended (HasEnded from words old new files files') → IfErr ended (λ f. IsUnprinted words (status_of f) → Keeps old new)
    → IsUnprinted words (ended_status ended) → Keeps old new
nothing_by_status from words old new files files' (Ok ending.Done) h k e = absurd (no_zero (source_status words 0 e))
nothing_by_status from words old new files files' (Ok (ending.Stopped s)) h k e = absurd (no_stop s (source_status words (stop_status s) e))
nothing_by_status from words old new files files' (Ok (ending.Found found)) h k e = absurd (no_finding found (source_status words (finding_status found) e))
nothing_by_status from words old new files files' (Ok (ending.Wrong text)) (inl h) k e = h.unprinted
nothing_by_status from words old new files files' (Ok (ending.Wrong text)) (inr h) k e = h.unprinted
nothing_by_status from words old new files files' (Ok (ending.NoRegister name)) (inl h) k e = h.has_observed.is_ending.1
nothing_by_status from words old new files files' (Ok (ending.NoRegister name)) (inr h) k e = h.unprinted
nothing_by_status from words old new files files' (Ok ending.Differ) h k e = absurd (no_seven (source_status words 7 e))
nothing_by_status from words old new files files' (Err f) h k e = k e

pub unsaved_by_status : (from : Sources) (words : List Text) (old new : Option (List ℕ)) (files files' : Option (List MadeFile)) (ended : Result Ending CommandFault)
    → IfOk ended (HasEnded from words old new files files') → IfErr ended (λ f. (status_of f ≡ 3) ⊎ (status_of f ≡ 5) → KeepsFiles files files')
    → IsSourceStatus (ended_status ended) → KeepsFiles files files'
unsaved_by_status from words old new files files' (Ok ending.Done) h k e = absurd (no_zero e)
unsaved_by_status from words old new files files' (Ok (ending.Stopped s)) h k e = absurd (no_stop s e)
unsaved_by_status from words old new files files' (Ok (ending.Found found)) h k e = absurd (no_finding found e)
unsaved_by_status from words old new files files' (Ok (ending.Wrong text)) (inl h) k e = h.unsaved
unsaved_by_status from words old new files files' (Ok (ending.Wrong text)) (inr h) k e = h.unsaved
unsaved_by_status from words old new files files' (Ok (ending.NoRegister name)) (inl h) k e = h.has_observed.is_ending.2
unsaved_by_status from words old new files files' (Ok (ending.NoRegister name)) (inr h) k e = h.unsaved
unsaved_by_status from words old new files files' (Ok ending.Differ) h k e = absurd (no_seven e)
unsaved_by_status from words old new files files' (Err f) h k e = k (of_source_or_journal f e)

pub silent_by_status : {E : Type 0} (contents : E → Option (List ℕ)) (err err' : Counted E) (option : RegisterOption) (ended : Result Ending CommandFault) → IsEndTold contents err err' option ended
    → (ended_status ended ≡ 0) ⊎ (ended_status ended ≡ 7) → err' ≡ err
silent_by_status contents err err' option (Ok ending.Done) t e = t
silent_by_status contents err err' option (Ok (ending.Stopped s)) t (inl e) = absurd (not_of_stop s 0 refl e)
silent_by_status contents err err' option (Ok (ending.Stopped s)) t (inr e) = absurd (not_of_stop s 7 refl e)
silent_by_status contents err err' option (Ok (ending.Found finding.One)) t e = t
silent_by_status contents err err' option (Ok (ending.Found finding.Unfinished)) t e = t
silent_by_status contents err err' option (Ok (ending.Found finding.Memory)) t (inl e) = cc
silent_by_status contents err err' option (Ok (ending.Found finding.Memory)) t (inr e) = cc
silent_by_status contents err err' option (Ok (ending.Found finding.Several)) t e = t
silent_by_status contents err err' option (Ok (ending.Wrong text)) t (inl e) = cc
silent_by_status contents err err' option (Ok (ending.Wrong text)) t (inr e) = cc
silent_by_status contents err err' option (Ok (ending.NoRegister name)) t (inl e) = cc
silent_by_status contents err err' option (Ok (ending.NoRegister name)) t (inr e) = cc
silent_by_status contents err err' option (Ok ending.Differ) t e = t
silent_by_status contents err err' option (Err f) t (inl e) = absurd (not_of_fault f 0 refl e)
silent_by_status contents err err' option (Err f) t (inr e) = absurd (not_of_fault f 7 refl e)

-- a command line begins as what is left of it
pub begins_all : (all words : List Text) (asked : Option DesignWords) (command : Text) → AreLeft all asked words → Begins words command → Begins all command
begins_all all words None command left begins = subst (λ (ws : List Text). Begins ws command) (sym left) begins
begins_all [] words (Some asked) command left begins = absurd left
begins_all (program ∷ []) words (Some asked) command left begins = absurd left
begins_all (program ∷ first ∷ own) words (Some asked) command left begins = subst (λ (ws : List Text). Begins ws command) left.rest_is begins

-- a command line of which something is left asks for a whole design
pub asks_all : (all words : List Text) (asked : Option DesignWords) → AreLeft all asked words → IsSome asked → AskWhole all ≡ true
asks_all all words None left some = cc
asks_all [] words (Some asked) left some = absurd left
asks_all (program ∷ []) words (Some asked) left some = absurd left
asks_all (program ∷ first ∷ own) words (Some asked) left some = left.asks

-- what is reported of what is left is so of the whole line
pub reported_all : {E : Type 0} (contents : E → Option (List ℕ)) (err err' : Counted E) (all words : List Text) (asked : Option DesignWords) (status : ℕ) → AreLeft all asked words → IsReported contents err err' words status → IsReported contents err err' all status
reported_all contents err err' all words None status left is = subst (λ (ws : List Text). IsReported contents err err' ws status) (sym left) is
reported_all contents err err' all words (Some asked) status left (of_fault f e t) = of_fault f e t
reported_all contents err err' all words (Some asked) status left (of_stop s e t) = of_stop s e t
reported_all contents err err' all words (Some asked) status left (of_words h e text t) = of_words (inr (asks_all all words (Some asked) left refl)) e text t
reported_all contents err err' all words (Some asked) status left (of_name option begins e name t) = of_name option (begins_all all words (Some asked) (word_of_option option) left begins) e name t
reported_all contents err err' all words (Some asked) status left (of_source h e text t) = of_source (inr (asks_all all words (Some asked) left refl)) e text t
reported_all contents err err' all words (Some asked) status left (nothing h same) = nothing h same

pub told_by_status : {E : Type 0} (from : Sources) (contents : E → Option (List ℕ)) (err err' : Counted E) (all words : List Text) (old new : Option (List ℕ)) (files files' : Option (List MadeFile)) (option : RegisterOption) (r : Request) (ended : Result Ending CommandFault)
    → AreLeft all from.words words → Asks words r → option ≡ naming_option r → IfOk ended (HasEnded from words old new files files') → IsEndTold contents err err' option ended → IsReported contents err err' all (ended_status ended)
told_by_status from contents err err' all words old new files files' option r (Ok ending.Done) left asks is h t = nothing (inl refl) t
told_by_status from contents err err' all words old new files files' option r (Ok (ending.Stopped s)) left asks is h t = of_stop s refl t
told_by_status from contents err err' all words old new files files' option r (Ok (ending.Found finding.One)) left asks is h t = nothing (inl refl) t
told_by_status from contents err err' all words old new files files' option r (Ok (ending.Found finding.Unfinished)) left asks is h t = nothing (inr (inl refl)) t
told_by_status from contents err err' all words old new files files' option r (Ok (ending.Found finding.Memory)) left asks is h t = of_fault faults.Memory refl t
told_by_status from contents err err' all words old new files files' option r (Ok (ending.Found finding.Several)) left asks is h t = nothing (inr (inr refl)) t
told_by_status from contents err err' all words old new files files' option r (Ok (ending.Wrong text)) left asks is (inl h) t = of_source (inl (begins_all all words from.words (codes "check") left h.begins)) refl (string_bytes text) t
told_by_status from contents err err' all words old new files files' option r (Ok (ending.Wrong text)) left asks is (inr h) t = of_source (inr (asks_all all words from.words left h.whole)) refl (string_bytes text) t
told_by_status from contents err err' all words old new files files' option r (Ok (ending.NoRegister name)) left asks is (inl h) t =
    of_name options.Observe (begins_all all words from.words (codes "races") left h.begins) refl (string_bytes name)
    (told_with contents err err' (string_bytes name) option options.Observe (is ∙ option_of_races words r asks h.begins) t)
told_by_status from contents err err' all words old new files files' option r (Ok (ending.NoRegister name)) left asks is (inr h) t =
    of_name options.Registers (begins_all all words from.words (codes "explain") left h.begins) refl (string_bytes name)
    (told_with contents err err' (string_bytes name) option options.Registers (is ∙ option_of_explain words r asks h.begins) t)
told_by_status from contents err err' all words old new files files' option r (Ok ending.Differ) left asks is h t = nothing (inr (inr refl)) t
told_by_status from contents err err' all words old new files files' option r (Err f) left asks is h t = of_fault f refl t

-- output that nothing was written to
pub output_same : (known : Option (List ℕ)) → Keeps known known
output_same None = tt
output_same (Some xs) = refl

-- requests, performed

run_ended : (from : Sources) (words : List Text) (run : RunRequest) (old new : Option (List ℕ)) (files files' : Option (List MadeFile)) (e : Ending)
    → AsksRun words run → HasRunTo from run.file.now run.seed run.options (option_map (λ path. path.now) run.journal) old new files files' e → HasEnded from words old new files files' e
run_ended from words run old new files files' ending.Done asks h = ran (run_of_words from words run old new files files' None asks h)
run_ended from words run old new files files' (ending.Stopped s) asks h = run_of_words from words run old new files files' (Some s) asks h
run_ended from words run old new files files' (ending.Found found) asks h = absurd h
run_ended from words run old new files files' (ending.Wrong text) asks h = inr (design_refused from words old new files files' (no_check words (codes "run") refl asks.begins) h)
run_ended from words run old new files files' (ending.NoRegister name) asks h = absurd h
run_ended from words run old new files files' ending.Differ asks h = absurd h

search_ended : (from : Sources) (words : List Text) (races : RacesRequest) (old new : Option (List ℕ)) (files files' : Option (List MadeFile)) (e : Ending)
    → AsksRaces words races → races.observed ≡ Lines → HasSearchedTo from races.file.now races.search_options (option_map (λ path. path.now) races.journals) old new files files' e
    → HasEnded from words old new files files' e
search_ended from words races old new files files' ending.Done asks lines h = absurd h
search_ended from words races old new files files' (ending.Stopped s) asks lines h = absurd h
search_ended from words races old new files files' (ending.Found found) asks lines h = search_of_words from words races old new files files' found asks lines h
search_ended from words races old new files files' (ending.Wrong text) asks lines h = inr (design_refused from words old new files files' (no_check words (codes "races") refl asks.begins) h)
search_ended from words races old new files files' (ending.NoRegister name) asks lines h = absurd h
search_ended from words races old new files files' ending.Differ asks lines h = absurd h

pub run_performed : (from : Sources) (words : List Text) (run : RunRequest) (old new : Option (List ℕ)) (files files' : Option (List MadeFile)) (r : Result Ending CommandFault) → AsksRun words run
    → IfOk r (HasRunTo from run.file.now run.seed run.options (option_map (λ path. path.now) run.journal) old new files files') → IfOk r (HasEnded from words old new files files')
run_performed from words run old new files files' (Ok e) asks h = run_ended from words run old new files files' e asks h
run_performed from words run old new files files' (Err f) asks h = tt

pub search_performed : (from : Sources) (words : List Text) (races : RacesRequest) (old new : Option (List ℕ)) (files files' : Option (List MadeFile)) (r : Result Ending CommandFault) → AsksRaces words races → races.observed ≡ Lines
    → IfOk r (HasSearchedTo from races.file.now races.search_options (option_map (λ path. path.now) races.journals) old new files files') → IfOk r (HasEnded from words old new files files')
search_performed from words races old new files files' (Ok e) asks lines h = search_ended from words races old new files files' e asks lines h
search_performed from words races old new files files' (Err f) asks lines h = tt

-- whether an end is that of what is done
abbrev is_done : Ending → Bool
is_done ending.Done = true
is_done (ending.Stopped s) = false
is_done (ending.Found found) = false
is_done (ending.Wrong text) = false
is_done (ending.NoRegister name) = false
is_done ending.Differ = false

not_done : ◌≡◌ {A = Bool} false true → ⊥
not_done e = cc

pub version_performed : (from : Sources) (words : List Text) (old new : Option (List ℕ)) (files : Option (List MadeFile)) (r : Result Ending CommandFault) → Begins words (codes "--version")
    → OnOk r (Appends old new version_text) → IfOk r (λ e. e ≡ ending.Done) → IfOk r (HasEnded from words old new files files)
version_performed from words old new files (Ok ending.Done) begins shown is = versioned begins shown (kept files)
version_performed from words old new files (Ok (ending.Stopped s)) begins shown is = absurd (not_done (ap is_done is))
version_performed from words old new files (Ok (ending.Found found)) begins shown is = absurd (not_done (ap is_done is))
version_performed from words old new files (Ok (ending.Wrong text)) begins shown is = absurd (not_done (ap is_done is))
version_performed from words old new files (Ok (ending.NoRegister name)) begins shown is = absurd (not_done (ap is_done is))
version_performed from words old new files (Ok ending.Differ) begins shown is = absurd (not_done (ap is_done is))
version_performed from words old new files (Err f) begins shown is = tt

-- whatever the fault
pub if_err : {T E : Type 0} (P : E → Type 0) (r : Result T E) → ((e : E) → P e) → IfErr r P
if_err P (Ok x) h = tt
if_err P (Err e) h = h e

-- a fault at whose status nothing is printed is none of files or output, and one of a source or of a journal
pub unless_one : (K : Type 0) (words : List Text) (r : Result Ending CommandFault) → IfErr r (λ f. status_of f ≢ 1 → K) → IfErr r (λ f. IsUnprinted words (status_of f) → K)
unless_one K words (Ok e) h = tt
unless_one K words (Err f) h = λ e. h (not_one (status_of f) (of_source_or_journal f (source_status words (status_of f) e)))

pub if_read : (K : Type 0) (words : List Text) (r : Result Ending CommandFault) → IfErr r (λ f. (status_of f ≡ 3) ⊎ (status_of f ≡ 5) → K)
    → IfErr r (λ f. IsUnprinted words (status_of f) → K)
if_read K words (Ok e) h = tt
if_read K words (Err f) h = λ e. h (of_source_or_journal f (source_status words (status_of f) e))

-- what is left where memory was refused

six_not_one : (n : ℕ) → n ≡ 6 → n ≢ 1
six_not_one n six one = omega (arith, six, one)

pub left_unless_one : (from : Sources) (words : List Text) (old new : Option (List ℕ)) (files files' : Option (List MadeFile)) (r : Result Ending CommandFault) → IfErr r (λ f. status_of f ≢ 1 → Keeps old new)
    → IfErr r (λ f. status_of f ≢ 1 → KeepsFiles files files') → IfErr r (λ f. status_of f ≡ 6 → IsLeft from words old new files files')
left_unless_one from words old new files files' (Ok e) h k = tt
left_unless_one from words old new files files' (Err f) h k = λ six. untouched (h (six_not_one (status_of f) six)) (k (six_not_one (status_of f) six))

-- what holds at any fault holds at one of these statuses
pub at_any_fault : (P : Type 0) (r : Result Ending CommandFault) → OnErr r P → IfErr r (λ f. (status_of f ≡ 3) ⊎ (status_of f ≡ 5) → P)
at_any_fault P (Ok e) h = tt
at_any_fault P (Err f) h = λ source. h

pub left_of_dump : (from : Sources) (words : List Text) (known : Option (List ℕ)) (files files' : Option (List MadeFile)) (r : Result Ending CommandFault) → OnErr r (KeepsFiles files files')
    → IfErr r (λ f. status_of f ≡ 6 → IsLeft from words known known files files')
left_of_dump from words known files files' (Ok e) h = tt
left_of_dump from words known files files' (Err f) h = λ six. untouched (output_same known) h

pub left_of_telling : (from : Sources) (words : List Text) (old new : Option (List ℕ)) (files files' : Option (List MadeFile)) (r : Result Ending CommandFault) → Begins words (codes "explain") → KeepsFiles files files'
    → IfErr r (λ f. status_of f ≡ 6 → IsLeft from words old new files files')
left_of_telling from words old new files files' (Ok e) begins k = tt
left_of_telling from words old new files files' (Err f) begins k = λ six. interrupted begins k

left_of_search : (from : Sources) (words : List Text) (races : RacesRequest) (old new : Option (List ℕ)) (files files' : Option (List MadeFile)) → AsksRaces words races
    → HasLeft from races.file.now races.search_options (option_map (λ path. path.now) races.journals) old new files files' → IsLeft from words old new files files'
left_of_search from words races old new files files' asks (inl (k, s)) = untouched k s
left_of_search from words races old new files files' asks (inr h) = begun (record {
  begins = asks.begins;
  file = races.file.now;
  is_file = asks.is_races.file;
  begun = subst (λ (path : Option (List ℕ)). HasBegun from races.file.now (search_options_of (races_rows (drop 1 words))) path old new files files') (sym asks.is_races.journals)
      (subst (λ (search_options : SearchOptions). HasBegun from races.file.now search_options (option_map (λ path. path.now) races.journals) old new files files') asks.is_races.search_options h);
})

pub search_left : (from : Sources) (words : List Text) (races : RacesRequest) (old new : Option (List ℕ)) (files files' : Option (List MadeFile)) (r : Result Ending CommandFault) → AsksRaces words races
    → IfErr r (λ f. status_of f ≡ 6 → HasLeft from races.file.now races.search_options (option_map (λ path. path.now) races.journals) old new files files') → IfErr r (λ f. status_of f ≡ 6 → IsLeft from words old new files files')
search_left from words races old new files files' (Ok e) asks h = tt
search_left from words races old new files files' (Err f) asks h = λ six. left_of_search from words races old new files files' asks (h six)

pub left_of_waves : (from : Sources) (words : List Text) (races : RacesRequest) (old new : Option (List ℕ)) (files files' : Option (List MadeFile)) (r : Result Ending CommandFault) → AsksRaces words races
    → IfErr r (λ f. status_of f ≡ 6 → HasLeftWaves from races.file.now races.observed races.search_options (option_map (λ path. path.now) races.journals) old new files files')
    → IfErr r (λ f. status_of f ≡ 6 → IsLeft from words old new files files')
left_of_waves from words races old new files files' (Ok e) asks h = tt
left_of_waves from words races old new files files' (Err f) asks h = λ six. go (h six)
  where
    go : HasLeftWaves from races.file.now races.observed races.search_options (option_map (λ path. path.now) races.journals) old new files files' → IsLeft from words old new files files'
    go (inl (k, s)) = untouched k s
    go (inr left) = waves_begun (record {
      begins = asks.begins;
      file = races.file.now;
      is_file = asks.is_races.file;
      asked = races.observed;
      observed = asks.is_races.observed;
      begun = subst (λ (path : Option (List ℕ)). HasBegunWaves from races.file.now races.observed (search_options_of (races_rows (drop 1 words))) path old new files files') (sym asks.is_races.journals)
          (subst (λ (search_options : SearchOptions). HasBegunWaves from races.file.now races.observed search_options (option_map (λ path. path.now) races.journals) old new files files') asks.is_races.search_options left);
    })

-- a journal is told up to its fault
pub unless_told : (K : Type 0) (words : List Text) (r : Result Ending CommandFault) → Begins words (codes "explain") → IfErr r (λ f. status_of f ≡ 3 → K)
    → IfErr r (λ f. IsUnprinted words (status_of f) → K)
unless_told K words (Ok e) begins h = tt
unless_told K words (Err f) begins h = go
  where
    go : IsUnprinted words (status_of f) → K
    go (inl e) = absurd (not_of_fault f 2 refl e)
    go (inr (inl e)) = h e
    go (inr (inr (e, other))) = absurd (other begins)

pub one_only : (K : Type 0) (r : Result Ending CommandFault) → IfErr r (λ f. status_of f ≡ 1) → IfErr r (λ f. status_of f ≢ 1 → K)
one_only K (Ok e) h = tt
one_only K (Err f) h = λ other. absurd (other h)

pub check_performed : (from : Sources) (words : List Text) (path : List ℕ) (old new : Option (List ℕ)) (files files' : Option (List MadeFile)) (r : Result Ending CommandFault)
    → AsksCheckOf words path → IsRight from path → KeepsFiles files files' → OnOk r (Appends old new (right_text path)) → IfOk r (λ e. e ≡ ending.Done)
    → IfOk r (HasEnded from words old new files files')
check_performed from words path old new files files' (Ok ending.Done) asks right keeps shown is = checked (record {
  begins = asks.begins;
  path = path;
  is_right = right;
  file = asks.file;
  shown = shown;
  unsaved = keeps;
})
check_performed from words path old new files files' (Ok (ending.Stopped s)) asks right keeps shown is = absurd (not_done (ap is_done is))
check_performed from words path old new files files' (Ok (ending.Found found)) asks right keeps shown is = absurd (not_done (ap is_done is))
check_performed from words path old new files files' (Ok (ending.Wrong text)) asks right keeps shown is = absurd (not_done (ap is_done is))
check_performed from words path old new files files' (Ok (ending.NoRegister name)) asks right keeps shown is = absurd (not_done (ap is_done is))
check_performed from words path old new files files' (Ok ending.Differ) asks right keeps shown is = absurd (not_done (ap is_done is))
check_performed from words path old new files files' (Err f) asks right keeps shown is = tt

pub waves_performed : (from : Sources) (words : List Text) (waves : WavesRequest) (known : Option (List ℕ)) (files files' : Option (List MadeFile)) → AsksWaves words waves
    → HasDumped from waves.file.now waves.journal.now waves.out.now files files' → HasWaves from words known known files files'
waves_performed from words waves known files files' asks h = record {
  begins = asks.begins;
  path = waves.out.now;
  out = asks.is_waves.out;
  file = waves.file.now;
  is_file = asks.is_waves.file;
  journal = waves.journal.now;
  is_journal = asks.is_waves.journal;
  dumped = h;
  unprinted = output_same known;
}

pub diff_performed : (from : Sources) (words : List Text) (diff : DiffRequest) (old new : Option (List ℕ)) (files files' : Option (List MadeFile)) (same : Bool) → AsksDiff words diff
    → HasComparedFiles from diff.file.now diff.first.now diff.second.now diff.all_times old new same → KeepsFiles files files' → HasCompared from words old new files files' same
diff_performed from words diff old new files files' same asks h k = record {
  begins = asks.begins;
  file = diff.file.now;
  is_file = asks.is_diff.file;
  first = diff.first.now;
  is_first = asks.is_diff.first;
  second = diff.second.now;
  is_second = asks.is_diff.second;
  compared = subst (λ (all : Bool). HasComparedFiles from diff.file.now diff.first.now diff.second.now all old new same) asks.is_diff.all_times h;
  unsaved = k;
}

pub compared_ended : (from : Sources) (words : List Text) (old new : Option (List ℕ)) (files files' : Option (List MadeFile)) (same : Bool) → HasCompared from words old new files files' same
    → HasEnded from words old new files files' (compared_ending same)
compared_ended from words old new files files' true h = compared h
compared_ended from words old new files files' false h = h

-- a text, and then another
pub appends_then : (a b c : Option (List ℕ)) (xs ys : List ℕ) → Appends a b xs → Appends b c ys → Appends a c (xs ++ ys)
appends_then None b c xs ys h g = tt
appends_then (Some a) None c xs ys h g = absurd h
appends_then (Some a) (Some b) None xs ys h g = absurd g
appends_then (Some a) (Some b) (Some c) xs ys h g = g ∙ ap (λ t. t ++ ys) h ∙ append_assoc a xs ys

-- what a check has told

pub right_if : {T : Type 0} (from : Sources) (file : List ℕ) (told : Option T) → told ≡ None → HasChecked from file told → IsRight from file
right_if from file None e h = h
right_if from file (Some x) e h = cc

pub wrong_if : {T : Type 0} (from : Sources) (file : List ℕ) (told : Option T) (x : T) → told ≡ Some x → HasChecked from file told → IsWrong from file
wrong_if from file None x e h = cc
wrong_if from file (Some y) x e h = h

-- words that make no request, and are no call for help
pub wrong_usage : (words : List Text) (r : NoRequest) (text : _) → r ≡ no_request.Usage text → IsNoRequest words r → AreWrong words
wrong_usage words r text e h = subst (IsNoRequest words) e h

-- a request for a check, or to be told a journal
abbrev pub is_check : Request → Bool
is_check (request.Check c) = true
is_check r = false

abbrev pub is_explain : Request → Bool
is_explain (request.Explain c) = true
is_explain r = false

-- words that begin as those of a telling ask for nothing else
pub explain_alone : (words : List Text) (r : Request) → is_explain r ≡ false → Asks words r → Begins words (codes "explain") → ⊥
explain_alone words (request.Run run) e asks begins = unlike (codes "run") (codes "explain") refl (sym asks.begins ∙ begins)
explain_alone words (request.Replay replay) e asks begins = unlike (codes "replay") (codes "explain") refl (sym asks.begins ∙ begins)
explain_alone words (request.Races races) e asks begins = unlike (codes "races") (codes "explain") refl (sym asks.begins ∙ begins)
explain_alone words (request.Check check) e asks begins = unlike (codes "check") (codes "explain") refl (sym asks.begins ∙ begins)
explain_alone words (request.Explain explain) e asks begins = cc
explain_alone words (request.Waves waves) e asks begins = unlike (codes "waves") (codes "explain") refl (sym asks.begins ∙ begins)
explain_alone words (request.Diff diff) e asks begins = unlike (codes "diff") (codes "explain") refl (sym asks.begins ∙ begins)
explain_alone words (request.Flatten flatten) e asks begins = unlike (codes "flatten") (codes "explain") refl (sym asks.begins ∙ begins)
explain_alone words request.Version e asks begins = unlike (codes "--version") (codes "explain") refl (sym asks ∙ begins)

-- words that begin as those of a check ask for nothing else
pub check_alone : (words : List Text) (r : Request) → is_check r ≡ false → Asks words r → Begins words (codes "check") → ⊥
check_alone words (request.Run run) e asks begins = unlike (codes "run") (codes "check") refl (sym asks.begins ∙ begins)
check_alone words (request.Replay replay) e asks begins = unlike (codes "replay") (codes "check") refl (sym asks.begins ∙ begins)
check_alone words (request.Races races) e asks begins = unlike (codes "races") (codes "check") refl (sym asks.begins ∙ begins)
check_alone words (request.Check check) e asks begins = cc
check_alone words (request.Explain explain) e asks begins = unlike (codes "explain") (codes "check") refl (sym asks.begins ∙ begins)
check_alone words (request.Waves waves) e asks begins = unlike (codes "waves") (codes "check") refl (sym asks.begins ∙ begins)
check_alone words (request.Diff diff) e asks begins = unlike (codes "diff") (codes "check") refl (sym asks.begins ∙ begins)
check_alone words (request.Flatten flatten) e asks begins = unlike (codes "flatten") (codes "check") refl (sym asks.begins ∙ begins)
check_alone words request.Version e asks begins = unlike (codes "--version") (codes "check") refl (sym asks ∙ begins)
