-- What a command leaves on standard output and in files.
use Rattle.std.specs.Prelude.{◌≡◌, ◌⊎◌, ◌<◌, ◌++◌, ℕ, Bool, true, false, List, [], Option, Some, None, IsSome, codes, drop, length, map, string_bytes}
use Rattle.std.specs.Io.KnownBytes.{Appends, Keeps}
use Rattle.design.specs.Compiled.{Compiled, design_of}
use Rattle.model.specs.Syntax.{Module}
use Rattle.explain.specs.Explained.{IsLawfulJournalText}
use Rattle.explain.specs.ExplainedText.{ExplainsText, ExplainsTextFault}
use Rattle.explain.specs.declared.failure.ExplainFault.TheVariants as explaining
use Rattle.explain.specs.declared.telling.Presentation.{Presentation}
use Rattle.differences.specs.declared.comparison.Comparison.{Comparison}
use Rattle.differences.specs.Comparisons.{IsComparison}
use Rattle.replay.specs.declared.fault.ReplayFault.{ReplayFault}
use Rattle.vparse.specs.Spells.{Spells}
use Rattle.waves.specs.Dump.{vcd_text}
use Rattle.waves.specs.Waves.{IsWaveOf}
use Rattle.waves.specs.declared.wave.Wave.{Wave}
use Rattle.frontend.specs.Sources.{IsDesignOf, IsSourceFault}
use Rattle.frontend.specs.declared.source.SourceFault.{SourceFault}
use Rattle.commitgate.specs.Closing.{ClosedView}
use Rattle.eventpool.specs.Pools.{PoolCounts}
use Rattle.simulate.specs.Outcomes.{IsOutcome}
use Rattle.model.specs.declared.end.Limits.{Limits}
use Rattle.arguments.specs.declared.run_options.RunOptions.{RunOptions}
use Rattle.runs.specs.RunRecords as recorded
use Rattle.seeded.specs.Seeds.{FollowsSeed}
use Rattle.runs.specs.declared.run.RunRecord.{RunRecord}
use Rattle.model.specs.declared.entry.Entry.{Entry}
use Rattle.model.specs.declared.end.End.{End}
use Rattle.model.specs.declared.end.Limits.{Limits}
use Rattle.explore.specs.declared.Shown.{Shown}
use Rattle.sharing.specs.Parts.{Extends}
use Rattle.causes.specs.Causes.{AreCauses, HasAnswer}
use Rattle.causes.specs.declared.causes.Causes.{Causes}
use Rattle.verdict.specs.declared.claim.Claim.{Claim}
use Rattle.verdict.specs.Verdicts.{verdict_text}
use Rattle.naming.specs.Naming.{TellsMore, TellsRaces}
use Rattle.naming.specs.SearchReach.{TellsReach}
use Rattle.arguments.specs.declared.search_options.SearchOptions.{SearchOptions}
use Rattle.replay.specs.ReplayBytes.{IsReadJournal, PrintsOn}
use Rattle.waves.specs.ScopedDump.{scoped_text}
use Rattle.locations.specs.declared.location.ProcessLocation.{ProcessLocation}
use Rattle.program.specs.declared.subject.SourceTexts.{SourceTexts}
use Rattle.program.specs.declared.subject.SourceTexts.TheVariants as texts
use Rattle.program.specs.declared.subject.DesignSubject.{DesignSubject}
use Rattle.arguments.specs.declared.verilog_words.DesignWords.{DesignWords}
use Rattle.whole_designs.specs.declared.whole.WholeDesign.{WholeDesign}
use Rattle.program.specs.Subjects.{AreTextsAt, IsDesignIn, IsFlatTextOf, IsModuleDesign, IsModuleOf, IsPut, IsSubjectAt, Sources, plain_design_scope}
use Rattle.program.specs.Presentations.{presentation_in}
use Rattle.program.specs.declared.racing.NamedRaces.{NamedRaces}
use Rattle.program.specs.declared.racing.ToldRaces.{ToldRaces}
use Rattle.program.specs.declared.finding.SearchFinding.{SearchFinding}
use Rattle.program.specs.declared.finding.SearchFinding.TheVariants as finding
use Rattle.program.specs.Findings.{AreFound, AreKnown, AreRaces, AreRacesKnown, HaveSomeEnds, IsMemoryRefused, endings_of, finding_of, first_text, have_stops, journals_of, limits_in, met_limit, stops_from, until_line}
use Rattle.program.specs.declared.fault.CommandFault.{CommandFault}
use Rattle.program.specs.declared.fault.Stop.{Stop}
use Rattle.program.specs.declared.running.LeftByRun.{LeftByRun}
use Rattle.clap.specs.Words.{Row, Text, first_of}
use Rattle.arguments.specs.Options.{CanRun, CanSearch}
use Rattle.program.specs.declared.ending.Ending.{Ending}
use Rattle.program.specs.declared.ending.Ending.TheVariants as ending
use Rattle.arguments.specs.Observing.{IsObserved}
use Rattle.arguments.specs.declared.observed.Observed.{Observed}
use Rattle.arguments.specs.declared.observed.Observed.TheVariants.{Lines}
use Rattle.program.specs.Observed.{HasBegunWaves, HasObserved}
use Rattle.wavetexts.specs.Names.{NamesRegisters, NamesUnknown}
use Rattle.program.specs.Program.{explain_fault, right_text, source_status_of, stop_of, version_text}
use Rattle.files.specs.Saved.{AddsFile, IsOpened, MadeFile, KeepsFiles, SavesAllWhereAsked, SavesSomeWhereAsked, SavesWhereAsked}
use Rattle.arguments.specs.CommandWords.{AsksHelp, Begins, check_rows, diff_rows, explain_rows, flag_given, flatten_rows, search_options_of, number_given, options_of, races_rows, replay_rows, run_rows, waves_rows}

-- the limits of a run
abbrev pub run_limits_of : RunOptions → Limits
run_limits_of options = record { until = options.until; max_entries = options.max_entries }

-- a run, by these options, of the design that is asked for, with its tickets and the evaluations of its workers
pub record IsRunByOptions (from : Sources) (file : List ℕ) (options : RunOptions) (closed : ClosedView) : Type 0 where
  pub design : Compiled
  pub is_design : IsDesignIn from file design
  pub tally : PoolCounts
  pub evaluations : List ℕ
  pub is_outcome : IsOutcome design (run_limits_of options) options.workers closed tally evaluations

-- Output grew by the lines of a run of a file with these options, the same run's journal was saved where a path is given, and this
-- is told of its end.
pub record HasPrinted (from : Sources) (file : List ℕ) (options : RunOptions) (path : Option (List ℕ)) (old new : Option (List ℕ)) (files files' : Option (List MadeFile)) (told : Option Stop) : Type 0 where
  pub closed : ClosedView
  pub is_run : IsRunByOptions from file options closed
  pub lines : Appends old new closed.lines
  pub saved : SavesWhereAsked files files' path closed.entries
  pub end : told ≡ stop_of closed.end

-- the run of this seed, with these options, of the design that is asked for
pub record IsSeeded (from : Sources) (file : List ℕ) (options : RunOptions) (seed : ℕ) (run : RunRecord) : Type 0 where
  pub design : Compiled
  pub is_design : IsDesignIn from file design
  pub is_run : recorded.IsRun design (run_limits_of options) run
  pub follows : FollowsSeed design seed run

-- Output grew by the lines of such a run, its journal was saved where a path is given, and this is told of its end.
pub record HasPrintedSeeded (from : Sources) (file : List ℕ) (options : RunOptions) (seed : ℕ) (path : Option (List ℕ)) (old new : Option (List ℕ)) (files files' : Option (List MadeFile)) (told : Option Stop) : Type 0 where
  pub run : RunRecord
  pub is_run : IsSeeded from file options seed run
  pub lines : Appends old new (string_bytes run.lines)
  pub saved : SavesWhereAsked files files' path run.journal.items
  pub end : told ≡ stop_of run.end

-- what a run of a file on workers leaves that has these options
pub record IsLeftOnWorkers (from : Sources) (file : List ℕ) (options : RunOptions) (left : LeftByRun) : Type 0 where
  pub closed : ClosedView
  pub is_run : IsRunByOptions from file options closed
  pub journal : left.journal.items ≡ closed.entries
  pub lines : string_bytes left.lines ≡ closed.lines
  pub end : left.end ≡ closed.end

-- what the run of a file by this seed leaves that has these options
pub record IsLeftBySeed (from : Sources) (file : List ℕ) (options : RunOptions) (seed : ℕ) (left : LeftByRun) : Type 0 where
  pub run : RunRecord
  pub is_run : IsSeeded from file options seed run
  pub journal : left.journal.items ≡ run.journal.items
  pub lines : string_bytes left.lines ≡ string_bytes run.lines
  pub end : left.end ≡ run.end

-- what a run leaves, by a seed where one is given and else on workers
abbrev pub IsLeftByRun : Sources → List ℕ → Option ℕ → RunOptions → LeftByRun → Type 0
IsLeftByRun from file None options left = IsLeftOnWorkers from file options left
IsLeftByRun from file (Some seed) options left = IsLeftBySeed from file options seed left

-- so it is where a seed is given, and else the run was one on workers
abbrev pub HasPrintedBy : Sources → List ℕ → Option ℕ → RunOptions → Option (List ℕ) → Option (List ℕ) → Option (List ℕ) → Option (List MadeFile) → Option (List MadeFile) → Option Stop → Type 0
HasPrintedBy from file None options path old new files files' told = HasPrinted from file options path old new files files' told
HasPrintedBy from file (Some seed) options path old new files files' told = HasPrintedSeeded from file options seed path old new files files' told

-- a run ends so: it was printed, and this is told of its end; or a whole design is refused, and output and files are as they were
abbrev pub HasRunTo : Sources → List ℕ → Option ℕ → RunOptions → Option (List ℕ) → Option (List ℕ) → Option (List ℕ) → Option (List MadeFile) → Option (List MadeFile) → Ending → Type 0
HasRunTo from file seed options path old new files files' ending.Done = HasPrintedBy from file seed options path old new files files' None
HasRunTo from file seed options path old new files files' (ending.Stopped stop) = HasPrintedBy from file seed options path old new files files' (Some stop)
HasRunTo from file seed options path old new files files' (ending.Wrong text) = IsSome from.words × Keeps old new × KeepsFiles files files'
HasRunTo from file seed options path old new files files' (ending.Found f) = ⊥
HasRunTo from file seed options path old new files files' (ending.NoRegister name) = ⊥
HasRunTo from file seed options path old new files files' ending.Differ = ⊥

-- the words name this FILE
abbrev pub NamesFile : List Row → List ℕ → Type 0
NamesFile rows file = first_of (codes "FILE") rows ≡ Some file

-- the words name this JOURNAL
abbrev pub NamesJournal : List Row → List ℕ → Type 0
NamesJournal rows journal = first_of (codes "JOURNAL") rows ≡ Some journal

-- The words ask for a run. Output and files are as a run of their FILE leaves them that has the options of these words, is by their seed if
-- they give one, and saves its journal in the OUT of these words, if they give one, and this is told of its end.
pub record HasRun (from : Sources) (words : List Text) (old new : Option (List ℕ)) (files files' : Option (List MadeFile)) (told : Option Stop) : Type 0 where
  pub begins : Begins words (codes "run")
  pub can_run : CanRun (options_of (run_rows (drop 1 words)))
  pub file : List ℕ
  pub is_file : NamesFile (run_rows (drop 1 words)) file
  pub printed : HasPrintedBy from file (number_given (codes "seed") (run_rows (drop 1 words))) (options_of (run_rows (drop 1 words))) (first_of (codes "journal") (run_rows (drop 1 words))) old new files files' told

-- What is told before a search: the races that were found in a design, those that part texts which are known before the others, with the numbers of
-- journals of texts that are known from then on. Where there are several, a race is named, or a text is left for which none is, or a bound was met. Memory was refused
-- before the search of orders where it was refused to the search for races, and, where random orders take the place of the former, only there.
pub record IsToldFirst (processes : List ProcessLocation) (source : List ℕ) (design : Compiled) (search_options : SearchOptions) (prefix : Option (List ℕ)) (early : ToldRaces) (first : List ℕ) : Type 0 where
  pub are_races : AreRaces design (limits_in search_options) early.races.bounds early.races.found
  pub are_known : AreKnown design search_options early.races.found early.known.items
  pub are_causes : AreCauses design (limits_in search_options) early.races.bounds early.races.found early.races.causes
  pub answered : 1 < length early.known.items → HasAnswer early.races.found early.races.causes
  pub texts : early.races.texts ≡ length early.known.items
  pub refused : IsMemoryRefused search_options.samples early.races.found.cut early.refused
  pub tells : TellsRaces processes source design early.known.items prefix early.races.bounds early.races.found early.races.causes.causes.items first

-- What is told behind a search, after these races: races that part texts, behind those that were told before, and the texts for which none was found. Where there are several
-- texts, a race is named, or a text is left for which none is, or a bound was met.
pub record IsToldMore (processes : List ProcessLocation) (source : List ℕ) (design : Compiled) (search_options : SearchOptions) (prefix : Option (List ℕ)) (races : NamedRaces) (shown : List (Shown Entry End)) (more : List ℕ) : Type 0 where
  pub causes : Causes
  pub are_causes : AreCauses design (limits_in search_options) races.bounds races.found causes
  pub grown : Extends races.causes.causes.items causes.causes.items
  pub answered : 1 < length shown → HasAnswer races.found causes
  pub tells : TellsMore processes source design shown prefix races.bounds races.found (length races.causes.causes.items) causes more

-- What is said of texts behind a search whose first run has this end: what they are, whether their ends tell them apart too, how their runs end, and whose stop short; and which option ends a run, where
-- that one didn't end.
pub record IsToldLast (search_options : SearchOptions) (prefix : Option (List ℕ)) (end : End) (claim : Claim) (shown : List (Shown Entry End)) (last : List ℕ) : Type 0 where
  pub ends : Bool
  pub apart : HaveSomeEnds shown ends
  pub text_is : last ≡ verdict_text claim search_options.until (length shown) ends (endings_of shown) (first_text shown) (stops_from 1 shown) prefix ++ until_line search_options.until claim end

-- How far a search came is told where it met a limit and a time is known before which all orders were followed: that time, and where most choices are. Else nothing is.
abbrev pub IsReachTold : List ProcessLocation → Bool → Option ℕ → List ℕ → Type 0
IsReachTold processes true (Some time) lines = TellsReach processes time [] lines
IsReachTold processes true None lines = lines ≡ []
IsReachTold processes false before lines = lines ≡ []

-- What is said of texts behind a search whose first run has this end, behind how far that came, where it met a limit: before this time all orders were followed, if one is known.
pub record IsSaidLast (processes : List ProcessLocation) (search_options : SearchOptions) (prefix : Option (List ℕ)) (end : End) (claim : Claim) (before : Option ℕ) (shown : List (Shown Entry End)) (said : List ℕ) : Type 0 where
  pub reach : List ℕ
  pub is_reach : IsReachTold processes (met_limit claim) before reach
  pub last : List ℕ
  pub is_last : IsToldLast search_options prefix end claim shown last
  pub said_is : said ≡ reach ++ last

-- What is said of a search, after these races were told and these texts were known: texts were found, with those that were known before all others, those of the runs of these
-- races are among them, unless as many as may be are, and further races and this are told of them.
pub record HasFound (processes : List ProcessLocation) (source : List ℕ) (design : Compiled) (search_options : SearchOptions) (prefix : Option (List ℕ)) (early : ToldRaces) (last : List ℕ) : Type 0 where
  pub claim : Claim
  pub shown : List (Shown Entry End)
  pub endless : Option (List Entry)
  pub before : Option ℕ
  pub are_found : AreFound design search_options claim before shown endless
  pub grown : Extends early.known.items shown
  pub races_known : AreRacesKnown search_options.max_texts early.races.found shown
  pub more : List ℕ
  pub is_more : IsToldMore processes source design search_options prefix early.races shown more
  pub said : List ℕ
  pub is_said : IsSaidLast processes search_options prefix early.races.found.original.end claim before shown said
  pub last_is : last ≡ more ++ said

-- Of the design that is asked for races were told, and then what was found of its texts, so far as this says. Output grew by both, the journals of the texts, and of a run that comes to no
-- end, were saved where a prefix is given, and this is what it has come to.
pub record HasShown (from : Sources) (file : List ℕ) (search_options : SearchOptions) (prefix : Option (List ℕ)) (old new : Option (List ℕ)) (files files' : Option (List MadeFile)) (found : SearchFinding) : Type 0 where
  pub subject : DesignSubject
  pub is_subject : IsSubjectAt from file subject
  pub early : ToldRaces
  pub first : List ℕ
  pub is_first : IsToldFirst subject.processes.items subject.source.items subject.design search_options prefix early first
  pub last : List ℕ
  pub has_found : HasFound subject.processes.items subject.source.items subject.design search_options prefix early last
  pub printed : Appends old new (first ++ last)
  pub saved : SavesAllWhereAsked files files' prefix (journals_of has_found.shown has_found.endless)
  pub finding : found ≡ finding_of has_found.claim (length has_found.shown) (have_stops has_found.shown) early.refused

-- a search ends so: it has shown what it found, or a whole design is refused, and output and files are as they were
abbrev pub HasSearchedTo : Sources → List ℕ → SearchOptions → Option (List ℕ) → Option (List ℕ) → Option (List ℕ) → Option (List MadeFile) → Option (List MadeFile) → Ending → Type 0
HasSearchedTo from file search_options prefix old new files files' (ending.Found found) = HasShown from file search_options prefix old new files files' found
HasSearchedTo from file search_options prefix old new files files' (ending.Wrong text) = IsSome from.words × Keeps old new × KeepsFiles files files'
HasSearchedTo from file search_options prefix old new files files' ending.Done = ⊥
HasSearchedTo from file search_options prefix old new files files' (ending.Stopped stop) = ⊥
HasSearchedTo from file search_options prefix old new files files' (ending.NoRegister name) = ⊥
HasSearchedTo from file search_options prefix old new files files' ending.Differ = ⊥

-- The words ask for a search for races, and to compare runs by their lines, in order. Output and files are as a search of their FILE leaves them that goes as far as these
-- words say and saves journals at paths that begin with the PREFIX of these words, if they give one, and this was found.
pub record HasSearchedTexts (from : Sources) (words : List Text) (old new : Option (List ℕ)) (files files' : Option (List MadeFile)) (found : SearchFinding) : Type 0 where
  pub begins : Begins words (codes "races")
  pub can_search : CanSearch (search_options_of (races_rows (drop 1 words)))
  pub file : List ℕ
  pub is_file : NamesFile (races_rows (drop 1 words)) file
  pub observed : IsObserved (first_of (codes "observe") (races_rows (drop 1 words))) Lines
  pub shown : HasShown from file (search_options_of (races_rows (drop 1 words))) (first_of (codes "journals") (races_rows (drop 1 words))) old new files files' found

-- The words ask for a search for races, and to observe something else of runs. Output and files are as a search for waves leaves them, and it ended so.
pub record HasSearchedBy (from : Sources) (words : List Text) (old new : Option (List ℕ)) (files files' : Option (List MadeFile)) (end : Ending) : Type 0 where
  pub begins : Begins words (codes "races")
  pub can_search : CanSearch (search_options_of (races_rows (drop 1 words)))
  pub file : List ℕ
  pub is_file : NamesFile (races_rows (drop 1 words)) file
  pub asked : Observed
  pub observed : IsObserved (first_of (codes "observe") (races_rows (drop 1 words))) asked
  pub has_observed : HasObserved from file asked (search_options_of (races_rows (drop 1 words))) (first_of (codes "journals") (races_rows (drop 1 words))) old new files files' end

-- the words ask for a search for races, which found this of texts or of waves, by what is to be observed of runs
abbrev pub HasSearched : Sources → List Text → Option (List ℕ) → Option (List ℕ) → Option (List MadeFile) → Option (List MadeFile) → SearchFinding → Type 0
HasSearched from words old new files files' found = HasSearchedTexts from words old new files files' found ⊎ HasSearchedBy from words old new files files' (ending.Found found)

-- output and files are as they were
abbrev pub AreUntouched : Option (List ℕ) → Option (List ℕ) → Option (List MadeFile) → Option (List MadeFile) → Type 0
AreUntouched old new files files' = Keeps old new × KeepsFiles files files'

-- Behind races that were told output grew by what is said of a search, and of its journals a beginning was saved where a prefix is given, and else none.
pub record HasSavedSome (processes : List ProcessLocation) (source : List ℕ) (design : Compiled) (search_options : SearchOptions) (prefix : Option (List ℕ)) (early : ToldRaces) (first : List ℕ) (old new : Option (List ℕ)) (files files' : Option (List MadeFile)) : Type 0 where
  pub last : List ℕ
  pub has_found : HasFound processes source design search_options prefix early last
  pub printed : Appends old new (first ++ last)
  pub saved : SavesSomeWhereAsked files files' prefix (journals_of has_found.shown has_found.endless)

-- A search of the design that is asked for didn't come to its end: output grew by the races and by nothing else, and of the journals of the texts that were
-- known a beginning was saved; or it grew by all that is said of it, and the files by journals of what was found.
pub record HasBegun (from : Sources) (file : List ℕ) (search_options : SearchOptions) (prefix : Option (List ℕ)) (old new : Option (List ℕ)) (files files' : Option (List MadeFile)) : Type 0 where
  pub subject : DesignSubject
  pub is_subject : IsSubjectAt from file subject
  pub early : ToldRaces
  pub first : List ℕ
  pub is_first : IsToldFirst subject.processes.items subject.source.items subject.design search_options prefix early first
  pub left :
      (Appends old new first × SavesSomeWhereAsked files files' prefix (journals_of early.known.items None))
      ⊎ HasSavedSome subject.processes.items subject.source.items subject.design search_options prefix early first old new files files'

-- a search left nothing, or came so far
abbrev pub HasLeft : Sources → List ℕ → SearchOptions → Option (List ℕ) → Option (List ℕ) → Option (List ℕ) → Option (List MadeFile) → Option (List MadeFile) → Type 0
HasLeft from file search_options prefix old new files files' = AreUntouched old new files files' ⊎ HasBegun from file search_options prefix old new files files'

-- The words ask for a search for races. Output and files are as a search of their FILE leaves them that goes as far as these words say, saves journals at paths that begin with the
-- PREFIX of these words, if they give one, and didn't come to its end.
pub record HasBegunSearch (from : Sources) (words : List Text) (old new : Option (List ℕ)) (files files' : Option (List MadeFile)) : Type 0 where
  pub begins : Begins words (codes "races")
  pub file : List ℕ
  pub is_file : NamesFile (races_rows (drop 1 words)) file
  pub begun : HasBegun from file (search_options_of (races_rows (drop 1 words))) (first_of (codes "journals") (races_rows (drop 1 words))) old new files files'

-- So it is of a search for waves, which said all of them, and of their journals a beginning was saved.
pub record HasBegunWaveSearch (from : Sources) (words : List Text) (old new : Option (List ℕ)) (files files' : Option (List MadeFile)) : Type 0 where
  pub begins : Begins words (codes "races")
  pub file : List ℕ
  pub is_file : NamesFile (races_rows (drop 1 words)) file
  pub asked : Observed
  pub observed : IsObserved (first_of (codes "observe") (races_rows (drop 1 words))) asked
  pub begun : HasBegunWaves from file asked (search_options_of (races_rows (drop 1 words))) (first_of (codes "journals") (races_rows (drop 1 words))) old new files files'

-- output grew by the lines of a journal that is lawful for the design that is asked for, and what is in
-- the journal's file, where that is known, is the text of this journal
pub record HasReplayed (from : Sources) (file journal : List ℕ) (old new : Option (List ℕ)) : Type 0 where
  pub design : Compiled
  pub is_design : IsDesignIn from file design
  pub left : Option (List ℕ)
  pub opened : IsOpened from.held journal left
  pub prints : PrintsOn design left old new

-- a replay ends so: the journal was replayed, or a whole design is refused, and output is as it was
abbrev pub HasReplayedTo : Sources → List ℕ → List ℕ → Option (List ℕ) → Option (List ℕ) → Ending → Type 0
HasReplayedTo from file journal old new ending.Done = HasReplayed from file journal old new
HasReplayedTo from file journal old new (ending.Wrong text) = IsSome from.words × Keeps old new
HasReplayedTo from file journal old new (ending.Stopped s) = ⊥
HasReplayedTo from file journal old new (ending.Found f) = ⊥
HasReplayedTo from file journal old new (ending.NoRegister name) = ⊥
HasReplayedTo from file journal old new ending.Differ = ⊥

-- The words ask for a replay of their JOURNAL on their FILE, and output is as that leaves it.
pub record HasPlayed (from : Sources) (words : List Text) (old new : Option (List ℕ)) : Type 0 where
  pub begins : Begins words (codes "replay")
  pub file : List ℕ
  pub is_file : NamesFile (replay_rows (drop 1 words)) file
  pub journal : List ℕ
  pub is_journal : NamesJournal (replay_rows (drop 1 words)) journal
  pub replayed : HasReplayed from file journal old new

-- these are the registers of a design with the names of a list, where one is given, and else none are asked for
abbrev pub AreAskedFor : Compiled → Option (List ℕ) → Option (List ℕ) → Type 0
AreAskedFor design None registers = registers ≡ None
AreAskedFor design (Some names) registers = (found : List ℕ) × (registers ≡ Some found) × NamesRegisters design.names names found

-- Output grew by a journal in words, in this presentation: by a line for each entry that it has, of those alone that name one of the registers with
-- these names, where names are given, and how the run stands behind them. The journal is lawful for the design that is asked for, and
-- what is in the journal's file, where that is known, is its text.
pub record HasExplained (from : Sources) (file journal : List ℕ) (names : Option (List ℕ)) (presentation : Presentation) (old new : Option (List ℕ)) : Type 0 where
  pub subject : DesignSubject
  pub is_subject : IsSubjectAt from file subject
  pub left : Option (List ℕ)
  pub opened : IsOpened from.held journal left
  pub lawful : IsLawfulJournalText subject.design left
  pub registers : Option (List ℕ)
  pub are_asked : AreAskedFor subject.design names registers
  pub explains : ExplainsText subject.processes.items subject.design registers presentation left old new

-- So it is of a journal up to its first entry that isn't taken, and output grew by why it isn't.
pub record HasExplainedFault (from : Sources) (file journal : List ℕ) (names : Option (List ℕ)) (presentation : Presentation) (old new : Option (List ℕ)) (fault : ReplayFault) : Type 0 where
  pub subject : DesignSubject
  pub is_subject : IsSubjectAt from file subject
  pub left : Option (List ℕ)
  pub opened : IsOpened from.held journal left
  pub registers : Option (List ℕ)
  pub are_asked : AreAskedFor subject.design names registers
  pub explains : ExplainsTextFault subject.processes.items subject.design registers presentation left old new fault

-- no journal was read, and output is as it was; or one was told up to its fault, and this is that fault
abbrev pub HasExplainedSome : Sources → List ℕ → List ℕ → Option (List ℕ) → Presentation → Option (List ℕ) → Option (List ℕ) → CommandFault → Type 0
HasExplainedSome from file journal names presentation old new f =
    Keeps old new ⊎ ((fault : ReplayFault) × (f ≡ explain_fault (explaining.Replay fault)) × HasExplainedFault from file journal names presentation old new fault)

-- this is the first of the names that are given which no register has, of the design that is asked for
pub record LacksRegister (from : Sources) (file : List ℕ) (names : Option (List ℕ)) (name : List ℕ) : Type 0 where
  pub subject : DesignSubject
  pub is_subject : IsSubjectAt from file subject
  pub design : Compiled
  pub is_design : subject.design ≡ design
  pub list : List ℕ
  pub is_list : names ≡ Some list
  pub unknown : NamesUnknown design.names name list

-- the telling of a journal ends so: it was told; or a name is told that no register has, or a whole design is refused, and output is as it was
abbrev pub HasExplainedTo : Sources → List ℕ → List ℕ → Option (List ℕ) → Presentation → Option (List ℕ) → Option (List ℕ) → Ending → Type 0
HasExplainedTo from file journal names presentation old new ending.Done = HasExplained from file journal names presentation old new
HasExplainedTo from file journal names presentation old new (ending.Stopped s) = ⊥
HasExplainedTo from file journal names presentation old new (ending.Found f) = ⊥
HasExplainedTo from file journal names presentation old new (ending.Wrong text) = IsSome from.words × Keeps old new
HasExplainedTo from file journal names presentation old new (ending.NoRegister name) = LacksRegister from file names (string_bytes name) × Keeps old new
HasExplainedTo from file journal names presentation old new ending.Differ = ⊥

-- The words name a FILE and a JOURNAL, and no journal was read, or theirs was told on theirs, in the presentation of these words, up to its fault, and this is that fault.
pub record HasExplainedPart (from : Sources) (words : List Text) (old new : Option (List ℕ)) (fault : CommandFault) : Type 0 where
  pub file : List ℕ
  pub is_file : NamesFile (explain_rows (drop 1 words)) file
  pub journal : List ℕ
  pub is_journal : NamesJournal (explain_rows (drop 1 words)) journal
  pub some : HasExplainedSome from file journal (first_of (codes "registers") (explain_rows (drop 1 words))) (presentation_in words) old new fault

-- The words ask to be told their JOURNAL on their FILE, and it was told in the presentation of these words.
pub record HasExplainedByWords (from : Sources) (words : List Text) (old new : Option (List ℕ)) (files files' : Option (List MadeFile)) : Type 0 where
  pub begins : Begins words (codes "explain")
  pub file : List ℕ
  pub is_file : NamesFile (explain_rows (drop 1 words)) file
  pub journal : List ℕ
  pub is_journal : NamesJournal (explain_rows (drop 1 words)) journal
  pub explained : HasExplained from file journal (first_of (codes "registers") (explain_rows (drop 1 words))) (presentation_in words) old new
  pub unsaved : KeepsFiles files files'

-- The words ask to be told a journal on their FILE, of registers by names of which this is the first that no register has, and output and files are as they were.
pub record HasExplainedNone (from : Sources) (words : List Text) (old new : Option (List ℕ)) (files files' : Option (List MadeFile)) (name : List ℕ) : Type 0 where
  pub begins : Begins words (codes "explain")
  pub file : List ℕ
  pub is_file : NamesFile (explain_rows (drop 1 words)) file
  pub lacks : LacksRegister from file (first_of (codes "registers") (explain_rows (drop 1 words))) name
  pub unprinted : Keeps old new
  pub unsaved : KeepsFiles files files'

-- This is the text of a wave of the design of texts: in a scope with the name of the module that the source spells, with the names and widths of the design's registers; of a
-- whole design in the scopes of the design.
abbrev pub IsDumpText : SourceTexts → Compiled → Wave → List ℕ → Type 0
IsDumpText (texts.Profile source) design wave text =
    IsDesignOf source.items design × ((parsed : Module) × Spells parsed source.items × (text ≡ vcd_text parsed.name design.names design.widths wave.changes.items wave.end))
IsDumpText (texts.Whole whole) design wave text =
    (made : WholeDesign) × IsModuleOf whole.files.items whole.words.now made × IsModuleDesign made design
    × (text ≡ scoped_text made.scopes.tick (map plain_design_scope made.scopes.scopes.items) design.names design.widths wave.changes.items wave.end)

-- This is the value change dump of a journal on the design that is asked for: the text of the journal's wave.
pub record IsDumpOf (from : Sources) (file : List ℕ) (design : Compiled) (journal : List Entry) (text : List ℕ) : Type 0 where
  pub found : SourceTexts
  pub are_texts : AreTextsAt from.held file from.words found
  pub wave : Wave
  pub is_wave : IsWaveOf (design_of design) journal wave
  pub is_text : IsDumpText found design wave text

-- The dump of a journal, which is lawful for the design that is asked for and whose text is in the journal's file, where
-- that is known, was put at a path, and no other file was made.
pub record HasDumped (from : Sources) (file journal_file : List ℕ) (path : List ℕ) (files files' : Option (List MadeFile)) : Type 0 where
  pub design : Compiled
  pub left : Option (List ℕ)
  pub opened : IsOpened from.held journal_file left
  pub journal : List Entry
  pub is_read : IsReadJournal left journal
  pub text : List ℕ
  pub is_dump : IsDumpOf from file design journal text
  pub saved : AddsFile files files' (record { path = path; bytes = text })

-- the dump of a journal ends so: it was put at the path, or a whole design is refused, and the files are as they were
abbrev pub HasDumpedTo : Sources → List ℕ → List ℕ → List ℕ → Option (List MadeFile) → Option (List MadeFile) → Ending → Type 0
HasDumpedTo from file journal_file path files files' ending.Done = HasDumped from file journal_file path files files'
HasDumpedTo from file journal_file path files files' (ending.Wrong text) = IsSome from.words × KeepsFiles files files'
HasDumpedTo from file journal_file path files files' (ending.Stopped s) = ⊥
HasDumpedTo from file journal_file path files files' (ending.Found f) = ⊥
HasDumpedTo from file journal_file path files files' (ending.NoRegister name) = ⊥
HasDumpedTo from file journal_file path files files' ending.Differ = ⊥

-- The words ask for a value change dump of their JOURNAL on their FILE, which was put at the OUT of these words, and nothing was left on output.
pub record HasWaves (from : Sources) (words : List Text) (old new : Option (List ℕ)) (files files' : Option (List MadeFile)) : Type 0 where
  pub begins : Begins words (codes "waves")
  pub path : List ℕ
  pub out : first_of (codes "out") (waves_rows (drop 1 words)) ≡ Some path
  pub file : List ℕ
  pub is_file : NamesFile (waves_rows (drop 1 words)) file
  pub journal : List ℕ
  pub is_journal : NamesJournal (waves_rows (drop 1 words)) journal
  pub dumped : HasDumped from file journal path files files'
  pub unprinted : Keeps old new

-- Two journals that were left to read were compared on a design, and this is told of them, of all times of each register that differs or not.
pub record ComparesJournals (subject : DesignSubject) (all : Bool) (first second : Option (List ℕ)) (told : Comparison) : Type 0 where
  pub one : List Entry
  pub one_read : IsReadJournal first one
  pub other : List Entry
  pub other_read : IsReadJournal second other
  pub is_told : IsComparison subject.processes.items subject.design all one other told

-- What is in two journals' files, where that is known, was compared on the design that is asked for. Output grew by what
-- is told of them, and this says whether they are the same.
pub record HasComparedFiles (from : Sources) (file first second : List ℕ) (all : Bool) (old new : Option (List ℕ)) (same : Bool) : Type 0 where
  pub subject : DesignSubject
  pub is_subject : IsSubjectAt from file subject
  pub one : Option (List ℕ)
  pub one_opened : IsOpened from.held first one
  pub other : Option (List ℕ)
  pub other_opened : IsOpened from.held second other
  pub told : Comparison
  pub compares : ComparesJournals subject all one other told
  pub printed : Appends old new told.text.items
  pub same_is : told.same ≡ same

-- The words ask for a comparison of their J1 and J2 on their FILE, and so it was made, of all times where they give `--all`.
pub record HasCompared (from : Sources) (words : List Text) (old new : Option (List ℕ)) (files files' : Option (List MadeFile)) (same : Bool) : Type 0 where
  pub begins : Begins words (codes "diff")
  pub file : List ℕ
  pub is_file : NamesFile (diff_rows (drop 1 words)) file
  pub first : List ℕ
  pub is_first : first_of (codes "J1") (diff_rows (drop 1 words)) ≡ Some first
  pub second : List ℕ
  pub is_second : first_of (codes "J2") (diff_rows (drop 1 words)) ≡ Some second
  pub compared : HasComparedFiles from file first second (flag_given (codes "all") (diff_rows (drop 1 words))) old new same
  pub unsaved : KeepsFiles files files'

-- what was found differs: a search found several texts, or two journals aren't the same
abbrev pub HaveDiffered : Sources → List Text → Option (List ℕ) → Option (List ℕ) → Option (List MadeFile) → Option (List MadeFile) → Type 0
HaveDiffered from words old new files files' = HasSearched from words old new files files' finding.Several ⊎ HasCompared from words old new files files' false

-- what was checked has a design
abbrev pub IsRight : Sources → List ℕ → Type 0
IsRight from file = (design : Compiled) × IsDesignIn from file design

-- the source has a fault, which isn't want of memory; of a whole design that is refused nothing more is said
abbrev pub HasSourceFault : SourceTexts → Type 0
HasSourceFault (texts.Profile source) = (fault : SourceFault) × IsSourceFault source.items fault × (source_status_of fault ≡ 3)
HasSourceFault (texts.Whole whole) = Unit {0}

-- a source was checked, and this is told of what is wrong with it: it has a design, or a fault, which isn't want of memory
abbrev pub IsSourceChecked : {T : Type 0} → List ℕ → Option T → Type 0
IsSourceChecked source None = (design : Compiled) × IsDesignOf source design
IsSourceChecked source (Some text) = (fault : SourceFault) × IsSourceFault source fault × (source_status_of fault ≡ 3)

-- what was checked has a fault
abbrev pub IsWrong : Sources → List ℕ → Type 0
IsWrong from file = (found : SourceTexts) × AreTextsAt from.held file from.words found × HasSourceFault found

-- what is asked for was checked, and this is told of what is wrong with it
abbrev pub HasChecked : {T : Type 0} → Sources → List ℕ → Option T → Type 0
HasChecked from file None = IsRight from file
HasChecked from file (Some text) = IsWrong from file

-- the words ask for a check of this FILE
pub record AsksCheckOf (words : List Text) (path : List ℕ) : Type 0 where
  pub begins : Begins words (codes "check")
  pub file : first_of (codes "FILE") (check_rows (drop 1 words)) ≡ Some path

-- The words ask for a check of their FILE, which is right, and output grew by a line that says so of it.
pub record HasConfirmed (from : Sources) (words : List Text) (old new : Option (List ℕ)) (files files' : Option (List MadeFile)) : Type 0 where
  pub begins : Begins words (codes "check")
  pub path : List ℕ
  pub is_right : IsRight from path
  pub file : first_of (codes "FILE") (check_rows (drop 1 words)) ≡ Some path
  pub shown : Appends old new (right_text path)
  pub unsaved : KeepsFiles files files'

-- The words ask for the flat module of a whole design, whose text was put at OUT where these words name one, and else on output.
pub record HasFlattenedByWords (from : Sources) (words : List Text) (old new : Option (List ℕ)) (files files' : Option (List MadeFile)) : Type 0 where
  pub begins : Begins words (codes "flatten")
  pub asked : DesignWords
  pub is_asked : from.words ≡ Some asked
  pub text : List ℕ
  pub is_text : IsFlatTextOf from.held asked text
  pub put : IsPut (first_of (codes "out") (flatten_rows (drop 1 words))) text old new files files'

-- The words ask for help, and output grew by some text; or for the version, which output grew by; or they ask for a run, which
-- left its lines and its journal and wasn't stopped by a limit; or they ask for a replay, which left its lines; or for a search
-- for races, which found one text and no other possible one; or for a check of a source, which is right; or for a value change
-- dump, which stands in its place; or to be told a journal,
-- which is lawful; or for a comparison of two journals, which are the same.
pub data IsDone (from : Sources) (words : List Text) (old new : Option (List ℕ)) (files files' : Option (List MadeFile)) : Type 0 where
  helped : AsksHelp words → (text : List ℕ) → Appends old new text → KeepsFiles files files' → IsDone from words old new files files'
  versioned : Begins words (codes "--version") → Appends old new version_text → KeepsFiles files files' → IsDone from words old new files files'
  ran : HasRun from words old new files files' None → IsDone from words old new files files'
  replayed : HasPlayed from words old new → KeepsFiles files files' → IsDone from words old new files files'
  searched : HasSearched from words old new files files' finding.One → IsDone from words old new files files'
  checked : HasConfirmed from words old new files files' → IsDone from words old new files files'
  dumped : HasWaves from words old new files files' → IsDone from words old new files files'
  explained : HasExplainedByWords from words old new files files' → IsDone from words old new files files'
  compared : HasCompared from words old new files files' true → IsDone from words old new files files'
  flattened : HasFlattenedByWords from words old new files files' → IsDone from words old new files files'

-- The words ask for a check of their FILE, which is wrong, and nothing was left on output.
pub record HasRefused (from : Sources) (words : List Text) (old new : Option (List ℕ)) (files files' : Option (List MadeFile)) : Type 0 where
  pub begins : Begins words (codes "check")
  pub file : List ℕ
  pub is_file : NamesFile (check_rows (drop 1 words)) file
  pub is_wrong : IsWrong from file
  pub unprinted : Keeps old new
  pub unsaved : KeepsFiles files files'

-- The words ask for anything else of a whole design, which is refused, and output and files are as they were.
pub record HasRefusedDesign (from : Sources) (words : List Text) (old new : Option (List ℕ)) (files files' : Option (List MadeFile)) : Type 0 where
  pub other : Begins words (codes "check") → ⊥
  pub whole : IsSome from.words
  pub unprinted : Keeps old new
  pub unsaved : KeepsFiles files files'

-- What a command that ended so has done.
abbrev pub HasEnded : Sources → List Text → Option (List ℕ) → Option (List ℕ) → Option (List MadeFile) → Option (List MadeFile) → Ending → Type 0
HasEnded from words old new files files' ending.Done = IsDone from words old new files files'
HasEnded from words old new files files' (ending.Stopped stop) = HasRun from words old new files files' (Some stop)
HasEnded from words old new files files' (ending.Found found) = HasSearched from words old new files files' found
HasEnded from words old new files files' (ending.Wrong text) = HasRefused from words old new files files' ⊎ HasRefusedDesign from words old new files files'
HasEnded from words old new files files' (ending.NoRegister name) =
    HasSearchedBy from words old new files files' (ending.NoRegister name) ⊎ HasExplainedNone from words old new files files' (string_bytes name)
HasEnded from words old new files files' ending.Differ = HasCompared from words old new files files' false

-- What is left where memory was refused, or a worker couldn't be started, before anything was done: output and files as they were; or of a search, what it left before
-- its end; or where the words ask to be told a journal, the files as they were.
pub data IsLeft (from : Sources) (words : List Text) (old new : Option (List ℕ)) (files files' : Option (List MadeFile)) : Type 0 where
  untouched : Keeps old new → KeepsFiles files files' → IsLeft from words old new files files'
  begun : HasBegunSearch from words old new files files' → IsLeft from words old new files files'
  waves_begun : HasBegunWaveSearch from words old new files files' → IsLeft from words old new files files'
  interrupted : Begins words (codes "explain") → KeepsFiles files files' → IsLeft from words old new files files'

-- At status 2 and 3 nothing is printed, and at 5 neither, unless a journal is told, up to its fault.
abbrev pub IsUnprinted : List Text → ℕ → Type 0
IsUnprinted words status = (status ≡ 2) ⊎ ((status ≡ 3) ⊎ ((status ≡ 5) × (Begins words (codes "explain") → ⊥)))
