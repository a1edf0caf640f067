-- What a search finds of runs, where something else is compared of them than their lines, in order, and what it leaves.
use Rattle.std.specs.Prelude.{◌≡◌, ◌⊎◌, ℕ, ◌+◌, ◌*◌, ◌≤◌, min, nat_lt, if◌then◌else◌, Bool, true, false, List, [], ◌++◌, length, Option, Some, None, IfSome, IsSome, option_map, string_bytes}
use Rattle.std.specs.Io.KnownBytes.{Appends, Keeps}
use Rattle.std.specs.List.{All, AllPairs}
use Rattle.model.specs.declared.entry.Entry.{Entry}
use Rattle.model.specs.declared.end.End.{End}
use Rattle.model.specs.declared.end.Limits.{Limits}
use Rattle.model.specs.Texts as orders
use Rattle.design.specs.Compiled.{Compiled, design_of}
use Rattle.explore.specs.declared.Shown.{Shown}
use Rattle.explore.specs.declared.stopped.Stopped.{Stopped}
use Rattle.explore.specs.declared.stopped.Stopped.TheVariants as stopped
use Rattle.explore.specs.Search.{AreDistinct, IsShown}
use Rattle.looseruns.specs.ObservedJournals.{Observer, SeenEnd, IsObservedText, AreAllObservedTexts}
use Rattle.looseruns.specs.RegisterObserver.{seen_registers, seen_unless_finished}
use Rattle.verdict.specs.declared.claim.Claim.{Claim}
use Rattle.verdict.specs.declared.claim.Claim.TheVariants.{Every, SoFar, Sampled}
use Rattle.verdict.specs.declared.claim.SearchStop.TheVariants.{States, Texts, Entries, Megabytes, Memory}
use Rattle.verdict.specs.ReachLines.{followed_text}
use Rattle.verdict.specs.WaveLines.{wave_verdict_text}
use Rattle.lawful.specs.ArrangedNodes.{IsArrangedText}
use Rattle.wavetexts.specs.AtTimes.{printed_lines}
use Rattle.wavetexts.specs.Names.{NamesRegisters, NamesUnknown, registers_from}
use Rattle.wavetexts.specs.Waves.{wave_text_of}
use Rattle.wavetexts.specs.ToldWaves.{TellsWaves}
use Rattle.wavetexts.specs.declared.names.NamedRegisters.{NamedRegisters}
use Rattle.wavetexts.specs.declared.names.NamedRegisters.TheVariants as named
use Rattle.arguments.specs.declared.observed.Observed.{Observed}
use Rattle.arguments.specs.declared.observed.Observed.TheVariants as observed
use Rattle.arguments.specs.declared.search_options.SearchOptions.{SearchOptions}
use Rattle.files.specs.Saved.{KeepsFiles, MadeFile, SavesAllWhereAsked, SavesSomeWhereAsked}
use Rattle.program.specs.Subjects.{IsDesignIn, Sources}
use Rattle.program.specs.declared.ending.Ending.{Ending}
use Rattle.program.specs.declared.ending.Ending.TheVariants as ending
use Rattle.program.specs.declared.finding.SearchFinding.{SearchFinding}
use Rattle.program.specs.FollowedOrders.{AreWavesFollowed}
use Rattle.program.specs.Findings.{OnEvery, claim_of, endings_of, endless_number, finding_of, first_text, have_stops, journals_of, limits_in, stops_from, met_limit}

-- what is seen of a state where these registers are observed
abbrev pub observer_of_registers : List ℕ → Observer
observer_of_registers registers = seen_unless_finished (seen_registers registers)

-- these registers of a design are to be observed
abbrev pub AreRegistersOf : Compiled → Observed → List ℕ → Type 0
AreRegistersOf design observed.Lines registers = ⊥
AreRegistersOf design observed.LinesAtTimes registers = registers ≡ []
AreRegistersOf design observed.Registers registers = registers ≡ registers_from 0 (length design.widths)
AreRegistersOf design (observed.Named names) registers = NamesRegisters design.names names.now registers

-- all registers of a design are to be observed
abbrev pub observes_all : Observed → Bool
observes_all observed.Lines = false
observes_all observed.LinesAtTimes = false
observes_all observed.Registers = true
observes_all (observed.Named names) = false

-- this is the first of the names that are to be observed which no register of a design has
abbrev pub HasNoRegister : Compiled → Observed → List ℕ → Type 0
HasNoRegister design observed.Lines name = ⊥
HasNoRegister design observed.LinesAtTimes name = ⊥
HasNoRegister design observed.Registers name = ⊥
HasNoRegister design (observed.Named names) name = NamesUnknown design.names name names.now

-- these registers are to be observed, or such a name is told
abbrev pub AreRegistersAsked : Compiled → Observed → NamedRegisters → Type 0
AreRegistersAsked design asked (named.All registers) = AreRegistersOf design asked registers.items
AreRegistersAsked design asked (named.Unknown name) = HasNoRegister design asked name.now

-- A wave and its end are those of the lawful journal beside it, which has no more entries than a run may have: of its observed text and observed end.
pub record IsLawfulWave (code : Compiled) (limits : Limits) (registers : List ℕ) (w : Shown Entry End) : Type 0 where
  pub text : List ℕ
  pub end : SeenEnd
  pub lawful : IsObservedText (design_of code) limits (observer_of_registers registers) w.moves.items text end
  pub within : orders.IsWithinLimits limits w.moves.items
  pub text_is : w.text.items ≡ wave_text_of (length registers) text end
  pub end_is : w.end ≡ end.end

-- each lawful journal in time has its wave and its end among these, but for ends by the most entries or for want of memory
abbrev pub AreAllWaves : Compiled → Limits → List ℕ → List (Shown Entry End) → Type 0
AreAllWaves code limits registers waves =
    AreAllObservedTexts (design_of code) limits (observer_of_registers registers) (λ text end. IsShown waves (wave_text_of (length registers) text end) end.end)

-- the most texts and ends, with the lines of each time in order, that are searched where so many waves may be found
abbrev pub texts_bound : ℕ → ℕ
texts_bound waves = min (waves * 1000) 4294967295

-- the most texts, of which a search with so many waves has met the limit
abbrev pub most_texts : SearchOptions → ℕ → ℕ
most_texts search_options count = if nat_lt count search_options.max_texts then texts_bound search_options.max_texts else search_options.max_texts

-- what is claimed of the waves of a search that stopped for this, or didn't, and found so many
abbrev pub wave_claim_of : SearchOptions → Option Stopped → ℕ → Option ℕ → ℕ → Claim
wave_claim_of search_options (Some stopped.Shown) nodes endless count = SoFar (Texts (most_texts search_options count))
wave_claim_of search_options s nodes endless count = claim_of search_options s nodes endless

-- So many observed texts were found with the lines of each time in order, each with its end and a lawful journal in time that has both: no two have one text and one end.
pub record HasArrangedTexts (code : Compiled) (limits : Limits) (registers : List ℕ) (count : ℕ) : Type 0 where
  pub texts : List (Shown Entry SeenEnd)
  pub lawful : All (λ s. IsArrangedText (design_of code) limits (length registers) (observer_of_registers registers) s.moves.items s.text.items s.end) texts
  pub distinct : AllPairs AreDistinct texts
  pub count_is : length texts ≡ count

-- The claim, on so many waves, keeps to what was asked: it has no more states than the search may reach, and names the limit of states, entries or megabytes that was given;
-- or that of waves, where so many were found, or of texts and ends, where so many of these were.
abbrev pub IsWaveClaimWithin : Compiled → SearchOptions → List ℕ → ℕ → Claim → Type 0
IsWaveClaimWithin code search_options registers count (Every states endless) = states ≤ search_options.max_states
IsWaveClaimWithin code search_options registers count (SoFar (States most)) = most ≡ search_options.max_states
IsWaveClaimWithin code search_options registers count (SoFar (Texts most)) =
    ((most ≡ search_options.max_texts) × (most ≤ count)) ⊎ ((most ≡ texts_bound search_options.max_texts) × HasArrangedTexts code (limits_in search_options) registers most)
IsWaveClaimWithin code search_options registers count (SoFar (Entries most)) = most ≡ search_options.max_entries
IsWaveClaimWithin code search_options registers count (SoFar (Megabytes most)) = most ≡ search_options.max_memory
IsWaveClaimWithin code search_options registers count (SoFar Memory) = Unit {0}
IsWaveClaimWithin code search_options registers count (Sampled orders) = ⊥

-- Of a design these waves were found, each with its end and a lawful journal in time that has both. No two are one wave with one end, and they are no more than were asked
-- for. Where it is claimed that they are all, each lawful journal in time has its wave and its end among them, but for ends by the most entries or for want of memory. Where it is
-- claimed that some runs don't come to an end, a lawful journal is known from which none does, and its number is behind those of the waves; else none is told. The claim
-- keeps to what was asked. Where it says that the search met a limit, nothing was left out before the time that is told, if one is.
pub record AreFoundWaves (design : Compiled) (search_options : SearchOptions) (registers : List ℕ) (claim : Claim) (followed : Option ℕ) (waves : List (Shown Entry End)) (endless : Option (List Entry)) : Type 0 where
  pub sound : All (IsLawfulWave design (limits_in search_options) registers) waves
  pub distinct : AllPairs AreDistinct waves
  pub few : length waves ≤ search_options.max_texts
  pub within : IsWaveClaimWithin design search_options registers (length waves) claim
  pub all : OnEvery claim (AreAllWaves design (limits_in search_options) registers waves)
  pub never : IfSome endless (orders.IsEndlessJournal (design_of design) (limits_in search_options))
  pub numbered : endless_number claim ≡ option_map (λ journal. length waves + 1) endless
  pub before :
      met_limit claim ≡ true → AreWavesFollowed design (limits_in search_options) (observer_of_registers registers) (length registers) search_options.max_texts waves followed

-- the line on this time before which all orders were followed, where it is claimed that a search met a limit
abbrev pub followed_at_limit : Claim → ℕ → List ℕ
followed_at_limit claim time = if met_limit claim then followed_text time else []

-- so it is, where a time is known
abbrev pub before_line : Claim → Option ℕ → List ℕ
before_line claim (Some time) = followed_at_limit claim time
before_line claim None = []

-- What is said of waves: in what each but the first one parts from that, before which time all orders were followed, where a limit was met and one is known, what they are, how their runs end,
-- and whose stop short.
pub record AreWavesSaid (design : Compiled) (asked : Observed) (registers : List ℕ) (search_options : SearchOptions) (prefix : Option (List ℕ)) (claim : Claim) (followed : Option ℕ) (waves : List (Shown Entry End)) (said : List ℕ) : Type 0 where
  pub parts : List ℕ
  pub tells : TellsWaves design.names registers prefix waves [] parts
  pub said_is : said ≡ parts ++ (before_line claim followed ++ wave_verdict_text claim search_options.until (length waves) (observes_all asked) (length registers) (printed_lines (length registers) (first_text waves)) (endings_of waves) (stops_from 1 waves) prefix)

-- Waves of a design were found of the registers that were to be observed, and output grew by what is said of them.
pub record HasSaidWaves (design : Compiled) (asked : Observed) (search_options : SearchOptions) (prefix : Option (List ℕ)) (old new : Option (List ℕ)) : Type 0 where
  pub registers : List ℕ
  pub are_registers : AreRegistersOf design asked registers
  pub claim : Claim
  pub waves : List (Shown Entry End)
  pub endless : Option (List Entry)
  pub followed : Option ℕ
  pub are_found : AreFoundWaves design search_options registers claim followed waves endless
  pub said : List ℕ
  pub are_said : AreWavesSaid design asked registers search_options prefix claim followed waves said
  pub printed : Appends old new said

-- So it is, the journals of the waves, and of a run that comes to no end, were saved where a prefix is given, and this is what the search has come to.
pub record HasFoundWaves (design : Compiled) (asked : Observed) (search_options : SearchOptions) (prefix : Option (List ℕ)) (old new : Option (List ℕ)) (files files' : Option (List MadeFile)) (found : SearchFinding) : Type 0 where
  pub has_said : HasSaidWaves design asked search_options prefix old new
  pub saved : SavesAllWhereAsked files files' prefix (journals_of has_said.waves has_said.endless)
  pub finding : found ≡ finding_of has_said.claim (length has_said.waves) (have_stops has_said.waves) false

-- So it is, and of the journals a beginning was saved where a prefix is given, and else none.
pub record HasSavedWaves (design : Compiled) (asked : Observed) (search_options : SearchOptions) (prefix : Option (List ℕ)) (old new : Option (List ℕ)) (files files' : Option (List MadeFile)) : Type 0 where
  pub has_said : HasSaidWaves design asked search_options prefix old new
  pub saved : SavesSomeWhereAsked files files' prefix (journals_of has_said.waves has_said.endless)

-- a name is told at the end of a command
abbrev pub IsNameTold : List ℕ → Ending → Type 0
IsNameTold name ending.Done = ⊥
IsNameTold name (ending.Stopped s) = ⊥
IsNameTold name (ending.Found f) = ⊥
IsNameTold name (ending.Wrong text) = ⊥
IsNameTold name (ending.NoRegister told) = string_bytes told ≡ name
IsNameTold name ending.Differ = ⊥

-- a search of a design ends so, where something else is observed than lines: it found waves, or a name is told that no register has, and output and files are as they were
abbrev pub IsObservedEnding : Compiled → Observed → SearchOptions → Option (List ℕ) → Option (List ℕ) → Option (List ℕ) → Option (List MadeFile) → Option (List MadeFile) → Ending → Type 0
IsObservedEnding design asked search_options prefix old new files files' ending.Done = ⊥
IsObservedEnding design asked search_options prefix old new files files' (ending.Stopped s) = ⊥
IsObservedEnding design asked search_options prefix old new files files' (ending.Found f) = HasFoundWaves design asked search_options prefix old new files files' f
IsObservedEnding design asked search_options prefix old new files files' (ending.Wrong text) = ⊥
IsObservedEnding design asked search_options prefix old new files files' (ending.NoRegister name) = HasNoRegister design asked (string_bytes name) × Keeps old new × KeepsFiles files files'
IsObservedEnding design asked search_options prefix old new files files' ending.Differ = ⊥

-- so it is of the design that is asked for
pub record HasObserved (from : Sources) (file : List ℕ) (asked : Observed) (search_options : SearchOptions) (prefix : Option (List ℕ)) (old new : Option (List ℕ)) (files files' : Option (List MadeFile)) (e : Ending) : Type 0 where
  pub design : Compiled
  pub is_design : IsDesignIn from file design
  pub is_ending : IsObservedEnding design asked search_options prefix old new files files' e

-- so it is; or a whole design is refused, and output and files are as they were
abbrev pub HasObservedTo : Sources → List ℕ → Observed → SearchOptions → Option (List ℕ) → Option (List ℕ) → Option (List ℕ) → Option (List MadeFile) → Option (List MadeFile) → Ending → Type 0
HasObservedTo from file asked search_options prefix old new files files' ending.Done = HasObserved from file asked search_options prefix old new files files' ending.Done
HasObservedTo from file asked search_options prefix old new files files' (ending.Stopped s) = HasObserved from file asked search_options prefix old new files files' (ending.Stopped s)
HasObservedTo from file asked search_options prefix old new files files' (ending.Found f) = HasObserved from file asked search_options prefix old new files files' (ending.Found f)
HasObservedTo from file asked search_options prefix old new files files' (ending.Wrong text) = IsSome from.words × Keeps old new × KeepsFiles files files'
HasObservedTo from file asked search_options prefix old new files files' (ending.NoRegister name) = HasObserved from file asked search_options prefix old new files files' (ending.NoRegister name)
HasObservedTo from file asked search_options prefix old new files files' ending.Differ = HasObserved from file asked search_options prefix old new files files' ending.Differ

-- A search of the design that is asked for said all of its waves, and of their journals a beginning was saved.
pub record HasBegunWaves (from : Sources) (file : List ℕ) (asked : Observed) (search_options : SearchOptions) (prefix : Option (List ℕ)) (old new : Option (List ℕ)) (files files' : Option (List MadeFile)) : Type 0 where
  pub design : Compiled
  pub is_design : IsDesignIn from file design
  pub saved : HasSavedWaves design asked search_options prefix old new files files'

-- a search left nothing, or came so far
abbrev pub HasLeftWaves : Sources → List ℕ → Observed → SearchOptions → Option (List ℕ) → Option (List ℕ) → Option (List ℕ) → Option (List MadeFile) → Option (List MadeFile) → Type 0
HasLeftWaves from file asked search_options prefix old new files files' =
    (Keeps old new × KeepsFiles files files') ⊎ HasBegunWaves from file asked search_options prefix old new files files'
