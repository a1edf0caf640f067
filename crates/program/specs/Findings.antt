-- What a search of lawful orders finds, what it claims, and how its exit status tells it.
use Rattle.std.specs.Prelude.{◌≡◌, ◌⊎◌, ℕ, ◌+◌, ◌==◌, ◌≤◌, Bool, true, false, nat_lt, if◌then◌else◌, List, [], ◌∷◌, ◌++◌, length, map, Option, Some, None, IfSome, IsTrue, Result, Ok, Err, option_map, string_bytes, codes}
use Rattle.std.specs.List.{All, AllPairs, Any, list_any}
use Rattle.model.specs.declared.entry.Entry.{Entry}
use Rattle.model.specs.declared.end.End.{End}
use Rattle.model.specs.declared.end.End.TheVariants as ending
use Rattle.model.specs.declared.end.Why.{Why}
use Rattle.model.specs.declared.end.Why.TheVariants as why
use Rattle.model.specs.declared.end.Limits.{Limits}
use Rattle.model.specs.Texts.{IsLawfulText, AreAllTexts}
use Rattle.design.specs.Compiled.{Compiled, design_of}
use Rattle.explore.specs.declared.Shown.{Shown}
use Rattle.explore.specs.declared.stopped.Stopped.{Stopped}
use Rattle.explore.specs.declared.stopped.Stopped.TheVariants as stopped
use Rattle.sharing.specs.Parts.{Extends}
use Rattle.explore.specs.Search.{AreDistinct, IsShown}
use Rattle.runs.specs.RunRecords as recorded
use Rattle.runs.specs.Compared.{IsWhole}
use Rattle.seeded.specs.Seeds.{AreSampled}
use Rattle.seeded.specs.declared.samples.SampleStop.{SampleStop}
use Rattle.seeded.specs.declared.samples.SampleStop.TheVariants as sample_stop
use Rattle.runs.specs.declared.run.RunRecord.{RunRecord}
use Rattle.model.specs.Texts as orders
use Rattle.races.specs.Races as shown_races
use Rattle.races.specs.Unseen.{IsUnseen}
use Rattle.races.specs.declared.told.Found.{Found}
use Rattle.conflicts.specs.declared.bounds.Bound.{Bound}
use Rattle.conflicts.specs.declared.bounds.Bound.TheVariants as cut
use Rattle.conflicts.specs.declared.bounds.RaceBounds.{RaceBounds}
use Rattle.verdict.specs.declared.stops.StopCause.{StopCause}
use Rattle.verdict.specs.declared.stops.StopCause.TheVariants.{LongTurn, LastTime}
use Rattle.verdict.specs.declared.stops.StopDescription.{StopDescription}
use Rattle.verdict.specs.declared.endings.RunEndings.{RunEndings}
use Rattle.verdict.specs.declared.claim.SampledOrders.{SampledOrders}
use Rattle.verdict.specs.declared.claim.Claim.{Claim}
use Rattle.verdict.specs.declared.claim.Claim.TheVariants.{Every, SoFar, Sampled}
use Rattle.verdict.specs.declared.claim.SearchStop.{SearchStop}
use Rattle.verdict.specs.declared.claim.SearchStop.TheVariants.{States, Texts, Entries, Megabytes, Memory}
use Rattle.arguments.specs.declared.search_options.SearchOptions.{SearchOptions}
use Rattle.program.specs.FollowedOrders.{AreTextsFollowed}
use Rattle.program.specs.declared.known.KnownTexts.{KnownTexts}
use Rattle.program.specs.declared.finding.SearchFinding.{SearchFinding}
use Rattle.program.specs.declared.finding.SearchFinding.TheVariants as finding

-- what one text is that every lawful run prints, by whether that stops short
abbrev pub every_of : Bool → SearchFinding
every_of false = finding.One
every_of true = finding.Unfinished

-- what one text is that is all that is printed: the only one, unless some runs come to no end, or its run stops short
abbrev pub only_of : Option ℕ → Bool → SearchFinding
only_of None stops = every_of stops
only_of (Some number) stops = finding.Unfinished

-- what no or one text is where a search stopped
abbrev pub finding_of_stop : SearchStop → SearchFinding
finding_of_stop (States most) = finding.Unfinished
finding_of_stop (Texts most) = finding.Unfinished
finding_of_stop (Entries most) = finding.Unfinished
finding_of_stop (Megabytes most) = finding.Unfinished
finding_of_stop Memory = finding.Memory

-- what no or one text is where random orders were tried, by why no more were
abbrev pub sampled_of : Option SearchStop → SearchFinding
sampled_of None = finding.Unfinished
sampled_of (Some search_stop) = finding_of_stop search_stop

-- what texts are that may not be all: this, unless memory was refused to those who might have found others
abbrev pub or_refused : Bool → SearchFinding → SearchFinding
or_refused false found = found
or_refused true found = finding.Memory

-- what no or one text is, of which this is claimed, by whether its run stops short and whether memory was refused where texts were looked for before the search
abbrev pub few_of : Claim → ℕ → Bool → Bool → SearchFinding
few_of (Every states endless) count stops refused = if count == 1 then only_of endless stops else finding.Unfinished
few_of (SoFar search_stop) count stops refused = or_refused refused (finding_of_stop search_stop)
few_of (Sampled orders) count stops refused = or_refused refused (sampled_of orders.stop)

-- what so many texts are, of which this is claimed, by whether the run of one of them stops short and whether memory was refused where texts were looked for before the search
abbrev pub finding_of : Claim → ℕ → Bool → Bool → SearchFinding
finding_of claim count stops refused = if nat_lt 1 count then finding.Several else few_of claim count stops refused

-- memory was refused where races were looked for, by what their list was cut
abbrev pub is_memory : Bound → Bool
is_memory cut.Memory = true
is_memory cut.Races = false
is_memory cut.Pairs = false
is_memory cut.Entries = false
is_memory cut.Steps = false

-- so it is where the list was cut
abbrev pub lacks_memory : Option Bound → Bool
lacks_memory None = false
lacks_memory (Some bound) = is_memory bound

-- Memory was refused before a search for texts: at least where the list of races was cut for it. Where so many random orders are tried in place of the search, none go
-- before it, and there is nothing else that it could have been refused to.
abbrev pub IsMemoryRefused : Option ℕ → Option Bound → Bool → Type 0
IsMemoryRefused None cut refused = IsTrue (lacks_memory cut) → IsTrue refused
IsMemoryRefused (Some count) cut refused = refused ≡ lacks_memory cut

-- why a run stops short that was stopped for this: by a turn that is too long, or where the time would pass the last one
abbrev pub cause_of_stop : Why → Option StopCause
cause_of_stop (why.TooLong process) = Some (LongTurn process)
cause_of_stop why.Time = Some LastTime
cause_of_stop why.Finish = None
cause_of_stop why.Until = None
cause_of_stop why.Entries = None
cause_of_stop why.Memory = None

-- why a run with this end stops short, if it does
abbrev pub stop_cause : End → Option StopCause
stop_cause ending.Quiet = None
stop_cause ending.Running = None
stop_cause (ending.Stopped why) = cause_of_stop why

-- whether there is one
abbrev pub has_cause : Option StopCause → Bool
has_cause None = false
has_cause (Some cause) = true

-- the run of one of these texts stops short
abbrev pub have_stops : List (Shown Entry End) → Bool
have_stops shown = list_any (λ s. has_cause (stop_cause s.end)) shown

-- a run was stopped by `$finish`
abbrev pub is_finish : Why → Bool
is_finish why.Finish = true
is_finish why.Until = false
is_finish why.Entries = false
is_finish (why.TooLong process) = false
is_finish why.Time = false
is_finish why.Memory = false

-- a run was stopped by the limit of time
abbrev pub is_until : Why → Bool
is_until why.Finish = false
is_until why.Until = true
is_until why.Entries = false
is_until (why.TooLong process) = false
is_until why.Time = false
is_until why.Memory = false

-- a run ends by `$finish`
abbrev pub ends_by_finish : End → Bool
ends_by_finish ending.Quiet = false
ends_by_finish ending.Running = false
ends_by_finish (ending.Stopped why) = is_finish why

-- a run ends with no event left
abbrev pub ends_quiet : End → Bool
ends_quiet ending.Quiet = true
ends_quiet ending.Running = false
ends_quiet (ending.Stopped why) = false

-- a run ends at the limit of time
abbrev pub ends_at_limit : End → Bool
ends_at_limit ending.Quiet = false
ends_at_limit ending.Running = false
ends_at_limit (ending.Stopped why) = is_until why

-- how the runs of these texts end: by which of these some do
abbrev pub endings_of : List (Shown Entry End) → RunEndings
endings_of shown = record {
  finish = list_any (λ s. ends_by_finish s.end) shown;
  quiet = list_any (λ s. ends_quiet s.end) shown;
  cut = list_any (λ s. ends_at_limit s.end) shown;
}

-- for such a cause, that the entry with a number isn't taken by the run of the text with another one
abbrev pub stop_in_text : ℕ → ℕ → Option StopCause → List StopDescription
stop_in_text number entry None = []
stop_in_text number entry (Some cause) = record { number = number; entry = entry; cause = cause } ∷ []

-- of each of these texts, which have numbers from one on, whose run stops short, the entry that would come next in its journal, and why it isn't taken
abbrev pub stops_from : ℕ → List (Shown Entry End) → List StopDescription
stops_from number [] = []
stops_from number (s ∷ ss) = stop_in_text number (length s.moves.items + 1) (stop_cause s.end) ++ stops_from (number + 1) ss

-- a search was stopped by a limit, and not by want of memory
abbrev pub is_limit : SearchStop → Bool
is_limit (States most) = true
is_limit (Texts most) = true
is_limit (Entries most) = true
is_limit (Megabytes most) = true
is_limit Memory = false

-- it is claimed that a search met a limit
abbrev pub met_limit : Claim → Bool
met_limit (Every states endless) = false
met_limit (SoFar search_stop) = is_limit search_stop
met_limit (Sampled orders) = false

-- a run has the most entries
abbrev pub has_most : Why → Bool
has_most why.Entries = true
has_most why.Finish = false
has_most why.Until = false
has_most (why.TooLong process) = false
has_most why.Time = false
has_most why.Memory = false

-- a run was stopped by its most entries
abbrev pub is_cut : End → Bool
is_cut ending.Quiet = false
is_cut ending.Running = false
is_cut (ending.Stopped why) = has_most why

-- no time is given, a search met a limit, and the first run was stopped by its most entries
abbrev pub wants_until : Option ℕ → Claim → End → Bool
wants_until (Some time) claim end = false
wants_until None claim end = if met_limit claim then is_cut end else false

-- so the option is named that ends a run
abbrev pub until_line : Option ℕ → Claim → End → List ℕ
until_line until claim end = if wants_until until claim end then codes "a run that never stops wants --until T\n" else []

-- P, where it is claimed that the texts are all
abbrev pub OnEvery : Claim → Type 0 → Type 0
OnEvery (Every states endless) P = P
OnEvery (SoFar search_stop) P = Unit {0}
OnEvery (Sampled orders) P = Unit {0}

-- Why no more random orders were tried keeps to what was asked: where nothing is told, all were, and the limit of texts, or of entries, is the one that was given.
abbrev pub IsSampleStop : SearchOptions → ℕ → ℕ → Option SearchStop → Type 0
IsSampleStop search_options made asked None = made ≡ asked
IsSampleStop search_options made asked (Some (States most)) = ⊥
IsSampleStop search_options made asked (Some (Texts most)) = most ≡ search_options.max_texts
IsSampleStop search_options made asked (Some (Entries most)) = most ≡ search_options.max_entries
IsSampleStop search_options made asked (Some (Megabytes most)) = ⊥
IsSampleStop search_options made asked (Some Memory) = Unit {0}

-- The claim, on so many texts, keeps to what was asked. Of a search of all orders it has no more states than the search may reach, and names the limit of states,
-- texts, entries or megabytes that was given, and that of texts only where so many were found. Of random orders no more were tried than were asked for, and where fewer
-- were it says why.
abbrev pub IsClaimWithin : SearchOptions → ℕ → Claim → Type 0
IsClaimWithin search_options count (Every states endless) = (search_options.samples ≡ None) × (states ≤ search_options.max_states)
IsClaimWithin search_options count (SoFar (States most)) = (search_options.samples ≡ None) × (most ≡ search_options.max_states)
IsClaimWithin search_options count (SoFar (Texts most)) = (search_options.samples ≡ None) × (most ≡ search_options.max_texts) × (most ≤ count)
IsClaimWithin search_options count (SoFar (Entries most)) = (search_options.samples ≡ None) × (most ≡ search_options.max_entries)
IsClaimWithin search_options count (SoFar (Megabytes most)) = (search_options.samples ≡ None) × (most ≡ search_options.max_memory)
IsClaimWithin search_options count (SoFar Memory) = search_options.samples ≡ None
IsClaimWithin search_options count (Sampled orders) =
    (search_options.samples ≡ Some orders.asked) × (orders.made ≤ orders.asked) × IsSampleStop search_options orders.made orders.asked orders.stop

-- what is claimed of a search that stopped for this, or didn't, and reached so many states; the journal with this number comes to no end, if one does
abbrev pub claim_of : SearchOptions → Option Stopped → ℕ → Option ℕ → Claim
claim_of search_options None nodes endless = Every nodes endless
claim_of search_options (Some stopped.Nodes) nodes endless = SoFar (States search_options.max_states)
claim_of search_options (Some stopped.Shown) nodes endless = SoFar (Texts search_options.max_texts)
claim_of search_options (Some stopped.Unfollowed) nodes endless = SoFar (Entries search_options.max_entries)
claim_of search_options (Some stopped.Bytes) nodes endless = SoFar (Megabytes search_options.max_memory)
claim_of search_options (Some stopped.Memory) nodes endless = SoFar Memory

-- for what a search stopped of which texts were left out since there are the most: for its own reason, or for that
abbrev pub or_full : Option Stopped → Option Stopped
or_full (Some s) = Some s
or_full None = Some stopped.Shown

-- For what a search stopped whose texts were put behind those that are known: for its own reason, for the most texts where one of them was left out, and for want of
-- memory where that was refused to them.
abbrev pub search_stop_of : {Fault : Type 0} → Option Stopped → Result Bool Fault → Option Stopped
search_stop_of s (Ok true) = s
search_stop_of s (Ok false) = or_full s
search_stop_of s (Err fault) = Some stopped.Memory

-- a journal, where the search wasn't stopped
abbrev pub unless_stopped : {J : Type 0} → Option Stopped → Option J → Option J
unless_stopped (Some s) journal = None
unless_stopped None journal = journal

-- the number of the journal of a run that comes to no end, where this is claimed
abbrev pub endless_number : Claim → Option ℕ
endless_number (Every states endless) = endless
endless_number (SoFar search_stop) = None
endless_number (Sampled orders) = None

-- the limits of the runs
abbrev pub limits_in : SearchOptions → Limits
limits_in search_options = record { until = search_options.until; max_entries = search_options.max_entries }

-- the text, the end and the journal are those of this run
abbrev pub IsShownRun : RunRecord → Shown Entry End → Type 0
IsShownRun run s = (s.text.items ≡ string_bytes run.lines) × (s.end ≡ run.end) × (s.moves.items ≡ run.journal.items)

-- a text and an end are those of the lawful journal beside them, which has no more entries than a run may have
abbrev pub IsLawfulShown : Compiled → Limits → Shown Entry End → Type 0
IsLawfulShown code limits s = IsLawfulText (design_of code) limits s.moves.items s.text.items s.end × orders.IsWithinLimits limits s.moves.items

-- a text and an end that were found are those of the lawful journal beside them: as a search shows them, or as a run by some
-- seed has them
abbrev pub IsFound : Claim → Compiled → Limits → Shown Entry End → Type 0
IsFound (Every states endless) code limits s = IsLawfulShown code limits s
IsFound (SoFar search_stop) code limits s = IsLawfulShown code limits s
IsFound (Sampled orders) code limits s = IsLawfulShown code limits s ⊎ ((run : RunRecord) × IsShownRun run s × recorded.IsRun code limits run)

-- a run is shown: all are, or it came to its end
abbrev pub IsWantedRun : Bool → RunRecord → Type 0
IsWantedRun all run = IsWhole run ⊎ IsTrue all

-- the text, the end and the journal are those of this run, which is shown
abbrev pub IsShownWanted : Bool → RunRecord → Shown Entry End → Type 0
IsShownWanted all run s = IsShownRun run s × IsWantedRun all run

-- the text of a run was put behind others, if it is shown
abbrev pub IsRunShownBehind : Bool → RunRecord → List (Shown Entry End) → List (Shown Entry End) → Type 0
IsRunShownBehind all run old new = ((s : Shown Entry End) × IsShownWanted all run s × (new ≡ old ++ s ∷ [])) ⊎ ((new ≡ old) × (IsWantedRun all run → ⊥))

-- where a run came to its end, its text and its end are among these, unless as many as may be are
abbrev pub IsKnown : ℕ → List (Shown Entry End) → RunRecord → Type 0
IsKnown most shown run = IsWhole run → IsShown shown (string_bytes run.lines) run.end ⊎ (length shown ≡ most)

-- why no more random orders were tried, if fewer were than asked for
abbrev pub own_stop : SearchOptions → Option SampleStop → Option SearchStop
own_stop search_options (Some sample_stop.Kept) = Some (Texts search_options.max_texts)
own_stop search_options (Some sample_stop.Entries) = Some (Entries search_options.max_entries)
own_stop search_options (Some sample_stop.Memory) = Some Memory
own_stop search_options None = None

-- so it is where the texts of these were put behind those that are known; for the most texts where one of them was left out
abbrev pub sampled_stop : SearchOptions → Option SampleStop → Bool → Option SearchStop
sampled_stop search_options stop true = own_stop search_options stop
sampled_stop search_options stop false = Some (Texts search_options.max_texts)

-- P, where random orders were tried
abbrev pub OnSampled : Claim → (SampledOrders → Type 0) → Type 0
OnSampled (Every states endless) P = Unit {0}
OnSampled (SoFar search_stop) P = Unit {0}
OnSampled (Sampled orders) P = P orders

-- P, where no more random orders were tried for the most texts
abbrev pub OnTexts : Option SearchStop → Type 0 → Type 0
OnTexts None P = Unit {0}
OnTexts (Some (States most)) P = Unit {0}
OnTexts (Some (Texts most)) P = P
OnTexts (Some (Entries most)) P = Unit {0}
OnTexts (Some (Megabytes most)) P = Unit {0}
OnTexts (Some Memory) P = Unit {0}

-- the text and the end of each of these runs are among these, unless as many as may be are
abbrev pub AreAllAmong : ℕ → List (Shown Entry End) → List RunRecord → Type 0
AreAllAmong most shown runs = All (λ run. IsShown shown (string_bytes run.lines) run.end ⊎ (length shown ≡ most)) runs

-- So many random orders were tried, of this seed and those that follow it. Each of these texts is that of one that was kept, or of a lawful journal, as one that was known. Of each
-- that was kept and came to its end the text and the end are among these, unless as many as may be are. Those that were cut off are only where none was known: then all are those
-- that were kept, and all of these are among them. Where no more were tried for the most texts, as many were kept or are among these.
pub record AreOfSeeds (design : Compiled) (limits : Limits) (first most : ℕ) (shown : List (Shown Entry End)) (orders : SampledOrders) : Type 0 where
  pub kept : List RunRecord
  pub sampled : AreSampled design limits first orders.made kept
  pub few : length kept ≤ orders.made
  pub from : All (λ s. IsLawfulShown design limits s ⊎ Any (λ run. IsShownRun run s) kept) shown
  pub there : All (IsKnown most shown) kept
  pub cut : All (IsLawfulShown design limits) shown ⊎ (All (λ s. Any (λ run. IsShownRun run s) kept) shown × AreAllAmong most shown kept)
  pub full : OnTexts orders.stop ((length kept ≡ most) ⊎ (length shown ≡ most))

-- Of a design these texts were found, each with its end and a lawful journal in time that has both. No two have one text and
-- one end, and they are no more than were asked for. Where it is claimed that they are all, each lawful journal in time has its lines and its end among them, but for
-- ends by the most entries or for want of memory. Where it is claimed that some runs don't come to an end, a lawful journal is known from which none does, and its number is
-- behind those of the texts; else none is told. The claim keeps to what was asked. Where it says that the search met a limit, nothing was left out before the time that is told,
-- if one is.
pub record AreFound (design : Compiled) (search_options : SearchOptions) (claim : Claim) (before : Option ℕ) (shown : List (Shown Entry End)) (endless : Option (List Entry)) : Type 0 where
  pub sound : All (IsFound claim design (limits_in search_options)) shown
  pub distinct : AllPairs AreDistinct shown
  pub few : length shown ≤ search_options.max_texts
  pub within : IsClaimWithin search_options (length shown) claim
  pub all : OnEvery claim (AreAllTexts (design_of design) (limits_in search_options) (IsShown shown))
  pub never : IfSome endless (orders.IsEndlessJournal (design_of design) (limits_in search_options))
  pub seeds : OnSampled claim (AreOfSeeds design (limits_in search_options) search_options.seed search_options.max_texts shown)
  pub numbered : endless_number claim ≡ option_map (λ journal. length shown + 1) endless
  pub followed : met_limit claim ≡ true → AreTextsFollowed design (limits_in search_options) search_options.max_texts shown before

-- the first text, if there is one
abbrev pub first_text : List (Shown Entry End) → List ℕ
first_text [] = []
first_text (s ∷ ss) = s.text.items

-- the journal, if there is one
abbrev pub some_journal : Option (List Entry) → List (List Entry)
some_journal None = []
some_journal (Some journal) = journal ∷ []

-- the journals that are saved: that of each text, and of a run that comes to no end
abbrev pub journals_of : List (Shown Entry End) → Option (List Entry) → List (List Entry)
journals_of shown endless = map (λ s. s.moves.items) shown ++ some_journal endless

-- all of the texts have one end
abbrev pub HaveOneEnd : List (Shown Entry End) → Type 0
HaveOneEnd [] = Unit {0}
HaveOneEnd (s ∷ ss) = All (λ t. t.end ≡ s.end) ss

-- whether not all of them have one end
abbrev pub HaveSomeEnds : List (Shown Entry End) → Bool → Type 0
HaveSomeEnds shown false = HaveOneEnd shown
HaveSomeEnds shown true = HaveOneEnd shown → ⊥

-- What a search for races has found in a design: a first run, and races of it, each of which a second run shows. No two are for one site and of the same two processes, and
-- the bounds hold within which they were looked for. Where registers are named that differ unseen, they do: they have other values in another lawful run which prints what the
-- first one prints and ends like it.
pub record AreRaces (design : Compiled) (limits : Limits) (race_bounds : RaceBounds) (found : Found) : Type 0 where
  pub original : recorded.IsRun design limits found.original
  pub races : All (shown_races.IsShownRace design limits found.original) found.races.items
  pub distinct : AllPairs shown_races.AreOthers found.races.items
  pub within : shown_races.IsWithinBounds race_bounds found.races.items found.tried found.cut
  pub unseen : IfSome found.unseen (IsUnseen design limits found.original)

-- the texts are no more than they may be, and no two of them have one text and one end
pub record AreFew (known : KnownTexts) : Type 0 where
  pub few : length known.shown.items ≤ known.most
  pub distinct : AllPairs AreDistinct known.shown.items

-- texts stayed and others may have come behind them, and they may still be as many
pub record HasGrown (old new : KnownTexts) : Type 0 where
  pub most : new.most ≡ old.most
  pub shown : Extends old.shown.items new.shown.items

-- of the first run and of each race's second run that came to its end the text and the end are among these, unless as many as may be are
abbrev pub AreRacesKnown : ℕ → Found → List (Shown Entry End) → Type 0
AreRacesKnown most found shown = IsKnown most shown found.original × All (λ race. IsKnown most shown race.exchanged) found.races.items

-- The texts that are known before all orders are searched, or random ones tried: each with its end and a lawful journal that has both, no two the same, and no more than are
-- asked for; those of the first run and of each race's second run are among them.
pub record AreKnown (design : Compiled) (search_options : SearchOptions) (found : Found) (known : List (Shown Entry End)) : Type 0 where
  pub lawful : All (IsLawfulShown design (limits_in search_options)) known
  pub distinct : AllPairs AreDistinct known
  pub few : length known ≤ search_options.max_texts
  pub races : AreRacesKnown search_options.max_texts found known
