-- What a race shows, and how many there are.
use Rattle.std.specs.Prelude.{◌≡◌, ◌≤◌, ◌⊎◌, ℕ, List, length, Option, Some, IfSome}
use Rattle.std.specs.List.{All, AllPairs}
use Rattle.model.specs.declared.entry.Entry.{Entry}
use Rattle.model.specs.declared.end.Limits.{Limits}
use Rattle.model.specs.Design.{Design}
use Rattle.design.specs.Compiled.{Compiled, design_of}
use Rattle.runs.specs.declared.run.RunRecord.{RunRecord}
use Rattle.runs.specs.RunRecords.{IsRun}
use Rattle.runs.specs.Compared.{AreDifferentRuns, WantsNoMemory}
use Rattle.races.specs.declared.told.Race.{Race}
use Rattle.conflicts.specs.declared.bounds.RaceBounds.{RaceBounds}
use Rattle.conflicts.specs.declared.bounds.Bound.{Bound}
use Rattle.conflicts.specs.declared.bounds.Bound.TheVariants.{Races, Pairs}
use Rattle.races.specs.declared.trials.Trials.{Trials}
use Rattle.races.specs.Unseen.{IsUnseen}
use Rattle.accesses.specs.declared.role.Role.{Role}
use Rattle.accesses.specs.declared.pair.Pair.{Pair}
use Rattle.accesses.specs.Roles.{HasBothOrders}

-- what a race says of its two processes is so in a journal, and in that of its second run they come the other way round
abbrev pub IsNamed : Design → List Entry → Race → Type 0
IsNamed design journal race = HasBothOrders design journal race.exchanged.journal.items race.site race.time race.first race.second

-- A race of a design: what it says of its two processes is so in the first run's journal, and in a second run within the limits
-- they come the other way round. Neither run wants memory, and they differ in what stands in both.
pub record IsShownRace (code : Compiled) (limits : Limits) (original : RunRecord) (race : Race) : Type 0 where
  pub named : IsNamed (design_of code) original.journal.items race
  pub exchanged : IsRun code limits race.exchanged
  pub remembered : WantsNoMemory original × WantsNoMemory race.exchanged
  pub apart : AreDifferentRuns original race.exchanged

-- two pairs of roles are of the same two processes
abbrev pub AreOfSame : Role → Role → Role → Role → Type 0
AreOfSame a b c d = ((a.process ≡ c.process) × (b.process ≡ d.process)) ⊎ ((a.process ≡ d.process) × (b.process ≡ c.process))

-- two races are for other sites, or of other processes
abbrev pub AreOthers : Race → Race → Type 0
AreOthers a b = a.site ≡ b.site → AreOfSame a.first a.second b.first b.second → ⊥

-- a race is for the site of a pair, and of its two roles
abbrev pub IsRaceOf : Pair → Race → Type 0
IsRaceOf pair race = (race.site ≡ pair.site) × (race.first ≡ pair.first) × (race.second ≡ pair.second)

-- none of these races is for the site of a pair, and of its two processes
abbrev pub IsNewBeside : List Race → Pair → Type 0
IsNewBeside races pair = All (λ race. race.site ≡ pair.site → AreOfSame race.first race.second pair.first pair.second → ⊥) races

-- A second run: it is one of the design within the limits, wants no memory, and is apart from the first run.
pub record IsSecond (code : Compiled) (limits : Limits) (original exchanged : RunRecord) : Type 0 where
  pub run : IsRun code limits exchanged
  pub remembered : WantsNoMemory exchanged
  pub apart : AreDifferentRuns original exchanged

-- How many races there are, and how many second runs were made for them: within the bounds, and each race by a run of its own. The
-- list is cut by a bound only where that is met.
pub record IsWithinBounds (bounds : RaceBounds) (races : List Race) (tried : ℕ) (cut : Option Bound) : Type 0 where
  pub few_races : length races ≤ bounds.races
  pub few_tries : tried ≤ bounds.pairs
  pub shown : length races ≤ tried
  pub full_races : cut ≡ Some Races → length races ≡ bounds.races
  pub full_tries : cut ≡ Some Pairs → tried ≡ bounds.pairs

-- the tries so far keep within the bounds
abbrev pub IsTrying : RaceBounds → Trials → Type 0
IsTrying bounds t = IsWithinBounds bounds t.races.items t.tried t.cut

-- as much was tried as before, or more, within the bounds, and the same races are told
abbrev pub HasTried : RaceBounds → Trials → Trials → Type 0
HasTried bounds old new = IsTrying bounds new × (new.races ≡ old.races) × (old.tried ≤ new.tried)

-- the races that are told so far keep within the bounds, each is shown, and no two are for one site and of the same two processes; and the
-- unseen difference is one, if one is kept
abbrev pub AreToldRaces : Compiled → Limits → RunRecord → RaceBounds → Trials → Type 0
AreToldRaces code limits original bounds t =
    IsTrying bounds t × All (IsShownRace code limits original) t.races.items × AllPairs AreOthers t.races.items
    × IfSome t.unseen (IsUnseen code limits original)

-- a run of every design, within any limits: one of no entries, for which there was no memory
abbrev pub IsOfAnyDesign : RunRecord → Type 0
IsOfAnyDesign run = (code : Compiled) (limits : Limits) → IsRun code limits run
