-- The races that part texts.
use Rattle.std.specs.Prelude.{◌≡◌, ◌≤◌, ◌<◌, ◌+◌, Bool, not, List, length, Some, None}
use Rattle.std.specs.List.{All, AllPairs, filter}
use Rattle.model.specs.declared.entry.Entry.{Entry}
use Rattle.model.specs.declared.end.Limits.{Limits}
use Rattle.design.specs.Compiled.{Compiled, design_of}
use Rattle.sharing.specs.Parts.{Extends}
use Rattle.accesses.specs.Roles.{HasBothOrders}
use Rattle.accesses.specs.declared.pair.Pair.{Pair}
use Rattle.runs.specs.declared.run.RunRecord.{RunRecord}
use Rattle.runs.specs.RunRecords.{IsRun}
use Rattle.runs.specs.Compared.{AreLike}
use Rattle.causes.specs.declared.parting_race.PartingRace.{PartingRace}
use Rattle.causes.specs.declared.causes.Causes.{Causes}
use Rattle.causes.specs.declared.causes.CauseSearch.{CauseSearch}
use Rattle.conflicts.specs.declared.bounds.Bound.TheVariants.{Races, Pairs}
use Rattle.races.specs.declared.told.Found.{Found}
use Rattle.races.specs.declared.told.Race.{Race}
use Rattle.conflicts.specs.declared.bounds.RaceBounds.{RaceBounds}
use Rattle.races.specs.LineOrders.{is_line_order}
use Rattle.races.specs.Races.{AreOfSame, AreOthers, IsShownRace}

-- two runs have a pair in both orders
abbrev pub IsPairOf : Compiled → RunRecord → RunRecord → Pair → Type 0
IsPairOf code original exchanged pair = HasBothOrders (design_of code) original.journal.items exchanged.journal.items pair.site pair.time pair.first pair.second

-- A race that parts texts: its first run is lawful and in time, with its lines and its end, and it is a race that shows in that.
pub record IsShownCause (code : Compiled) (limits : Limits) (cause : PartingRace) : Type 0 where
  pub original : IsRun code limits cause.original
  pub shown : IsShownRace code limits cause.original cause.race

-- a race that parts the text of a run: it is one, and its first run has the lines and the end of that
abbrev pub PartsRun : Compiled → Limits → RunRecord → PartingRace → Type 0
PartsRun code limits first cause = IsShownCause code limits cause × AreLike first cause.original

-- A race that parts a text: it is one, and its first run has the lines and the end of the lawful run with this journal.
pub record IsCauseBehind (code : Compiled) (limits : Limits) (journal : List Entry) (cause : PartingRace) : Type 0 where
  pub first : RunRecord
  pub is_run : IsRun code limits first
  pub journal_is : first.journal.items ≡ journal
  pub alike : AreLike first cause.original
  pub shown : IsShownCause code limits cause

-- two of them are for other sites, or of other processes
abbrev pub AreOtherCauses : PartingRace → PartingRace → Type 0
AreOtherCauses a b = AreOthers a.race b.race

-- one of them is for another site than a pair, or of other processes
abbrev pub IsNewCause : Pair → PartingRace → Type 0
IsNewCause pair cause = cause.race.site ≡ pair.site → AreOfSame cause.race.first cause.race.second pair.first pair.second → ⊥

-- one is for another site than races that were found before and than other ones, or of other processes
abbrev pub AreNewBeside : List Race → List PartingRace → PartingRace → Type 0
AreNewBeside races causes cause = All (λ race. AreOthers race cause.race) races × All (λ other. AreOtherCauses other cause) causes

-- whether a race has a number when it is told: it isn't for the order of lines
abbrev pub is_numbered : PartingRace → Bool
is_numbered cause = not (is_line_order cause.race.site)

-- those that have a number
abbrev pub numbered_causes : List PartingRace → List PartingRace
numbered_causes causes = filter is_numbered causes

-- Races that part texts: each is one. No two are for one site and of the same two processes, and none is of those of a race that was found
-- before. Those that have a number are no more than may be told, and a bound cuts their list only where it is met.
pub record AreCauses (code : Compiled) (limits : Limits) (bounds : RaceBounds) (found : Found) (c : Causes) : Type 0 where
  pub shown : All (IsShownCause code limits) c.causes.items
  pub distinct : AllPairs AreOtherCauses c.causes.items
  pub beside : All (λ cause. All (λ race. AreOthers race cause.race) found.races.items) c.causes.items
  pub few : length (numbered_causes c.causes.items) ≤ bounds.races
  pub full_races : c.cut ≡ Some Races → length (numbered_causes c.causes.items) ≡ bounds.races
  pub full_tries : c.cut ≡ Some Pairs → c.runs ≡ 0

-- unless the list was cut, a race was found, or a text is left for which none was
abbrev pub HasAnswer : Found → Causes → Type 0
HasAnswer found c = c.cut ≡ None → 0 < length c.causes.items + length c.unnamed.items + length found.races.items

-- but for the runs and the entries that are left all is as it was
abbrev pub IsStill : Causes → Causes → Type 0
IsStill old new = new ≡ record old { runs = new.runs; entries = new.entries }

-- further races that part texts were looked for: all are such, and those that were there stay
abbrev pub AddsCauses : CauseSearch → Causes → Causes → Type 0
AddsCauses search old new =
    AreCauses search.design.now search.limits search.bounds search.found.now new × Extends old.causes.items new.causes.items
