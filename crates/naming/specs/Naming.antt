-- Races that are told in lines.
use Rattle.std.specs.Prelude.{◌≡◌, ℕ, ◌+◌, Bool, IsTrue, not, List, [], ◌∷◌, ◌++◌, drop, length, map, take, Option, Some, None, IfSome, option_map, slice_get, string_bytes}
use Rattle.std.specs.List.{All, filter}
use Rattle.model.specs.declared.entry.Entry.{Entry}
use Rattle.model.specs.declared.end.End.{End}
use Rattle.design.specs.Compiled.{Compiled}
use Rattle.executed.specs.declared.statements.RunStatements.{RunStatements}
use Rattle.executed.specs.RunNumbers.{AreStatementsOfRole}
use Rattle.explore.specs.declared.Shown.{Shown}
use Rattle.runs.specs.declared.run.RunRecord.{RunRecord}
use Rattle.causes.specs.declared.parting_race.PartingRace.{PartingRace}
use Rattle.causes.specs.declared.causes.Causes.{Causes}
use Rattle.causes.specs.Causes.{numbered_causes}
use Rattle.races.specs.LineOrders.{is_line_order}
use Rattle.races.specs.declared.told.Race as found_race
use Rattle.conflicts.specs.declared.bounds.Bound.{Bound}
use Rattle.races.specs.declared.told.Found.{Found}
use Rattle.conflicts.specs.declared.bounds.RaceBounds.{RaceBounds}
use Rattle.accesses.specs.declared.role.Role as found_role
use Rattle.accesses.specs.declared.role.Site.{Site}
use Rattle.verdict.specs.VerdictLines.{IsFirstDifference, HaveSameLines}
use Rattle.verdict.specs.declared.race.RaceDescription.{RaceDescription}
use Rattle.verdict.specs.declared.race.RoleDescription.{RoleDescription}
use Rattle.verdict.specs.declared.race.RunDescription.{RunDescription}
use Rattle.verdict.specs.declared.race.SiteDescription.{SiteDescription}
use Rattle.verdict.specs.RaceLines.{prefix_of, race_text, unnamed_text}
use Rattle.verdict.specs.CutLines.{cut_text}
use Rattle.locations.specs.declared.location.ProcessLocation.{ProcessLocation}
use Rattle.naming.specs.Begins.{begin_of, plain_begin}
use Rattle.naming.specs.SourcePlaces.{ArePlacesOf}
use Rattle.naming.specs.declared.places.SourcePlaces.{SourcePlaces}
use Rattle.naming.specs.declared.naming.RaceWords.{RaceWords}
use Rattle.naming.specs.declared.naming.ToldSoFar.{ToldSoFar}
use Rattle.naming.specs.declared.line_orders.LineOrder.{LineOrder}
use Rattle.naming.specs.LineOrders.{orders_text}
use Rattle.naming.specs.TextOrders.{DifferInOrder, order_alone_text}
use Rattle.naming.specs.UnseenRegisters.{unseen_text}
use Rattle.naming.specs.RaceWords.{cut_of, IsSiteTold}
use Rattle.naming.specs.RoleWords.{role_words}

-- A process is told by its number, where it begins, and what it does at this site, in words and with the lines of statements of it that do so: of those that were found, each of which
-- has a node that does so, or else those between which all stand, where they are known.
pub record IsRoleTold (places : SourcePlaces) (code : Compiled) (raced : Site) (site : SiteDescription) (role : found_role.Role) (told : RoleDescription) : Type 0 where
  pub number : told.number ≡ role.process
  pub begin : option_map plain_begin told.begins ≡ begin_of places.processes.now role.process
  pub found : Option RunStatements
  pub found_so : IfSome found (AreStatementsOfRole code raced role)
  pub does : told.does.now ≡ role_words places site role found

-- A race is so in words: what it is for, and what its two processes do.
pub record AreWordsOf (places : SourcePlaces) (code : Compiled) (race : found_race.Race) (words : RaceWords) : Type 0 where
  pub site_is : IsSiteTold code race.site words.site
  pub first_run : Option RunStatements
  pub first_so : IfSome first_run (AreStatementsOfRole code race.site race.first)
  pub first_is : words.first.now ≡ role_words places words.site race.first first_run
  pub second_run : Option RunStatements
  pub second_so : IfSome second_run (AreStatementsOfRole code race.site race.second)
  pub second_is : words.second.now ≡ role_words places words.site race.second second_run

-- the first line in which two texts differ, or none where they have the same lines
abbrev pub IsDifferenceTold : List ℕ → List ℕ → Option ℕ → List ℕ → List ℕ → Type 0
IsDifferenceTold one other (Some number) first second = IsFirstDifference one other number first second
IsDifferenceTold one other None first second = HaveSameLines one other

-- the journal beside a text is that of a run
abbrev pub HasJournal : RunRecord → Shown Entry End → Type 0
HasJournal run s = s.moves.items ≡ run.journal.items

-- A journal is told by a number, from 1, where the one with that number is that of the run. None is told where none of them is.
abbrev pub IsJournalTold : List (Shown Entry End) → RunRecord → Option ℕ → Type 0
IsJournalTold shown run (Some number) = (s : Shown Entry End) × (place : ℕ) × (number ≡ place + 1) × (slice_get shown place ≡ Some s) × HasJournal run s
IsJournalTold shown run None = All (λ s. HasJournal run s → ⊥) shown

-- one of the two runs of a race
abbrev pub IsRunTold : List (Shown Entry End) → RunRecord → RunDescription → Type 0
IsRunTold shown run told = IsJournalTold shown run told.journal

-- A race is told with a number: for what, when, by whom, and by the two runs.
pub record IsRaceTold (places : SourcePlaces) (code : Compiled) (shown : List (Shown Entry End)) (prefix : Option (List ℕ)) (original : RunRecord) (number : ℕ) (race : found_race.Race) (told : RaceDescription) : Type 0 where
  pub number_is : told.number ≡ number
  pub site : IsSiteTold code race.site told.site
  pub time_is : told.time ≡ race.time
  pub first : IsRoleTold places code race.site told.site race.first told.first
  pub second : IsRoleTold places code race.site told.site race.second told.second
  pub prefix_is : prefix_of told ≡ prefix
  pub difference : IsDifferenceTold (string_bytes original.lines) (string_bytes race.exchanged.lines) told.line told.original.line.now told.exchanged.line.now
  pub one : IsRunTold shown original told.original
  pub other : IsRunTold shown race.exchanged told.exchanged

-- each of some things is told, with numbers from one on
abbrev pub AreEachTold : {X : Type 0} → (ℕ → X → RaceDescription → Type 0) → ℕ → List X → List RaceDescription → Type 0
AreEachTold IsTold number [] [] = Unit {0}
AreEachTold IsTold number (x ∷ xs) [] = ⊥
AreEachTold IsTold number [] (t ∷ ts) = ⊥
AreEachTold IsTold number (x ∷ xs) (t ∷ ts) = IsTold number x t × AreEachTold IsTold (number + 1) xs ts

-- a race that parts texts is told with a number, by both of its runs
abbrev pub IsCauseTold : SourcePlaces → Compiled → List (Shown Entry End) → Option (List ℕ) → ℕ → PartingRace → RaceDescription → Type 0
IsCauseTold places code shown prefix number cause told = IsRaceTold places code shown prefix cause.original number cause.race told

-- the lines on races
abbrev pub races_text : List RaceDescription → List ℕ
races_text [] = []
races_text (t ∷ ts) = race_text t ++ races_text ts

-- the line on a list that was cut, and none where it wasn't
abbrev pub list_end_text : RaceBounds → Option Bound → List ℕ
list_end_text race_bounds (Some bound) = cut_text (cut_of race_bounds bound)
list_end_text race_bounds None = []

-- the lines on texts for which no race was found, by their numbers
abbrev pub unnamed_lines : List ℕ → List ℕ
unnamed_lines [] = []
unnamed_lines (n ∷ ns) = unnamed_text n ++ unnamed_lines ns

-- a race for the order of lines, as it is told: its time, its two processes, and the journal in which they come the other way round
pub record IsOrderOf (shown : List (Shown Entry End)) (race : found_race.Race) (order : LineOrder) : Type 0 where
  pub time_is : order.time ≡ race.time
  pub first_is : order.first ≡ race.first.process
  pub second_is : order.second ≡ race.second.process
  pub journal : IsJournalTold shown race.exchanged order.journal

-- so is each of some races
abbrev pub AreOrdersOf : List (Shown Entry End) → List PartingRace → List LineOrder → Type 0
AreOrdersOf shown [] [] = Unit {0}
AreOrdersOf shown (c ∷ cs) [] = ⊥
AreOrdersOf shown [] (o ∷ os) = ⊥
AreOrdersOf shown (c ∷ cs) (o ∷ os) = IsOrderOf shown c.race o × AreOrdersOf shown cs os

-- a race that shows in a run
abbrev pub parting_of : RunRecord → found_race.Race → PartingRace
parting_of original race = record { original = original; race = race }

-- those for the order of lines
abbrev pub line_orders : List PartingRace → List PartingRace
line_orders causes = filter (λ cause. is_line_order cause.race.site) causes

-- those of a first run that have a number
abbrev pub numbered_races : List found_race.Race → List found_race.Race
numbered_races races = filter (λ race. not (is_line_order race.site)) races

-- races that part texts, and behind them those of a first run
abbrev pub all_races : List PartingRace → Found → List PartingRace
all_races causes found = causes ++ map (parting_of found.original) found.races.items

-- a race for the order of lines was kept
pub record AddsOrder (shown : List (Shown Entry End)) (race : found_race.Race) (before after : ToldSoFar) : Type 0 where
  pub order : LineOrder
  pub is_order : IsOrderOf shown race order
  pub orders_is : after.orders.items ≡ before.orders.items ++ order ∷ []
  pub number_is : after.number ≡ before.number

-- a text has grown by the lines on a race, with this number
pub record TellsNumbered (places : SourcePlaces) (code : Compiled) (shown : List (Shown Entry End)) (prefix : Option (List ℕ)) (original : RunRecord) (number : ℕ) (race : found_race.Race) (old new : List ℕ) : Type 0 where
  pub told : RaceDescription
  pub is_told : IsRaceTold places code shown prefix original number race told
  pub new_is : new ≡ old ++ race_text told

-- A text has grown by the lines on those of some races that have a number, from the next one on, and the others, which are for the order of lines, were kept.
pub record TellsSome (places : SourcePlaces) (code : Compiled) (shown : List (Shown Entry End)) (prefix : Option (List ℕ)) (races : List PartingRace) (old new : List ℕ) (before after : ToldSoFar) : Type 0 where
  pub told : List RaceDescription
  pub are_told : AreEachTold (IsCauseTold places code shown prefix) before.number (numbered_causes races) told
  pub new_is : new ≡ old ++ races_text told
  pub number_is : after.number ≡ before.number + length (numbered_causes races)
  pub kept : List LineOrder
  pub are_kept : AreOrdersOf shown (line_orders races) kept
  pub orders_is : after.orders.items ≡ before.orders.items ++ kept

-- What was found in a design is told in these lines: races that part texts, and behind them those of a first run, each process by where it begins, and by the lines
-- of the source between which it does what it is told for, where these are known.
-- Those that aren't for the order of lines come first, one after another, with numbers, and then one line for each time of the others. Behind them stands by what the
-- list of the first run's was cut, if it was.
pub record TellsRaces (processes : List ProcessLocation) (source : List ℕ) (code : Compiled) (shown : List (Shown Entry End)) (prefix : Option (List ℕ)) (race_bounds : RaceBounds) (found : Found) (causes : List PartingRace) (lines : List ℕ) : Type 0 where
  pub places : SourcePlaces
  pub are_places : ArePlacesOf processes source places
  pub told : List RaceDescription
  pub are_told : AreEachTold (IsCauseTold places code shown prefix) 1 (numbered_causes (all_races causes found)) told
  pub kept : List LineOrder
  pub are_kept : AreOrdersOf shown (line_orders (all_races causes found)) kept
  pub lines_is : lines ≡ races_text told ++ (orders_text places.processes.now prefix kept ++ list_end_text race_bounds found.cut)

-- a text has grown by lines that tell what was found
pub record TellsBehind (processes : List ProcessLocation) (source : List ℕ) (code : Compiled) (shown : List (Shown Entry End)) (prefix : Option (List ℕ)) (race_bounds : RaceBounds) (found : Found) (causes : List PartingRace) (old new : List ℕ) : Type 0 where
  pub lines : List ℕ
  pub tells : TellsRaces processes source code shown prefix race_bounds found causes lines
  pub new_is : new ≡ old ++ lines

-- how many have a number of the races of a first run, and of so many that part texts
abbrev pub numbered_before : Found → ℕ → List PartingRace → ℕ
numbered_before found before causes = length (numbered_races found.races.items) + length (numbered_causes (take before causes))

-- a text has grown by the line that says that texts differ only in the order of lines at one time, and they do; or by none
pub record TellsAlone (code : Compiled) (shown : List (Shown Entry End)) (old new : List ℕ) : Type 0 where
  pub alone : Bool
  pub is_alone : IsTrue alone → DifferInOrder code shown
  pub new_is : new ≡ old ++ order_alone_text alone

-- What was found behind so many races that part texts, and those of a first run, is told in these lines: the further races that part texts, with numbers behind those,
-- then one line for each time of those for the order of lines, for which texts none was found, and by what their list was cut. The next line says that the texts differ only
-- in the order of lines at one time, where it stands, and then they do. The last one stands where one text is told, and names registers that differ in two runs which print it, and two
-- processes whose order does that, where they are known.
pub record TellsMore (processes : List ProcessLocation) (source : List ℕ) (code : Compiled) (shown : List (Shown Entry End)) (prefix : Option (List ℕ)) (race_bounds : RaceBounds) (found : Found) (before : ℕ) (causes : Causes) (lines : List ℕ) : Type 0 where
  pub places : SourcePlaces
  pub are_places : ArePlacesOf processes source places
  pub told : List RaceDescription
  pub are_told : AreEachTold (IsCauseTold places code shown prefix) (numbered_before found before causes.causes.items + 1) (numbered_causes (drop before causes.causes.items)) told
  pub kept : List LineOrder
  pub are_kept : AreOrdersOf shown (line_orders (drop before causes.causes.items)) kept
  pub alone : Bool
  pub is_alone : IsTrue alone → DifferInOrder code shown
  pub lines_is : lines ≡ races_text told ++ (orders_text places.processes.now prefix kept ++ (unnamed_lines causes.unnamed.items ++ (list_end_text race_bounds causes.cut ++ (order_alone_text alone ++ unseen_text code places.processes.now (length shown) found.unseen))))

-- a text has grown by such lines
pub record TellsMoreBehind (processes : List ProcessLocation) (source : List ℕ) (code : Compiled) (shown : List (Shown Entry End)) (prefix : Option (List ℕ)) (race_bounds : RaceBounds) (found : Found) (before : ℕ) (causes : Causes) (old new : List ℕ) : Type 0 where
  pub lines : List ℕ
  pub tells : TellsMore processes source code shown prefix race_bounds found before causes lines
  pub new_is : new ≡ old ++ lines
