-- The words in which a race is told.
use Rattle.std.specs.Prelude.{◌≡◌, ℕ, List, Some, codes, slice_get}
use Rattle.design.specs.Compiled.{Compiled}
use Rattle.conflicts.specs.declared.bounds.Bound.{Bound}
use Rattle.conflicts.specs.declared.bounds.Bound.TheVariants as bounds
use Rattle.conflicts.specs.declared.bounds.RaceBounds.{RaceBounds}
use Rattle.accesses.specs.declared.role.Does.{Does}
use Rattle.accesses.specs.declared.role.Does.TheVariants.{Writes, Assigns, Updates, Reads, Waits, Prints, Strobes, Finishes, Runs, Schedules}
use Rattle.accesses.specs.declared.role.Site as found
use Rattle.accesses.specs.declared.role.Site.TheVariants as sites
use Rattle.verdict.specs.declared.cut.ListCut.{ListCut}
use Rattle.verdict.specs.declared.cut.ListCut.TheVariants as cuts
use Rattle.verdict.specs.declared.race.SiteDescription as told
use Rattle.verdict.specs.declared.race.SiteDescription.TheVariants as lines

-- what an entry does
abbrev pub access_word : Does → List ℕ
access_word Writes = codes "writes it"
access_word Assigns = codes "assigns it"
access_word Updates = codes "updates it"
access_word Reads = codes "reads it"
access_word Waits = codes "waits for it"
access_word Prints = codes "prints"
access_word Strobes = codes "strobes"
access_word Finishes = codes "finishes the run"
access_word Runs = codes "takes a turn"
access_word Schedules = codes "schedules updates"

-- by what a list of races was cut, with the bound that was met
abbrev pub cut_of : RaceBounds → Bound → ListCut
cut_of race_bounds bounds.Races = cuts.Races race_bounds.races
cut_of race_bounds bounds.Pairs = cuts.Runs race_bounds.pairs
cut_of race_bounds bounds.Entries = cuts.Entries race_bounds.entries
cut_of race_bounds bounds.Steps = cuts.Steps 1024
cut_of race_bounds bounds.Memory = cuts.Memory

-- for what two entries race: a register of the design is told by its name
abbrev pub IsSiteTold : Compiled → found.Site → told.SiteDescription → Type 0
IsSiteTold code (sites.Register r) (lines.Register name) = (known : List ℕ) → slice_get code.names r ≡ Some known → name.now ≡ known
IsSiteTold code (sites.Register r) lines.Printing = ⊥
IsSiteTold code (sites.Register r) lines.Strobing = ⊥
IsSiteTold code (sites.Register r) lines.Finishing = ⊥
IsSiteTold code (sites.Register r) lines.Updating = ⊥
IsSiteTold code sites.Printing site = site ≡ lines.Printing
IsSiteTold code sites.Strobing site = site ≡ lines.Strobing
IsSiteTold code sites.Finishing site = site ≡ lines.Finishing
IsSiteTold code sites.Updating site = site ≡ lines.Updating
