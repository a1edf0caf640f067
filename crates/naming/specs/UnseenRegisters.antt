-- Registers whose values differ where no line shows it.
use Rattle.std.specs.Prelude.{ℕ, ◌==◌, if◌then◌else◌, List, [], ◌∷◌, ◌++◌, codes, flat_map, length, Option, Some, None, slice_get}
use Rattle.design.specs.Compiled.{Compiled}
use Rattle.locations.specs.declared.location.ProcessLocation.{ProcessLocation}
use Rattle.accesses.specs.declared.pair.Pair.{Pair}
use Rattle.accesses.specs.declared.role.Site.{Site}
use Rattle.accesses.specs.declared.role.Site.TheVariants as sites
use Rattle.races.specs.declared.unseen.UnseenDifference.{UnseenDifference}
use Rattle.verdict.specs.UnseenLines.{raced_pair_text, unseen_line_text}
use Rattle.naming.specs.LineOrders.{printer_of}

-- a name, or `?` where there is none
abbrev pub name_or_unknown : Option (List ℕ) → List ℕ
name_or_unknown (Some name) = name
name_or_unknown None = codes "?"

-- the name of a register of a design
abbrev pub named_register : Compiled → ℕ → List ℕ
named_register code r = name_or_unknown (slice_get code.names r)

-- the names of registers that follow another one, with a comma before each
abbrev pub further_names : Compiled → List ℕ → List ℕ
further_names code rs = flat_map (λ r. codes ", " ++ named_register code r) rs

-- the names of registers, with a comma between two of them
abbrev pub register_names : Compiled → List ℕ → List ℕ
register_names code [] = []
register_names code (r ∷ rs) = named_register code r ++ further_names code rs

-- a register of a design for which two processes race
abbrev pub raced_register : Compiled → ℕ → List ℕ
raced_register code r = codes "register " ++ named_register code r

-- for what two processes race
abbrev pub raced_site : Compiled → Site → List ℕ
raced_site code (sites.Register r) = raced_register code r
raced_site code sites.Printing = codes "the order of lines"
raced_site code sites.Strobing = codes "the order of strobes"
raced_site code sites.Finishing = codes "the end of the run"
raced_site code sites.Updating = codes "the order of updates"

-- for what the processes of two entries race, when, and which two they are
abbrev pub raced_by : Compiled → List ProcessLocation → Pair → List ℕ
raced_by code processes pair =
    raced_pair_text (raced_site code pair.site) pair.time (printer_of processes pair.first.process) (printer_of processes pair.second.process)

-- so it is where two entries are told
abbrev pub raced_text : Compiled → List ProcessLocation → Option Pair → List ℕ
raced_text code processes (Some pair) = raced_by code processes pair
raced_text code processes None = []

-- the line on the registers that differ, if some do
abbrev pub difference_line : Compiled → List ProcessLocation → Option UnseenDifference → List ℕ
difference_line code processes (Some d) =
    unseen_line_text (raced_text code processes d.pair) (register_names code d.registers.items) (length d.registers.items) d.time
difference_line code processes None = []

-- so it is where one text is told, and of several no such line stands
abbrev pub unseen_text : Compiled → List ProcessLocation → ℕ → Option UnseenDifference → List ℕ
unseen_text code processes texts unseen = if texts == 1 then difference_line code processes unseen else []
