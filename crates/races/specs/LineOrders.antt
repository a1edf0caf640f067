-- Races for the order of lines.
use Rattle.std.specs.Prelude.{Bool, true, false}
use Rattle.accesses.specs.declared.role.Site.{Site}
use Rattle.accesses.specs.declared.role.Site.TheVariants.{Register, Printing, Strobing, Finishing, Updating}

-- whether a site is the order of lines
abbrev pub is_line_order : Site → Bool
is_line_order (Register r) = false
is_line_order Printing = true
is_line_order Strobing = false
is_line_order Finishing = false
is_line_order Updating = false
