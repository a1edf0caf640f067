use Rattle.std.proofs.Common.{◌∙◌}
use Rattle.regcells.proofs.Tables.{widths_of_names}
use Rattle.regcells.proofs.cells.RegCells.of_widths.Goals as goal

pub returns-clause-widths : goal.returns-clause-widths
returns-clause-widths g c = widths_of_names c.in_ok-registers.registers.items ∙ c.in_ok-registers.ensures.widths
