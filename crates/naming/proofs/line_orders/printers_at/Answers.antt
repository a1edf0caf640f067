-- The processes of the races at a time are told.
use Rattle.std.proofs.Common.{◌∙◌, ap, List, ℕ, map}
use Rattle.naming.specs.LineOrders.{printer_of}
use Rattle.naming.proofs.line_orders.printers_at.Goals as goal

pub returns : goal.returns
returns c = c.in_ok-printers.ensures ∙ ap (λ (ns : List ℕ). map (printer_of c.args.processes.now) ns) (c.as_slice.ensures.value ∙ c.in_ok-numbers.ensures)
