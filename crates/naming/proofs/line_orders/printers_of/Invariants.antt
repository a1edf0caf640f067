-- The processes with the numbers that were looked at.
use Rattle.std.proofs.Common.{◌≡◌, map, take}
use Rattle.verdict.specs.OrderLines.{plain_printer}
use Rattle.naming.specs.LineOrders.{printer_of}
use Rattle.naming.proofs.line_orders.printers_of.Given as goal

abbrev pub invariant-loop-place : goal.invariant-loop-place
invariant-loop-place l = map plain_printer l.printers.items ≡ map (printer_of l.processes) (take l.place l.numbers)
