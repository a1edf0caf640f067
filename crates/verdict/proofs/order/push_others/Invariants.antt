use Rattle.std.proofs.Common.{◌≡◌, ◌++◌, drop, map}
use Rattle.verdict.specs.OrderLines.{later_printers_text, plain_printer}
use Rattle.verdict.proofs.order.push_others.Given as goal

abbrev pub invariant-loop-place : goal.invariant-loop-place
invariant-loop-place l = l.text.items ++ later_printers_text (map plain_printer (drop l.place l.others)) ≡ l.initial.text.items ++ later_printers_text (map plain_printer l.others)
