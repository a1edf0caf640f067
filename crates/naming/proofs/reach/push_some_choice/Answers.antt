-- The choice is told with its processes.
use Rattle.std.proofs.Common.{◌≡◌, ◌++◌, ◌∙◌, ap, List, ℕ, map, subst}
use Rattle.std.specs.Prelude.{OnOk}
use Rattle.verdict.specs.OrderLines.{PlainPrinter, plain_printer}
use Rattle.verdict.specs.ReachLines.{choices_text}
use Rattle.verdict.specs.declared.order.PrinterDescription.{PrinterDescription}
use Rattle.naming.specs.LineOrders.{printer_of}
use Rattle.naming.proofs.reach.push_some_choice.Goals as goal

pub returns : goal.returns
returns c =
    let choice = c.args.choice.now in
    let told : map plain_printer c.as_slice-2.result.now ≡ map (printer_of c.args.processes.now) choice.processes.items =
    ap (λ (ps : List PrinterDescription). map plain_printer ps) c.as_slice-2.ensures.value ∙ (c.in_ok-printers.ensures ∙ ap (λ (ns : List ℕ). map (printer_of c.args.processes.now) ns) c.as_slice.ensures.value) in
    subst (λ (ps : List PlainPrinter). OnOk c.push_choices.result (c.push_choices.new.text.items ≡ c.args.text.now.items ++ choices_text choice.time ps)) told c.push_choices.ensures
