-- The events of a machine stand in order, and where the transitions led, its lines are dropped.
use Rattle.std.proofs.Common.{length, ap}
use Rattle.std.proofs.lemmas.Result.{on_ok_weaker}
use Rattle.loose.specs.Classes.{class_in}
use Rattle.regions.specs.Machine.{MachineView, state_at}
use Rattle.lawful.proofs.Ordered.{in_order}
use Rattle.lawful.proofs.Remade.{gone_again}
use Rattle.lawful.proofs.again.go_again.Goals as goal

pub take_all-taken-requires : goal.take_all-taken-requires
take_all-taken-requires c =
    let m = c.args.machine.now in
    in_order m.code.widths (length m.core.processes) (state_at m) c.stands_in_order.ensures

pub returns : goal.returns
returns c =
    let class = class_in c.args.classes.now in
    let m = c.take_all-taken.new.machine in
    let last = c.take_lines-lines.new.self in
    let rest = c.take_lines-lines.ensures.rest in
    on_ok_weaker c.take_all-taken.result
    (λ taken. gone_again class c.args.machine.now m m last c.args.moves.now taken.gone (ap state_at rest) (ap (λ (p : MachineView). p.code) rest) (ap (λ (p : MachineView). p.lines) rest) c.stands.ensures.controls) c.take_all-taken.ensures
