-- The node of a run, made again.
use Rattle.std.proofs.Common.{[], subst}
use Rattle.loose.specs.Classes.{class_in}
use Rattle.regions.specs.Machine.{MachineView}
use Rattle.lawful.specs.Again.{HasGoneAgain}
use Rattle.lawful.specs.declared.node.LooseNode.{LooseNode}
use Rattle.lawful.proofs.Remade.{made_again}
use Rattle.lawful.proofs.telling.LinesAloneRunTelling.again.Goals as goal

pub returns : goal.returns
returns c code limits run other from whole =
    let class = class_in c.args.classes.now in
    let moves = c.args.moves.now in
    let node : LooseNode = record { machine = c.in_ok-machine.machine; tail = c.new.result } in
    made_again class code limits c.args.from.now node other run moves
    (subst (λ (p : MachineView). HasGoneAgain class p moves c.in_ok-machine.machine.value) c.deref.ensures c.in_ok-machine.ensures) from whole
