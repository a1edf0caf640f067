-- What one process more waits for.
use Rattle.std.proofs.Common.{◌+◌, List, take, get_or, ap, ◌∙◌}
use Rattle.std.proofs.lemmas.List.{get_or_default}
use Rattle.model.specs.Design.{Trigger}
use Rattle.regions.specs.ProcessWaking.{triggers_at}
use Rattle.regions.specs.Queue.{Core}
use Rattle.regions.specs.Machine.{state_at}
use Rattle.footprints.specs.Footprints.{awaited_by_all}
use Rattle.model.specs.Turns.{contains}
use Rattle.heldmoves.specs.WithoutHeld.{without_held}
use Rattle.noted.proofs.Growing.{grown_by}
use Rattle.noted.proofs.Woken.{awaited_more}
use Rattle.noted.proofs.waking.note_ended.Goals as goal

pub loop-process-preserved : goal.loop-process-preserved
loop-process-preserved c =
    let ps = (without_held (contains c.args.held.now) (state_at c.args.machine.now)).processes in
    let ns = c.args.processes.now in
    let i = c.loop-process.process-index in
    let n = get_or ns i 0 in
    let controls = c.controls-controls.result.now in
    let ts = triggers_at controls c.control_beside.result in
    let waits = ap (λ (cs : List (List Trigger)). triggers_at cs c.control_beside.result) (c.controls-controls.ensures ∙ ap (λ (k : Core). k.controls) c.state.ensures) ∙ c.control_beside.ensures in
    grown_by c.args.list.now c.loop-process.list c.note_control.new.list (awaited_by_all ps (take i ns)) (awaited_by_all ps (take (i + 1) ns)) ts c.loop-process.invariant c.in_ok-note_control.ensures
    (awaited_more ps ns i n ts c.loop-process-test.true (get_or_default ns i 0 n c.loop-process-test.true) waits)
