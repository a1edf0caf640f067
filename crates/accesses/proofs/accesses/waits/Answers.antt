-- The triggers of the event control for which the process waits.
use Rattle.std.proofs.Common.{[], List, sym, ◌∙◌, ap, arith}
use Rattle.std.specs.Prelude.{◌==◌}
use Rattle.std.specs.List.{list_any}
use Rattle.model.specs.Design.{Trigger}
use Rattle.turn.specs.declared.log.Suspend.{Suspend}
use Rattle.turn.specs.TurnLogs.{wait_of}
use Rattle.accesses.specs.Roles.{waits_for}
use Rattle.accesses.proofs.accesses.waits.Goals as goal

pub returns-in-Some : goal.returns-in-Some
returns-in-Some c =
    c.waits_for.ensures
    ∙ (ap (λ (ts : List Trigger). list_any (λ t. t.1 == c.args.register) ts) (c.in-Some.ensures.lookup.4 (omega arith) [])
    ∙ ap (λ (s : Suspend). waits_for c.args.register (wait_of c.args.controls.now s)) (sym c.in-Event.is ∙ c.suspend.ensures))
