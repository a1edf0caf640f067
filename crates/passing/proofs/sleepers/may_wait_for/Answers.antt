-- An edge that it doesn't wait for, or a register.
use Rattle.std.proofs.Common.{ap, sym, ◌∙◌}
use Rattle.design.specs.ControlWaking.{wakes_by}
use Rattle.passing.proofs.Deaf.{wakes_never}
use Rattle.passing.proofs.sleepers.may_wait_for.Goals as goal

pub returns-then-width : goal.returns-then-width
returns-then-width c = λ on.
    let own = c.args.own in
    ap (wakes_by c.args.control.now own.register) (sym c.edge.ensures) ∙ sym c.is_woken.ensures ∙ on

pub returns-else-width : goal.returns-else-width
returns-else-width c = λ on.
    let own = c.args.own in
    wakes_never c.args.control.now own.register own.before own.after (sym c.waits_for.ensures ∙ on)
