-- A nonblocking assignment, where updates are put in order.
use Rattle.std.proofs.Common.{sym, ◌∙◌, ap}
use Rattle.accesses.specs.declared.role.Does.{Does}
use Rattle.accesses.specs.declared.role.Does.TheVariants.{Schedules}
use Rattle.accesses.specs.declared.role.Site.{Site}
use Rattle.accesses.specs.Roles.{does_at}
use Rattle.accesses.proofs.accesses.does_at.Goals as goal

pub returns-in-Updating-Schedules : goal.returns-in-Updating-Schedules
returns-in-Updating-Schedules c turn h =
    c.schedules.ensures c.args.controls.now turn h
    ∙ (ap (λ (s : Site). does_at s Schedules turn) (sym c.in-Updating-Schedules.is-0) ∙ ap (λ (d : Does). does_at c.args.site d turn) (sym c.in-Updating-Schedules.is-1))
