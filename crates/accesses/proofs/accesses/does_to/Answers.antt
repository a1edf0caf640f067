-- The nonblocking assignments of the log are those of the turn.
use Rattle.std.proofs.Common.{List, sym, ◌∙◌, ap}
use Rattle.std.specs.Prelude.{◌==◌}
use Rattle.std.specs.List.{list_any}
use Rattle.model.specs.Turns.{NonblockingAssignment}
use Rattle.turn.specs.TurnLogs.{assignment_of}
use Rattle.accesses.specs.declared.role.Does.{Does}
use Rattle.accesses.specs.Roles.{does_to}
use Rattle.accesses.proofs.Leading.{any_of_map}
use Rattle.accesses.proofs.accesses.does_to.Goals as goal

pub returns-in-Assigns : goal.returns-in-Assigns
returns-in-Assigns c turn h =
    c.assigns.ensures
    ∙ (sym (any_of_map (λ (l : NonblockingAssignment). l.register == c.args.register) assignment_of c.args.log.now.nbas)
    ∙ (ap (λ (ls : List NonblockingAssignment). list_any (λ l. l.register == c.args.register) ls) h.1.nbas
    ∙ ap (λ (d : Does). does_to c.args.register d turn) (sym c.in-Assigns.is)))
