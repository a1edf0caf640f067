-- The nonblocking assignments of the log are those of the turn.
use Rattle.std.proofs.Common.{List, length, sym, ◌∙◌, ap}
use Rattle.std.specs.Prelude.{◌==◌, not}
use Rattle.model.specs.Runs.{has_any}
use Rattle.model.specs.Turns.{NonblockingAssignment}
use Rattle.turn.specs.TurnLogs.{assignment_of}
use Rattle.accesses.proofs.Leading.{any_mapped}
use Rattle.accesses.proofs.accesses.schedules.Goals as goal

pub returns : goal.returns
returns c controls turn h =
    ap not c.is_empty.ensures
    ∙ (ap (λ ns. not (length ns == 0)) c.nbas.ensures
    ∙ (sym (any_mapped assignment_of c.args.log.now.nbas) ∙ ap (λ (ls : List NonblockingAssignment). has_any ls) h.1.nbas))
