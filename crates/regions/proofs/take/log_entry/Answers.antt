-- The entry is the turn, which was evaluated or wasn't.
use Rattle.std.proofs.Common.{Bool, sym, subst}
use Rattle.std.specs.Prelude.{Some, None, if◌then◌else◌}
use Rattle.model.specs.declared.entry.Entry.{Entry}
use Rattle.model.specs.declared.entry.Entry.TheVariants as entries
use Rattle.design.specs.DesignInvariant.{remainder_of_state}
use Rattle.regions.specs.Queue.{state_of}
use Rattle.regions.specs.StepLogs.{IsTurnGiven}
use Rattle.regions.proofs.Given.{given_by}
use Rattle.regions.proofs.take.log_entry.Goals as goal

pub returns-in-Ok : goal.returns-in-Ok
returns-in-Ok c =
    let code = c.args.design.now in
    let s = state_of (remainder_of_state code) c.args.store.now c.args.state.now in
    subst (λ (e : Entry). IsTurnGiven code s e (if c.is_some.result then Some c.log_turn.new.log else None)) (sym c.in-Turn.is)
    (subst (λ (b : Bool). IsTurnGiven code s (entries.Turn c.in-Turn.number) (if b then Some c.log_turn.new.log else None)) (sym c.is_some.ensures)
    (given_by code s c.in-Turn.number c.log_turn.new.log c.in-Ok.found c.in-Ok.ensures))
