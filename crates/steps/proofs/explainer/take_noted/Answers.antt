-- The entry is the turn that was evaluated, or is taken whole.
use Rattle.std.proofs.Common.{ℕ, Option, Some, sym, subst}
use Rattle.std.specs.Prelude.{OnOk, IfErr}
use Rattle.model.specs.declared.entry.Entry.{Entry}
use Rattle.regions.specs.StepLogs.{IsTurnGiven, IsTaken}
use Rattle.regions.specs.Machine.{state_at, IsNotTaken}
use Rattle.steps.specs.ExplainerStanding.{IsLogFilled}
use Rattle.steps.proofs.explainer.take_noted.Goals as goal

pub take_turn-requires : goal.take_turn-requires
take_turn-requires c =
    let p = c.args.machine.now in
    let filled = subst (λ (o : Option ℕ). IsLogFilled p.code (state_at p) c.args.entry c.args.log.now o) c.in-Some.is c.requires in
    record { turn = subst (λ (e : Entry). IsTurnGiven p.code (state_at p) e (Some c.args.log.now)) filled.0 filled.1 }

pub returns-in-Some-clause-taken : goal.returns-in-Some-clause-taken
returns-in-Some-clause-taken c =
    let p = c.args.machine.now in
    let q = c.take_turn.new.self in
    let filled = subst (λ (o : Option ℕ). IsLogFilled p.code (state_at p) c.args.entry c.args.log.now o) c.in-Some.is c.requires in
    subst (λ (e : Entry). OnOk c.take_turn.result (IsTaken p.code (state_at p) p.lines e (state_at q) q.lines)) (sym filled.0) c.take_turn.ensures.taken

pub returns-in-Some-clause-stop : goal.returns-in-Some-clause-stop
returns-in-Some-clause-stop c =
    let p = c.args.machine.now in
    let filled = subst (λ (o : Option ℕ). IsLogFilled p.code (state_at p) c.args.entry c.args.log.now o) c.in-Some.is c.requires in
    subst (λ (e : Entry). IfErr c.take_turn.result (IsNotTaken p e)) (sym filled.0) c.take_turn.ensures.stop
