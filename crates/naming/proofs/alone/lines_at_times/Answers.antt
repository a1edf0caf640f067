-- What an observer of no register sees of the journal.
use Rattle.std.proofs.Common.{ℕ, List, Option, subst}
use Rattle.std.specs.Prelude.{IfSome}
use Rattle.design.specs.Compiled.{design_of}
use Rattle.looseruns.specs.RegisterObserver.{seen_registers, seen_unless_finished}
use Rattle.observers.specs.declared.observation.Observation.{Observation}
use Rattle.observers.specs.Observations.{IsObservationOf}
use Rattle.naming.proofs.alone.lines_at_times.Goals as goal

pub returns-in-Some : goal.returns-in-Some
returns-in-Some c =
    let design = design_of c.args.design.now in
    let journal = c.args.journal.now in
    let registers = c.new.result.items in
    let seen = subst (λ (found : Option Observation). IfSome found (IsObservationOf design (seen_unless_finished (seen_registers registers)) journal)) c.in-Some.is c.in_ok-observation.ensures.some in
    record {
      observation = c.in-Some.observation;
      is_of = subst (λ (rs : List ℕ). IsObservationOf design (seen_unless_finished (seen_registers rs)) journal c.in-Some.observation) c.new.ensures.items seen;
      lines_is = c.in_ok-arranged-in-Some.ensures;
    }
