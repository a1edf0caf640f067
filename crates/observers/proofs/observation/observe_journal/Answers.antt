-- The machine stands at the start of its design's run.
use Rattle.std.proofs.Common.{◌≡◌, Option, subst, sym}
use Rattle.std.specs.Prelude.{IfNone, IfOk, IfSome, None}
use Rattle.model.specs.States.{start}
use Rattle.design.specs.Compiled.{Compiled, design_of}
use Rattle.regions.specs.Machine.{state_at}
use Rattle.looseruns.specs.ObservedJournals.{observed_run}
use Rattle.observers.specs.Observers.{observer_of}
use Rattle.observers.specs.Observations.{IsObservationOf}
use Rattle.observers.specs.declared.observation.Observation.{Observation}
use Rattle.observers.proofs.observation.observe_journal.Goals as goal

pub observe_from-found-requires : goal.observe_from-found-requires
observe_from-found-requires c =
    let m = c.in_ok-machine.machine in
    let was = c.in_ok-machine.ensures in
    record {
      state = subst (λ (k : Compiled). state_at m ≡ start (design_of k)) (sym was.code) was.state;
      entries = was.entries;
      lines = was.lines;
      few = c.requires.few;
    }

pub returns-clause-some : goal.returns-clause-some
returns-clause-some c =
    let journal = c.args.journal.now in
    let observe = observer_of c.args.observing.now in
    subst (λ (k : Compiled). IfOk c.observe_from-found.result (λ (found : Option Observation). IfSome found (IsObservationOf (design_of k) observe journal))) c.in_ok-machine.ensures.code c.observe_from-found.ensures.some

pub returns-clause-none : goal.returns-clause-none
returns-clause-none c =
    let journal = c.args.journal.now in
    let observe = observer_of c.args.observing.now in
    subst (λ (k : Compiled). IfOk c.observe_from-found.result (λ (found : Option Observation). IfNone found (observed_run (design_of k) observe journal ≡ None))) c.in_ok-machine.ensures.code c.observe_from-found.ensures.none
