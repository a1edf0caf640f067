-- What is kept of the start.
use Rattle.std.proofs.Common.{ℕ, ◌≤◌, ◌∙◌, List, ◌++◌, map, ap, arith}
use Rattle.model.specs.Laws.{evaluations_in}
use Rattle.model.specs.Turns.{contains}
use Rattle.regions.specs.Queue.{evaluation_event}
use Rattle.settling.proofs.Tested.{inside_told}
use Rattle.loosewalks.proofs.GoingOn.{found_there}
use Rattle.loosewalks.proofs.OtherEntries.{evaluated_there}
use Rattle.loosewalks.proofs.held.start_of.Goals as goal
use Rattle.regions.specs.Machine.{state_at}
use Rattle.settling.specs.Settling.{AreSleepers, sleeping}
use Rattle.settling.specs.declared.sleepers.Sleeper.{Sleeper}

pub returns : goal.returns
returns c =
    let m = c.args.machine.now in
    let network = c.args.holding.scope.network.now in
    let held = c.args.holding.held.now in
    let us = c.active.result.0.now.items in
    let es = c.active.result.1.now.items in
    record {
      active = λ p is.
          let some : 1 ≤ evaluations_in p (map evaluation_event es) = omega (arith, is, inside_told m.core c.state.result.now us es p c.active.ensures c.state.ensures) in
          ap (λ (l : List ℕ). contains l p) c.in_ok-pending.ensures ∙ evaluated_there p es some;
      sleepers = found_there _ c.in-Some.sleepers (λ v. AreSleepers m.code (state_at m) network held v.items) c.in-Some.is c.in_ok-sleepers.ensures;
      aside = c.in_ok-aside.ensures ∙ ap (λ (l : List Sleeper). held ++ sleeping l) c.deref.ensures.value;
      time = c.time.ensures;
      begins = c.in_ok-begin.ensures;
    }
