use Rattle.std.proofs.Common.{◌≡◌, map, drop}
use Rattle.model.specs.Runs.{action_in}
use Rattle.regions.specs.Queue.{update_event}
use Rattle.steps.specs.ExplainerStanding.{update_of}
use Rattle.steps.proofs.noting.update_numbered.Given as goal

abbrev pub invariant-loop-i : goal.invariant-loop-i
invariant-loop-i l = update_of (action_in (map update_event (drop l.i l.updates.items)) l.number) ≡ update_of (action_in (map update_event l.updates.items) l.number)
