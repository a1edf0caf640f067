-- As many of those that were looked at evaluate the process.
use Rattle.std.proofs.Common.{◌≡◌, ◌≤◌, map, take}
use Rattle.model.specs.Laws.{evaluations_in}
use Rattle.regions.specs.Queue.{evaluation_event}
use Rattle.settling.proofs.member.times.Given as goal

abbrev pub invariant-loop-at : goal.invariant-loop-at
invariant-loop-at l = record {
  count : l.times ≡ evaluations_in l.process (map evaluation_event (take l.at l.evaluations.items));
  few : l.times ≤ l.at;
}
