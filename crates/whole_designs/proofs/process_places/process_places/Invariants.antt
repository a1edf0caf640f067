-- The processes so far have their places, and there are as many places left as processes.
use Rattle.std.proofs.Common.{◌≡◌, length, map, take, drop}
use Rattle.whole_designs.proofs.process_places.process_places.Given as goal

abbrev pub invariant-loop-process : goal.invariant-loop-process
invariant-loop-process l =
    (length l.left ≡ length (drop l.process-index l.processes)) × (map (λ p. p.always) l.found.items ≡ map (λ p. p.repeats) (take l.process-index l.processes))
