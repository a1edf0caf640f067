-- The observers see the same of states that are alike in classes, and of all finished ones.
use Rattle.std.proofs.Common.{refl}
use Rattle.looseruns.specs.ObservedMoves.{SeesAlike}
use Rattle.looseruns.specs.ObservedEnding.{SeesOneFinish}
use Rattle.looseruns.specs.RegisterObserver.{seen_registers}
use Rattle.looseruns.proofs.RegistersSeen.{registers_are_seen_alike, unfinished_are_seen_alike}
use Rattle.observers.specs.declared.observing.Observing.{Observing}
use Rattle.observers.specs.declared.observing.Observing.TheVariants.{Lines, Registers}
use Rattle.observers.specs.Observers.{observer_of, ObserversSeeAlike}

see_alike : (observing : Observing) → SeesAlike (observer_of observing)
see_alike Lines class s t alike = refl
see_alike (Registers registers) class s t alike =
    (unfinished_are_seen_alike (seen_registers registers.items)).0 (registers_are_seen_alike registers.items) class s t alike

see_one_finish : (observing : Observing) → SeesOneFinish (observer_of observing)
see_one_finish Lines s t over over' = refl
see_one_finish (Registers registers) s t over over' = (unfinished_are_seen_alike (seen_registers registers.items)).1 s t over over'

pub observers_see_alike : ObserversSeeAlike
observers_see_alike observing = (see_alike observing, see_one_finish observing)
