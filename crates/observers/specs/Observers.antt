-- What observers see, by what is compared of runs.
use Rattle.std.specs.Prelude.{[]}
use Rattle.looseruns.specs.ObservedJournals.{Observer}
use Rattle.looseruns.specs.ObservedMoves.{SeesAlike}
use Rattle.looseruns.specs.ObservedEnding.{SeesOneFinish}
use Rattle.looseruns.specs.RegisterObserver.{seen_registers, seen_unless_finished}
use Rattle.observers.specs.declared.observing.Observing.{Observing}
use Rattle.observers.specs.declared.observing.Observing.TheVariants.{Lines, Registers}

-- what is seen of a state: nothing where lines alone are compared; else the time and these registers, where the run hasn't finished
abbrev pub observer_of : Observing → Observer
observer_of Lines = λ s. []
observer_of (Registers registers) = seen_unless_finished (seen_registers registers.items)

-- each of these observers sees the same of states that are alike in classes, and of all states in which a run has finished
abbrev pub ObserversSeeAlike : Type 0
ObserversSeeAlike = (observing : Observing) → SeesAlike (observer_of observing) × SeesOneFinish (observer_of observing)
