-- The ways from a node before an observer are those of a search of observed runs.
use Rattle.std.proofs.Common.{ℕ, true, List, refl}
use Rattle.std.specs.List.{All}
use Rattle.std.proofs.lemmas.List.Elements.{All-weaker}
use Rattle.model.specs.declared.end.Limits.{Limits}
use Rattle.design.specs.Compiled.{Compiled, design_of}
use Rattle.regions.specs.Machine.{state_at}
use Rattle.explore.specs.declared.Successor.{Successor}
use Rattle.explore.specs.declared.EndedPath.{EndedPath}
use Rattle.explore.specs.Search.{IsSuccessor, IsEndedPath, IsCovered}
use Rattle.loose.specs.declared.transition.LooseTransition.{LooseTransition}
use Rattle.looseruns.specs.ObservedJournals.{Observer, SeenEnd}
use Rattle.looseruns.specs.ObservedMoves.{SeesAlike}
use Rattle.looseruns.specs.ObservedRuns.{StandsObserved}
use Rattle.looseruns.specs.ObservedEnding.{SeesOneFinish}
use Rattle.looseruns.proofs.ObservedGoing.{observed_moves_lead_to_next, observed_moves_lead_to_end}
use Rattle.looseruns.proofs.ObservedEnding.{covering_to_finish_is_covered}
use Rattle.observers.specs.declared.observing.Observing.{Observing}
use Rattle.observers.specs.declared.observing.Observing.TheVariants.{Lines, Registers}
use Rattle.observers.specs.Observers.{observer_of}
use Rattle.observers.proofs.SeeingAlike.{observers_see_alike}
use Rattle.lawful.specs.LooseNodes.{HoldsEffect}
use Rattle.lawful.specs.ObservedNodes.{SeesNoFinish, searched_observed, IsObservedWayOn, IsObservedWayToEnd, AreAllObservedWays}
use Rattle.lawful.specs.declared.node.LooseNode.{LooseNode}
use Rattle.lawful.proofs.Ways.{here_or_there}

-- no observer sees anything of a state in which the run has finished
pub no_finish_seen : (observing : Observing) → SeesNoFinish (observer_of observing)
no_finish_seen Lines s over = refl
no_finish_seen (Registers registers) s over =
    (observers_see_alike (Registers registers)).1 s (record s { finished = true }) over refl

-- the ways from a node, as those of the observed runs at which it stands

pub node_seen_next : (class : ℕ → ℕ) (code : Compiled) (limits : Limits) (observe : Observer) (node : LooseNode) (run : List LooseTransition) (successors : List (Successor LooseNode LooseTransition)) → SeesAlike observe → StandsObserved (HoldsEffect code) class (design_of code) limits observe node run
    → All (IsObservedWayOn class node.machine.value.code limits observe (state_at node.machine.value)) successors → All (IsSuccessor (searched_observed code class limits observe) run) successors
node_seen_next class code limits observe node run successors sees at on =
    let there = here_or_there class code node at.held (λ k s. All (IsObservedWayOn class k limits observe s) successors) at.holds on in
    All-weaker (IsObservedWayOn class code limits observe at.held.state) (IsSuccessor (searched_observed code class limits observe) run)
    (λ next way. observed_moves_lead_to_next (HoldsEffect code) class (design_of code) limits observe node run way.effect next at sees way.goes way.printed (record { ready = way.holds.ready; state_is = way.holds.state_is })) successors there

pub node_seen_ended : (class : ℕ → ℕ) (code : Compiled) (limits : Limits) (observe : Observer) (node : LooseNode) (run : List LooseTransition) (ended : List (EndedPath LooseTransition SeenEnd)) → SeesAlike observe → StandsObserved (HoldsEffect code) class (design_of code) limits observe node run
    → All (IsObservedWayToEnd class node.machine.value.code limits observe (state_at node.machine.value)) ended → All (IsEndedPath (searched_observed code class limits observe) run) ended
node_seen_ended class code limits observe node run ended sees at to =
    let there = here_or_there class code node at.held (λ k s. All (IsObservedWayToEnd class k limits observe s) ended) at.holds to in
    All-weaker (IsObservedWayToEnd class code limits observe at.held.state) (IsEndedPath (searched_observed code class limits observe) run)
    (λ x way. observed_moves_lead_to_end (HoldsEffect code) class (design_of code) limits observe node run way.effect x at sees way.goes way.printed way.here) ended there

pub node_seen_covered : (class : ℕ → ℕ) (code : Compiled) (limits : Limits) (observe : Observer) (node : LooseNode) (run : List LooseTransition) (successors : List (Successor LooseNode LooseTransition)) (ended : List (EndedPath LooseTransition SeenEnd)) → SeesAlike observe → SeesOneFinish observe
    → StandsObserved (HoldsEffect code) class (design_of code) limits observe node run → AreAllObservedWays class node.machine.value.code limits observe (state_at node.machine.value) successors ended → IsCovered (searched_observed code class limits observe) successors ended run
node_seen_covered class code limits observe node run successors ended sees one_finish at all =
    let there = here_or_there class code node at.held (λ k s. AreAllObservedWays class k limits observe s successors ended) at.holds all in
    covering_to_finish_is_covered (HoldsEffect code) class (design_of code) limits observe successors ended node run there.ends at sees (λ some. one_finish) there.cover there.firsts there.ways_told there.told
