use Rattle.std.proofs.Common.{◌≡◌, List, map, length}
use Rattle.std.specs.List.{range_with_len}
use Rattle.design.specs.Compiled.{design_of}
use Rattle.design.specs.DesignInvariant.{IsStateOf, remainder_of_state}
use Rattle.model.specs.Design.{Trigger}
use Rattle.model.specs.States.{unbegun}
use Rattle.regions.specs.Queue.{standing, process_wait_of}
use Rattle.regions.specs.StatePassing.{AreOwnStates}
use Rattle.regions.proofs.state.first_continuations.Given as goal

abbrev pub invariant-loop-p : goal.invariant-loop-p
invariant-loop-p l = record {
  unbegun : (controls : List (List Trigger)) → map (standing (remainder_of_state l.design)) (map (process_wait_of controls) l.continuations.items) ≡ map (unbegun (design_of l.design)) (range_with_len 0 l.p);
  count : length l.continuations.items ≡ l.p;
  states : AreOwnStates (IsStateOf l.design) l.continuations.items;
}
