-- The ways from a node, of which is told what is seen, with the lines of each time in order.
use Rattle.std.proofs.Common.{ℕ, subst}
use Rattle.std.specs.Prelude.{IsTrue}
use Rattle.regions.specs.Machine.{state_at}
use Rattle.explore.specs.Search.{IsEndedPath, IsSuccessor}
use Rattle.observers.specs.Observers.{observer_of}
use Rattle.observers.proofs.SeeingAlike.{observers_see_alike}
use Rattle.wavetexts.specs.Reading.{ReadText}
use Rattle.lawful.specs.ArrangedNodes.{IsNextArranged, IsPathArranged, registers_seen, searched_arranged, tail_at}
use Rattle.lawful.specs.ObservedNodes.{IsObservedAt, searched_observed}
use Rattle.lawful.specs.ObservedWays.{AreEach}
use Rattle.lawful.proofs.ArrangedWays.{node_arranged_covered, node_arranged_ended, node_arranged_next}
use Rattle.lawful.proofs.ObservedWays.{each_all, seen_at_node}
use Rattle.lawful.proofs.ObservedNodes.{no_finish_seen, node_seen_next, node_seen_ended, node_seen_covered}
use Rattle.lawful.proofs.telling.ObservingRunTelling.tell.Goals as goal

pub returns : goal.returns
returns c class code limits node run stands rest sight at =
    let observing = c.args.self.now in
    let observe = observer_of observing in
    let (sees, one_finish) = observers_see_alike observing in
    let m = node.machine.value in
    let told = c.in_ok-told.told in
    let arranged = c.in_ok-arranged.arranged in
    let ensures = c.in_ok-told.ensures in
    let there : IsObservedAt class m.code limits observe (state_at m) told =
    seen_at_node class m.code limits observe (state_at m) c.args.seen.now sight sees (no_finish_seen observing) c.args.ways told ensures.nexts ensures.ends ensures.whole at in
    let nexts : AreEach (IsNextArranged (registers_seen observing) (tail_at node)) told.successors.items arranged.successors.items =
    subst (λ (n : ℕ). AreEach (IsNextArranged n (tail_at node)) told.successors.items arranged.successors.items) c.registers_of-registers.ensures
    (subst (λ (t : ReadText). AreEach (IsNextArranged c.registers_of-registers.result t) told.successors.items arranged.successors.items) rest c.in_ok-arranged.ensures.nexts) in
    let ends : AreEach (IsPathArranged (registers_seen observing) (tail_at node)) told.ended.items arranged.ended.items =
    subst (λ (n : ℕ). AreEach (IsPathArranged n (tail_at node)) told.ended.items arranged.ended.items) c.registers_of-registers.ensures
    (subst (λ (t : ReadText). AreEach (IsPathArranged c.registers_of-registers.result t) told.ended.items arranged.ended.items) rest c.in_ok-arranged.ensures.ends) in
    record {
      next = each_all (IsNextArranged (registers_seen observing) (tail_at node)) (IsSuccessor (searched_observed code class limits observe) run) (IsSuccessor (searched_arranged code class limits observing) run) told.successors.items arranged.successors.items
          (node_arranged_next class code limits observing node run stands) nexts (node_seen_next class code limits observe node run told.successors.items sees stands.observed there.nexts);
      sound = each_all (IsPathArranged (registers_seen observing) (tail_at node)) (IsEndedPath (searched_observed code class limits observe) run) (IsEndedPath (searched_arranged code class limits observing) run) told.ended.items arranged.ended.items
          (node_arranged_ended class code limits observing node run stands) ends (node_seen_ended class code limits observe node run told.ended.items sees stands.observed there.ends);
      cover = λ whole. node_arranged_covered class code limits observing node run stands told.successors.items arranged.successors.items told.ended.items arranged.ended.items nexts ends
          (node_seen_covered class code limits observe node run told.successors.items told.ended.items sees one_finish stands.observed (there.all (subst IsTrue c.in_ok-arranged.ensures.whole whole)));
    }
