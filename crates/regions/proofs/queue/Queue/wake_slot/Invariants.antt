use Rattle.std.proofs.Common.{◌≡◌, ℕ, ◌*◌, ◌<◌, ◌≤◌, ◌||◌, ◌==◌, true, List, map, length}
use Rattle.std.specs.Vec.{vec_len}
use Rattle.model.specs.States.{Event}
use Rattle.regions.specs.declared.queue.Continuation.{Continuation}
use Rattle.regions.specs.declared.waiters.SlotSet.{SlotSet}
use Rattle.regions.specs.Slots.{slot_size, slot_of}
use Rattle.regions.specs.Waiters.{has_slot}
use Rattle.regions.specs.Moves.{Wakes}
use Rattle.regions.specs.Covering.{IsWaking}
use Rattle.regions.specs.Queue.{evaluation_event}
use Rattle.regions.proofs.SlotLaws.{is_to_come}
use Rattle.regions.proofs.queue.Queue.wake_slot.Given as goal

abbrev pub invariant-loop-process : goal.invariant-loop-process
invariant-loop-process l = record {
  wakes : Wakes l.fn.self l.self;
  as_many : vec_len l.self.waiters ≡ vec_len l.fn.self.waiters;
  begun : l.slot * slot_size (length l.fn.self.processes.items) ≤ l.process;
  waking : (ps0 : List Continuation) (events0 : List Event) (first : ℕ) (rest : SlotSet) → ((t : ℕ) → has_slot rest t ≡ true → l.slot < t) → IsWaking l.fn.self.shared.value.controls.items l.register l.edge ps0 events0 first (λ p. has_slot rest (slot_of (length ps0) p) || slot_of (length ps0) p == l.slot) l.fn.self.processes.items (map evaluation_event l.fn.self.evaluations.items) l.fn.self.next_event l.fn.self.waiters.items → IsWaking l.fn.self.shared.value.controls.items l.register l.edge ps0 events0 first (is_to_come rest l.slot (length ps0) l.process) l.self.processes.items (map evaluation_event l.self.evaluations.items) l.self.next_event l.self.waiters.items;
}
