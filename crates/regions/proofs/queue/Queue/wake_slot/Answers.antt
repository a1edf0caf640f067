use Rattle.std.proofs.Common.{◌≡◌, ◌+◌, ◌*◌, ◌<◌, ◌≤◌, ◌||◌, ◌==◌, ℕ, true, false, map, length, None, ap, sym, ◌∙◌, subst, arith, rules, List}
use Rattle.regions.specs.declared.queue.Continuation.{Continuation}
use Rattle.regions.specs.Slots.{slot_size, slot_of}
use Rattle.regions.specs.Waiters.{has_slot}
use Rattle.regions.specs.Covering.{IsLookedAt, IsWaking}
use Rattle.regions.specs.Queue.{evaluation_event}
use Rattle.regions.proofs.Covers.{step, left-same}
use Rattle.regions.proofs.SlotLaws.{is_to_come, slot_here, slot_ends, product_small, all-to-come, this-to-come, none-before, others-to-come, rest-to-come}
use Rattle.regions.proofs.queue.Queue.wake_slot.Goals as goal

someone : Continuation
someone = record { state = record { place = 0; pending = None }; waits = None }

size-is : (ps : List Continuation) (size len : ℕ) → size ≡ slot_size len → len ≡ length ps → size ≡ slot_size (length ps)
size-is ps size len is same = is ∙ ap slot_size same

pub overflow_mul-first : goal.overflow_mul-first
overflow_mul-first c = let small : c.args.slot * c.slot_size-size.result ≤ 16384 = product_small c.args.slot c.slot_size-size.result c.requires.slot c.slot_size-size.ensures.few in omega (arith, small)

pub loop-process-init : goal.loop-process-init
loop-process-init c = record {
  wakes = search rules;
  as_many = search rules;
  begun = subst (λ k. c.args.slot * slot_size (length c.args.self.now.processes.items) ≤ c.args.slot * k) (sym (size-is c.args.self.now.processes.items c.slot_size-size.result c.len.result c.slot_size-size.ensures.value (omega (arith, c.len.ensures, c.args.self.now.processes.ok.0)))) (omega arith);
  waking = λ ps0 events0 first rest behind h.
      let q = c.args.self.now in
      let same : length q.processes.items ≡ length ps0 = h.same_length in
      let size : c.slot_size-size.result ≡ slot_size (length ps0) = size-is q.processes.items c.slot_size-size.result c.len.result c.slot_size-size.ensures.value (omega (arith, c.len.ensures, q.processes.ok.0)) ∙ ap slot_size same in
      subst (λ from. IsWaking q.shared.value.controls.items c.args.register c.args.edge ps0 events0 first (is_to_come rest c.args.slot (length ps0) (c.args.slot * from)) q.processes.items (map evaluation_event q.evaluations.items) q.next_event q.waiters.items) (sym size)
      (left-same q.shared.value.controls.items c.args.register c.args.edge ps0 events0 first (λ p. has_slot rest (slot_of (length ps0) p) || slot_of (length ps0) p == c.args.slot) (is_to_come rest c.args.slot (length ps0) (c.args.slot * slot_size (length ps0))) q.processes.items (map evaluation_event q.evaluations.items) q.next_event q.waiters.items
      (λ p lt. all-to-come rest c.args.slot (length ps0) behind p) h);
}

pub loop-process-preserved : goal.loop-process-preserved
loop-process-preserved c =
    let q0 = c.args.self.now in
    let q = c.loop-process.self in
    let q' = c.wake_process.new.self in
    let p = c.loop-process.process in
    let controls : q.shared.value.controls.items ≡ q0.shared.value.controls.items = ap (λ x. x.shared.value.controls.items) c.loop-process.invariant.wakes.frame in
    let looked : IsLookedAt q.shared.value.controls.items c.args.register c.args.edge p q.processes.items (map evaluation_event q.evaluations.items) q.next_event q.waiters.items q'.processes.items (map evaluation_event q'.evaluations.items) q'.next_event q'.waiters.items =
    record {
      processes = c.wake_process.ensures.processes;
      made = c.wake_process.ensures.events;
      last = c.wake_process.ensures.next;
      same_length = omega (arith, c.wake_process.ensures.as_many, q.waiters.ok.0, q'.waiters.ok.0);
      waiters = λ s t f d w lt. rw q.processes.ok.0 at (c.wake_process.ensures.waiters s t f d w (omega (arith, lt, q.waiters.ok.0)));
    } in
    record {
      wakes = record { frame = search rules; same_length = search rules; grown = search rules; balance = search rules; room = search rules };
      as_many = search rules;
      begun = omega (arith, c.loop-process.invariant.begun);
      waking = λ ps0 events0 first rest behind h.
          let n = length ps0 in
          let w = c.loop-process.invariant.waking ps0 events0 first rest behind h in
          let count : length q0.processes.items ≡ n = h.same_length in
          let size : c.slot_size-size.result ≡ slot_size n = size-is q0.processes.items c.slot_size-size.result c.len.result c.slot_size-size.ensures.value (omega (arith, c.len.ensures, q0.processes.ok.0)) ∙ ap slot_size count in
          let from : c.args.slot * slot_size n ≤ p = subst (λ k. c.args.slot * slot_size k ≤ p) count c.loop-process.invariant.begun in
          let to : p < c.args.slot * slot_size n + slot_size n = subst (λ k. p < c.args.slot * k + k) size (omega (arith, c.loop-process-test.true, c.min-end.ensures)) in
          let here : slot_of n p ≡ c.args.slot = slot_here n p c.args.slot from to in
          step q0.shared.value.controls.items c.args.register c.args.edge ps0 events0 first (is_to_come rest c.args.slot n p) (is_to_come rest c.args.slot n (p + 1)) p q.processes.items (map evaluation_event q.evaluations.items) q.next_event q.waiters.items q'.processes.items (map evaluation_event q'.evaluations.items) q'.next_event q'.waiters.items someone w
          (omega (arith, c.loop-process-test.true, c.min-end.ensures, c.len-2.ensures, c.loop-process.invariant.wakes.same_length, q.processes.ok.0))
          (this-to-come rest c.args.slot n behind p here)
          (λ k before. none-before rest c.args.slot n behind p k here before)
          (λ k. others-to-come rest c.args.slot n behind p k here)
          (subst (λ cs. IsLookedAt cs c.args.register c.args.edge p q.processes.items (map evaluation_event q.evaluations.items) q.next_event q.waiters.items q'.processes.items (map evaluation_event q'.evaluations.items) q'.next_event q'.waiters.items) controls looked);
    }

pub returns-clause-waking : goal.returns-clause-waking
returns-clause-waking c = λ ps0 events0 first rest behind h.
    let q0 = c.args.self.now in
    let q = c.loop-process.self in
    let n = length ps0 in
    let count : length q0.processes.items ≡ n = h.same_length in
    let size : c.slot_size-size.result ≡ slot_size n = size-is q0.processes.items c.slot_size-size.result c.len.result c.slot_size-size.ensures.value (omega (arith, c.len.ensures, q0.processes.ok.0)) ∙ ap slot_size count in
    left-same c.args.self.now.shared.value.controls.items c.args.register c.args.edge ps0 events0 first (is_to_come rest c.args.slot n c.loop-process.process) (λ p. has_slot rest (slot_of n p)) q.processes.items (map evaluation_event q.evaluations.items) q.next_event q.waiters.items
    (λ p lt. rest-to-come rest c.args.slot n behind c.loop-process.process p
    (λ here.
    let ends : p < c.args.slot * c.slot_size-size.result + c.slot_size-size.result = subst (λ k. p < c.args.slot * k + k) (sym size) (slot_ends n p c.args.slot here) in
    omega (arith, ends, lt, count, c.loop-process-test.false, c.min-end.ensures, c.len-2.ensures, q0.processes.ok.0)))
    (c.loop-process.invariant.waking ps0 events0 first rest behind h)
