-- A process that was woken waits no more; one that waits for others of the changes leaves its slot.
use Rattle.std.proofs.Common.{◌≡◌, ℕ, ◌<◌, ◌&&◌, ◌==◌, ◌∙◌, true, false, None, map, length, get_or, set, refl, sym, ap, arith}
use Rattle.std.proofs.lemmas.List.{get_or-set_same, get_or_default, set-get_or, map_push, append-nil}
use Rattle.std.specs.Vec.{vec_len}
use Rattle.regions.specs.declared.queue.Continuation.{Continuation}
use Rattle.regions.specs.declared.queue.DesignFacts.{DesignFacts}
use Rattle.regions.specs.declared.queue.Evaluation.{Evaluation}
use Rattle.regions.specs.Queue.{evaluation_event}
use Rattle.regions.specs.Slots.{slot_of}
use Rattle.regions.specs.Waiters.{has_slot, side, is_same_side, widest}
use Rattle.regions.specs.ProcessWaking.{is_woken_by, after_waking}
use Rattle.regions.proofs.Woken.{tested, no_more, slot_put}
use Rattle.regions.proofs.queue.Queue.wake_process.Goals as goal

pub returns-then-is_woken-clause-waiters : goal.returns-then-is_woken-clause-waiters
returns-then-is_woken-clause-waiters c = λ s t f d w lt.
    let q = c.args.self.now in
    let ps = q.processes.items in
    let controls = q.shared.value.controls.items in
    let declared : c.args.process < length ps = omega (arith, c.requires.process, q.processes.ok.0) in
    let left : Continuation = record { state = c.index_mut.result.now.state; waits = None } in
    let none : is_woken_by controls c.args.register (widest c.args.edge) (get_or (set ps c.args.process left) c.args.process d) ≡ false = ap (is_woken_by controls c.args.register (widest c.args.edge)) (get_or-set_same ps c.args.process left d declared) in
    no_more (has_slot (side f (get_or q.waiters.items s w)) t) (s == c.args.register && is_same_side c.args.edge f && t == slot_of (vec_len q.processes) c.args.process)
    (is_woken_by controls c.args.register (widest c.args.edge) (get_or (set ps c.args.process left) c.args.process d)) none

pub returns-then-is_woken-clause-processes : goal.returns-then-is_woken-clause-processes
returns-then-is_woken-clause-processes c = λ d.
    let q = c.args.self.now in
    let ps = q.processes.items in
    let controls = q.shared.value.controls.items in
    let declared : c.args.process < length ps = omega (arith, c.requires.process, q.processes.ok.0) in
    let left : Continuation = record { state = c.index_mut.result.now.state; waits = None } in
    let same : left ≡ after_waking controls c.args.register c.args.edge (get_or ps c.args.process d) =
    rw (tested controls c.deref-2.result.now c.args.register c.args.edge c.args.edge ps c.args.process c.index.result.now d c.is_woken.result true declared c.index.ensures (c.deref-2.ensures.value ∙ ap (λ (x : DesignFacts). x.controls.items) c.deref.ensures) refl c.is_woken.ensures c.if-is_woken.true)
    (ap (λ (x : Continuation). record x { waits = None }) (c.index_mut.ensures.value ∙ get_or_default ps c.args.process c.index_mut.result.now d declared)) in
    ap (set ps c.args.process) same

pub returns-then-is_woken-clause-events : goal.returns-then-is_woken-clause-events
returns-then-is_woken-clause-events c = λ d.
    let q = c.args.self.now in
    let ps = q.processes.items in
    let controls = q.shared.value.controls.items in
    let declared : c.args.process < length ps = omega (arith, c.requires.process, q.processes.ok.0) in
    let made : Evaluation = record { number = q.next_event; process = c.args.process } in
    rw (tested controls c.deref-2.result.now c.args.register c.args.edge c.args.edge ps c.args.process c.index.result.now d c.is_woken.result true declared c.index.ensures (c.deref-2.ensures.value ∙ ap (λ (x : DesignFacts). x.controls.items) c.deref.ensures) refl c.is_woken.ensures c.if-is_woken.true)
    (ap (map evaluation_event) c.push_back_reserved.ensures.items ∙ map_push evaluation_event q.evaluations.items made)

pub returns-then-is_woken-clause-next : goal.returns-then-is_woken-clause-next
returns-then-is_woken-clause-next c = λ d.
    let q = c.args.self.now in
    let ps = q.processes.items in
    let controls = q.shared.value.controls.items in
    let declared : c.args.process < length ps = omega (arith, c.requires.process, q.processes.ok.0) in
    rw (tested controls c.deref-2.result.now c.args.register c.args.edge c.args.edge ps c.args.process c.index.result.now d c.is_woken.result true declared c.index.ensures (c.deref-2.ensures.value ∙ ap (λ (x : DesignFacts). x.controls.items) c.deref.ensures) refl c.is_woken.ensures c.if-is_woken.true) (omega arith)

pub returns-then-is_woken-2-clause-processes : goal.returns-then-is_woken-2-clause-processes
returns-then-is_woken-2-clause-processes c = λ d.
    let q = c.args.self.now in
    let ps = q.processes.items in
    let controls = q.shared.value.controls.items in
    let declared : c.args.process < length ps = omega (arith, c.requires.process, q.processes.ok.0) in
    rw (tested controls c.deref-2.result.now c.args.register c.args.edge c.args.edge ps c.args.process c.index.result.now d c.is_woken.result false declared c.index.ensures (c.deref-2.ensures.value ∙ ap (λ (x : DesignFacts). x.controls.items) c.deref.ensures) refl c.is_woken.ensures c.if-is_woken.false) (sym (set-get_or ps c.args.process d))

pub returns-then-is_woken-2-clause-events : goal.returns-then-is_woken-2-clause-events
returns-then-is_woken-2-clause-events c = λ d.
    let q = c.args.self.now in
    let ps = q.processes.items in
    let controls = q.shared.value.controls.items in
    let declared : c.args.process < length ps = omega (arith, c.requires.process, q.processes.ok.0) in
    rw (tested controls c.deref-2.result.now c.args.register c.args.edge c.args.edge ps c.args.process c.index.result.now d c.is_woken.result false declared c.index.ensures (c.deref-2.ensures.value ∙ ap (λ (x : DesignFacts). x.controls.items) c.deref.ensures) refl c.is_woken.ensures c.if-is_woken.false) (sym (append-nil (map evaluation_event q.evaluations.items)))

pub returns-then-is_woken-2-clause-next : goal.returns-then-is_woken-2-clause-next
returns-then-is_woken-2-clause-next c = λ d.
    let q = c.args.self.now in
    let ps = q.processes.items in
    let controls = q.shared.value.controls.items in
    let declared : c.args.process < length ps = omega (arith, c.requires.process, q.processes.ok.0) in
    rw (tested controls c.deref-2.result.now c.args.register c.args.edge c.args.edge ps c.args.process c.index.result.now d c.is_woken.result false declared c.index.ensures (c.deref-2.ensures.value ∙ ap (λ (x : DesignFacts). x.controls.items) c.deref.ensures) refl c.is_woken.ensures c.if-is_woken.false) (omega arith)

pub returns-else-is_woken-2-clause-processes : goal.returns-else-is_woken-2-clause-processes
returns-else-is_woken-2-clause-processes c = λ d.
    let q = c.args.self.now in
    let ps = q.processes.items in
    let controls = q.shared.value.controls.items in
    let declared : c.args.process < length ps = omega (arith, c.requires.process, q.processes.ok.0) in
    rw (tested controls c.deref-2.result.now c.args.register c.args.edge c.args.edge ps c.args.process c.index.result.now d c.is_woken.result false declared c.index.ensures (c.deref-2.ensures.value ∙ ap (λ (x : DesignFacts). x.controls.items) c.deref.ensures) refl c.is_woken.ensures c.if-is_woken.false) (sym (set-get_or ps c.args.process d))

pub returns-else-is_woken-2-clause-events : goal.returns-else-is_woken-2-clause-events
returns-else-is_woken-2-clause-events c = λ d.
    let q = c.args.self.now in
    let ps = q.processes.items in
    let controls = q.shared.value.controls.items in
    let declared : c.args.process < length ps = omega (arith, c.requires.process, q.processes.ok.0) in
    rw (tested controls c.deref-2.result.now c.args.register c.args.edge c.args.edge ps c.args.process c.index.result.now d c.is_woken.result false declared c.index.ensures (c.deref-2.ensures.value ∙ ap (λ (x : DesignFacts). x.controls.items) c.deref.ensures) refl c.is_woken.ensures c.if-is_woken.false) (sym (append-nil (map evaluation_event q.evaluations.items)))

pub returns-else-is_woken-2-clause-next : goal.returns-else-is_woken-2-clause-next
returns-else-is_woken-2-clause-next c = λ d.
    let q = c.args.self.now in
    let ps = q.processes.items in
    let controls = q.shared.value.controls.items in
    let declared : c.args.process < length ps = omega (arith, c.requires.process, q.processes.ok.0) in
    rw (tested controls c.deref-2.result.now c.args.register c.args.edge c.args.edge ps c.args.process c.index.result.now d c.is_woken.result false declared c.index.ensures (c.deref-2.ensures.value ∙ ap (λ (x : DesignFacts). x.controls.items) c.deref.ensures) refl c.is_woken.ensures c.if-is_woken.false) (omega arith)

pub returns-then-is_woken-2-clause-waiters : goal.returns-then-is_woken-2-clause-waiters
returns-then-is_woken-2-clause-waiters c = λ s t f d w lt.
    let q = c.args.self.now in
    let ps = q.processes.items in
    let controls = q.shared.value.controls.items in
    let declared : c.args.process < length ps = omega (arith, c.requires.process, q.processes.ok.0) in
    let there : c.args.register < length q.waiters.items = omega (arith, c.requires.declared, q.waiters.ok.0) in
    let count : c.len.result ≡ vec_len q.processes = omega (arith, c.len.ensures) in
    let slots : c.slot_of-slot.result ≡ slot_of (vec_len q.processes) c.args.process = c.slot_of-slot.ensures.value ∙ ap (λ (n : ℕ). slot_of n c.args.process) count in
    slot_put (s == c.args.register) q.waiters.items c.args.register s t c.slot_of-slot.result (slot_of (vec_len q.processes) c.args.process) c.args.edge f c.insert.new.self c.index_mut-then-is_woken-2.result.now w
    (is_woken_by controls c.args.register (widest c.args.edge) (get_or ps c.args.process d)) refl there c.index_mut-then-is_woken-2.ensures.value (c.insert.ensures f t) slots
    (tested controls c.deref-else-is_woken-2.result.now c.args.register (widest c.args.edge) c.widest.result ps c.args.process c.index.result.now d c.is_woken-else-is_woken.result true declared c.index.ensures (c.deref-else-is_woken-2.ensures.value ∙ ap (λ (x : DesignFacts). x.controls.items) c.deref-else-is_woken.ensures) c.widest.ensures c.is_woken-else-is_woken.ensures c.if-is_woken-2.true)

pub returns-else-is_woken-2-clause-waiters : goal.returns-else-is_woken-2-clause-waiters
returns-else-is_woken-2-clause-waiters c = λ s t f d w lt.
    let q = c.args.self.now in
    let ps = q.processes.items in
    let controls = q.shared.value.controls.items in
    let declared : c.args.process < length ps = omega (arith, c.requires.process, q.processes.ok.0) in
    no_more (has_slot (side f (get_or q.waiters.items s w)) t) (s == c.args.register && is_same_side c.args.edge f && t == slot_of (vec_len q.processes) c.args.process)
    (is_woken_by controls c.args.register (widest c.args.edge) (get_or ps c.args.process d))
    (tested controls c.deref-else-is_woken-2.result.now c.args.register (widest c.args.edge) c.widest.result ps c.args.process c.index.result.now d c.is_woken-else-is_woken.result false declared c.index.ensures (c.deref-else-is_woken-2.ensures.value ∙ ap (λ (x : DesignFacts). x.controls.items) c.deref-else-is_woken.ensures) c.widest.ensures c.is_woken-else-is_woken.ensures c.if-is_woken-2.false)
