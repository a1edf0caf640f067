-- The first evaluation of a process that isn't held, and that nobody else waits where there is none.
use Rattle.std.proofs.Common.{◌≡◌, ◌∙◌, length, ap, arith}
use Rattle.std.specs.VecDeque.{deque_len}
use Rattle.loose.specs.Classes.{class_in}
use Rattle.regions.specs.Queue.{Core}
use Rattle.regions.specs.Machine.{state_at}
use Rattle.loosewalks.proofs.OtherEntries.{no_front, turn_at, turn_of_other, nobody_else}
use Rattle.loosewalks.proofs.active.first_other.Goals as goal

pub returns-in-Some-first_unheld-clause-event : goal.returns-in-Some-first_unheld-clause-event
returns-in-Some-first_unheld-clause-event c =
    let m = c.args.machine.now in
    let us = c.active.result.0.now.items in
    let es = c.active.result.1.now.items in
    let empty : deque_len c.active.result.0.now ≡ 0 = no_front c.front.result (deque_len c.active.result.0.now) c.in-None.is c.front.ensures.variant in
    let none : length us ≡ 0 = omega (arith, empty, c.active.result.0.now.ok.0) in
    let (place, within, at, other) = c.in-Some-first_unheld.ensures.found in
    turn_at (class_in c.args.classes.now) m.code.widths (length m.core.processes) (state_at m) us es place c.in-Some-first_unheld.evaluation c.turn_entry.result c.stands_in_order.ensures
    (c.active.ensures ∙ ap (λ (k : Core). k.active) c.state.ensures) none within at c.turn_entry.ensures.entry c.turn_entry.ensures.transition

pub returns-in-Some-first_unheld-clause-other : goal.returns-in-Some-first_unheld-clause-other
returns-in-Some-first_unheld-clause-other c =
    let m = c.args.machine.now in
    let us = c.active.result.0.now.items in
    let es = c.active.result.1.now.items in
    let empty : deque_len c.active.result.0.now ≡ 0 = no_front c.front.result (deque_len c.active.result.0.now) c.in-None.is c.front.ensures.variant in
    let none : length us ≡ 0 = omega (arith, empty, c.active.result.0.now.ok.0) in
    let (place, within, at, other) = c.in-Some-first_unheld.ensures.found in
    turn_of_other m.code.widths (length m.core.processes) c.args.held.now (state_at m) us es place c.in-Some-first_unheld.evaluation c.turn_entry.result.entry c.stands_in_order.ensures
    (c.active.ensures ∙ ap (λ (k : Core). k.active) c.state.ensures) none within at other c.turn_entry.ensures.entry

pub returns-in-None-first_unheld-clause-none : goal.returns-in-None-first_unheld-clause-none
returns-in-None-first_unheld-clause-none c = λ on.
    let m = c.args.machine.now in
    let us = c.active.result.0.now.items in
    let es = c.active.result.1.now.items in
    let empty : deque_len c.active.result.0.now ≡ 0 = no_front c.front.result (deque_len c.active.result.0.now) c.in-None.is c.front.ensures.variant in
    let none : length us ≡ 0 = omega (arith, empty, c.active.result.0.now.ok.0) in
    nobody_else (class_in c.args.classes.now) m.code.widths (length m.core.processes) c.args.held.now (state_at m) us es c.stands_in_order.ensures
    (c.active.ensures ∙ ap (λ (k : Core). k.active) c.state.ensures) none (c.first_unheld.ensures.none c.in-None-first_unheld.is)
