-- At the start the event of each process is active.
use Rattle.std.proofs.Common.{◌≡◌, ◌∙◌, ◌+◌, ◌<◌, ◌∷◌, [], ℕ, List, ap, sym, subst, arith, length, length-append, map, lit≤}
use Rattle.std.proofs.lemmas.List.{length-map}
use Rattle.std.specs.Prelude.{slice_index_or}
use Rattle.model.specs.Runs.{last_time}
use Rattle.model.specs.States.{State}
use Rattle.design.specs.Compiled.{Compiled, design_of}
use Rattle.design.specs.DesignTrees.{process_of}
use Rattle.regcells.specs.Values.{last_value}
use Rattle.commitgate.specs.Tickets.{TicketView, IsFirstTicket}
use Rattle.regions.proofs.Evaluated.{own_state}
use Rattle.commitgate.proofs.Firsts.{never_missing, first_ticket, push_each}
use Rattle.commitgate.proofs.blank.first_tickets.Goals as goal

pub unreachable-requires : goal.unreachable-requires
unreachable-requires g c =
    let code : Compiled = g.K.Naming.named.code in
    let count = length-map code.processes process_of in
    let same = ap (λ (l : Compiled). length (design_of l).processes) c.requires.code in
    let below : c.from-event.result < length code.processes = omega (arith, count, same) in
    never_missing code c.args.run_state.now.regions (map last_value c.args.run_state.now.holder.seen) c.from-event.result c.requires.starts below c.in-None.ensures

pub new-requires-clause-time : goal.new-requires-clause-time
new-requires-clause-time g c =
    let none = ap (λ (s : State). s.time) c.requires.starts in
    omega (arith, none, c.time-time.ensures, lit≤ {m = 0} {n = last_time} Prim.tt)

pub new-requires-clause-own : goal.new-requires-clause-own
new-requires-clause-own g c =
    own_state g.K.Naming.named.code c.args.run_state.now.regions c.from-event.result c.in-Some.process c.in-Some.state c.requires.states c.in-Some.ensures

pub loop-process-preserved : goal.loop-process-preserved
loop-process-preserved g c =
    let code : Compiled = g.K.Naming.named.code in
    let total = length-map code.processes process_of in
    let same = ap (λ (l : Compiled). length (design_of l).processes) c.requires.code in
    let below : c.from-event.result < length code.processes = omega (arith, total, same) in
    let made : TicketView = record { event = c.from-event.result; process = c.in-Some.process; state = c.in-Some.state; time = c.args.run_state.now.regions.time; tries = 0 } in
    let first : IsFirstTicket code c.from-event.result made =
    first_ticket code c.args.run_state.now.regions (map last_value c.args.run_state.now.holder.seen) c.from-event.result c.in-Some.process c.in-Some.state c.requires.starts below c.in-Some.ensures in
    let is_made : made ≡ c.new.result = sym (c.new.ensures ∙ (λ i. record { event = c.from-event.result; process = c.in-Some.process; state = c.in-Some.state; time = c.time-time.ensures i; tries = 0 })) in
    let place : c.from-event.result ≡ length c.loop-process.tickets.items = c.from-event.ensures ∙ sym c.loop-process.invariant.count in
    let new = subst (λ (t : TicketView). IsFirstTicket code c.from-event.result t) is_made first in
    let here = subst (λ (p : ℕ). IsFirstTicket code p c.new.result) place new in
    let items = c.in_ok-push-in-Some.ensures.items in
    let one = length-append c.loop-process.tickets.items (c.new.result ∷ []) in
    let Each : List TicketView → Type 0 = λ ts. (p : ℕ) (d : TicketView) → p < length ts → IsFirstTicket code p (slice_index_or ts p d) in
    record {
      count = ap (λ (ts : List TicketView). length ts) items ∙ (one ∙ ap (λ (n : ℕ). n + 1) c.loop-process.invariant.count);
      each = subst Each (sym items) (push_each (λ p t. IsFirstTicket code p t) c.loop-process.tickets.items c.new.result c.loop-process.invariant.each here);
    }
